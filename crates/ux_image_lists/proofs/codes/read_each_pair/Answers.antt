use Rattle.std.proofs.Common.{arith, ◌≡◌, subst}
use Rattle.std.proofs.lemmas.Result.{err_from_is_err_and}
use Rattle.ux_image_lists.specs.Fields.{each}
use Rattle.ux_image_lists.specs.Lists.{pair}
use Rattle.ux_image_lists.proofs.FieldLemmas.{each_more, each_refused, still}
use Rattle.ux_image_lists.proofs.codes.read_each_pair.Goals as goal

pub returns-in_err-pair-clause-err : goal.returns-in_err-pair-clause-err
returns-in_err-pair-clause-err c =
    let failed = c.from_residual in
    let p = err_from_is_err_and failed.result failed.ensures.1 in
    rw (p.1, p.2) (still c.in_err-pair.ensures.err (λ r.
    each_refused (λ before. pair c.args.rules c.args.code) c.loop.counter c.args.many
    c.args.rest.now.bytes.now c.loop.rest.bytes.now c.loop.pairs _ c.loop.invariant (omega arith) r))

pub loop-preserved : goal.loop-preserved
loop-preserved c =
    each_more (λ before. pair c.args.rules c.args.code) c.loop.counter c.args.rest.now.bytes.now
    c.loop.rest.bytes.now c.read_pair.new.rest.bytes.now c.loop.pairs c.push.new.self
    c.in_ok-pair.pair c.loop.invariant c.in_ok-pair.ensures.ok c.in_ok-push.ensures

pub returns-clause-ok : goal.returns-clause-ok
returns-clause-ok c =
    let all : c.loop.counter ≡ c.args.many = omega arith in
    subst (λ i. (each i (λ before. pair c.args.rules c.args.code)).Begins c.args.rest.now.bytes.now
    c.loop.pairs c.loop.rest.bytes.now) all c.loop.invariant
