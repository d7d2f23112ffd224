use Rattle.std.proofs.Common.{arith, ◌≡◌, subst}
use Rattle.std.proofs.lemmas.Result.{err_from_is_err_and}
use Rattle.ux_image_lists.specs.Fields.{each}
use Rattle.ux_image_lists.specs.Lists.{next_code}
use Rattle.ux_image_lists.proofs.FieldLemmas.{each_more, each_refused, still}
use Rattle.ux_image_lists.proofs.lists.read_each_code.Goals as goal

pub returns-in_err-read_next_code-clause-err : goal.returns-in_err-read_next_code-clause-err
returns-in_err-read_next_code-clause-err c =
    let failed = c.from_residual in
    let p = err_from_is_err_and failed.result failed.ensures.1 in
    rw (p.1, p.2) (still c.in_err-read_next_code.ensures.err (λ r.
    each_refused (next_code c.args.rules c.args.first) c.loop.counter c.args.many
    c.args.rest.now.bytes.now c.loop.rest.bytes.now c.loop.codes.keys _ c.loop.invariant
    (omega arith) r))

pub loop-preserved : goal.loop-preserved
loop-preserved c =
    let next = c.in_ok-read_next_code.ensures.ok in
    each_more (next_code c.args.rules c.args.first) c.loop.counter c.args.rest.now.bytes.now
    c.loop.rest.bytes.now c.read_next_code.new.rest.bytes.now c.loop.codes.keys
    c.read_next_code.new.codes.keys next.0 c.loop.invariant next.1 next.2

pub returns-clause-ok : goal.returns-clause-ok
returns-clause-ok c =
    let all : c.loop.counter ≡ c.args.many = omega arith in
    subst (λ i. (each i (next_code c.args.rules c.args.first)).Begins c.args.rest.now.bytes.now
    c.loop.codes.keys c.loop.rest.bytes.now) all c.loop.invariant
