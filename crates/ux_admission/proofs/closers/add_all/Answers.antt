use Rattle.std.proofs.Common.{arith, ◌≡◌, ◌∙◌, get_or}
use Rattle.std.specs.Prelude.{Contains}
use Rattle.ux_admission.proofs.FindsLemmas.{finds_next}
use Rattle.ux_admission.proofs.FindingLemmas.{finds_all}
use Rattle.ux_admission.proofs.closers.add_all.Goals as goal

pub add_each-requires-clause-inside : goal.add_each-requires-clause-inside
add_each-requires-clause-inside c = λ a h.
    let inside = c.requires.inside a h in
    let len = c.loop-closer.invariant.len in
    omega (arith, inside, len)

pub loop-closer-preserved : goal.loop-closer-preserved
loop-closer-preserved c = record {
  len = c.in_ok-add_each.ensures.len ∙ c.loop-closer.invariant.len;
  rows = c.in_ok-add_each.ensures.rows;
  finds = finds_next c.args.found.now.keys c.loop-closer.found.keys c.add_each.new.found.keys
      c.loop-closer.closer-index
      (λ k p. Contains c.args.sources.now p.place × (p.closer ≡ get_or c.args.closers.now k 0))
      c.loop-closer.invariant.finds c.in_ok-add_each.ensures.finds;
}

pub returns-clause-finds : goal.returns-clause-finds
returns-clause-finds c =
    finds_all c.args.found.now.keys c.loop-closer.found.keys c.args.sources.now
    c.args.closers.now c.loop-closer.closer-index (omega arith) (omega arith)
    c.loop-closer.invariant.finds
