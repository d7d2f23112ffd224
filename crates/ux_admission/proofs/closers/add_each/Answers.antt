use Rattle.std.proofs.Common.{arith, ◌≡◌, ◌∙◌, get_or}
use Rattle.std.proofs.lemmas.List.Elements.{Contains-get_or}
use Rattle.ux_admission.specs.Finding.{pair_of}
use Rattle.ux_admission.proofs.FindsLemmas.{finds_next}
use Rattle.ux_admission.proofs.FindingLemmas.{finds_each}
use Rattle.ux_admission.proofs.closers.add_each.Goals as goal

pub add-requires-clause-place : goal.add-requires-clause-place
add-requires-clause-place c =
    let inside = c.requires.inside (get_or c.args.sources.now c.loop-source.source-index 0)
    (Contains-get_or c.args.sources.now c.loop-source.source-index 0 c.loop-source-test.true) in
    let len = c.loop-source.invariant.len in
    omega (arith, inside, len)

pub loop-source-preserved : goal.loop-source-preserved
loop-source-preserved c = record {
  len = c.in_ok-add.ensures.len ∙ c.loop-source.invariant.len;
  rows = c.in_ok-add.ensures.rows;
  finds = finds_next c.args.found.now.keys c.loop-source.found.keys c.add.new.found.keys
      c.loop-source.source-index
      (λ k p. pair_of (get_or c.args.sources.now k 0) c.args.closer ≡ p)
      c.loop-source.invariant.finds c.in_ok-add.ensures.finds;
}

pub returns-clause-finds : goal.returns-clause-finds
returns-clause-finds c =
    finds_each c.args.found.now.keys c.loop-source.found.keys c.args.sources.now c.args.closer
    c.loop-source.source-index (omega arith) (omega arith) c.loop-source.invariant.finds
