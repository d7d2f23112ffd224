use Rattle.std.proofs.Common.{arith, ◌≡◌, ◌<◌, ◌∙◌, ap, get_or, refl, subst, sym}
use Rattle.ux_dawg.specs.Building.{bare}
use Rattle.ux_dawg.specs.Flat.{state_of}
use Rattle.ux_dawg.specs.Hash.{hash_of}
use Rattle.ux_dawg.proofs.IndexLemmas.{indexed_added, indexed_empty}
use Rattle.ux_dawg.proofs.RepeatedLemmas.{holds_next, holds_none, none_next, not_placed, placed_repeated}
use Rattle.ux_dawg.proofs.repeated.first_repeated.Goals as goal

pub loop-number-init : goal.loop-number-init
loop-number-init c =
    let empty = c.in_ok-index.ensures.empty in (
      indexed_empty c.args.states.now c.in_ok-index.index empty,
      holds_none c.in_ok-index.index empty,
      c.in_ok-index.ensures.some,
      λ m low. absurd (omega (arith, low)),
    )

pub loop-number-preserved : goal.loop-number-preserved
loop-number-preserved c =
    let states = c.args.states.now in
    let n = c.loop-number.number in
    let index = c.loop-number.index in
    let hash = c.state_hash-hash.result in
    let so_far = c.loop-number.invariant in
    let add = c.in_ok-add.ensures in
    let state = state_of c.code-code.result c.edges-edges.result.now in
    let here : state ≡ get_or states n bare =
    λ j. record { code = c.code-code.ensures j; edges = c.edges-edges.ensures j } in (
      indexed_added hash n index c.add.new.self add states states so_far.0
          (c.state_hash-hash.ensures ∙ ap hash_of here) (λ i held. refl),
      holds_next hash n index c.add.new.self add so_far.1,
      subst (λ k. 0 < k) (sym add.many) so_far.2,
      none_next states n state here
          (not_placed states n index state c.place.result so_far.1 c.place.ensures
          c.if-is_some.ensures) so_far.3,
    )

pub returns-then-is_some : goal.returns-then-is_some
returns-then-is_some c =
    let states = c.args.states.now in
    let n = c.loop-number.number in
    let so_far = c.loop-number.invariant in
    let test = c.loop-number-test.true in
    let end = c.len-number-end.ensures in
    let state = state_of c.code-code.result c.edges-edges.result.now in
    let here : state ≡ get_or states n bare =
    λ j. record { code = c.code-code.ensures j; edges = c.edges-edges.ensures j } in (
      placed_repeated states n c.loop-number.index state c.place.result so_far.1
          (omega (arith, test, end)) here c.place.ensures c.if-is_some.ensures,
      so_far.3,
    )

pub returns : goal.returns
returns c = λ m other.
    let within = other.within in
    let test = c.loop-number-test.false in
    let end = c.len-number-end.ensures in
    let low : m < c.loop-number.number = omega (arith, within, test, end) in
    c.loop-number.invariant.3 m low other
