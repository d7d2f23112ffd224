use Rattle.std.proofs.Common.{arith, ◌≡◌, ◌∙◌, ℕ, inl, inr, subst, sym}
use Rattle.std.specs.Prelude.{Some, slice_get}
use Rattle.std.proofs.lemmas.Bool.{false≢true}
use Rattle.std.proofs.lemmas.Option.{slice_get_within}
use Rattle.ux_base.proofs.Lists.{less_or}
use Rattle.ux_folds.proofs.names.place_of.Goals as goal

pub loop-place-init : goal.loop-place-init
loop-place-init c = λ i lt at. absurd (omega (arith, lt))

pub returns-then-is_named : goal.returns-then-is_named
returns-then-is_named c = c.is_named.ensures.0 c.if-is_named.true

pub loop-place-preserved : goal.loop-place-preserved
loop-place-preserved c = λ i lt at. elim (less_or i c.loop-place.place) [
  | inl before ↦ c.loop-place.invariant i before at
  | inr past ↦
      let here : i ≡ c.loop-place.place = omega (arith, lt, past) in
      false≢true (sym c.if-is_named.false ∙ c.is_named.ensures.1
      (subst (λ (n : ℕ). slice_get c.args.names.now n ≡ Some c.args.name.now) here at))
]

pub returns : goal.returns
returns c = λ i at.
    let within = slice_get_within c.args.names.now i c.args.name.now at in
    c.loop-place.invariant i (omega (arith, within, c.loop-place-test.false)) at
