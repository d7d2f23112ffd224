use Rattle.std.proofs.Common.{arith, ◌≡◌, ℕ, List, length, subst}
use Rattle.std.specs.Prelude.{All}
use Rattle.ux_subsets.specs.declared.sets.Set.{Set}
use Rattle.ux_subsets.specs.Building.{HasNumber, IsSame}
use Rattle.ux_subsets.proofs.NumberingLemmas.{found_number, pushed_number}
use Rattle.ux_subsets.proofs.numbering.place_in.Goals as goal

pub returns-in-Some : goal.returns-in-Some
returns-in-Some c =
    let at = c.in-Some.ensures in
    subst (λ (xs : List Set). HasNumber xs xs c.args.set c.in-Some.place) c.as_slice.ensures.value
    (found_number c.as_slice.result.now c.args.set c.in-Some.place at.0 (at.1 c.args.set))

pub returns : goal.returns
returns c =
    let counted = c.len-place.ensures in
    let place : length c.args.sets.now.items ≡ c.len-place.result = omega (arith, counted) in
    subst (λ (n : ℕ). HasNumber c.args.sets.now.items c.push.new.self.items c.args.set n) place
    (pushed_number c.args.sets.now.items c.push.new.self.items c.args.set c.in_ok-push.ensures.items
    (subst (λ (xs : List Set). All (λ other. IsSame other c.args.set → ⊥) xs) c.as_slice.ensures.value c.in_default.ensures))
