use Rattle.std.proofs.Common.{List, ℕ, drop, sym, subst, arith}
use Rattle.std.proofs.lemmas.Grind.{common_steps}
use Rattle.std.proofs.lemmas.List.{take_rest}
use Rattle.ux_dela.specs.Reading.{IsPartEnd}
use Rattle.ux_masks.specs.Signs.{is_sign}
use Rattle.ux_dela.proofs.PartLemmas.{part_step}
use Rattle.ux_masks.proofs.name.name_len.Goals as goal

pub loop-place-preserved : goal.loop-place-preserved
loop-place-preserved c =
    let place = c.loop-place.place in
    let goes_on : IsPartEnd is_sign (drop place c.args.text.now) → ⊥ =
    λ e. (let t =
    c.is_name_end.ensures.1
    (subst (λ (r : List ℕ). IsPartEnd is_sign r)
    (sym (take_rest c.args.text.now place)) e) in
    cc) in
    let next = part_step is_sign c.args.text.now place c.written_len-place.result
    c.loop-place.invariant.inside c.loop-place.invariant.part goes_on c.written_len-place.ensures in
    record { inside = next.0; part = next.1 }

pub returns-clause-split : goal.returns-clause-split
returns-clause-split c = grind (arith, common_steps)

pub loop-place-init : goal.loop-place-init
loop-place-init c = grind (arith, common_steps)

pub slice_bounds-is_name_end-count : goal.slice_bounds-is_name_end-count
slice_bounds-is_name_end-count c = grind (arith, common_steps)

pub slice_bounds-is_name_end-start : goal.slice_bounds-is_name_end-start
slice_bounds-is_name_end-start c = grind (arith, common_steps)

pub slice_bounds-is_name_end-end : goal.slice_bounds-is_name_end-end
slice_bounds-is_name_end-end c = grind (arith, common_steps)

pub bounds-text-place : goal.bounds-text-place
bounds-text-place c = grind (arith, common_steps)

pub overflow_add-place : goal.overflow_add-place
overflow_add-place c = grind (arith, common_steps)

pub loop-place-smaller : goal.loop-place-smaller
loop-place-smaller c = grind (arith, common_steps)

pub returns-clause-within : goal.returns-clause-within
returns-clause-within c = grind (arith, common_steps)
