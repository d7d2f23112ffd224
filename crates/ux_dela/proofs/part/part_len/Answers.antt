use Rattle.std.proofs.Common.{List, ℕ, drop, sym, subst, arith}
use Rattle.std.proofs.lemmas.Grind.{common_steps}
use Rattle.std.proofs.lemmas.List.{take_rest}
use Rattle.ux_dela.specs.Reading.{is_stop, IsPartEnd}
use Rattle.ux_dela.proofs.PartLemmas.{part_step}
use Rattle.ux_dela.proofs.part.part_len.Goals as goal

pub loop-stop-preserved : goal.loop-stop-preserved
loop-stop-preserved c =
    let place = c.loop-stop.place in
    let goes_on : IsPartEnd (is_stop c.args.stop) (drop place c.args.text.now) → ⊥ =
    λ e. (let t =
    c.is_part_end.ensures.1
    (subst (λ (r : List ℕ). IsPartEnd (is_stop c.args.stop) r)
    (sym (take_rest c.args.text.now place)) e) in
    cc) in
    let next = part_step (is_stop c.args.stop) c.args.text.now place c.written_len-place.result
    c.loop-stop.invariant.inside c.loop-stop.invariant.part goes_on c.written_len-place.ensures in
    record { inside = next.0; part = next.1 }

pub returns-clause-split : goal.returns-clause-split
returns-clause-split c = grind (arith, common_steps)

pub loop-stop-init : goal.loop-stop-init
loop-stop-init c = grind (arith, common_steps)

pub slice_bounds-is_part_end-count : goal.slice_bounds-is_part_end-count
slice_bounds-is_part_end-count c = grind (arith, common_steps)

pub slice_bounds-is_part_end-start : goal.slice_bounds-is_part_end-start
slice_bounds-is_part_end-start c = grind (arith, common_steps)

pub slice_bounds-is_part_end-end : goal.slice_bounds-is_part_end-end
slice_bounds-is_part_end-end c = grind (arith, common_steps)

pub bounds-text-place : goal.bounds-text-place
bounds-text-place c = grind (arith, common_steps)

pub overflow_add-place : goal.overflow_add-place
overflow_add-place c = grind (arith, common_steps)

pub loop-stop-smaller : goal.loop-stop-smaller
loop-stop-smaller c = grind (arith, common_steps)

pub returns-clause-within : goal.returns-clause-within
returns-clause-within c = grind (arith, common_steps)
