use Rattle.std.proofs.Common.{◌≡◌, ◌<◌, length, refl, sym, arith}
use Rattle.std.proofs.lemmas.Grind.{common_steps}
use Rattle.std.proofs.lemmas.Bool.{eqb-false}
use Rattle.ux_dict.proofs.FittingLemmas.{some_entry}
use Rattle.ux_dict.proofs.list_reached.has_entry.Goals as goal

pub returns-then-not-is_empty : goal.returns-then-not-is_empty
returns-then-not-is_empty c =
    let part = c.part-item.result in
    let full : length part.entries.now ≡ 0 → ⊥ =
    eqb-false (length part.entries.now) 0 (sym c.if-not-is_empty.ensures) in
    let inside : 0 < length part.entries.now = omega (arith, full) in
    let some = some_entry c.args.parts.now c.loop-part.part-index part (omega arith) c.part-item.is
    inside in
    (λ t. some, λ lt. refl)

pub loop-part-preserved : goal.loop-part-preserved
loop-part-preserved c = grind (arith, common_steps)

pub returns : goal.returns
returns c = grind (arith, common_steps)
