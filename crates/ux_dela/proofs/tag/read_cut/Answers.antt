use Rattle.std.proofs.Common.{arith}
use Rattle.std.proofs.lemmas.Grind.{common_steps}
use Rattle.ux_dela.proofs.TagLemmas.{tag_stops}
use Rattle.ux_dela.proofs.tag.read_cut.Goals as goal

pub returns-in-Err-Empty : goal.returns-in-Err-Empty
returns-in-Err-Empty c =
    let stops = rw c.in-Err-Empty.field-0-is at c.in-Err-Empty.ensures.err in
    λ codes listed _ _. tag_stops c.args.cut.now c.in-Err-Empty.field-0-0.now codes stops listed

pub is_empty-requires-text-self : goal.is_empty-requires-text-self
is_empty-requires-text-self c κs = grind (arith, common_steps)

pub returns-then-not-is_empty : goal.returns-then-not-is_empty
returns-then-not-is_empty c = grind (arith, common_steps)

pub read_list-requires-text-text : goal.read_list-requires-text-text
read_list-requires-text-text c κs = grind (arith, common_steps)

pub returns-in_err-entry_of-in-Ok : goal.returns-in_err-entry_of-in-Ok
returns-in_err-entry_of-in-Ok c = grind (arith, common_steps)

pub returns-in_ok-entry_of-in-Ok : goal.returns-in_ok-entry_of-in-Ok
returns-in_ok-entry_of-in-Ok c = grind (arith, common_steps)
