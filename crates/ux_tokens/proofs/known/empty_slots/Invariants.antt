use Rattle.std.proofs.Common.{[], All}
use Rattle.ux_tokens.specs.Known.{HasNumber}
use Rattle.ux_tokens.proofs.known.empty_slots.Given as goal

-- every slot so far is empty
abbrev pub invariant-loop : goal.invariant-loop
invariant-loop l = All (HasNumber []) l.slots.items
