use Rattle.std.proofs.Common.{◌≡◌, [], take}
use Rattle.ux_dict.specs.Parts.{entries_of}
use Rattle.ux_dict.proofs.list_reached.has_entry.Given as goal

-- the parts so far have no entry
abbrev pub invariant-loop-part : goal.invariant-loop-part
invariant-loop-part l = entries_of (take l.part-index l.parts) ≡ []
