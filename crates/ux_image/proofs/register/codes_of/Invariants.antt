use Rattle.std.proofs.Common.{◌≡◌, map, take}
use Rattle.ux_image.specs.Codes.{entry_code}
use Rattle.ux_image.proofs.register.codes_of.Given as goal

abbrev pub invariant-loop-entry : goal.invariant-loop-entry
invariant-loop-entry l = l.codes ≡ map entry_code (take l.entry-index l.entries)
