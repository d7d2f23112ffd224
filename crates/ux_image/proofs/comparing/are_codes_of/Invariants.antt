use Rattle.std.proofs.Common.{◌≡◌, ◌↔◌, map, drop}
use Rattle.ux_image.specs.Codes.{entry_code}
use Rattle.ux_image.proofs.comparing.are_codes_of.Given as goal

-- the codes are those of the entries where those that are left are those of the later ones
abbrev pub invariant-loop-entry : goal.invariant-loop-entry
invariant-loop-entry l =
    (l.codes ≡ map entry_code l.entries)
    ↔ (l.codes_left ≡ map entry_code (drop l.entry-index l.entries))
