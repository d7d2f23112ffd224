use Rattle.std.proofs.Common.{◌≡◌}
use Rattle.ux_image.proofs.listing.spell.Given as goal

-- the letters so far are there
abbrev pub invariant-loop-letter : goal.invariant-loop-letter
invariant-loop-letter l = l.letters.items ≡ l.yielded
