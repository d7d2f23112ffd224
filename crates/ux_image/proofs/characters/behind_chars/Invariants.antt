use Rattle.std.proofs.Common.{◌≡◌}
use denote.Text.{Utf8}
use denote.Shadow.{shadow}
use Rattle.std.specs.Str.{chars}
use Rattle.ux_image.specs.Codes.{behind_chars}
use Rattle.ux_image.proofs.characters.behind_chars.Given as goal

abbrev pub invariant-loop-done : goal.invariant-loop-done
invariant-loop-done l = shadow (Utf8 l.rest) × (chars l.rest ≡ behind_chars l.done l.text)
