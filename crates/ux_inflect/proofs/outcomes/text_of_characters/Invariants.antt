use Rattle.std.proofs.Common.{◌≡◌, take}
use Rattle.std.specs.Prelude.{encode_utf8_all, string_bytes}
use Rattle.ux_inflect.proofs.outcomes.text_of_characters.Given as goal

-- the characters so far are there
abbrev pub invariant-loop-c : goal.invariant-loop-c
invariant-loop-c l = string_bytes l.text ≡ encode_utf8_all (take l.c-index l.characters)
