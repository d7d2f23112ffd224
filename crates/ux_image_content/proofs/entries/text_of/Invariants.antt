use Rattle.std.proofs.Common.{◌≡◌, string_bytes, take}
use Rattle.std.specs.Str.{encode_utf8_all}
use Rattle.ux_image_content.proofs.entries.text_of.Given as goal

abbrev pub invariant-loop-letter : goal.invariant-loop-letter
invariant-loop-letter l = string_bytes l.text ≡ encode_utf8_all (take l.letter-index l.letters)
