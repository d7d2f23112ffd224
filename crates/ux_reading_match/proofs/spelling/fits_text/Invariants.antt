use Rattle.std.proofs.Common.{◌↔◌}
use Rattle.std.specs.List.{AllZip}
use Rattle.std.specs.Str.{IsUtf8, chars}
use Rattle.std.specs.Str.Iter.{chars_rest}
use Rattle.ux_alphabet.specs.Letters.{Fits}
use Rattle.ux_reading_match.proofs.spelling.fits_text.Given as goal

-- the whole fits where what is left of both does
abbrev pub invariant-loop-c : goal.invariant-loop-c
invariant-loop-c l = record {
  same : AllZip (Fits l.alphabet) (chars l.entry) (chars l.text)
      ↔ AllZip (Fits l.alphabet) (chars (chars_rest l.rest)) (chars (chars_rest l.c-iterator));
  entry : IsUtf8 (chars_rest l.rest);
  text : IsUtf8 (chars_rest l.c-iterator);
}
