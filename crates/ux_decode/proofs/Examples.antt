-- Small files, read by hand.
use Rattle.std.proofs.Common.{◌≡◌, [], ◌∷◌, refl}
use Rattle.std.specs.Char.Utf16.{utf16_chars}
use Rattle.std.specs.Prelude.{codes}
use Rattle.ux_decode.specs.Decoding.{IsTextOf, BeginsLone}
use Rattle.ux_decode.specs.Encoding.{encoding_of, spelled}
use Rattle.ux_decode.specs.declared.encoding.Encoding.TheVariants.{Utf8, MarkedUtf8, Utf16}
use Rattle.ux_decode.specs.declared.encoding.Order.TheVariants.{Big}
use lib.Utf8.{encode}

encoding_of-marked : encoding_of (0xEF ∷ (0xBB ∷ (0xBF ∷ codes "the"))) ≡ MarkedUtf8
encoding_of-marked = refl

-- two bytes of the mark of UTF-8 are none
encoding_of-cut : encoding_of (0xEF ∷ (0xBB ∷ [])) ≡ Utf8
encoding_of-cut = refl

-- U+1D11E is the pair d834 dd1e
spelled-pair : spelled (Utf16 Big) (0x1D11E ∷ []) ≡ 0xD8 ∷ (0x34 ∷ (0xDD ∷ (0x1E ∷ [])))
spelled-pair = refl

-- `ff fe 61 00` is `a`
text-example : IsTextOf (0xFF ∷ (0xFE ∷ (97 ∷ (0 ∷ [])))) (codes "a")
unfolding encode
text-example = record {
  characters = 97 ∷ [];
  scalars = refl;
  text_is = refl;
  bytes_are = refl;
}

-- a high surrogate before half a unit has no partner
lone-example : BeginsLone Big (0xD8 ∷ (0x34 ∷ (0xDD ∷ [])))
unfolding utf16_chars
lone-example = ([], refl)
