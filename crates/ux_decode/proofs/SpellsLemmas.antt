-- Bytes that spell a text: nothing, one more character, and how long the text is.
use Rattle.std.proofs.Common.{arith, ◌≡◌, ℕ, ◌<◌, ◌≤◌, ◌-◌, ◌*◌, true, ◌&&◌, List, [], ◌∷◌, ◌++◌, refl, sym, ap, ◌∙◌, length, drop, length-append, length-drop, append_assoc}
use Rattle.std.proofs.lemmas.List.{append-nil}
use Rattle.std.proofs.lemmas.List.Concat.{flat_map-append}
use Rattle.std.proofs.lemmas.Str.{encodes-append}
use Rattle.std.proofs.str.Laws.{scalars-append}
use Rattle.std.specs.Char.{IsScalar}
use Rattle.std.specs.Char.Utf16.{utf16_chars}
use Rattle.std.specs.List.{flat_map}
use Rattle.std.specs.Prelude.{encode_utf8}
use Rattle.std.specs.Str.{encode_utf8_all}
use Rattle.ux_decode.proofs.CharLemmas.{char_bytes-bound}
use Rattle.ux_decode.specs.Decoding.{Spells, StopsAt, IsLone, RefusesUtf16}
use Rattle.ux_decode.specs.Encoding.{BeginsUnit, char_bytes, spelled, units_of}
use Rattle.ux_decode.specs.declared.encoding.Encoding.TheVariants.{Utf16}
use Rattle.ux_decode.specs.declared.encoding.Order.{Order}
use Rattle.ux_decode.specs.declared.error.DecodeError.TheVariants.{LoneSurrogate, OddLength}

module _ (order : Order) where
  -- before the first character
  pub Spells-none : (bytes text : List ℕ) → text ≡ [] → Spells (Utf16 order) bytes text bytes
  Spells-none bytes text empty = record {
    characters = [];
    scalars = refl;
    text_is = empty;
    bytes_are = refl;
  }

  -- behind one more character
  pub Spells-more : (bytes text rest after : List ℕ) (c : ℕ) →
      Spells (Utf16 order) bytes text rest → IsScalar c → rest ≡ char_bytes order c ++ after →
      Spells (Utf16 order) bytes (text ++ encode_utf8 c) after
  Spells-more bytes text rest after c so_far scalar is =
      let before = so_far.characters in
      let bytes_of = char_bytes order in
      let more = flat_map-append bytes_of before (c ∷ []) in
      let last = ap (λ t. flat_map bytes_of before ++ t) (append-nil (bytes_of c)) in
      let moved = append_assoc (flat_map bytes_of before) (bytes_of c) after in
      let front = ap (λ t. t ++ after) (more ∙ last) ∙ moved in
      let one = ap (λ t. encode_utf8_all before ++ t) (append-nil (encode_utf8 c)) in
      record {
        characters = before ++ c ∷ [];
        scalars = scalars-append before (c ∷ []) so_far.scalars (ap (λ t. t && true) scalar);
        text_is = ap (λ t. t ++ encode_utf8 c) so_far.text_is
            ∙ sym (encodes-append before (c ∷ []) ∙ one);
        bytes_are = so_far.bytes_are
            ∙ ap (λ t. flat_map bytes_of before ++ t) is ∙ sym front;
      }

  -- what is left is no longer than the bytes
  pub Spells-rest : (bytes text rest : List ℕ) → Spells (Utf16 order) bytes text rest →
      length rest ≤ length bytes
  Spells-rest bytes text rest h =
      let whole = ap length h.bytes_are in
      let parts = length-append (spelled (Utf16 order) h.characters) rest in
      omega (arith, whole, parts)

  encodes-bound : (cs : List ℕ) →
      2 * length (encode_utf8_all cs) ≤ 3 * length (flat_map (char_bytes order) cs)
  encodes-bound [] = omega arith
  encodes-bound (c ∷ cs) =
      let text = length-append (encode_utf8 c) (encode_utf8_all cs) in
      let bytes = length-append (char_bytes order c) (flat_map (char_bytes order) cs) in
      omega (arith, text, bytes, char_bytes-bound order c, encodes-bound cs)

  -- a text has at most one and a half times as many bytes as what spells it
  pub Spells-bound : (bytes text rest : List ℕ) → Spells (Utf16 order) bytes text rest →
      2 * length text ≤ 3 * length bytes
  Spells-bound bytes text rest h =
      let size = ap length h.text_is in
      let whole = ap length h.bytes_are in
      let parts = length-append (spelled (Utf16 order) h.characters) rest in
      omega (arith, size, whole, parts, encodes-bound h.characters)

  -- the rest stands as far from the file's end as it is long
  StopsAt-rest : (file text rest : List ℕ) → 2 ≤ length file →
      Spells (Utf16 order) (drop 2 file) text rest →
      StopsAt order file (length file - length rest) rest
  StopsAt-rest file text rest marked spells = record {
    text = text;
    spells = spells;
    place_is = omega (arith, Spells-rest (drop 2 file) text rest spells, length-drop 2 file);
  }

  -- a file is refused where a surrogate without a partner begins the rest
  pub RefusesUtf16-lone : (file text rest behind : List ℕ) (unit : ℕ) → 2 ≤ length file →
      Spells (Utf16 order) (drop 2 file) text rest → BeginsUnit order rest unit behind →
      IsLone unit (units_of order behind) →
      RefusesUtf16 order file (LoneSurrogate (length file - length rest))
  RefusesUtf16-lone file text rest behind unit marked spells begins lone = (
    rest,
    StopsAt-rest file text rest marked spells,
    (lone.0, ap utf16_chars begins.units_are ∙ lone.1),
  )

  -- or where the rest is half a unit
  pub RefusesUtf16-half : (file text rest : List ℕ) → 2 ≤ length file →
      Spells (Utf16 order) (drop 2 file) text rest → length rest < 2 → 0 < length rest →
      RefusesUtf16 order file OddLength
  RefusesUtf16-half file text [] marked spells short some = absurd (omega arith)
  RefusesUtf16-half file text (half ∷ []) marked spells short some =
      (length file - 1, half, StopsAt-rest file text (half ∷ []) marked spells)
  RefusesUtf16-half file text (first ∷ (second ∷ more)) marked spells short some =
      absurd (omega arith)
