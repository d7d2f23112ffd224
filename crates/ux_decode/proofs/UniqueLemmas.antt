-- A file has one text or one refusal, want of memory aside: so its bytes alone tell what `decode`
-- answers.
use Rattle.std.proofs.Common.{arith, ◌≡◌, ℕ, ◌+◌, List, [], ◌∷◌, ◌++◌, refl, sym, ap, ◌∙◌, length, drop}
use Rattle.std.proofs.lemmas.List.{append-nil, append_cancel_left}
use Rattle.std.specs.List.{flat_map}
use Rattle.std.specs.Prelude.{◌≢◌}
use Rattle.std.specs.Str.{IsUtf8, encode_utf8_all}
use Rattle.std.specs.Str.Lossy.{utf8_valid_len}
use Rattle.ux_decode.specs.Decoding.{Spells, StopsAt, IsTextOf, BeginsLone, Refuses, RefusesIn, RefusesUtf8, RefusesUtf16}
use Rattle.ux_decode.specs.Encoding.{encoding_of, mark_len, units_of, char_bytes}
use Rattle.ux_decode.specs.declared.encoding.Encoding.{Encoding}
use Rattle.ux_decode.specs.declared.encoding.Encoding.TheVariants.{Utf8, MarkedUtf8, Utf16}
use Rattle.ux_decode.specs.declared.encoding.Order.{Order}
use Rattle.ux_decode.specs.declared.error.DecodeError.{DecodeError}
use Rattle.ux_decode.specs.declared.error.DecodeError.TheVariants.{BadUtf8, LoneSurrogate, OddLength, NoMemory}
use Rattle.ux_decode.proofs.FrontLemmas.{front_of, front_of-spelled, front_of-nil, front_of-half, front_of-lone, lone-nil}

module _ (order : Order) (bytes text other rest after : List ℕ) where
  -- one front of the bytes is whole characters, where what follows begins with none
  same_characters : (one : Spells (Utf16 order) bytes text rest)
      (two : Spells (Utf16 order) bytes other after) →
      front_of order rest ≡ [] → front_of order after ≡ [] → one.characters ≡ two.characters
  same_characters one two none nor =
      sym (front_of-spelled order one.characters rest one.scalars none)
      ∙ ap (front_of order) (sym one.bytes_are ∙ two.bytes_are)
      ∙ front_of-spelled order two.characters after two.scalars nor

  same_rest : Spells (Utf16 order) bytes text rest → Spells (Utf16 order) bytes other after →
      front_of order rest ≡ [] → front_of order after ≡ [] → rest ≡ after
  same_rest one two none nor =
      let same = same_characters one two none nor in
      let front = flat_map (char_bytes order) one.characters in
      let moved = ap (λ cs. flat_map (char_bytes order) cs ++ after) (sym same) in
      append_cancel_left front rest after (sym one.bytes_are ∙ two.bytes_are ∙ moved)

-- bytes in UTF-8 are their text
Spells-utf8 : (bytes text : List ℕ) → Spells Utf8 bytes text [] → (text ≡ bytes) × IsUtf8 bytes
Spells-utf8 bytes text h =
    let same = h.bytes_are ∙ append-nil (encode_utf8_all h.characters) in
    (h.text_is ∙ sym same, (h.characters, (h.scalars, sym same)))

Spells-marked : (bytes text : List ℕ) → Spells MarkedUtf8 bytes text [] →
    (text ≡ bytes) × IsUtf8 bytes
Spells-marked bytes text h =
    let same = h.bytes_are ∙ append-nil (encode_utf8_all h.characters) in
    (h.text_is ∙ sym same, (h.characters, (h.scalars, sym same)))

one_text_in : (encoding : Encoding) (bytes text other : List ℕ) →
    Spells encoding bytes text [] → Spells encoding bytes other [] → text ≡ other
one_text_in Utf8 bytes text other one two =
    (Spells-utf8 bytes text one).0 ∙ sym (Spells-utf8 bytes other two).0
one_text_in MarkedUtf8 bytes text other one two =
    (Spells-marked bytes text one).0 ∙ sym (Spells-marked bytes other two).0
one_text_in (Utf16 order) bytes text other one two =
    let none = front_of-nil order in
    let same = same_characters order bytes text other [] [] one two none none in
    one.text_is ∙ ap encode_utf8_all same ∙ sym two.text_is

-- a file has one text
pub one_text : (file text other : List ℕ) → IsTextOf file text → IsTextOf file other → text ≡ other
one_text file text other = one_text_in (encoding_of file) _ text other

no_refusal_utf8 : (mark : ℕ) (body : List ℕ) (error : DecodeError) → IsUtf8 body →
    RefusesUtf8 mark body error → error ≡ NoMemory
no_refusal_utf8 mark body (BadUtf8 place) utf8 h = absurd (h.0 utf8)
no_refusal_utf8 mark body (LoneSurrogate place) utf8 h = absurd h
no_refusal_utf8 mark body OddLength utf8 h = absurd h
no_refusal_utf8 mark body NoMemory utf8 h = absurd h

no_refusal_utf16 : (order : Order) (file text : List ℕ) (error : DecodeError) →
    Spells (Utf16 order) (drop 2 file) text [] → RefusesUtf16 order file error → error ≡ NoMemory
no_refusal_utf16 order file text (BadUtf8 place) whole h = absurd h
no_refusal_utf16 order file text (LoneSurrogate place) whole h =
    let rest = h.0 in
    let stops = h.1 in
    let lone = h.2 in
    let none = front_of-lone order rest lone in
    let same = same_rest order (drop 2 file) stops.text text rest [] stops.spells whole none
    (front_of-nil order) in
    absurd (lone-nil order rest lone (ap (units_of order) same))
no_refusal_utf16 order file text OddLength whole h =
    let half = h.1 in
    let stops = h.2 in
    let same = same_rest order (drop 2 file) stops.text text (half ∷ []) [] stops.spells whole
    (front_of-half order half) (front_of-nil order) in
    cc (same)
no_refusal_utf16 order file text NoMemory whole h = refl

no_refusal_in : (encoding : Encoding) (file text : List ℕ) (error : DecodeError) →
    Spells encoding (drop (mark_len encoding) file) text [] → RefusesIn encoding file error →
    error ≡ NoMemory
no_refusal_in Utf8 file text error whole h =
    no_refusal_utf8 0 file error (Spells-utf8 file text whole).1 h
no_refusal_in MarkedUtf8 file text error whole h =
    no_refusal_utf8 3 (drop 3 file) error (Spells-marked (drop 3 file) text whole).1 h
no_refusal_in (Utf16 order) file text error whole h =
    no_refusal_utf16 order file text error whole h

-- a file that has a text is refused for want of memory alone
pub no_refusal : (file text : List ℕ) (error : DecodeError) → IsTextOf file text →
    Refuses file error → error ≡ NoMemory
no_refusal file text error = no_refusal_in (encoding_of file) file text error

one_refusal_utf8 : (mark : ℕ) (body : List ℕ) (error : DecodeError) → RefusesUtf8 mark body error →
    error ≡ BadUtf8 (mark + utf8_valid_len body)
one_refusal_utf8 mark body (BadUtf8 place) h = ap BadUtf8 h.1
one_refusal_utf8 mark body (LoneSurrogate place) h = absurd h
one_refusal_utf8 mark body OddLength h = absurd h
one_refusal_utf8 mark body NoMemory h = absurd h

module _ (order : Order) (file : List ℕ) where
  lone_and_half : (place half at : ℕ) (rest : List ℕ) → StopsAt order file place rest →
      BeginsLone order rest → StopsAt order file at (half ∷ []) → ⊥
  lone_and_half place half at rest one lone two =
      let none = front_of-lone order rest lone in
      let same = same_rest order (drop 2 file) one.text two.text rest (half ∷ []) one.spells
      two.spells none (front_of-half order half) in
      lone-nil order rest lone (ap (units_of order) same)

  one_place : (place at : ℕ) (rest after : List ℕ) → StopsAt order file place rest →
      StopsAt order file at after → BeginsLone order rest → BeginsLone order after → place ≡ at
  one_place place at rest after one two lone other =
      let same = same_rest order (drop 2 file) one.text two.text rest after one.spells two.spells
      (front_of-lone order rest lone) (front_of-lone order after other) in
      omega (arith, ap length same, one.place_is, two.place_is)

  one_refusal_utf16 : (error other : DecodeError) → error ≢ NoMemory → other ≢ NoMemory →
      RefusesUtf16 order file error → RefusesUtf16 order file other → error ≡ other
  one_refusal_utf16 (LoneSurrogate place) (LoneSurrogate at) some also h k =
      ap LoneSurrogate (one_place place at h.0 k.0 h.1 k.1 h.2 k.2)
  one_refusal_utf16 (LoneSurrogate place) OddLength some also h k =
      absurd (lone_and_half place k.1 k.0 h.0 h.1 h.2 k.2)
  one_refusal_utf16 OddLength (LoneSurrogate at) some also h k =
      absurd (lone_and_half at h.1 h.0 k.0 k.1 k.2 h.2)
  one_refusal_utf16 OddLength OddLength some also h k = refl
  one_refusal_utf16 (BadUtf8 place) other some also h k = absurd h
  one_refusal_utf16 NoMemory other some also h k = absurd (some refl)
  one_refusal_utf16 (LoneSurrogate place) (BadUtf8 at) some also h k = absurd k
  one_refusal_utf16 (LoneSurrogate place) NoMemory some also h k = absurd (also refl)
  one_refusal_utf16 OddLength (BadUtf8 at) some also h k = absurd k
  one_refusal_utf16 OddLength NoMemory some also h k = absurd (also refl)

one_refusal_in : (encoding : Encoding) (file : List ℕ) (error other : DecodeError) →
    error ≢ NoMemory → other ≢ NoMemory →
    RefusesIn encoding file error → RefusesIn encoding file other → error ≡ other
one_refusal_in Utf8 file error other some also h k =
    one_refusal_utf8 0 file error h ∙ sym (one_refusal_utf8 0 file other k)
one_refusal_in MarkedUtf8 file error other some also h k =
    one_refusal_utf8 3 (drop 3 file) error h
    ∙ sym (one_refusal_utf8 3 (drop 3 file) other k)
one_refusal_in (Utf16 order) file error other some also h k =
    one_refusal_utf16 order file error other some also h k

-- a file that is refused for another cause has that cause alone, with its place
pub one_refusal : (file : List ℕ) (error other : DecodeError) →
    error ≢ NoMemory → other ≢ NoMemory → Refuses file error → Refuses file other → error ≡ other
one_refusal file error other = one_refusal_in (encoding_of file) file error other
