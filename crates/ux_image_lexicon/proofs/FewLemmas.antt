-- An image tells no more entries than 64 bits count.
use Rattle.std.proofs.Common.{◌≡◌, ℕ, zero, suc, ◌*◌, ◌^◌, ◌<◌, ◌≤◌, List, [], ◌∷◌, length, map, get_or, refl, ap, inl, inr, arith}
use Rattle.std.specs.Prelude.{All, slice_get, sum_by}
use Rattle.std.specs.List.{AllZip}
use Rattle.std.specs.Str.{encode_utf8_all}
use Rattle.std.proofs.lemmas.Bool.{cases_lt}
use Rattle.std.proofs.lemmas.List.{length-map}
use Rattle.std.proofs.lemmas.List.Elements.{All-head, All-tail}
use Rattle.std.proofs.lemmas.List.Sums.{sum_by-cons}
use Rattle.ux_dawg.specs.declared.state.Form.{Form}
use Rattle.ux_image.specs.declared.code.Code.{Code}
use Rattle.ux_image.specs.declared.code.CodeList.{CodeList}
use Rattle.ux_image_content.specs.Files.{in_forms, IsImageFile, MOST_LETTERS}
use Rattle.ux_image_content.proofs.FormLemmas.{forms_words, IsWord}
use Rattle.ux_image_lists.specs.Sizes.{codes_at, forms_of, letters_told}
use Rattle.ux_image_lists.specs.declared.image.Image.{Image}
use Rattle.ux_image_reader.specs.Fronts.{AreAccepted}
use Rattle.ux_image_lexicon.specs.Told.{entry_by, made_of, read_in, AreRead, IsRead}
use Rattle.ux_image_lexicon.specs.declared.codes.ReadCode.{ReadCode}
use Rattle.ux_image_lexicon.specs.declared.codes.ReadList.{ReadList}
use Rattle.ux_image_lexicon.proofs.CountLemmas.{different_made, once_few, text_of}

codes_long : (codes : List Code) (read : List ReadCode) → AllZip IsRead codes read →
    length read ≡ length codes
codes_long [] [] zip = refl
codes_long [] (r ∷ read) zip = absurd zip
codes_long (c ∷ codes) [] zip = absurd zip
codes_long (c ∷ codes) (r ∷ read) zip =
    let rest = codes_long codes read zip.1 in omega (arith, rest)

-- a list has as many codes when they are read
pub lists_long : (lists : List CodeList) (read : List ReadList) → AreRead lists read → (n : ℕ) →
    length (read_in (slice_get read n)) ≡ codes_at lists n
lists_long [] [] are n = refl
lists_long [] (r ∷ read) are n = absurd are
lists_long (l ∷ lists) [] are n = absurd are
lists_long (l ∷ lists) (r ∷ read) are zero = codes_long l.codes r.codes are.0
lists_long (l ∷ lists) (r ∷ read) are (suc n) = lists_long lists read are.1 n

times_more : (l n : ℕ) → 0 < l → n ≤ l * n
times_more zero n some = absurd (omega (arith, some))
times_more (suc l) n some = omega arith

some_letter : (states : List _) (form : Form) → IsWord states form → 0 < length form.letters
some_letter states form word = by form.letters refl
  where
    by : (l : List ℕ) → form.letters ≡ l → 0 < length form.letters
    by [] is = absurd (word.sound.some (ap encode_utf8_all is))
    by (c ∷ l) is = let long = ap (length {A = ℕ}) is in omega (arith, long)

sums_less : (f g : Form → ℕ) (forms : List Form) → All (λ (x : Form). f x ≤ g x) forms →
    sum_by f forms ≤ sum_by g forms
sums_less f g [] each = omega arith
sums_less f g (x ∷ forms) each =
    let Less : Form → Type 0 = λ y. f y ≤ g y in
    let here = All-head Less x forms each in
    let rest = sums_less f g forms (All-tail Less x forms each) in
    let one = sum_by-cons f x forms in
    let other = sum_by-cons g x forms in
    omega (arith, here, rest, one, other)

-- no form has more entries than letters in all its codes
made_few : (lists : List CodeList) (read : List ReadList) → AreRead lists read → (form : Form) →
    0 < length form.letters → made_of read form ≤ length form.letters * codes_at lists form.code
made_few lists read are form some =
    let codes = read_in (slice_get read form.code) in
    let same = different_made read form in
    let few = once_few (map (entry_by (text_of form)) codes) in
    let long = length-map codes (entry_by (text_of form)) in
    let all = lists_long lists read are form.code in
    let more = times_more (length form.letters) (codes_at lists form.code) some in
    omega (arith, same, few, long, all, more)

pub few_told : (bytes : List ℕ) (image : Image) → IsImageFile bytes image →
    (read : List ReadList) → AreRead image.lists.keys read → (lists : ℕ) →
    AreAccepted lists image.states →
    sum_by (made_of read) (forms_of image.states) < 2 ^ 64
few_told bytes image file read are lists accepted =
    let forms = forms_of image.states in
    let letters = letters_told image.lists.keys forms in
    let less = sums_less (made_of read)
    (λ f. length f.letters * codes_at image.lists.keys f.code) forms (λ k d inside.
    made_few image.lists.keys read are (get_or forms k d)
    (some_letter image.states (get_or forms k d)
    (forms_words lists image.states accepted k d inside))) in
    elim (cases_lt MOST_LETTERS letters) [
      | inl many ↦ absurd (file.few (in_forms many))
      | inr few ↦ omega (arith, less, few)
    ]
