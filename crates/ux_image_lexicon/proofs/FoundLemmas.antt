-- The entries of the forms that fit are those of the content that do.
use Rattle.std.proofs.Common.{◌≡◌, ◌↔◌, ℕ, suc, ◌<◌, ◌≤◌, List, [], ◌∷◌, ◌++◌, length, map, get_or, refl, sym, ◌∙◌, ap, subst, inl, inr, arith}
use Rattle.std.specs.Prelude.{All, Contains, slice_get}
use Rattle.std.specs.List.{AllZip}
use Rattle.std.specs.Str.{chars, encode_utf8_all}
use Rattle.std.proofs.lemmas.List.{get_or-map, length-map}
use Rattle.std.proofs.lemmas.List.Elements.{All-contains, All-map, Contains-append_cases, Contains-append_left, Contains-append_right, Contains-get_or}
use Rattle.std.proofs.lemmas.Str.{chars_from_encodes}
use Rattle.indexmap.specs.IndexSet.{insert_all}
use Rattle.ux_alphabet.specs.Letters.{Letters, Fits}
use Rattle.ux_dawg.specs.declared.state.Form.{Form}
use Rattle.ux_dela.specs.Sound.{IsSound}
use Rattle.ux_dela.specs.declared.entry.Entry.{Entry}
use Rattle.ux_dict.specs.Content.{AreDifferent}
use Rattle.ux_dict.specs.Equal.{entry_eq}
use Rattle.ux_dict.specs.Forms.{FitsForm, IsChosen, IsFitting, MayBegin as EntryMayBegin, longest_of}
use Rattle.ux_dict.proofs.ChosenLemmas.{chosen-within}
use Rattle.ux_dict.proofs.ContentLemmas.{AreDifferent-insert}
use Rattle.ux_base.proofs.OrderedLists.{Contains-cons_cases, Contains-nil, Contains-tail}
use Rattle.ux_image_lists.specs.Sizes.{forms_of}
use Rattle.ux_image_look_ups.specs.Longest.{longest_in}
use Rattle.ux_image_look_ups.specs.Ways.{FitsText, MayBegin}
use Rattle.ux_image_lexicon.specs.Told.{content_in, entries_by, entries_told, entry_by, read_in, CodedForms, IsCoded, IsTold}
use Rattle.ux_image_lexicon.specs.declared.codes.ReadCode.{ReadCode}
use Rattle.ux_image_lexicon.specs.declared.codes.ReadList.{ReadList}
use Rattle.ux_image_lexicon.proofs.OnceLemmas.{chosen-flat, chosen-once, different_is}

-- the characters of an entry's form are the letters of the form
pub letters_are : (lists : List ReadList) (form : Form) → IsTold lists form →
    form.letters ≡ chars (encode_utf8_all form.letters)
letters_are lists form told =
    chars_from_encodes form.letters (encode_utf8_all form.letters) told.utf8 refl

-- what holds of the letters holds of the form of each entry
entries_as : (P : List ℕ → Type 0) (lists : List ReadList) (form : Form) → IsTold lists form →
    All (λ (entry : Entry). P (chars entry.form) ↔ P form.letters) (entries_by lists form)
entries_as P lists form told =
    let text = encode_utf8_all form.letters in
    let is = letters_are lists form told in
    All-map (λ (entry : Entry). P (chars entry.form) ↔ P form.letters) (entry_by text)
    (read_in (slice_get lists form.code))
    (λ k d less. (subst P (sym is), subst P is))

-- a list that isn't empty has a member
first_of : (codes : List ReadCode) → 0 < length codes → (code : ReadCode) × Contains codes code
first_of [] some = absurd (omega (arith, some))
first_of (code ∷ codes) some = (code, (0, omega arith, refl))

mapped : (f : ReadCode → Entry) (codes : List ReadCode) (code : ReadCode) →
    Contains codes code → Contains (map f codes) (f code)
mapped f codes code (k, less, at) = (
  k,
  let long = length-map codes f in omega (arith, less, long),
  get_or-map f codes k code (f code) less ∙ ap f at,
)

module _ (coded : CodedForms) (is : IsCoded coded) where
  abbrev forms : List Form
  forms = forms_of coded.states

  abbrev made : List Entry
  made = entries_told coded.lists forms

  pub content_is : content_in coded ≡ insert_all entry_eq [] made
  unfolding content_in
  content_is = refl

  -- of the content the entries of forms that fit
  pub fitting_is : (alphabet : Letters) (text : List ℕ) (some : List Form) (found : List Entry) →
      IsChosen (FitsText alphabet (chars text)) forms some →
      AreDifferent (entries_told coded.lists some) found →
      IsFitting alphabet text (content_in coded) found
  fitting_is alphabet text some found chosen different =
      let P : Entry → Type 0 = λ entry. FitsForm alphabet entry.form text in
      subst (λ (l : List Entry). IsChosen P l found) (sym content_is)
      (subst (IsChosen P (insert_all entry_eq [] made))
      (sym (different_is (entries_told coded.lists some) found different))
      (chosen-once P (chosen-flat (FitsText alphabet (chars text)) P (entries_by coded.lists)
      (λ k d less. entries_as (λ letters. AllZip (Fits alphabet) letters (chars text)) coded.lists
      (get_or forms k d) (is.told k d less)) chosen)))

  members : (entry : Entry) → Contains (content_in coded) entry ↔ Contains made entry
  members entry =
      subst (λ (l : List Entry). Contains l entry ↔ Contains made entry) (sym content_is)
      ((AreDifferent-insert made).members entry)

  -- all entries are sound
  pub content_sound : All IsSound (content_in coded)
  content_sound k d less =
      let entry = get_or (content_in coded) k d in
      All-contains IsSound made entry is.sound
      ((members entry).0 (Contains-get_or (content_in coded) k d less))

  pub found_sound : (alphabet : Letters) (text : List ℕ) (found : List Entry) →
      IsFitting alphabet text (content_in coded) found → All IsSound found
  found_sound alphabet text found chosen =
      chosen-within (λ (entry : Entry). FitsForm alphabet entry.form text) IsSound chosen
      content_sound

  -- an entry stands among those of its form
  pub of_form : (some : List Form) (entry : Entry) → Contains (entries_told coded.lists some) entry →
      (form : Form) × Contains some form × Contains (entries_by coded.lists form) entry
  of_form [] entry has = absurd (Contains-nil entry has)
  of_form (form ∷ some) entry has =
      elim (Contains-append_cases (entries_by coded.lists form) (entries_told coded.lists some) entry
      has) [
        | inl here ↦ (form, (0, omega arith, refl), here)
        | inr later ↦
            let more = of_form some entry later in
            (more.0, (suc more.1.0, omega (arith, more.1.1), more.1.2), more.2)
      ]

  in_told : (some : List Form) (form : Form) (entry : Entry) → Contains some form →
      Contains (entries_by coded.lists form) entry → Contains (entries_told coded.lists some) entry
  in_told [] form entry has there = absurd (Contains-nil form has)
  in_told (f ∷ some) form entry has there = elim (Contains-cons_cases f form some has) [
    | inl same ↦ Contains-append_left (entries_by coded.lists f) (entries_told coded.lists some)
        entry (subst (λ (g : Form). Contains (entries_by coded.lists g) entry) (sym same) there)
    | inr later ↦ Contains-append_right (entries_by coded.lists f)
        (entries_told coded.lists some) entry (in_told some form entry later there)
  ]

  -- some entry begins so exactly where some form does
  pub may_begin_is : (alphabet : Letters) (text : List ℕ) →
      MayBegin alphabet (chars text) forms ↔ EntryMayBegin alphabet text (content_in coded)
  may_begin_is alphabet text = (
    λ (form, has, begins).
        let told = All-contains (IsTold coded.lists) forms form is.told has in
        let codes = read_in (slice_get coded.lists form.code) in
        let first = first_of codes told.some in
        let entry = entry_by (encode_utf8_all form.letters) first.0 in
        let there = mapped (entry_by (encode_utf8_all form.letters)) codes first.0 first.1 in
        let member = (members entry).1 (in_told forms form entry has there) in
        let same = letters_are coded.lists form told in (
          member.0,
          entry,
          member.1,
          member.2,
          (begins.0, begins.1, sym same ∙ begins.3, begins.2),
        ),
    λ (k, entry, less, at, begins).
        let made_of = of_form forms entry ((members entry).0 (k, less, at)) in
        let told = All-contains (IsTold coded.lists) forms made_of.0 is.told made_of.1 in
        let same = All-contains (λ (e : Entry). (chars e.form ≡ begins.0 ++ begins.1)
        ↔ (made_of.0.letters ≡ begins.0 ++ begins.1)) (entries_by coded.lists made_of.0) entry
        (entries_as (λ (l : List ℕ). l ≡ begins.0 ++ begins.1) coded.lists made_of.0 told)
        made_of.2 in
        (made_of.0, made_of.1, (begins.0, begins.1, begins.3, same.0 begins.2)),
  )

-- THE LONGEST FORM

longest_above : (entries : List Entry) (entry : Entry) → Contains entries entry →
    length (chars entry.form) ≤ longest_of entries
longest_above [] entry has = absurd (Contains-nil entry has)
longest_above (e ∷ entries) entry has = elim (Contains-cons_cases e entry entries has) [
  | inl same ↦
      let here = ap (λ (x : Entry). length (chars x.form)) same in
      omega (arith, here)
  | inr later ↦
      let rest = longest_above entries entry later in
      omega (arith, rest)
]

longest_below : (entries : List Entry) (n : ℕ) →
    ((entry : Entry) → Contains entries entry → length (chars entry.form) ≤ n) →
    longest_of entries ≤ n
longest_below [] n low = omega arith
longest_below (e ∷ entries) n low =
    let here = low e (0, omega arith, refl) in
    let rest = longest_below entries n (λ x has. low x (Contains-tail e x entries has)) in
    omega (arith, here, rest)

form_above : (forms : List Form) (form : Form) → Contains forms form →
    length form.letters ≤ longest_in forms
form_above [] form has = absurd (Contains-nil form has)
form_above (f ∷ forms) form has = elim (Contains-cons_cases f form forms has) [
  | inl same ↦
      let here = ap (λ (x : Form). length x.letters) same in
      omega (arith, here)
  | inr later ↦
      let rest = form_above forms form later in
      omega (arith, rest)
]

form_below : (forms : List Form) (n : ℕ) →
    ((form : Form) → Contains forms form → length form.letters ≤ n) → longest_in forms ≤ n
form_below [] n low = omega arith
form_below (f ∷ forms) n low =
    let here = low f (0, omega arith, refl) in
    let rest = form_below forms n (λ x has. low x (Contains-tail f x forms has)) in
    omega (arith, here, rest)

-- the longest form of the content is that of the automaton
pub longest_is : (coded : CodedForms) → IsCoded coded →
    longest_of (content_in coded) ≡ longest_in (forms_of coded.states)
longest_is coded is =
    let forms = forms_of coded.states in
    let content = content_in coded in
    let low = longest_below content (longest_in forms) (λ entry has.
    let made_of = of_form coded is forms entry ((members coded is entry).0 has) in
    let told = All-contains (IsTold coded.lists) forms made_of.0 is.told made_of.1 in
    (All-contains (λ (e : Entry). (length (chars e.form) ≤ longest_in forms)
    ↔ (length made_of.0.letters ≤ longest_in forms)) (entries_by coded.lists made_of.0) entry
    (entries_as (λ (l : List ℕ). length l ≤ longest_in forms) coded.lists made_of.0 told)
    made_of.2).1 (form_above forms made_of.0 made_of.1)) in
    let high = form_below forms (longest_of content) (λ form has.
    let told = All-contains (IsTold coded.lists) forms form is.told has in
    let codes = read_in (slice_get coded.lists form.code) in
    let first = first_of codes told.some in
    let entry = entry_by (encode_utf8_all form.letters) first.0 in
    let there = mapped (entry_by (encode_utf8_all form.letters)) codes first.0 first.1 in
    let member = (members coded is entry).1 (in_told coded is forms form entry has there) in
    let same = ap (length {A = ℕ}) (letters_are coded.lists form told) in
    let above = longest_above content entry member in
    omega (arith, same, above)) in
    omega (arith, low, high)
