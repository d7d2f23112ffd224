-- The content of an automaton is in order of form, so it is a dictionary's.
use Rattle.std.proofs.Common.{◌≡◌, ℕ, suc, ◌-◌, List, [], ◌∷◌, ◌++◌, inl, inr, length, get_or, refl, sym, ◌∙◌, ap, subst, arith}
use Rattle.std.specs.Prelude.{All, AllPairs, slice_get}
use Rattle.std.specs.Cmp.Lexicographic.{slice_cmp}
use Rattle.std.specs.Ordering.{nat_cmp}
use Rattle.std.specs.Str.{chars, encode_utf8_all}
use Rattle.std.specs.declared.cmp.Ordering.TheVariants.{Less}
use Rattle.std.proofs.lemmas.List.Elements.{All-append, All-contains, All-head, All-map, All-tail, Contains-get_or}
use Rattle.std.proofs.lemmas.List.Kept.{AllPairs-cons}
use Rattle.std.proofs.lemmas.Option.{get_or_from_slice_get, slice_get_within}
use Rattle.ux_base.proofs.CodePoints.{code_points}
use Rattle.ux_dawg.proofs.FormsLemmas.{AreInOrder, Precedes}
use Rattle.ux_dawg.specs.declared.state.Form.{Form}
use Rattle.ux_dela.specs.declared.entry.Entry.{Entry}
use Rattle.ux_dict.specs.Content.{AreDifferent, IsDictionary, IsUpTo}
use Rattle.ux_dict.proofs.ContentLemmas.{first_place, AreDifferent-insert}
use Rattle.ux_base.proofs.OrderedLists.{place_of}
use Rattle.ux_image_content.proofs.PathLemmas.{forms_order}
use Rattle.ux_image_lists.specs.Sizes.{forms_of}
use Rattle.ux_image_lexicon.specs.Told.{content_in, entries_by, entries_told, entry_by, read_in, CodedForms, IsCoded, IsTold}
use Rattle.ux_image_lexicon.specs.declared.codes.ReadList.{ReadList}
use Rattle.ux_image_lexicon.proofs.FoundLemmas.{content_is, content_sound, letters_are, of_form}

-- two lists of which each is in order, and the first one before the second
up_append : (xs ys : List Entry) → AllPairs IsUpTo xs → AllPairs IsUpTo ys →
    All (λ x. All (IsUpTo x) ys) xs → AllPairs IsUpTo (xs ++ ys)
up_append [] ys up also before = also
up_append (x ∷ xs) ys up also before =
    let Before : Entry → Type 0 = λ x. All (IsUpTo x) ys in
    AllPairs-cons IsUpTo x (xs ++ ys)
    (All-append (IsUpTo x) xs ys (λ k d less. up 0 (suc k) d (omega arith) (omega (arith, less)))
    (All-head Before x xs before))
    (up_append xs ys
    (λ i j d lt within. up (suc i) (suc j) d (omega (arith, lt)) (omega (arith, within))) also
    (All-tail Before x xs before))

-- the entries of a form have it
pub forms_are : (lists : List ReadList) (form : Form) →
    All (λ (e : Entry). e.form ≡ encode_utf8_all form.letters) (entries_by lists form)
forms_are lists form =
    All-map (λ (e : Entry). e.form ≡ encode_utf8_all form.letters)
    (entry_by (encode_utf8_all form.letters)) (read_in (slice_get lists form.code))
    (λ k d less. refl)

-- so they are in order
alike_up : (text : List ℕ) (entries : List Entry) → All (λ (e : Entry). e.form ≡ text) entries →
    AllPairs IsUpTo entries
alike_up text entries are i j d lt within =
    inr (are i d (omega (arith, lt, within)) ∙ sym (are j d within))

-- the text of a form is below that of a later one
text_below : (lists : List ReadList) (f g : Form) → IsTold lists f → IsTold lists g →
    Precedes f g →
    slice_cmp nat_cmp (encode_utf8_all f.letters) (encode_utf8_all g.letters) ≡ Less
text_below lists f g one other before =
    code_points (encode_utf8_all f.letters) (encode_utf8_all g.letters) one.utf8 other.utf8
    ∙ ap (λ (l : List ℕ). slice_cmp nat_cmp l (chars (encode_utf8_all g.letters)))
    (sym (letters_are lists f one))
    ∙ ap (slice_cmp nat_cmp f.letters) (sym (letters_are lists g other))
    ∙ before

module _ (coded : CodedForms) (is : IsCoded coded) where
  told_up : (forms : List Form) → AreInOrder forms → All (IsTold coded.lists) forms →
      AllPairs IsUpTo (entries_told coded.lists forms)
  told_up [] order told = λ i j d lt within. absurd (omega (arith, within))
  told_up (f ∷ forms) order told =
      let here = entries_by coded.lists f in
      let rest = entries_told coded.lists forms in
      let text = encode_utf8_all f.letters in
      let all_told = All-tail (IsTold coded.lists) f forms told in
      up_append here rest (alike_up text here (forms_are coded.lists f))
      (told_up forms order.1 all_told) (λ k d less j e within.
      let x = get_or here k d in
      let y = get_or rest j e in
      let made_of = of_form coded is forms y (Contains-get_or rest j e within) in
      let g = made_of.0 in
      let below = text_below coded.lists f g (All-head (IsTold coded.lists) f forms told)
      (All-contains (IsTold coded.lists) forms g all_told made_of.1) (order.0 g made_of.1) in
      let other = All-contains (λ (z : Entry). z.form ≡ encode_utf8_all g.letters)
      (entries_by coded.lists g) y (forms_are coded.lists g) made_of.2 in
      inl (ap (λ (l : List ℕ). slice_cmp nat_cmp l y.form) (forms_are coded.lists f k d less)
      ∙ ap (slice_cmp nat_cmp text) other ∙ below))

  pub forms_up : AreInOrder (forms_of coded.states)
  forms_up =
      let some = is.automaton.some in
      forms_order coded.states is.automaton.fit (length coded.states) (length coded.states - 1)
      (omega (arith, some))

  -- so the content is a dictionary's
  pub dictionary_is : IsDictionary (content_in coded)
  dictionary_is =
      let made = entries_told coded.lists (forms_of coded.states) in
      let different = subst (AreDifferent made) (sym (content_is coded is))
      (AreDifferent-insert made) in
      let up = told_up (forms_of coded.states) forms_up is.told in
      record {
        sound = content_sound coded is;
        once = different.once;
        ordered = λ i j d lt within.
            let x = get_or (content_in coded) i d in
            let y = get_or (content_in coded) j d in
            let has_x = (different.members x).0
            (Contains-get_or (content_in coded) i d (omega (arith, lt, within))) in
            let has_y = (different.members y).0 (Contains-get_or (content_in coded) j d within) in
            let some_x = place_of made x has_x in
            let some_y = place_of made y has_y in
            let first_x = first_place made x some_x.0 some_x.1 in
            let first_y = first_place made y some_y.0 some_y.1 in
            let before = different.ordered i j d lt within first_x.0 first_y.0 first_x.1 first_y.1 in
            let inside = slice_get_within made first_y.0 y first_y.1.here in
            let one = get_or_from_slice_get made first_x.0 x d first_x.1.here in
            let other = get_or_from_slice_get made first_y.0 y d first_y.1.here in
            subst (λ (e : Entry). IsUpTo e y) one
            (subst (IsUpTo (get_or made first_x.0 d)) other
            (up first_x.0 first_y.0 d before inside));
      }
