-- The automaton of a dictionary's forms, with their lists of codes, tells the dictionary again.
use Rattle.std.proofs.Common.{◌≡◌, ◌≢◌, ℕ, ◌+◌, ◌^◌, ◌<◌, ◌≤◌, List, [], ◌∷◌, inl, inr, length, get_or, refl, sym, ◌∙◌, ap, subst, arith}
use Rattle.std.specs.Prelude.{All, AllPairs, Contains, IsUtf8, Option, None, Some, flat_map, slice_get, sum_by}
use Rattle.std.specs.Str.{chars, encode_utf8_all}
use Rattle.std.proofs.lemmas.List.{length-append, length-map}
use Rattle.std.proofs.lemmas.List.Elements.{All-contains, Contains-get_or}
use Rattle.std.proofs.lemmas.List.Sums.{sum_by-cons}
use Rattle.std.proofs.lemmas.Option.{get_or_from_slice_get, slice_get-get_or, slice_get_within}
use Rattle.std.proofs.lemmas.Str.{chars-nil, encodes-chars}
use Rattle.indexmap.specs.IndexSet.{insert_all}
use Rattle.ux_dawg.specs.Automaton.{IsAutomaton, IsMinimalOf}
use Rattle.ux_dawg.specs.Building.{bare}
use Rattle.ux_dawg.specs.Forms.{AreSorted}
use Rattle.ux_dawg.specs.Paths.{IsAlive}
use Rattle.ux_dawg.specs.declared.state.Edge.{Edge}
use Rattle.ux_dawg.specs.declared.state.Form.{Form}
use Rattle.ux_dawg.specs.declared.state.State.{State}
use Rattle.ux_dawg.proofs.FormsLemmas.{in_order}
use Rattle.ux_dela.specs.Sound.{IsSound}
use Rattle.ux_dela.specs.declared.entry.Entry.{Entry}
use Rattle.ux_dict.specs.Content.{IsDictionary}
use Rattle.ux_dict.specs.Equal.{entry_eq}
use Rattle.ux_dict.proofs.ContentLemmas.{AreDifferent-insert}
use Rattle.ux_base.proofs.OrderedLists.{Contains-cons_cases, Contains-nil}
use Rattle.ux_image.specs.Codes.{entry_code}
use Rattle.ux_image.specs.Contents.{forms_with_codes, AreForms, HasTexts, IsContent}
use Rattle.ux_image.specs.declared.code.Code.{Code}
use Rattle.ux_image.specs.declared.code.CodeList.{CodeList}
use Rattle.ux_image.proofs.RenumberLemmas.{Contains-unmap}
use Rattle.ux_image_content.specs.Contents.{told_by, AreRebuilt}
use Rattle.ux_image_content.specs.Walking.{AreCodes, AreLists, IsGood}
use Rattle.ux_image_content.proofs.AcceptedLemmas.{alone}
use Rattle.ux_image_content.proofs.ChosenBackLemmas.{different_itself}
use Rattle.ux_image_content.proofs.ContentLaws.{one_different, one_made}
use Rattle.ux_image_content.proofs.GroupBackLemmas.{apart_front, apart_rest, codes_among, entry_good, groups_of, Groups, IsGoodEntry, IsGroup}
use Rattle.ux_image_content.proofs.PathLemmas.{forms_same}
use Rattle.ux_image_content.proofs.ToldBackLemmas.{beside, sorted_as, tell_alike}
use Rattle.ux_image_lists.specs.Sizes.{count_of, forms_of}
use Rattle.ux_image_look_ups.proofs.EndLemmas.{forms_alive}
use Rattle.ux_image_lexicon.specs.Counting.{TellsEach}
use Rattle.ux_image_lexicon.specs.Told.{content_in, entries_by, entries_told, entry_by, made_of, read_in, AreRead, CodedForms, IsCoded, IsTold}
use Rattle.ux_image_lexicon.specs.declared.codes.ReadList.{ReadList}
use Rattle.ux_image_lexicon.proofs.CountLemmas.{different_made, once_few, text_of}
use Rattle.ux_image_lexicon.proofs.FewLemmas.{lists_long}
use Rattle.ux_image_lexicon.proofs.FoundLemmas.{content_is}
use Rattle.ux_image_lexicon.proofs.ReadLemmas.{forms_rebuilt}

-- the automaton and its lists tell the content, and so many entries of each form as it has codes
pub record TellsContent (content : List Entry) (coded : CodedForms) : Type 0 where
  pub is : IsCoded coded
  pub again : content_in coded ≡ content
  pub each : TellsEach coded (length content)

-- no entry stands twice
abbrev StandOnce : List Entry → Type 0
StandOnce entries = AllPairs (λ x y. x ≢ y) entries

-- then the different ones are all of them
insert_once : (entries : List Entry) → StandOnce entries → insert_all entry_eq [] entries ≡ entries
insert_once entries once =
    one_different entries (insert_all entry_eq [] entries) entries (AreDifferent-insert entries)
    (different_itself entries once)

-- and those of each form stand once
once_by : (lists : List ReadList) (forms : List Form) → StandOnce (entries_told lists forms) →
    (form : Form) → Contains forms form → StandOnce (entries_by lists form)
once_by lists [] once form has = absurd (Contains-nil form has)
once_by lists (f ∷ forms) once form has = elim (Contains-cons_cases f form forms has) [
  | inl same ↦
      subst (λ (g : Form). StandOnce (entries_by lists g)) same
      (apart_front (entries_by lists f) (entries_told lists forms) once)
  | inr later ↦
      once_by lists forms (apart_rest (entries_by lists f) (entries_told lists forms) once) form later
]

-- so each code makes one
made_each : (lists : List ReadList) (form : Form) → StandOnce (entries_by lists form) →
    length (read_in (slice_get lists form.code)) ≡ made_of lists form
made_each lists form once =
    sym (length-map (read_in (slice_get lists form.code)) (entry_by (text_of form)))
    ∙ ap (length {A = Entry}) (sym (insert_once (entries_by lists form) once))
    ∙ different_made lists form

-- no more differ than are told
made_few : (lists : List ReadList) (forms : List Form) →
    sum_by (made_of lists) forms ≤ length (entries_told lists forms)
made_few lists [] = omega arith
made_few lists (f ∷ forms) =
    let rest = made_few lists forms in
    let one = sum_by-cons (made_of lists) f forms in
    let here = once_few (entries_by lists f) in
    let same = different_made lists f in
    let long = length-append (entries_by lists f) (entries_told lists forms) in
    omega (arith, rest, one, here, same, long)

-- what is known of the entries of a dictionary
module _ (content : List Entry) (dictionary : IsDictionary content) (texts : All HasTexts content)
  where
    good : All IsGoodEntry content
    good k d less = record {
      sound = dictionary.sound k d less;
      form = (texts k d less).form;
      lemma = (texts k d less).lemma;
    }

    known : IsContent content → Groups [] content
    known ordered =
        groups_of (length content) [] content (omega arith) ordered.ordered
        (λ entry at. subst (λ (e : Entry). e.form ≢ [])
        (get_or_from_slice_get content 0 entry entry at)
        (ordered.some 0 entry (slice_get_within content 0 entry at))) good dictionary.once

    -- the lists of their codes are such as images have
    pub lists_are : (lists : List CodeList) (forms : List Form) → AreForms content lists forms →
        AreLists lists
    lists_are lists forms are k d less =
        let groups = forms_with_codes content in
        let list = get_or lists k d in
        let group = Contains-unmap (λ (g : List ℕ × CodeList). g.1) groups list
        ((are.once.same list).0 (Contains-get_or lists k d less)) in
        let all = codes_among IsGood content
        (λ i e inside. entry_good (get_or content i e) (good i e inside)) in
        subst (λ (l : CodeList). AreCodes l.codes) group.2
        (All-contains (λ (g : List ℕ × CodeList). AreCodes (g.1).codes) groups group.0 all group.1)

-- the automaton of their forms, with their lists read
module _ (content : List Entry) (dictionary : IsDictionary content) (texts : All HasTexts content)
    (ordered : IsContent content) (lists : List CodeList) (forms : List Form)
    (are : AreForms content lists forms) (states : List State) (root : ℕ)
    (is : IsAutomaton forms states root) (read : List ReadList) (are_read : AreRead lists read)
  where
    abbrev coded : CodedForms
    coded = record { states = states; lists = read }

    abbrev groups : List (List ℕ × CodeList)
    groups = forms_with_codes content

    have : Groups [] content
    have = known content dictionary texts ordered

    -- the forms are those of the automaton
    listed : forms_of states ≡ forms
    listed =
        forms_same forms states root is (in_order [] forms
        (subst (λ (l : List ℕ). AreSorted l forms) chars-nil
        (sorted_as [] forms groups are.letters have.after)))

    -- and with their lists they tell the content
    told_again : entries_told read (forms_of states) ≡ content
    told_again =
        ap (entries_told read) listed
        ∙ one_made (flat_map (told_by lists) forms) (entries_told read forms) content
        (forms_rebuilt lists read are_read forms)
        (subst (λ (t : List (List ℕ × Code)). AreRebuilt t content)
        (sym (tell_alike lists forms groups are.letters are.numbers have.each)) have.rebuilt)

    told_once : StandOnce (entries_told read (forms_of states))
    told_once = subst StandOnce (sym told_again) dictionary.once

    told_form : (form : Form) → Contains forms form → IsTold read form
    told_form form has =
        let spelled = beside (λ (f : Form). f.letters) (λ (g : List ℕ × CodeList). chars g.0) forms
        groups are.letters form has in
        let utf8 = (All-contains IsGroup groups spelled.0 have.each spelled.1).utf8 in
        let text = ap encode_utf8_all spelled.2 ∙ encodes-chars (spelled.0).0 utf8 in
        let numbered = beside (λ (f : Form). slice_get lists f.code)
        (λ (g : List ℕ × CodeList). Some g.1) forms groups are.numbers form has in
        let group = All-contains IsGroup groups numbered.0 have.each numbered.1 in
        let long = lists_long lists read are_read form.code in
        let codes = ap count_of numbered.2 in
        let run = ap (λ (l : CodeList). length l.codes) group.list in
        let many = length-map group.run entry_code in
        let some = group.some in
        record {
          utf8 = subst IsUtf8 (sym text) utf8;
          some = omega (arith, long, codes, run, many, some);
        }

    told : All (IsTold read) (forms_of states)
    told =
        subst (All (IsTold read)) (sym listed)
        (λ k d less. told_form (get_or forms k d) (Contains-get_or forms k d less))

    abbrev at : ℕ → State
    at i = get_or states i bare

    -- each state but the root goes on
    alive : (i : ℕ) → i + 1 < length states → IsAlive (at i)
    alive i inside = by (at i).code (at i).edges refl refl
      where
        by : (code : Option ℕ) (edges : List Edge) → (at i).code ≡ code → (at i).edges ≡ edges →
            IsAlive (at i)
        by (Some code) edges final are = inl (code, final)
        by None (e ∷ edges) final are =
            inr (e, subst (λ (l : List Edge). Contains l e) (sym are) (0, omega arith, refl))
        by None [] final are =
            let one = alone states forms root is i (at i)
            (slice_get-get_or states i bare (omega (arith, inside))) final are in
            absurd (omega (arith, one, inside))

    coded_text : length states < 2 ^ 32 → length content < 2 ^ 64 → IsCoded coded
    coded_text few some = record {
      automaton = record {
        some = let last = is.last in omega (arith, last);
        few = few;
        fit = is.fit;
      };
      forms = forms_alive states is.fit alive;
      told = told;
      sound = subst (All IsSound) (sym told_again) dictionary.sound;
      few =
          let sum = made_few read (forms_of states) in
          let same = ap (length {A = Entry}) told_again in
          omega (arith, sum, same, some);
    }

    -- so its content is the same
    content_again : IsCoded coded → content_in coded ≡ content
    content_again coded_is =
        content_is coded coded_is ∙ ap (insert_all entry_eq []) told_again
        ∙ insert_once content dictionary.once

    each_told : IsCoded coded → TellsEach coded (length content)
    each_told coded_is = record {
      total = ap (length {A = Entry}) (sym (content_again coded_is));
      each = λ k d less.
          made_each read (get_or (forms_of states) k d)
          (once_by read (forms_of states) told_once (get_or (forms_of states) k d)
          (Contains-get_or (forms_of states) k d less));
    }

    pub whole : length states < 2 ^ 32 → length content < 2 ^ 64 → TellsContent content coded
    whole few some =
        let coded_is = coded_text few some in
        record { is = coded_is; again = content_again coded_is; each = each_told coded_is }

-- the same of a content that was lent
pub text_told : (content lent shown : List Entry) → lent ≡ content → shown ≡ content →
    IsDictionary content → IsContent lent → All HasTexts lent → (lists : List CodeList)
    (forms : List Form) → AreForms shown lists forms → (states : List State) →
    IsMinimalOf forms states → length states < 2 ^ 32 → length content < 2 ^ 64 →
    (read : List ReadList) → AreRead lists read →
    TellsContent content (record { states = states; lists = read })
text_told content lent shown here there dictionary ordered texts lists forms are states minimal few
    some read are_read =
    whole content dictionary (subst (λ (l : List Entry). All HasTexts l) here texts)
    (subst IsContent here ordered) lists forms
    (subst (λ (l : List Entry). AreForms l lists forms) there are) states minimal.0 minimal.1 read
    are_read few some
