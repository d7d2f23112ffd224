-- The forms of a content with their codes, a form at a time.
use Rattle.std.proofs.Common.{arith, ◌≡◌, ◌≢◌, ℕ, ◌+◌, ◌<◌, List, [], ◌∷◌, ◌++◌, append_assoc, Bool, true, false, not, cond, inl, inr, refl, sym, ◌∙◌, ap, subst, length, take, drop, map, filter}
use Rattle.std.specs.Prelude.{All, Some, slice_get}
use Rattle.std.specs.Cmp.Lexicographic.{slice_cmp}
use Rattle.std.specs.List.{take_while}
use Rattle.std.specs.Ordering.{nat_cmp}
use Rattle.std.specs.declared.cmp.Ordering.TheVariants.{Less}
use Rattle.std.specs.Str.{bytes_eq, chars}
use Rattle.std.proofs.lemmas.Option.{none-some, same_Some}
use Rattle.std.proofs.lemmas.Str.{chars-nil}
use Rattle.std.proofs.lemmas.Slice.Eq.{bytes_eq-Decides}
use Rattle.std.proofs.lemmas.List.{append-nil, map-append, take-append-drop, length-take, length-drop}
use Rattle.std.proofs.lemmas.List.Elements.{All-cons, All-head, All-tail, All-filter, All-weaker, All-map, filter-append}
use Rattle.ux_base.specs.Distinct.{each_once, AreFirsts}
use Rattle.ux_base.proofs.DistinctLemmas.{differs}
use Rattle.ux_base.proofs.FirstsLemmas.{AreFirsts-nil}
use Rattle.ux_dawg.specs.Forms.{last_letters}
use Rattle.ux_dawg.specs.declared.state.Form.{Form}
use Rattle.ux_dawg.proofs.FormsLemmas.{last_letters-push}
use Rattle.ux_dela.specs.declared.entry.Entry.{Entry}
use Rattle.ux_image.specs.Contents.{AreInOrder, IsContent, Precedes, forms_in, entries_of_form, code_list, forms_with_codes, AreNumbered, AreForms}
use Rattle.ux_image.specs.Grouping.{ComesNext, IsPut, IsGrouped}
use Rattle.ux_image.specs.declared.code.CodeList.{CodeList}
use Rattle.ux_image.proofs.OrderLemmas.{has_form, run_of, run_same, run_some, run_first, behind_run, others_behind}

is_false : (b : Bool) → (b ≡ true → ⊥) → b ≡ false
is_false true h = absurd (h refl)
is_false false h = refl

-- a filter that all pass, and one that none does
module _ {X : Type 0} (p : X → Bool) where
  pub filter_all : (xs : List X) → All (λ x. p x ≡ true) xs → filter p xs ≡ xs
  filter_all [] all = refl
  filter_all (x ∷ xs) all =
      ap (λ b. cond b (x ∷ filter p xs) (filter p xs)) (All-head (λ y. p y ≡ true) x xs all)
      ∙ ap (λ (ys : List X). x ∷ ys) (filter_all xs (All-tail (λ y. p y ≡ true) x xs all))

  pub filter_none : (xs : List X) → All (λ x. p x ≡ false) xs → filter p xs ≡ []
  filter_none [] all = refl
  filter_none (x ∷ xs) all =
      ap (λ b. cond b (x ∷ filter p xs) (filter p xs)) (All-head (λ y. p y ≡ false) x xs all)
      ∙ filter_none xs (All-tail (λ y. p y ≡ false) x xs all)

-- functions that agree on a list map it alike
pub map_agree : {X Y : Type 0} (f g : X → Y) (xs : List X) → All (λ x. f x ≡ g x) xs →
    map f xs ≡ map g xs
map_agree f g [] all = refl
map_agree {X} {Y} f g (x ∷ xs) all =
    ap (λ (y : Y). y ∷ map f xs) (All-head (λ y. f y ≡ g y) x xs all)
    ∙ ap (λ (ys : List Y). g x ∷ ys) (map_agree f g xs (All-tail (λ y. f y ≡ g y) x xs all))

-- what holds of each text holds of each once
once_all : (P : List ℕ → Type 0) (texts : List (List ℕ)) → All P texts → All P (each_once texts)
once_all P [] all = all
once_all P (text ∷ texts) all =
    All-cons P text (filter (differs text) (each_once texts)) (All-head P text texts all)
    (All-filter (differs text) P (each_once texts)
    (once_all P texts (All-tail P text texts all)))

module _ (form : List ℕ) (behind : List Entry)
    (others : All (λ (e : Entry). e.form ≢ form) behind) where
  others_forms : All (λ other. other ≢ form) (forms_in behind)
  others_forms =
      once_all (λ other. other ≢ form) (map (λ (e : Entry). e.form) behind)
      (All-map (λ other. other ≢ form) (λ (e : Entry). e.form) behind others)

  -- leaving the form out leaves their forms
  left_out : filter (differs form) (forms_in behind) ≡ forms_in behind
  left_out =
      filter_all (differs form) (forms_in behind)
      (All-weaker (λ other. other ≢ form) (λ other. differs form other ≡ true)
      (λ other apart. ap not (is_false (bytes_eq form other)
      (λ same. apart (sym ((bytes_eq-Decides form other).0 same))))) (forms_in behind) others_forms)

  run_out : (run : List Entry) → All (λ (e : Entry). e.form ≡ form) run →
      filter (differs form) (forms_in (run ++ behind)) ≡ forms_in behind
  run_out [] same = left_out
  run_out (entry ∷ run) same =
      let here : entry.form ≡ form = All-head (λ (e : Entry). e.form ≡ form) entry run same in
      let later = run_out run (All-tail (λ (e : Entry). e.form ≡ form) entry run same) in
      let rest = forms_in (run ++ behind) in
      let itself : differs form form ≡ false = ap not ((bytes_eq-Decides form form).1 refl) in
      ap (λ (t : List ℕ). filter (differs form) (t ∷ filter (differs t) rest)) here
      ∙ ap (λ b. cond b (form ∷ filter (differs form) (filter (differs form) rest))
      (filter (differs form) (filter (differs form) rest))) itself
      ∙ ap (filter (differs form)) later
      ∙ left_out

  -- the forms of a run and what is behind it
  forms_cut : (entry : Entry) (run : List Entry) → entry.form ≡ form →
      All (λ (e : Entry). e.form ≡ form) run →
      forms_in (entry ∷ (run ++ behind)) ≡ form ∷ forms_in behind
  forms_cut entry run here same =
      ap (λ (t : List ℕ). t ∷ filter (differs t) (forms_in (run ++ behind))) here
      ∙ ap (λ (ts : List (List ℕ)). form ∷ ts) (run_out run same)

  -- the run has the entries of the form, and those behind have the entries of the others
  entries_here : (run : List Entry) → All (λ (e : Entry). e.form ≡ form) run →
      entries_of_form form (run ++ behind) ≡ run
  entries_here run same =
      filter-append (has_form form) run behind
      ∙ ap (λ (es : List Entry). es ++ filter (has_form form) behind)
      (filter_all (has_form form) run
      (All-weaker (λ (e : Entry). e.form ≡ form) (λ (e : Entry). has_form form e ≡ true)
      (λ e is. (bytes_eq-Decides e.form form).1 is) run same))
      ∙ ap (λ (es : List Entry). run ++ es) (filter_none (has_form form) behind
      (All-weaker (λ (e : Entry). e.form ≢ form) (λ (e : Entry). has_form form e ≡ false)
      (λ e apart. is_false (bytes_eq e.form form)
      (λ is. apart ((bytes_eq-Decides e.form form).0 is))) behind others))
      ∙ append-nil run

  entries_there : (run : List Entry) → All (λ (e : Entry). e.form ≡ form) run →
      (other : List ℕ) → other ≢ form →
      entries_of_form other (run ++ behind) ≡ entries_of_form other behind
  entries_there run same other apart =
      filter-append (has_form other) run behind
      ∙ ap (λ (es : List Entry). es ++ filter (has_form other) behind)
      (filter_none (has_form other) run
      (All-weaker (λ (e : Entry). e.form ≡ form) (λ (e : Entry). has_form other e ≡ false)
      (λ e is. is_false (bytes_eq e.form other)
      (λ yes. apart (sym ((bytes_eq-Decides e.form other).0 yes) ∙ is))) run same))

  -- so the first form has the codes of the run, and the others have theirs
  pub groups_cut : (entry : Entry) (run : List Entry) → entry.form ≡ form →
      All (λ (e : Entry). e.form ≡ form) run →
      forms_with_codes (entry ∷ (run ++ behind))
      ≡ (form, code_list (entry ∷ run)) ∷ forms_with_codes behind
  groups_cut entry run here same =
      let all = All-cons (λ (e : Entry). e.form ≡ form) entry run here same in
      let whole = entry ∷ (run ++ behind) in
      ap (map (λ (f : List ℕ). (f, code_list (entries_of_form f whole))))
      (forms_cut entry run here same)
      ∙ ap (λ (es : List Entry). (form, code_list es)
      ∷ map (λ (f : List ℕ). (f, code_list (entries_of_form f whole))) (forms_in behind))
      (entries_here (entry ∷ run) all)
      ∙ ap (λ (gs : List (List ℕ × CodeList)). (form, code_list (entry ∷ run)) ∷ gs)
      (map_agree (λ (f : List ℕ). (f, code_list (entries_of_form f whole)))
      (λ (f : List ℕ). (f, code_list (entries_of_form f behind))) (forms_in behind)
      (All-weaker (λ f. f ≢ form)
      (λ f. ◌≡◌ {A = List ℕ × CodeList} (f, code_list (entries_of_form f whole))
      (f, code_list (entries_of_form f behind)))
      (λ f apart. ap (λ (es : List Entry). (f, code_list es))
      (entries_there (entry ∷ run) all f apart)) (forms_in behind) others_forms))

-- numbers stay those of their lists
numbers_kept : (old new : List CodeList) → ((k : ℕ) (x : CodeList) → slice_get old k ≡ Some x →
    slice_get new k ≡ Some x) → (forms : List Form) (groups : List (List ℕ × CodeList)) →
    map (λ (f : Form). slice_get old f.code) forms ≡ map (λ g. Some g.1) groups →
    map (λ (f : Form). slice_get new f.code) forms ≡ map (λ g. Some g.1) groups
numbers_kept old new kept [] groups is = is
numbers_kept old new kept (f ∷ forms) [] is = absurd (omega (arith, ap length is))
numbers_kept old new kept (f ∷ forms) (g ∷ groups) is =
    let first : slice_get old f.code ≡ Some g.1 = cc in
    let later : map (λ (f : Form). slice_get old f.code) forms ≡ map (λ g. Some g.1) groups = cc in
    let here = kept f.code g.1 first in
    let rest = numbers_kept old new kept forms groups later in
    cc

-- one form more
numbered_more : (groups : List (List ℕ × CodeList)) (lists lists' : List CodeList)
    (forms forms' : List Form) (form : List ℕ) (run : List Entry) →
    AreNumbered groups lists forms → IsPut form run lists lists' forms forms' →
    AreNumbered (groups ++ (form, code_list run) ∷ []) lists' forms'
numbered_more groups lists lists' forms forms' form run are put = record {
  once = subst (λ (l : List CodeList). AreFirsts l lists')
      (sym (map-append (λ (g : List ℕ × CodeList). g.1) groups ((form, code_list run) ∷ [])))
      (put.kept.grows (map (λ (g : List ℕ × CodeList). g.1) groups) are.once);
  letters =
      let f : Form = record { letters = chars form; code = put.number } in
      ap (map (λ (f : Form). f.letters)) put.pushed
      ∙ map-append (λ (f : Form). f.letters) forms (f ∷ [])
      ∙ ap (λ (ls : List (List ℕ)). ls ++ chars form ∷ []) are.letters
      ∙ sym (map-append (λ (g : List ℕ × CodeList). chars g.0) groups
      ((form, code_list run) ∷ []));
  numbers =
      let f : Form = record { letters = chars form; code = put.number } in
      ap (map (λ (f : Form). slice_get lists' f.code)) put.pushed
      ∙ map-append (λ (f : Form). slice_get lists' f.code) forms (f ∷ [])
      ∙ ap (λ ls. ls ++ slice_get lists' put.number ∷ [])
      (numbers_kept lists lists' put.kept.same forms groups are.numbers)
      ∙ ap (λ l. map (λ (g : List ℕ × CodeList). Some g.1) groups ++ l ∷ []) put.kept.stored
      ∙ sym (map-append (λ (g : List ℕ × CodeList). Some g.1) groups
      ((form, code_list run) ∷ []));
}

-- at the start no form is numbered
pub grouped_start : (content : List Entry) (lists : List CodeList) (forms : List Form) →
    IsContent content → lists ≡ [] → forms ≡ [] → IsGrouped content content lists forms
grouped_start content lists forms is no_list no_form =
    subst (λ (l : List CodeList). IsGrouped content content l forms) (sym no_list)
    (subst (λ (f : List Form). IsGrouped content content [] f) (sym no_form) (record {
      last = [];
      so_far = sym chars-nil;
      ordered = is.ordered;
      fresh = λ entry at. first_some content is.some entry at;
      done = [];
      whole = refl;
      numbered = record { once = AreFirsts-nil; letters = refl; numbers = refl };
    }))
  where
    first_some : (entries : List Entry) → All (λ (e : Entry). e.form ≢ []) entries →
        (entry : Entry) → slice_get entries 0 ≡ Some entry → entry.form ≢ []
    first_some [] some entry at = absurd (none-some entry at)
    first_some (e ∷ entries) some entry at =
        subst (λ (x : Entry). x.form ≢ []) (same_Some e entry at)
        (All-head (λ (x : Entry). x.form ≢ []) e entries some)

-- the form of the first that is left comes after the last one
pub comes_next : (content rest : List Entry) (lists : List CodeList) (forms : List Form)
    (first : Entry) (letters : List ℕ) → IsGrouped content rest lists forms →
    slice_get rest 0 ≡ Some first → letters ≡ chars first.form → ComesNext forms letters
comes_next content [] lists forms first letters is at spelled = absurd (none-some first at)
comes_next content (entry ∷ rest) lists forms first letters is at spelled =
    let one = same_Some entry first at in
    let after : Precedes is.last entry.form = elim is.ordered.0 [
      | inl same ↦ absurd (is.fresh entry refl same)
      | inr more ↦ more
    ] in
    let here : ComesNext forms (chars entry.form) =
    subst (λ (l : List ℕ). slice_cmp nat_cmp l (chars entry.form) ≡ Less) (sym is.so_far) after in
    subst (ComesNext forms) (ap (λ (e : Entry). chars e.form) one ∙ sym spelled) here

-- and then those of one form after another
pub grouped_more : (content rest run behind : List Entry) (first : Entry)
    (lists lists' : List CodeList) (forms forms' : List Form) →
    IsGrouped content rest lists forms → slice_get rest 0 ≡ Some first →
    run ≡ take (run_of first.form rest) rest → behind ≡ drop (run_of first.form rest) rest →
    IsPut first.form run lists lists' forms forms' → IsGrouped content behind lists' forms'
grouped_more content [] run behind first lists lists' forms forms' so_far at is_run is_behind put =
    absurd (none-some first at)
grouped_more content (entry ∷ rest) run behind first lists lists' forms forms' so_far at is_run
    is_behind put = record {
      last = first.form;
      so_far = ap (last_letters []) put.pushed
          ∙ last_letters-push [] forms (record { letters = chars first.form; code = put.number });
      ordered = after.0;
      fresh = after.1;
      done = so_far.done ++ (first.form, code_list run) ∷ [];
      whole = append_assoc so_far.done ((first.form, code_list run) ∷ []) (forms_with_codes behind)
          ∙ ap (λ (gs : List (List ℕ × CodeList)). so_far.done ++ gs) (sym cut) ∙ so_far.whole;
      numbered = numbered_more so_far.done lists lists' forms forms' first.form run so_far.numbered
          put;
    }
  where
    one : entry ≡ first
    one = same_Some entry first at

    here : entry.form ≡ first.form
    here = ap (λ (e : Entry). e.form) one

    whole_order : AreInOrder first.form (entry ∷ rest)
    whole_order = (inl here, so_far.ordered.1)

    after : AreInOrder first.form behind
        × ((e : Entry) → slice_get behind 0 ≡ Some e → e.form ≢ first.form)
    after =
        subst (λ (es : List Entry). AreInOrder first.form es
        × ((e : Entry) → slice_get es 0 ≡ Some e → e.form ≢ first.form)) (sym is_behind)
        (behind_run first.form (entry ∷ rest) whole_order)

    others : All (λ (e : Entry). e.form ≢ first.form) behind
    others = others_behind first.form behind after.0 after.1

    same : All (λ (e : Entry). e.form ≡ first.form) run
    same =
        subst (λ (es : List Entry). All (λ (e : Entry). e.form ≡ first.form) es) (sym is_run)
        (run_same first.form (entry ∷ rest))

    together : entry ∷ rest ≡ run ++ behind
    together =
        sym (take-append-drop (run_of first.form (entry ∷ rest)) (entry ∷ rest))
        ∙ ap (λ (es : List Entry). es ++ drop (run_of first.form (entry ∷ rest)) (entry ∷ rest))
        (sym is_run)
        ∙ ap (λ (es : List Entry). run ++ es) (sym is_behind)

    cut : forms_with_codes (entry ∷ rest)
        ≡ (first.form, code_list run) ∷ forms_with_codes behind
    cut = ap forms_with_codes together ∙ of_run run same some
      where
        some : run ≢ []
        some none =
            let n = run_of first.form (entry ∷ rest) in
            omega (
              arith,
              run_some first.form entry rest here,
              ap (length {A = Entry}) (sym is_run ∙ none),
              length-take n (entry ∷ rest),
            )

        of_run : (es : List Entry) → All (λ (e : Entry). e.form ≡ first.form) es → es ≢ [] →
            forms_with_codes (es ++ behind)
            ≡ (first.form, code_list es) ∷ forms_with_codes behind
        of_run [] all some = absurd (some refl)
        of_run (e ∷ es) all some =
            groups_cut first.form behind others e es
            (All-head (λ (e : Entry). e.form ≡ first.form) e es all)
            (All-tail (λ (e : Entry). e.form ≡ first.form) e es all)

-- the same, as the function counts and cuts
module _ (content rest run behind : List Entry) (first : Entry) (later : List Entry)
    (form : List ℕ) (count : ℕ) (cut : rest ≡ first ∷ later) (is_form : form ≡ first.form)
    (counted : count ≡ length (take_while (has_form form) later))
    (front : run ≡ take (1 + count) rest) (back : behind ≡ drop (1 + count) rest) where
  counts : 1 + count ≡ run_of first.form rest
  counts =
      run_first form first later count is_form counted
      ∙ ap (λ (t : List ℕ). run_of t (first ∷ later)) is_form
      ∙ ap (run_of first.form) (sym cut)

  pub grouped_step : (lists lists' : List CodeList) (forms forms' : List Form) →
      IsGrouped content rest lists forms → IsPut form run lists lists' forms forms' →
      IsGrouped content behind lists' forms'
  grouped_step lists lists' forms forms' so_far put =
      grouped_more content rest run behind first lists lists' forms forms' so_far
      (ap (λ (es : List Entry). slice_get es 0) cut)
      (front ∙ ap (λ n. take n rest) counts) (back ∙ ap (λ n. drop n rest) counts)
      (subst (λ (t : List ℕ). IsPut t run lists lists' forms forms') is_form put)

  pub behind_shorter : length behind < length rest
  behind_shorter =
      omega (
        arith,
        ap (length {A = Entry}) cut,
        ap (length {A = Entry}) back,
        length-drop (1 + count) rest,
      )

-- at the end all are
pub grouped_end : (content rest : List Entry) (lists : List CodeList) (forms : List Form) →
    IsGrouped content rest lists forms → length rest ≡ 0 → AreForms content lists forms
grouped_end content (entry ∷ rest) lists forms so_far none = absurd (omega (arith, none))
grouped_end content [] lists forms so_far none =
    subst (λ (gs : List (List ℕ × CodeList)). AreNumbered gs lists forms)
    (sym (append-nil so_far.done) ∙ so_far.whole) so_far.numbered
