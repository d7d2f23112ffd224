-- How many entries the content of an automaton has, and how many of one form.
use Rattle.std.proofs.Common.{◌≡◌, ◌↔◌, ℕ, ◌+◌, ◌<◌, ◌≤◌, List, [], ◌∷◌, ◌++◌, Bool, true, false, cond, length, get_or, refl, sym, ◌∙◌, ap, subst, inl, inr, arith}
use Rattle.std.specs.Prelude.{All, Contains, bytes_eq, slice_get, sum_by}
use Rattle.std.specs.Cmp.Lexicographic.{bytes_decides, slice_cmp}
use Rattle.std.specs.Ordering.{nat_cmp}
use Rattle.std.specs.List.{list_any}
use Rattle.std.specs.Str.{encode_utf8_all}
use Rattle.std.proofs.lemmas.Cmp.{nat_list_cmp_total, tied_itself}
use Rattle.std.proofs.lemmas.List.{append-nil, length_push}
use Rattle.std.proofs.lemmas.List.Elements.{All-contains, Contains-get_or}
use Rattle.std.proofs.lemmas.List.Sums.{length-filter, sum_by-cons}
use Rattle.std.proofs.lemmas.Str.{encodes_same}
use Rattle.indexmap.specs.IndexSet.{insert_key, insert_all}
use Rattle.ux_dawg.proofs.FormsLemmas.{AreInOrder, Precedes}
use Rattle.ux_dawg.specs.declared.state.Form.{Form}
use Rattle.ux_dela.specs.declared.entry.Entry.{Entry}
use Rattle.ux_dict.specs.Equal.{entry_eq}
use Rattle.ux_dict.specs.Forms.{count_of, IsChosen, none, kept, left}
use Rattle.ux_dict.proofs.ChosenLemmas.{chosen-append, chosen-filter, chosen-none, chosen-only}
use Rattle.ux_base.proofs.OrderedLists.{Contains-cons_cases, Contains-nil}
use Rattle.ux_image_lists.specs.Sizes.{forms_of}
use Rattle.ux_image_look_ups.proofs.WayLemmas.{chosen-full}
use Rattle.ux_image_lexicon.specs.Told.{content_in, entries_by, entries_once, entries_told, made_of, read_in, CodedForms, IsCoded}
use Rattle.ux_image_lexicon.specs.Counting.{different_by}
use Rattle.ux_image_lexicon.specs.declared.codes.ReadList.{ReadList}
use Rattle.ux_image_lexicon.proofs.FoundLemmas.{content_is, of_form}
use Rattle.ux_image_lexicon.proofs.OnceLemmas.{chosen-flat, chosen-once}
use Rattle.ux_image_lexicon.proofs.OrderLemmas.{forms_are, forms_up}

-- the text of a form
abbrev pub text_of : Form → List ℕ
text_of form = encode_utf8_all form.letters

abbrev HasLetters : Form → Form → Type 0
HasLetters f g = g.letters ≡ f.letters

abbrev HasForm : List ℕ → Entry → Type 0
HasForm text entry = entry.form ≡ text

-- a form that comes before another has other letters
before_differs : (f g : Form) → Precedes f g → f.letters ≡ g.letters → ⊥
before_differs f g before same =
    let tied = tied_itself nat_list_cmp_total f.letters in
    let moved = ap (slice_cmp nat_cmp f.letters) same in cc

-- of forms in order one has the letters of a member
chosen-form : (forms : List Form) (f : Form) → AreInOrder forms → Contains forms f →
    IsChosen (HasLetters f) forms (f ∷ [])
chosen-form [] f order has = absurd (Contains-nil f has)
chosen-form (g ∷ forms) f order has = elim (Contains-cons_cases g f forms has) [
  | inl same ↦
      subst (λ (x : Form). IsChosen (HasLetters x) (g ∷ forms) (x ∷ [])) same
      (kept refl (chosen-none (HasLetters g) forms (λ k d less e.
      before_differs g (get_or forms k d)
      (order.0 (get_or forms k d) (Contains-get_or forms k d less)) (sym e))))
  | inr later ↦
      left (λ e. before_differs g f (order.0 f later) e) (chosen-form forms f order.1 later)
]

-- the entries of a form are of this text where it has these letters
entries_alike : (lists : List ReadList) (f g : Form) →
    All (λ entry. HasForm (text_of f) entry ↔ HasLetters f g) (entries_by lists g)
entries_alike lists f g k d less =
    let own = forms_are lists g k d less in (
      λ e. encodes_same g.letters f.letters (sym own ∙ e),
      λ e. own ∙ ap encode_utf8_all e,
    )

-- as many have the form as are chosen by it
counted : (text : List ℕ) (content chosen : List Entry) → IsChosen (HasForm text) content chosen →
    count_of text content ≡ length chosen
counted text content chosen is =
    let test : Entry → Bool = λ e. bytes_eq e.form text in
    sym (length-filter test content)
    ∙ ap (length {A = Entry}) (chosen-only (HasForm text)
    (chosen-filter (HasForm text) test content
    (λ k d less. bytes_decides (get_or content k d).form text)) is)

-- two lists of which each member is chosen for one or for the other
two_parts : (P : Entry → Type 0) {xs ys zs : List Entry} → IsChosen P xs ys →
    IsChosen (λ e. P e → ⊥) xs zs → length xs ≡ length ys + length zs
two_parts P none none = refl
two_parts P (kept p rest) (kept fails more) = absurd (fails p)
two_parts P (kept p rest) (left other more) =
    let both = two_parts P rest more in omega (arith, both)
two_parts P (left fails rest) (kept q more) =
    let both = two_parts P rest more in omega (arith, both)
two_parts P (left fails rest) (left other more) = absurd (other fails)

module _ (coded : CodedForms) (is : IsCoded coded) where
  abbrev forms : List Form
  forms = forms_of coded.states

  abbrev lists : List ReadList
  lists = coded.lists

  abbrev made : List Entry
  made = entries_told lists forms

  -- of the content as many entries have a form as its list makes
  pub count_at : (f : Form) → Contains forms f →
      count_of (text_of f) (content_in coded) ≡ made_of lists f
  count_at f has =
      let P = HasForm (text_of f) in
      ap (count_of (text_of f)) (content_is coded is)
      ∙ counted (text_of f) (insert_all entry_eq [] made) (entries_once lists (f ∷ []))
      (chosen-once P (chosen-flat (HasLetters f) P (entries_by lists)
      (λ k d less. entries_alike lists f (get_or forms k d))
      (chosen-form forms f (forms_up coded is) has)))

  -- and none, where no form is the text
  pub count_none : (text : List ℕ) → ((f : Form) → Contains forms f → text_of f ≡ text → ⊥) →
      count_of text (content_in coded) ≡ 0
  count_none text other =
      let P = HasForm text in
      ap (count_of text) (content_is coded is)
      ∙ counted text (insert_all entry_eq [] made) (insert_all entry_eq [] [])
      (chosen-once P (chosen-none P made (λ k d less e.
      let entry = get_or made k d in
      let of = of_form coded is forms entry (Contains-get_or made k d less) in
      other of.0 of.1 (sym (All-contains (HasForm (text_of of.0)) (entries_by lists of.0) entry
      (forms_are lists of.0) of.2) ∙ e))))

  once_sum : (some : List Form) → AreInOrder some →
      length (entries_once lists some) ≡ sum_by (made_of lists) some
  once_sum [] order = refl
  once_sum (f ∷ some) order =
      let P = HasForm (text_of f) in
      let No : Entry → Type 0 = λ e. P e → ⊥ in
      let here = entries_by lists f in
      let rest = entries_told lists some in
      let others : All No rest = λ k d less e.
      let entry = get_or rest k d in
      let of = of_form coded is some entry (Contains-get_or rest k d less) in
      before_differs f of.0 (order.0 of.0 of.1) (encodes_same f.letters of.0.letters
      (sym e ∙ All-contains (HasForm (text_of of.0)) (entries_by lists of.0) entry
      (forms_are lists of.0) of.2)) in
      let both = two_parts P
      (chosen-once P (chosen-append P (chosen-full P here (forms_are lists f))
      (chosen-none P rest others)))
      (chosen-once No (chosen-append No
      (chosen-none No here (λ k d less fails. fails (forms_are lists f k d less)))
      (chosen-full No rest others))) in
      let more = once_sum some order.1 in
      let sums = sum_by-cons (made_of lists) f some in
      omega (arith, both, more, sums)

  -- the content has as many entries as the lists make of all forms
  pub content_length : length (content_in coded) ≡ sum_by (made_of lists) forms
  content_length = ap (length {A = Entry}) (content_is coded is) ∙ once_sum forms (forms_up coded is)

-- AT MOST ONE ENTRY A CODE

put_long : (keys : List Entry) (x : Entry) →
    (length keys ≤ length (insert_key entry_eq keys x))
    × (length (insert_key entry_eq keys x) ≤ length keys + 1)
put_long keys x = by (list_any (entry_eq x) keys)
  where
    by : (b : Bool) → (length keys ≤ length (cond b keys (keys ++ x ∷ [])))
        × (length (cond b keys (keys ++ x ∷ [])) ≤ length keys + 1)
    by true = (omega arith, omega arith)
    by false = let long = length_push keys x in (omega (arith, long), omega (arith, long))

all_long : (keys xs : List Entry) →
    (length keys ≤ length (insert_all entry_eq keys xs))
    × (length (insert_all entry_eq keys xs) ≤ length keys + length xs)
all_long keys [] = (omega arith, omega arith)
all_long keys (x ∷ xs) =
    let one = put_long keys x in
    let more = all_long (insert_key entry_eq keys x) xs in
    (omega (arith, one.0, more.0), omega (arith, one.1, more.1))

-- of entries at most as many differ
pub once_few : (xs : List Entry) → length (insert_all entry_eq [] xs) ≤ length xs
once_few xs = let long = (all_long [] xs).1 in omega (arith, long)

-- and one at least, where there is one
pub once_some : (xs : List Entry) → 0 < length xs → 0 < length (insert_all entry_eq [] xs)
once_some [] some = absurd (omega (arith, some))
once_some (x ∷ xs) some = let long = (all_long (x ∷ []) xs).0 in omega (arith, long)

-- the codes of its list make as many entries of a form as are told of it
pub different_made : (lists : List ReadList) (form : Form) →
    different_by (text_of form) (read_in (slice_get lists form.code)) ≡ made_of lists form
different_made lists form =
    ap (λ (l : List Entry). length (insert_all entry_eq [] l))
    (sym (append-nil (entries_by lists form)))
