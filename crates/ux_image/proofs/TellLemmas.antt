-- An image's automaton has each form of the content, with the number of its list of codes.
use Rattle.std.proofs.Common.{arith, ◌≡◌, ℕ, zero, suc, List, [], ◌∷◌, inl, inr, sym, ◌∙◌, ap, length, map}
use Rattle.std.specs.Prelude.{All, Contains, Some, slice_get}
use Rattle.std.specs.List.{cons_option}
use Rattle.std.proofs.lemmas.List.Elements.{All-nil, All-cons}
use Rattle.std.proofs.lemmas.Option.{none-some, same_Some}
use Rattle.std.proofs.lemmas.Simd.{map-map}
use Rattle.ux_base.proofs.FirstsLemmas.{Contains-first, Contains-after, Contains-cases, Contains-none}
use Rattle.ux_dawg.specs.declared.state.Form.{Form}
use Rattle.ux_dela.specs.declared.entry.Entry.{Entry}
use Rattle.ux_image.specs.Contents.{forms_with_codes}
use Rattle.ux_image.specs.Images.{IsImage, Tells, renumbered, lists_of}
use Rattle.ux_image.specs.declared.code.CodeList.{CodeList}
use Rattle.ux_image.proofs.GroupLemmas.{map_agree}
use Rattle.ux_image.proofs.RenumberLemmas.{place_of, place_holds, path_used, new_form, renumbered_is, number_of_form}

-- each form has a list
form_has_list : (lists : List CodeList) (groups : List (List ℕ × CodeList)) (forms : List Form) →
    map (λ (f : Form). slice_get lists f.code) forms ≡ map (λ g. Some g.1) groups → (form : Form) →
    Contains forms form → (list : CodeList) × (slice_get lists form.code ≡ Some list)
form_has_list lists groups [] is form has = absurd (Contains-none form has)
form_has_list lists [] (f ∷ forms) is form has = absurd (omega (arith, ap length is))
form_has_list lists (g ∷ groups) (f ∷ forms) is form has = elim (Contains-cases f form forms has) [
  | inl same ↦
      let here : slice_get lists f.code ≡ Some g.1 = cc in
      (g.1, ap (λ (x : Form). slice_get lists x.code) (sym same) ∙ here)
  | inr there ↦
      let later : map (λ (f : Form). slice_get lists f.code) forms
      ≡ map (λ (g : List ℕ × CodeList). Some g.1) groups = cc in
      form_has_list lists groups forms later form there
]

-- where each number has a list, the list of a place is that of the number there
list_at_place : (lists : List CodeList) (order : List ℕ) →
    ((n : ℕ) → Contains order n → (l : CodeList) × (slice_get lists n ≡ Some l)) → (k n : ℕ) →
    slice_get order k ≡ Some n → slice_get (lists_of lists order) k ≡ slice_get lists n
list_at_place lists [] have k n at = absurd (none-some n at)
list_at_place lists (m ∷ order) have k n at =
    let here = have m (Contains-first m order) in
    ap (λ o. slice_get (cons_option o (lists_of lists order)) k) here.1
    ∙ by k at here.0 here.1
    (list_at_place lists order (λ x has. have x (Contains-after m x order has)))
  where
    by : (k : ℕ) → slice_get (m ∷ order) k ≡ Some n → (l : CodeList) → slice_get lists m ≡ Some l →
        ((j x : ℕ) → slice_get order j ≡ Some x →
        slice_get (lists_of lists order) j ≡ slice_get lists x) →
        slice_get (l ∷ lists_of lists order) k ≡ slice_get lists n
    by zero at l is later = sym (ap (slice_get lists) (sym (same_Some m n at)) ∙ is)
    by (suc k) at l is later = later k n at

-- what holds of what a list contains holds of each element
all_from : {X : Type 0} (P : X → Type 0) (xs : List X) → ((x : X) → Contains xs x → P x) → All P xs
all_from P [] each = All-nil P
all_from P (x ∷ xs) each =
    All-cons P x xs (each x (Contains-first x xs))
    (all_from P xs (λ y has. each y (Contains-after x y xs has)))

pub image_tells : (content : List Entry) (bytes : List ℕ) → IsImage content bytes →
    Tells content bytes
image_tells content bytes image = record {
  states = map (renumbered image.order) image.states;
  lists = lists_of image.lists image.order;
  forms = map into image.forms;
  laid_out = image.laid_out;
  minimal = (
    image.minimal.0,
    renumbered_is image.states image.order image.first_used image.forms image.minimal.0
        image.minimal.1,
  );
  letters = map-map (λ (f : Form). f.letters) into image.forms ∙ image.are_forms.letters;
  numbers = map-map (λ (f : Form). slice_get (lists_of image.lists image.order) f.code) into
      image.forms
      ∙ map_agree (λ (f : Form). slice_get (lists_of image.lists image.order)
      (place_of image.order f.code)) (λ (f : Form). slice_get image.lists f.code) image.forms
      (all_from (λ (f : Form). slice_get (lists_of image.lists image.order)
      (place_of image.order f.code) ≡ slice_get image.lists f.code) image.forms moved)
      ∙ image.are_forms.numbers;
}
  where
    into : Form → Form
    into = new_form image.states image.order image.first_used

    have : (n : ℕ) → Contains image.order n →
        (l : CodeList) × (slice_get image.lists n ≡ Some l)
    have n has =
        let form = number_of_form image.states image.order image.first_used image.forms
        image.minimal.0 image.minimal.1 n has in
        form_has_list image.lists (forms_with_codes content) image.forms image.are_forms.numbers
        (record { letters = form.0; code = n }) form.1

    moved : (f : Form) → Contains image.forms f →
        slice_get (lists_of image.lists image.order) (place_of image.order f.code)
        ≡ slice_get image.lists f.code
    moved f has =
        let path = ((image.minimal.1).exact f.letters f.code).1 has in
        let used = path_used image.states image.order image.first_used image.minimal.0 f.letters
        f.code path in
        list_at_place image.lists image.order have (place_of image.order f.code) f.code
        (place_holds image.order f.code used)
