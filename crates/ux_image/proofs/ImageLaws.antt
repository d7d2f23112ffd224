-- A content has one image.
use Rattle.std.proofs.Common.{arith, ◌≡◌, ◌≢◌, ℕ, ◌<◌, List, [], ◌∷◌, inl, inr, refl, sym, ◌∙◌, ap, subst, length, map}
use Rattle.std.specs.Prelude.{AllPairs, Some, slice_get}
use Rattle.std.specs.Str.{chars}
use Rattle.std.proofs.lemmas.Bool.{cases_lt}
use Rattle.std.proofs.lemmas.Option.{slice_get_within, get_or_from_slice_get}
use Rattle.ux_base.specs.Distinct.{AreFirsts}
use Rattle.ux_base.proofs.FirstsLemmas.{AreFirsts-unique}
use Rattle.ux_dawg.specs.Automaton.{IsAutomaton}
use Rattle.ux_dawg.specs.declared.state.Form.{Form}
use Rattle.ux_dawg.specs.declared.state.State.{State}
use Rattle.ux_dawg.proofs.OneLemmas.{one}
use Rattle.ux_dela.specs.declared.entry.Entry.{Entry}
use Rattle.ux_image.specs.Contents.{AreNumbered, forms_with_codes}
use Rattle.ux_image.specs.Images.{IsImage, numbers_in, renumbered, lists_of}
use Rattle.ux_image.specs.Layout.{layout}
use Rattle.ux_image.specs.declared.code.CodeList.{CodeList}

-- what stands once in a list stands at one place
one_place : {X : Type 0} (xs : List X) → AllPairs (λ x y. x ≢ y) xs → (i j : ℕ) (x : X) →
    slice_get xs i ≡ Some x → slice_get xs j ≡ Some x → i ≡ j
one_place {X} xs apart i j x at also = elim (cases_lt i j) [
  | inl less ↦ absurd (before i j less at also)
  | inr most ↦ elim (cases_lt j i) [
    | inl less ↦ absurd (before j i less also at)
    | inr least ↦ omega (arith, most, least)
  ]
]
  where
    before : (k l : ℕ) → k < l → slice_get xs k ≡ Some x → slice_get xs l ≡ Some x → ⊥
    before k l less here there =
        apart k l x less (slice_get_within xs l x there)
        (get_or_from_slice_get xs k x x here ∙ sym (get_or_from_slice_get xs l x x there))

-- the forms with their numbers are given by their groups
same_forms : (lists : List CodeList) → AllPairs (λ x y. x ≢ y) lists →
    (groups : List (List ℕ × CodeList)) (forms others : List Form) →
    map (λ (f : Form). f.letters) forms ≡ map (λ g. chars g.0) groups →
    map (λ (f : Form). slice_get lists f.code) forms ≡ map (λ g. Some g.1) groups →
    map (λ (f : Form). f.letters) others ≡ map (λ g. chars g.0) groups →
    map (λ (f : Form). slice_get lists f.code) others ≡ map (λ g. Some g.1) groups →
    forms ≡ others
same_forms lists apart [] [] [] l n l' n' = refl
same_forms lists apart [] [] (f ∷ fs) l n l' n' = absurd (omega (arith, ap length l'))
same_forms lists apart [] (f ∷ fs) others l n l' n' = absurd (omega (arith, ap length l))
same_forms lists apart (g ∷ gs) [] others l n l' n' = absurd (omega (arith, ap length l))
same_forms lists apart (g ∷ gs) (f ∷ fs) [] l n l' n' = absurd (omega (arith, ap length l'))
same_forms lists apart (g ∷ gs) (f ∷ forms) (o ∷ others) l n l' n' =
    let f_letters : f.letters ≡ chars g.0 = cc in
    let o_letters : o.letters ≡ chars g.0 = cc in
    let letters = f_letters ∙ sym o_letters in
    let f_number : slice_get lists f.code ≡ Some g.1 = cc in
    let o_number : slice_get lists o.code ≡ Some g.1 = cc in
    let code = one_place lists apart f.code o.code g.1 f_number o_number in
    let first : f ≡ o = λ j. record { letters = letters j; code = code j } in
    let fl : map (λ (f : Form). f.letters) forms
    ≡ map (λ (g : List ℕ × CodeList). chars g.0) gs = cc in
    let fn : map (λ (f : Form). slice_get lists f.code) forms
    ≡ map (λ (g : List ℕ × CodeList). Some g.1) gs = cc in
    let ol : map (λ (f : Form). f.letters) others
    ≡ map (λ (g : List ℕ × CodeList). chars g.0) gs = cc in
    let on : map (λ (f : Form). slice_get lists f.code) others
    ≡ map (λ (g : List ℕ × CodeList). Some g.1) gs = cc in
    let later = same_forms lists apart gs forms others fl fn ol on in
    cc

-- two images have the same parts, and so the same bytes
pub one_image : (content : List Entry) (first second : List ℕ) → IsImage content first →
    IsImage content second → first ≡ second
one_image content first second a b =
    a.laid_out.whole
    ∙ ap (λ (l : List CodeList). layout (map (renumbered a.order) a.states) (lists_of l a.order))
    lists
    ∙ ap (λ (s : List State). layout (map (renumbered a.order) s) (lists_of b.lists a.order)) states
    ∙ ap (λ (o : List ℕ). layout (map (renumbered o) b.states) (lists_of b.lists o)) order
    ∙ sym b.laid_out.whole
  where
    lists : a.lists ≡ b.lists
    lists = AreFirsts-unique _ a.lists b.lists a.are_forms.once b.are_forms.once

    moved : AreNumbered (forms_with_codes content) b.lists a.forms
    moved =
        subst (λ (l : List CodeList). AreNumbered (forms_with_codes content) l a.forms) lists
        a.are_forms

    forms : a.forms ≡ b.forms
    forms =
        same_forms b.lists b.are_forms.once.once (forms_with_codes content) a.forms b.forms
        moved.letters moved.numbers b.are_forms.letters b.are_forms.numbers

    states : a.states ≡ b.states
    states =
        one b.forms a.states _
        (subst (λ (fs : List Form). IsAutomaton fs a.states a.minimal.0) forms a.minimal.1)
        b.states _ b.minimal.1

    order : a.order ≡ b.order
    order =
        AreFirsts-unique (numbers_in b.states) a.order b.order
        (subst (λ (s : List State). AreFirsts (numbers_in s) a.order) states a.first_used)
        b.first_used
