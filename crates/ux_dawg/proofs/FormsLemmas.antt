-- Sorted lists of forms: one with the same forms is the same list.
use Rattle.std.proofs.Common.{arith, ◌≡◌, ℕ, zero, suc, ◌<◌, ◌+◌, ◌≤◌, ◌^◌, ◌↔◌, ◌∙◌, List, [], ◌∷◌, ◌++◌, inl, inr, refl, sym, ap, subst, length, take}
use Rattle.std.specs.Prelude.{Some, slice_get, Contains}
use Rattle.std.specs.Cmp.Lexicographic.{slice_cmp}
use Rattle.std.specs.Ordering.{nat_cmp, ordering_then}
use Rattle.std.specs.declared.cmp.Ordering.TheVariants.{Less, Equal}
use Rattle.std.specs.Cmp.{nat_cmp_is}
use Rattle.std.proofs.lemmas.Cmp.{nat_list_cmp_total, tied_itself}
use Rattle.std.proofs.lemmas.Option.{same_Some, none-some, slice_get-get_or, slice_get_within}
use Rattle.std.proofs.lemmas.List.{take_more}
use Rattle.std.proofs.lemmas.List.Sums.{sum_by-append, sum_by-cons}
use Rattle.std.proofs.lemmas.List.Elements.{Contains-append_cases}
use Rattle.ux_dawg.specs.declared.state.Form.{Form}
use Rattle.ux_dawg.specs.Forms.{letters_in, last_letters, AreSorted, MayFollow}
use Rattle.ux_dawg.proofs.PathLemmas.{of_cons, in_front, behind, is_some_of}

-- the form comes before the other one
abbrev pub Precedes : Form → Form → Type 0
Precedes f g = slice_cmp nat_cmp f.letters g.letters ≡ Less

-- a word doesn't come before itself
not_before_itself : (u : List ℕ) → slice_cmp nat_cmp u u ≡ Less → ⊥
not_before_itself u less =
    absurd (let e : Equal ≡ Less = sym (tied_itself nat_list_cmp_total u) ∙ less in cc)

before_after : (u v w : List ℕ) → slice_cmp nat_cmp u v ≡ Less → slice_cmp nat_cmp v w ≡ Less →
    slice_cmp nat_cmp u w ≡ Less
before_after = nat_list_cmp_total.trans

-- one letter in front of both changes nothing
pub slice_cmp-cons : (a : ℕ) (u v : List ℕ) →
    slice_cmp nat_cmp (a ∷ u) (a ∷ v) ≡ slice_cmp nat_cmp u v
slice_cmp-cons a u v =
    ap (λ o. ordering_then o (slice_cmp nat_cmp u v)) (sym (nat_cmp_is a a Equal refl))

-- a lower letter comes before a higher one
pub lower_before : (a b : ℕ) (u v : List ℕ) → a < b → slice_cmp nat_cmp (a ∷ u) (b ∷ v) ≡ Less
lower_before a b u v low =
    ap (λ o. ordering_then o (slice_cmp nat_cmp u v)) (sym (nat_cmp_is a b Less low))

-- behind the same letters, the end or a lower letter decides
pub front_decides : (u v : List ℕ) (n b : ℕ) → take n u ≡ take n v → slice_get v n ≡ Some b →
    ((a : ℕ) → slice_get u n ≡ Some a → a < b) → slice_cmp nat_cmp u v ≡ Less
front_decides u [] n b same at low = absurd (none-some b at)
front_decides [] (y ∷ v) zero b same at low = refl
front_decides (x ∷ u) (y ∷ v) zero b same at low =
    lower_before x y u v (subst (λ z. x < z) (sym (same_Some y b at)) (low x refl))
front_decides [] (y ∷ v) (suc n) b same at low = absurd (let e = same in cc)
front_decides (x ∷ u) (y ∷ v) (suc n) b same at low =
    let head : x ≡ y = let e = same in cc in
    let tail : take n u ≡ take n v = let e = same in cc in
    subst (λ z. slice_cmp nat_cmp (x ∷ u) (z ∷ v) ≡ Less) head
    (slice_cmp-cons x u v ∙ front_decides u v n b tail at low)

-- only a word with letters comes after another one
pub some_after : (u v : List ℕ) → slice_cmp nat_cmp u v ≡ Less → 0 < length v
some_after [] [] less = absurd (cc)
some_after (x ∷ u) [] less = absurd (cc)
some_after u (y ∷ v) less = omega arith

-- each form comes before all later ones
abbrev pub AreInOrder : List Form → Type 0
AreInOrder [] = Unit {0}
AreInOrder (f ∷ fs) = ((g : Form) → Contains fs g → Precedes f g) × AreInOrder fs

-- what is sorted behind a word comes after the word
sorted_after : (last : List ℕ) (fs : List Form) → AreSorted last fs → (g : Form) → Contains fs g →
    slice_cmp nat_cmp last g.letters ≡ Less
sorted_after last [] sorted g has = absurd (none-some g (is_some_of [] g has).1)
sorted_after last (f ∷ fs) sorted g has = elim (of_cons f fs g has) [
  | inl same ↦ subst (λ (h : Form). slice_cmp nat_cmp last h.letters ≡ Less) same sorted.0
  | inr later ↦ before_after last f.letters g.letters sorted.0
      (sorted_after f.letters fs sorted.1 g later)
]

pub in_order : (last : List ℕ) (fs : List Form) → AreSorted last fs → AreInOrder fs
in_order last [] sorted = tt
in_order last (f ∷ fs) sorted = (sorted_after f.letters fs sorted.1, in_order f.letters fs sorted.1)

pub in_order-append : (fs gs : List Form) → AreInOrder fs → AreInOrder gs →
    ((f g : Form) → Contains fs f → Contains gs g → Precedes f g) → AreInOrder (fs ++ gs)
in_order-append [] gs front back between = back
in_order-append (f ∷ fs) gs front back between = (
  λ g has. elim (Contains-append_cases fs gs g has) [
    | inl here ↦ front.0 g here
    | inr there ↦ between f g (in_front f fs) there
  ],
  in_order-append fs gs front.1 back (λ g h has there. between g h (behind f fs g has) there),
)

-- the heads of two lists with the same forms are one
same_head : (f g : Form) (fs gs : List Form) → AreInOrder (f ∷ fs) → AreInOrder (g ∷ gs) →
    Contains (f ∷ fs) g → Contains (g ∷ gs) f → f ≡ g
same_head f g fs gs first second has there = elim (of_cons f fs g has) [
  | inl same ↦ same
  | inr later ↦ elim (of_cons g gs f there) [
    | inl same ↦ sym same
    | inr behind' ↦ absurd (not_before_itself f.letters (before_after f.letters g.letters f.letters
        (first.0 g later) (second.0 f behind')))
  ]
]

-- a later form is no head
tail_only : (f g : Form) (fs gs : List Form) → f ≡ g → AreInOrder (f ∷ fs) → (h : Form) →
    Contains fs h → Contains (g ∷ gs) h → Contains gs h
tail_only f g fs gs same first h has there = elim (of_cons g gs h there) [
  | inl is ↦ absurd (not_before_itself f.letters
      (subst (λ (x : Form). slice_cmp nat_cmp f.letters x.letters ≡ Less) (sym (same ∙ is))
      (first.0 h has)))
  | inr later ↦ later
]

-- two lists of the same forms, both in order, are one
pub one_order : (fs gs : List Form) → AreInOrder fs → AreInOrder gs →
    ((h : Form) → Contains fs h ↔ Contains gs h) → fs ≡ gs
one_order [] [] first second same = refl
one_order [] (g ∷ gs) first second same =
    absurd (none-some g (is_some_of [] g ((same g).1 (in_front g gs))).1)
one_order (f ∷ fs) [] first second same =
    absurd (none-some f (is_some_of [] f ((same f).0 (in_front f fs))).1)
one_order (f ∷ fs) (g ∷ gs) first second same =
    let head = same_head f g fs gs first second ((same g).1 (in_front g gs))
    ((same f).0 (in_front f fs)) in
    let rest = one_order fs gs first.1 second.1 (λ h. (
      λ has. tail_only f g fs gs head first h has ((same h).0 (behind f fs h has)),
      λ has. tail_only g f gs fs (sym head) second h has ((same h).1 (behind g gs h has)),
    )) in
    λ i. head i ∷ rest i

-- a form that comes after the last one keeps the list sorted
pub AreSorted-push : (last : List ℕ) (fs : List Form) (g : Form) → AreSorted last fs →
    slice_cmp nat_cmp (last_letters last fs) g.letters ≡ Less → AreSorted last (fs ++ g ∷ [])
AreSorted-push last [] g sorted after = (after, tt)
AreSorted-push last (f ∷ fs) g sorted after =
    (sorted.0, AreSorted-push f.letters fs g sorted.1 after)

pub last_letters-push : (last : List ℕ) (fs : List Form) (g : Form) →
    last_letters last (fs ++ g ∷ []) ≡ g.letters
last_letters-push last [] g = refl
last_letters-push last (f ∷ fs) g = last_letters-push f.letters fs g

pub letters_in-push : (fs : List Form) (g : Form) →
    letters_in (fs ++ g ∷ []) ≡ letters_in fs + length g.letters
letters_in-push fs g =
    sum_by-append (λ (f : Form). length f.letters) fs (g ∷ []) ∙ omega arith

-- a form of a sorted list comes after those before it
after_front : (last : List ℕ) (fs : List Form) (k : ℕ) (f : Form) → slice_get fs k ≡ Some f →
    AreSorted last fs → slice_cmp nat_cmp (last_letters last (take k fs)) f.letters ≡ Less
after_front last [] k f at sorted = absurd (none-some f at)
after_front last (g ∷ fs) zero f at sorted =
    subst (λ (h : Form). slice_cmp nat_cmp last h.letters ≡ Less) (same_Some g f at) sorted.0
after_front last (g ∷ fs) (suc k) f at sorted = after_front g.letters fs k f at sorted.1

letters_in-cons : (g : Form) (fs : List Form) →
    letters_in (g ∷ fs) ≡ length g.letters + letters_in fs
letters_in-cons g fs = sum_by-cons (λ (f : Form). length f.letters) g fs

letters_in-front : (fs : List Form) (k : ℕ) (f : Form) → slice_get fs k ≡ Some f →
    letters_in (take k fs) + length f.letters ≤ letters_in fs
letters_in-front [] k f at = absurd (none-some f at)
letters_in-front (g ∷ fs) zero f at =
    let same : length g.letters ≡ length f.letters =
    ap (λ (h : Form). length h.letters) (same_Some g f at) in
    omega (arith, same, letters_in-cons g fs)
letters_in-front (g ∷ fs) (suc k) f at =
    let rest = letters_in-front fs k f at in
    omega (arith, rest, letters_in-cons g fs, letters_in-cons g (take k fs))

-- so the forms of a sorted list may be added one after another
pub may_follow : (forms : List Form) (k : ℕ) (f : Form) → slice_get forms k ≡ Some f →
    AreSorted [] forms → letters_in forms < 2 ^ 32 → MayFollow (take k forms) f.letters
may_follow forms k f at sorted few = record {
  after = after_front [] forms k f at sorted;
  few = let most = letters_in-front forms k f at in omega (arith, most, few);
}

pub take_next : (forms : List Form) (k : ℕ) (f : Form) → slice_get forms k ≡ Some f →
    take (k + 1) forms ≡ take k forms ++ f ∷ []
take_next forms k f at =
    let within = slice_get_within forms k f at in
    take_more forms k f within ∙ ap (λ (x : Form). take k forms ++ x ∷ [])
    (same_Some _ f (sym (slice_get-get_or forms k f within) ∙ at))
