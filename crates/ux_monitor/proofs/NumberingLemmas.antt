-- Equal states get one number.
use lib.Pointwise.{pointwise}
use mathlib.Core.Bool.{◌&&◌}
use Rattle.std.specs.Bool.{if◌then◌else◌}
use Rattle.std.proofs.Common.{arith, ◌≡◌, ℕ, zero, suc, ◌<◌, List, [], ◌∷◌, ◌++◌, ◌⊎◌, inl, inr, refl, sym, subst, ap, ◌∙◌, Bool, true, false, Some, Vec, length, length-append, append-nil}
use Rattle.std.specs.Prelude.{Option, Contains, slice_get}
use Rattle.std.specs.Option.{option_map}
use Rattle.std.proofs.lemmas.Option.{slice_get_within, get_or_from_slice_get, slice_get-get_or, slice_get-map}
use Rattle.std.proofs.lemmas.List.{get_or_append_left, map-append}
use Rattle.std.proofs.lemmas.List.Elements.{Contains-push_cases}
use Rattle.ux_monitor.specs.Monitors.{AreMore, kind_at}
use Rattle.ux_monitor.specs.Remembering.{kinds_in}
use Rattle.ux_monitor.specs.declared.owing.Obligation.{Obligation}
use Rattle.ux_monitor.specs.Owing.{IsAlike}
use Rattle.ux_monitor.specs.Numbers.{AreAlike}

pub both_true : (a b : Bool) → (a && b) ≡ true → (a ≡ true) × (b ≡ true)
both_true true b h = (refl, h)
both_true false b h = cc

pub owed_alike : (eq : Obligation → Obligation → Bool) → ((x y : Obligation) → eq x y ≡ true → IsAlike x y) →
    (a b : List Obligation) → pointwise eq a b ≡ true → AreAlike a b
owed_alike eq tells [] [] h = tt
owed_alike eq tells [] (y ∷ b) h = cc
owed_alike eq tells (x ∷ a) [] h = cc
owed_alike eq tells (x ∷ a) (y ∷ b) h = let s = both_true (eq x y) (pointwise eq a b) h in (tells x y s.0, owed_alike eq tells a b s.1)

pub still_numbered : {A : Type 0} (is_there : Bool) (old new : List A) (one : A) → new ≡ (if is_there then old else (old ++ one ∷ [])) →
    (n : ℕ) (x : A) → slice_get old n ≡ Some x → slice_get new n ≡ Some x
still_numbered true old new one is n x h = subst (λ (xs : List _). slice_get xs n ≡ Some x) (sym is) h
still_numbered {A} false old new one is n x h =
    let within : n < length old = slice_get_within old n x h in
    let len = length-append old (one ∷ []) in
    let inside : n < length (old ++ one ∷ []) = omega (arith, len, within) in
    subst (λ (xs : List A). slice_get xs n ≡ Some x) (sym is)
    (slice_get-get_or (old ++ one ∷ []) n x inside
    ∙ ap (λ (y : A). Some y) (get_or_append_left old (one ∷ []) x n within ∙ get_or_from_slice_get old n x x h))

pub same_bool : (eq : Bool → Bool → Bool) → eq true false ≡ false → eq false true ≡ false → (a b : Bool) → eq a b ≡ true → a ≡ b
same_bool eq p q true true h = refl
same_bool eq p q true false h = absurd (differ (sym p ∙ h))
  where
    differ : false ≡ true → ⊥
    differ e = cc
same_bool eq p q false true h = absurd (differ (sym q ∙ h))
  where
    differ : false ≡ true → ⊥
    differ e = cc
same_bool eq p q false false h = refl

pub one_numbered : {A : Type 0} (is_there : Bool) (old new : List A) (one : A) →
    new ≡ (if is_there then old else (old ++ one ∷ [])) →
    (x : A) → Contains new x → Contains old x ⊎ (x ≡ one)
one_numbered true old new one is x h = inl (subst (λ (xs : List _). Contains xs x) is h)
one_numbered false old new one is x h =
    elim (Contains-push_cases old one x (subst (λ (xs : List _). Contains xs x) is h)) [
      | inl o ↦ inl o
      | inr e ↦ inr (sym e)
    ]

-- kinds come at the end
pub more_kinds : {Z : Type 0} (is_there : Bool) (old new : List (Vec ℕ Z)) (one : Vec ℕ Z) →
    new ≡ (if is_there then old else (old ++ one ∷ [])) → AreMore (kinds_in old) (kinds_in new)
more_kinds {Z} true old new one is = (
  [],
  ap (λ (xs : List (Vec ℕ Z)). kinds_in xs) is ∙ sym (append-nil (kinds_in old)),
)
more_kinds {Z} false old new one is = (
  one.items ∷ [],
  ap (λ (xs : List (Vec ℕ Z)). kinds_in xs) is
      ∙ map-append (λ (kind : Vec ℕ Z). kind.items) old (one ∷ []),
)

-- the tests of the kind with the number
pub tests_at : {Z : Type 0} (kinds : List (Vec ℕ Z)) (number : ℕ) (kind : Vec ℕ Z) →
    slice_get kinds number ≡ Some kind → kind_at (kinds_in kinds) number ≡ kind.items
tests_at {Z} kinds number kind at =
    get_or_from_slice_get (kinds_in kinds) number kind.items []
    (slice_get-map (λ (k : Vec ℕ Z). k.items) kinds number
    ∙ ap (λ (o : Option (Vec ℕ Z)). option_map (λ (k : Vec ℕ Z). k.items) o) at)

-- below the length there is an element
pub some_at : {A : Type 0} (xs : List A) (n : ℕ) → n < length xs →
    (x : A) × (slice_get xs n ≡ Some x)
some_at [] n lt = absurd (omega (arith, lt))
some_at (x ∷ xs) zero lt = (x, refl)
some_at (x ∷ xs) (suc n) lt = some_at xs n (omega (arith, lt))
