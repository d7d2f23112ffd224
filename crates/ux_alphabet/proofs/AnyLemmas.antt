-- Some element of a list has a property: at a longer list, and for a weaker property.
use Rattle.std.proofs.Common.{◌↔◌, List, [], ◌∷◌, ◌++◌, map, sym, subst, ◌⊎◌, inl, inr, refl, arith, zero, suc}
use Rattle.std.specs.List.{Any, Contains}
use Rattle.std.proofs.lemmas.List.Elements.{Contains-push, Contains-push_cases, Contains-append_left}

-- an element with the property is in the list, and conversely
Any-element : {X : Type 0} (P : X → Type 0) (xs : List X) → Any P xs → (x : X) × Contains xs x × P x
Any-element P xs (k, x, lt, is, p) = (x, (k, lt, is), p)

Any-from : {X : Type 0} (P : X → Type 0) (xs : List X) (x : X) → Contains xs x → P x → Any P xs
Any-from P xs x (k, lt, is) p = (k, x, lt, is, p)

pub Any-weaker : {X : Type 0} (P Q : X → Type 0) → ((x : X) → P x → Q x) → (xs : List X) →
    Any P xs → Any Q xs
Any-weaker P Q f xs (k, x, lt, is, p) = (k, x, lt, is, f x p)

pub Any-append_left : {X : Type 0} (P : X → Type 0) (xs ys : List X) → Any P xs → Any P (xs ++ ys)
Any-append_left P xs ys h =
    let e = Any-element P xs h in
    Any-from P (xs ++ ys) e.0 (Contains-append_left xs ys e.0 e.1) e.2

pub Any-last : {X : Type 0} (P : X → Type 0) (xs : List X) (y : X) → P y → Any P (xs ++ y ∷ [])
Any-last P xs y p = Any-from P (xs ++ y ∷ []) y (Contains-push xs y) p

pub Any-push_cases : {X : Type 0} (P : X → Type 0) (xs : List X) (y : X) →
    Any P (xs ++ y ∷ []) → Any P xs ⊎ P y
Any-push_cases P xs y h =
    let e = Any-element P (xs ++ y ∷ []) h in
    elim (Contains-push_cases xs y e.0 e.1) [
      | inl old ↦ inl (Any-from P xs e.0 old e.2)
      | inr same ↦ inr (subst P (sym same) e.2)
    ]

pub Any-none : {X : Type 0} (P : X → Type 0) → Any P [] → ⊥
Any-none P (k, x, lt, is, p) = absurd (omega (arith, lt))

Any-head : {X : Type 0} (P : X → Type 0) (x : X) (xs : List X) → P x → Any P (x ∷ xs)
Any-head P x xs p = (0, x, omega arith, refl, p)

Any-tail : {X : Type 0} (P : X → Type 0) (x : X) (xs : List X) → Any P xs → Any P (x ∷ xs)
Any-tail P x xs (k, y, lt, is, p) = (suc k, y, omega (arith, lt), is, p)

Any-cons_cases : {X : Type 0} (P : X → Type 0) (x : X) (xs : List X) →
    Any P (x ∷ xs) → P x ⊎ Any P xs
Any-cons_cases P x xs (zero, y, lt, is, p) = inl (subst P (sym is) p)
Any-cons_cases P x xs (suc k, y, lt, is, p) = inr (k, y, omega (arith, lt), is, p)

-- at a mapped list, for a property that says the same before the map
pub Any-map : {X Y : Type 0} (f : Y → X) (P : X → Type 0) (Q : Y → Type 0) →
    ((y : Y) → P (f y) ↔ Q y) → (ys : List Y) → Any P (map f ys) ↔ Any Q ys
Any-map f P Q same [] = (λ h. absurd (Any-none P h), λ h. absurd (Any-none Q h))
Any-map f P Q same (y ∷ ys) = (
  λ h. elim (Any-cons_cases P (f y) (map f ys) h) [
    | inl here ↦ Any-head Q y ys ((same y).0 here)
    | inr later ↦ Any-tail Q y ys ((Any-map f P Q same ys).0 later)
  ],
  λ h. elim (Any-cons_cases Q y ys h) [
    | inl here ↦ Any-head P (f y) (map f ys) ((same y).1 here)
    | inr later ↦ Any-tail P (f y) (map f ys) ((Any-map f P Q same ys).1 later)
  ],
)
