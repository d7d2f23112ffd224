-- A list that takes in, element by element, what each element of another list leads to.
use Rattle.std.proofs.Common.{arith, ◌≡◌, ℕ, zero, suc, ◌+◌, ◌<◌, ◌≤◌, List, [], ◌∷◌, ◌++◌, refl, sym, ◌∙◌, ap, subst, ◌⊎◌, inl, inr, take, length, get_or}
use Rattle.std.specs.Prelude.{Contains}
use Rattle.std.proofs.lemmas.List.{take_more, take_all}
use Rattle.std.proofs.lemmas.List.Elements.{Contains-append_left, Contains-push_cases, Contains-push}
use Rattle.ux_walk.specs.Noting.{Includes}

-- what some element of the list leads to
abbrev pub Among : {S X : Type 0} → (S → X → Type 0) → List S → X → Type 0
Among {S} Leads seen x = (s : S) × Contains seen s × Leads s x

pub none_in : {S : Type 0} (s : S) → let none : List S = [] in Contains none s → ⊥
none_in s c = absurd (omega (arith, c.1))

module _ {S : Type 0} where
  -- the elements seen, and the next
  pub seen_next : (all : List S) (i : ℕ) (s x : S) → i < length all → s ≡ get_or all i s → Contains
      (take (i + 1) all) x → Contains (take i all) x ⊎ (s ≡ x)
  seen_next all i s x lt is c =
      let more : take (i + 1) all ≡ take i all ++ s ∷ [] = take_more all i s lt ∙ ap
      (λ y. take i all ++ y ∷ []) (sym is) in
      Contains-push_cases (take i all) s x (subst (λ (l : List S). Contains l x) more c)

  pub seen_before : (all : List S) (i : ℕ) (s x : S) → i < length all → s ≡ get_or all i s →
      Contains (take i all) x → Contains (take (i + 1) all) x
  seen_before all i s x lt is c =
      let more : take (i + 1) all ≡ take i all ++ s ∷ [] = take_more all i s lt ∙ ap
      (λ y. take i all ++ y ∷ []) (sym is) in
      subst (λ (l : List S). Contains l x) (sym more)
      (Contains-append_left (take i all) (s ∷ []) x c)

  pub seen_itself : (all : List S) (i : ℕ) (s : S) → i < length all → s ≡ get_or all i s → Contains
      (take (i + 1) all) s
  seen_itself all i s lt is =
      let more : take (i + 1) all ≡ take i all ++ s ∷ [] = take_more all i s lt ∙ ap
      (λ y. take i all ++ y ∷ []) (sym is) in
      subst (λ (l : List S). Contains l s) (sym more) (Contains-push (take i all) s)

  pub seen_all : (all : List S) (i : ℕ) → length all ≤ i → take i all ≡ all
  seen_all all i le = take_all i all le

-- an element of a list, read with any other in place of a missing one
pub item_at : {X : Type 0} (xs : List X) (i : ℕ) (d : X) → i < length xs → get_or xs i d ≡ get_or
    xs i (get_or xs i d)
item_at [] i d lt = absurd (omega (arith, lt))
item_at (x ∷ xs) zero d lt = refl
item_at (x ∷ xs) (suc i) d lt = item_at xs i d (omega (arith, lt))

module _ {S X : Type 0} (Leads : S → X → Type 0) where
  pub includes_none : (old : List X) (all : List S) → Includes (Among Leads (take 0 all)) old old
  includes_none old all = record {
    kept = λ x c. c;
    only = λ x c. inl c;
    has = λ x w. absurd
        (none_in w.0 w.1);
  }

  pub includes_more : (old now new : List X) (all : List S) (i : ℕ) (s : S) (Told : X → Type 0) → i
      < length all → s ≡ get_or all i s →
      Includes (Among Leads (take i all)) old now → Includes Told now new →
      ((x : X) → Told x → Leads s x) → ((x : X) → Leads s x → Told x) →
      Includes (Among Leads (take (i + 1) all)) old new
  includes_more old now new all i s Told lt is g more sound whole = record {
    kept = λ x c. more.kept x (g.kept x c);
    only = λ x c. elim (more.only x c) [
      | inl c' ↦ elim (g.only x c') [
        | inl o ↦ inl o
        | inr w ↦ inr (w.0, seen_before all i s w.0 lt is w.1, w.2)
      ]
      | inr t ↦ inr (s, seen_itself all i s lt is, sound x t)
    ];
    has = λ x w. elim (seen_next all i s w.0 lt is w.1) [
      | inl c ↦ more.kept x (g.has x (w.0, c, w.2))
      | inr e ↦ more.has x (whole x (subst (λ (t : S). Leads t x) (sym e) w.2))
    ];
  }

  pub includes_all : (old now : List X) (all : List S) (i : ℕ) → length all ≤ i → Includes
      (Among Leads (take i all)) old now →
      Includes (Among Leads all) old now
  includes_all old now all i le g = subst (λ (l : List S). Includes (Among Leads l) old now)
      (seen_all all i le) g

-- the same in other words
pub includes_alike : {X : Type 0} (Told Wanted : X → Type 0) (old new : List X) → Includes Told old
    new → ((x : X) → Told x → Wanted x) → ((x : X) → Wanted x → Told x) → Includes Wanted old new
includes_alike Told Wanted old new g sound whole = record {
  kept = g.kept;
  only = λ x c. elim (g.only x c) [ inl o ↦ inl o | inr t ↦ inr (sound x t) ];
  has = λ x w. g.has x (whole x w);
}

-- nothing was wanted
pub includes_nothing : {X : Type 0} (Wanted : X → Type 0) (old : List X) → ((x : X) → Wanted x → ⊥)
    → Includes Wanted old old
includes_nothing Wanted old never = record {
  kept = λ x c. c;
  only = λ x c. inl c;
  has = λ x w.
      absurd (never x w);
}

-- one more at the end
pub includes_pushed : {X : Type 0} (old : List X) (x : X) → Includes (λ y. y ≡ x) old
    (old ++ x ∷ [])
includes_pushed old x = record {
  kept = λ y c. Contains-append_left old (x ∷ []) y c;
  only = λ y c. elim (Contains-push_cases old x y c) [ inl o ↦ inl o | inr e ↦ inr (sym e) ];
  has = λ y e. subst (Contains (old ++ x ∷ [])) (sym e) (Contains-push old x);
}
