-- What a search has seen stands in a list while there are few, and in a set when there are more.
use Rattle.std.proofs.Common.{arith, ◌≡◌, ℕ, ◌+◌, ◌<◌, List, [], ◌∷◌, ◌++◌, ◌↔◌, refl, sym, ap, subst, ◌∙◌, length, take, get_or, Bool, true, false, cond}
use Rattle.std.specs.Prelude.{Contains}
use Rattle.std.specs.List.{list_any}
use Rattle.std.proofs.lemmas.List.{get_or-take, length-take, take_more}
use Rattle.indexmap.specs.IndexSet.{insert_key}
use Rattle.indexmap.proofs.CallerLemmas.{Contains-list_any}
use Rattle.ux_base.proofs.Lists.{nothing_in, contains_first}
use Rattle.ux_chart.specs.Search.{Adds, HasNoDoubles, seen_in}

module _ {T : Type 0} where
  -- while the set is empty, what was seen is the list
  pub seen_few : (few many : List T) → length many ≡ 0 → seen_in few many ≡ few
  seen_few few [] h = refl
  seen_few few (x ∷ xs) h = absurd (omega (arith, h))

  -- and else the set
  pub seen_many : (few many : List T) → (length many ≡ 0 → ⊥) → seen_in few many ≡ many
  seen_many few [] h = absurd (h refl)
  seen_many few (x ∷ xs) h = refl

  seen_some : (few many : List T) (x : T) → Contains many x → seen_in few many ≡ many
  seen_some few [] x h = absurd (nothing_in h)
  seen_some few (y ∷ ys) x h = refl

  -- one is added to a set to which all were moved
  pub added_many : (few old moved new : List T) (item : T) → moved ≡ seen_in few old →
      Adds moved (item ∷ []) new → Adds (seen_in few old) (item ∷ []) (seen_in few new)
  added_many few old moved new item is a =
      let there = seen_some few new item (a.each item (contains_first item [])) in
      subst (λ (l : List T). Adds l (item ∷ []) (seen_in few new)) is
      (subst (λ (l : List T). Adds moved (item ∷ []) l) (sym there) a)

module _ {T : Type 0} (eq : T → T → Bool) (exact : (a b : T) → (eq a b ≡ true) ↔ (a ≡ b)) where
  -- an item of a list without doubles doesn't stand before its place
  no_earlier : (few : List T) (i : ℕ) (k : T) → HasNoDoubles few → i < length few →
      k ≡ get_or few i k → Contains (take i few) k → ⊥
  no_earlier few i k distinct inside is (j, below, there) =
      let short = length-take i few in
      let before : j < i = omega (arith, short, below, inside) in
      distinct j i k before inside (sym (get_or-take i few j k before) ∙ there ∙ is)

  -- one more is moved to the set
  pub moved_more : (few now new : List T) (i : ℕ) (k : T) → HasNoDoubles few →
      i < length few → k ≡ get_or few i k → now ≡ take i few → new ≡ insert_key eq now k →
      new ≡ take (i + 1) few
  moved_more few now new i k distinct inside is same made = by (list_any (eq k) now) refl
    where
      by : (b : Bool) → list_any (eq k) now ≡ b → new ≡ take (i + 1) few
      by true e = absurd (no_earlier few i k distinct inside is
          (subst (λ (l : List T). Contains l k) same
          (Contains-list_any eq (λ a b. (exact a b).0) now k e)))
      by false e = made ∙ ap (λ c. cond c now (now ++ k ∷ [])) e
          ∙ ap (λ (l : List T). l ++ k ∷ []) same ∙ ap (λ (x : T). take i few ++ x ∷ []) is
          ∙ sym (take_more few i k inside)
