-- A set of masks grows by one mask at a time.
use Rattle.std.proofs.Common.{◌≡◌, Bool, true, false, ◌||◌, inl, inr, List, [], ◌∷◌, ◌++◌, map, refl, sym, ◌∙◌, subst, Bor}
use Rattle.std.specs.Prelude.{Contains, Decides}
use Rattle.std.specs.List.{list_any}
use Rattle.std.proofs.lemmas.List.{map-append}
use Rattle.indexmap.specs.IndexSet.{insert_key}
use Rattle.ux_base.specs.Distinct.{AreFirsts, GrowsBy}
use Rattle.ux_base.proofs.FirstsLemmas.{AreFirsts-known, AreFirsts-new, Contains-first, Contains-after, Contains-cases, Contains-none}

abbrev lent : {T : Type 0} → List (Bor T) → List T
lent slots = map (λ slot. slot.now) slots

module _ {T : Type 0} (eq : T → T → Bool) (decides : (a b : T) → Decides (eq a b) (a ≡ b)) where
  -- a search finds what a set has, and nothing else
  any_there : (slots : List (Bor T)) (x : Bor T) →
      list_any (λ (slot : Bor T). eq x.now slot.now) slots ≡ true → Contains (lent slots) x.now
  any_there [] x found = cc
  any_there (slot ∷ slots) x found = by (any_there slots x) (eq x.now slot.now) refl
    where
      by : (list_any (λ (s : Bor T). eq x.now s.now) slots ≡ true → Contains (lent slots) x.now) →
          (same : Bool) → eq x.now slot.now ≡ same → Contains (lent (slot ∷ slots)) x.now
      by later true is =
          subst (Contains (lent (slot ∷ slots))) (sym ((decides x.now slot.now).0 is))
          (Contains-first slot.now (lent slots))
      by later false is =
          Contains-after slot.now x.now (lent slots) (later
          (subst (λ (b : Bool). (b || list_any (λ (s : Bor T). eq x.now s.now) slots) ≡ true) is
          found))

  -- where no slot is the same, none of them is lent for it
  any_lacks : (slots : List (Bor T)) (x : Bor T) →
      list_any (λ (slot : Bor T). eq x.now slot.now) slots ≡ false →
      Contains (lent slots) x.now → ⊥
  any_lacks [] x missed has = Contains-none x.now has
  any_lacks (slot ∷ slots) x missed has = by (any_lacks slots x) (eq x.now slot.now) refl
    where
      by : (list_any (λ (s : Bor T). eq x.now s.now) slots ≡ false → Contains (lent slots) x.now → ⊥) →
          (same : Bool) → eq x.now slot.now ≡ same → ⊥
      by none true is =
          let no : true ≡ false =
          subst (λ (b : Bool). (b || list_any (λ (s : Bor T). eq x.now s.now) slots) ≡ false) is
          missed in
          cc
      by none false is = elim (Contains-cases slot.now x.now (lent slots) has) [
        | inl e ↦
            let no : false ≡ true = sym is ∙ (decides x.now slot.now).1 (sym e) in
            cc
        | inr later ↦
            none
            (subst (λ (b : Bool). (b || list_any (λ (s : Bor T). eq x.now s.now) slots) ≡ false) is
            missed) later
      ]

  -- one more, unless it is there
  pub set_grows : (slots new : List (Bor T)) (x : Bor T) →
      new ≡ insert_key (λ (a b : Bor T). eq a.now b.now) slots x →
      GrowsBy (x.now ∷ []) (lent slots) (lent new)
  set_grows slots new x is seen firsts =
      subst (λ (l : List (Bor T)). AreFirsts (seen ++ x.now ∷ []) (lent l)) (sym is)
      (by (list_any (λ (slot : Bor T). eq x.now slot.now) slots) refl)
    where
      by : (b : Bool) → list_any (λ (slot : Bor T). eq x.now slot.now) slots ≡ b →
          AreFirsts (seen ++ x.now ∷ [])
          (lent (insert_key (λ (a b : Bor T). eq a.now b.now) slots x))
      by true there =
          rw there (AreFirsts-known seen (lent slots) x.now firsts (any_there slots x there))
      by false lacks =
          rw lacks (subst (AreFirsts (seen ++ x.now ∷ []))
          (sym (map-append (λ (s : Bor T). s.now) slots (x ∷ [])))
          (AreFirsts-new seen (lent slots) x.now firsts (any_lacks slots x lacks)))
