-- Lists of codes are equal where their tests say so, and a register of them grows by one list.
use Rattle.std.proofs.Common.{◌≡◌, ℕ, List, [], ◌∷◌, ◌++◌, Bool, true, false, ◌&&◌, ◌||◌, nat_eq, inl, inr, refl, sym, ◌∙◌, ap, subst}
use Rattle.std.specs.Prelude.{Contains, Some, slice_get}
use Rattle.std.specs.Bool.{Decides}
use Rattle.std.specs.List.{list_any}
use Rattle.std.proofs.lemmas.Bool.Decides.{Decides-and, Decides-eqb}
use Rattle.indexmap.specs.IndexSet.{insert_key}
use Rattle.ux_base.specs.Distinct.{AreFirsts, GrowsBy}
use Rattle.ux_base.proofs.DistinctLemmas.{slice_get-append}
use Rattle.ux_base.proofs.FirstsLemmas.{AreFirsts-known, AreFirsts-new, Contains-from_place, Contains-first, Contains-after, Contains-cases, Contains-none}
use Rattle.ux_image.specs.Grouping.{IsKept}
use Rattle.ux_image.specs.declared.code.Pair.{Pair}
use Rattle.ux_image.specs.declared.code.Code.{Code}
use Rattle.ux_image.specs.declared.code.CodeList.{CodeList}
use lib.Pointwise.{pointwise, pointwise_decides}

abbrev eq_pair : Pair → Pair → Bool
eq_pair a b = nat_eq a.taken b.taken && pointwise nat_eq a.added b.added

abbrev eq_code : Code → Code → Bool
eq_code a b = pointwise eq_pair a.pairs b.pairs && pointwise nat_eq a.codes b.codes

abbrev eq_list : CodeList → CodeList → Bool
eq_list a b = pointwise eq_code a.codes b.codes

pairs_decide : (a b : Pair) → Decides (eq_pair a b) (a ≡ b)
pairs_decide a b =
    let d = Decides-and (nat_eq a.taken b.taken) (pointwise nat_eq a.added b.added)
    (Decides-eqb a.taken b.taken) (pointwise_decides Decides-eqb a.added b.added) in (
      λ h. let e = d.0 h in λ j. record { taken = e.0 j; added = e.1 j },
      λ h. d.1 (ap (λ (p : Pair). p.taken) h, ap (λ (p : Pair). p.added) h),
    )

codes_decide : (a b : Code) → Decides (eq_code a b) (a ≡ b)
codes_decide a b =
    let d = Decides-and (pointwise eq_pair a.pairs b.pairs) (pointwise nat_eq a.codes b.codes)
    (pointwise_decides pairs_decide a.pairs b.pairs)
    (pointwise_decides Decides-eqb a.codes b.codes) in (
      λ h. let e = d.0 h in λ j. record { pairs = e.0 j; codes = e.1 j },
      λ h. d.1 (ap (λ (p : Code). p.pairs) h, ap (λ (p : Code). p.codes) h),
    )

pub lists_decide : (a b : CodeList) → Decides (eq_list a b) (a ≡ b)
lists_decide a b =
    let d = pointwise_decides codes_decide a.codes b.codes in (
      λ h. let e = d.0 h in λ j. record { codes = e j },
      λ h. d.1 (ap (λ (l : CodeList). l.codes) h),
    )

module _ {T : Type 0} (eq : T → T → Bool) (decides : (a b : T) → Decides (eq a b) (a ≡ b)) where
  -- a search finds what a list has, and nothing else
  any_there : (xs : List T) (x : T) → list_any (eq x) xs ≡ true → Contains xs x
  any_there [] x found = cc
  any_there (y ∷ xs) x found = by (any_there xs x) (eq x y) refl
    where
      by : (list_any (eq x) xs ≡ true → Contains xs x) → (same : Bool) → eq x y ≡ same →
          Contains (y ∷ xs) x
      by later true is =
          subst (Contains (y ∷ xs)) (sym ((decides x y).0 is)) (Contains-first y xs)
      by later false is =
          Contains-after y x xs
          (later (subst (λ (b : Bool). (b || list_any (eq x) xs) ≡ true) is found))

  any_lacks : (xs : List T) (x : T) → list_any (eq x) xs ≡ false → Contains xs x → ⊥
  any_lacks [] x missed has = Contains-none x has
  any_lacks (y ∷ xs) x missed has = by (any_lacks xs x) (eq x y) refl
    where
      by : (list_any (eq x) xs ≡ false → Contains xs x → ⊥) → (same : Bool) → eq x y ≡ same → ⊥
      by none true is =
          let no : true ≡ false =
          subst (λ (b : Bool). (b || list_any (eq x) xs) ≡ false) is missed in
          cc
      by none false is = elim (Contains-cases y x xs has) [
        | inl e ↦
            let no : false ≡ true = sym is ∙ (decides x y).1 (sym e) in
            cc
        | inr later ↦
            none (subst (λ (b : Bool). (b || list_any (eq x) xs) ≡ false) is missed) later
      ]

  -- one more, unless it is there
  pub set_grows : (old new : List T) (x : T) → new ≡ insert_key eq old x → GrowsBy (x ∷ []) old new
  set_grows old new x is seen firsts =
      subst (λ (l : List T). AreFirsts (seen ++ x ∷ []) l) (sym is) (by (list_any (eq x) old) refl)
    where
      by : (b : Bool) → list_any (eq x) old ≡ b → AreFirsts (seen ++ x ∷ []) (insert_key eq old x)
      by true there = rw there (AreFirsts-known seen old x firsts (any_there old x there))
      by false lacks = rw lacks (AreFirsts-new seen old x firsts (any_lacks old x lacks))

  -- the others stay where they are
  pub set_keeps : (old new : List T) (x : T) → new ≡ insert_key eq old x → (k : ℕ) (y : T) →
      slice_get old k ≡ Some y → slice_get new k ≡ Some y
  set_keeps old new x is k y at =
      subst (λ (l : List T). slice_get l k ≡ Some y) (sym is) (by (list_any (eq x) old) refl)
    where
      by : (b : Bool) → list_any (eq x) old ≡ b → slice_get (insert_key eq old x) k ≡ Some y
      by true there = rw there at
      by false lacks = rw lacks (slice_get-append old (x ∷ []) k y at)

pub kept_list : (eq : CodeList → CodeList → Bool) →
    ((a b : CodeList) → Decides (eq a b) (a ≡ b)) → (old new : List CodeList) (list : CodeList)
    (number : ℕ) → new ≡ insert_key eq old list → (k : CodeList) → slice_get new number ≡ Some k →
    eq list k ≡ true → IsKept old new list number
kept_list eq decides old new list number is k at same = record {
  grows = set_grows eq decides old new list is;
  same = set_keeps eq decides old new list is;
  stored = at ∙ ap Some (sym ((decides list k).0 same));
}

-- a list that is found stays where it is, as all do
pub found_list : (lists : List CodeList) (list : CodeList) (number : ℕ) →
    slice_get lists number ≡ Some list → IsKept lists lists list number
found_list lists list number at = record {
  grows = λ seen firsts. AreFirsts-known seen lists list firsts
      (Contains-from_place lists number list at);
  same = λ k other is. is;
  stored = at;
}
