-- A loop that adds, at the end of a list, what is so for one number after another.
use Rattle.std.proofs.Common.{◌≡◌, ℕ, ◌+◌, ◌≤◌, List, [], ◌∷◌, ◌++◌, length, refl, ap, subst, sym, ◌∙◌, inl, inr, ◌↔◌, Bool, true, false, not, cond}
use Rattle.std.specs.Prelude.{Contains, Some, slice_get}
use Rattle.std.specs.Cmp.{IsEquivalence}
use Rattle.std.specs.List.{list_any, IsDistinct}
use Rattle.std.proofs.lemmas.Map.Made.{length-le_from_is_member, is_member-Decides}
use Rattle.indexmap.specs.IndexSet.{insert_key}
use Rattle.indexmap.proofs.CallerLemmas.{Contains-list_any}
use Rattle.ux_admission.specs.Finding.{IsInserted, Finds}
use Rattle.ux_admission.specs.Gains.{SoBelow}
use Rattle.ux_admission.proofs.GainsLemmas.{gains_none, gains_one, gains_next, gains_as, gains_done}
use Rattle.ux_base.proofs.DistinctLemmas.{slice_get-append}

module _ {T : Type 0} (eq : T → T → Bool) (exact : (a b : T) → (eq a b ≡ true) ↔ (a ≡ b)) where
  -- the item is put behind the others, if none of them is equal to it
  pub inserted : (old new : List T) (x : T) (is_new : Bool) → is_new ≡ not (list_any (eq x) old) →
      new ≡ insert_key eq old x → IsInserted old x is_new new
  inserted old new x is_new told made = by (list_any (eq x) old) refl is_new told
    where
      by : (b : Bool) → list_any (eq x) old ≡ b → (is_new : Bool) → is_new ≡ not (list_any (eq x) old) →
          IsInserted old x is_new new
      by true e true t = absurd (let n : true ≡ false = t ∙ ap not e in cc)
      by true e false t = (
        made ∙ ap (λ c. cond c old (old ++ x ∷ [])) e,
        Contains-list_any eq (λ a b. (exact a b).0) old x e,
      )
      by false e true t = made ∙ ap (λ c. cond c old (old ++ x ∷ [])) e
      by false e false t = absurd (let n : false ≡ true = t ∙ ap not e in cc)

  -- no more stand in a list without repeats than in one that has all of them
  pub bounded : IsEquivalence eq → (keys all : List T) → IsDistinct eq keys →
      ((x : T) → Contains keys x → Contains all x) → length keys ≤ length all
  bounded laws keys all distinct inside = length-le_from_is_member laws keys all distinct
      (λ q m. (is_member-Decides exact all q).1 (inside q ((is_member-Decides exact keys q).0 m)))

-- an item that was put behind the others was found
pub finds_inserted : {A : Type 0} (old new : List A) (x : A) (is_new : Bool) →
    IsInserted old x is_new new → Finds old new (λ y. x ≡ y)
finds_inserted {A} old new x true is = record {
  gains = gains_one old new x (λ y. x ≡ y) is refl (λ y e. e);
  kept = λ k y h. subst (λ (xs : List A). slice_get xs k ≡ Some y) (sym is)
      (slice_get-append old (x ∷ []) k y h);
}
finds_inserted {A} old new x false is = record {
  gains = λ y. (
    λ h. inl (subst (λ (xs : List A). Contains xs y) is.0 h),
    λ h. subst (λ (xs : List A). Contains xs y) (sym is.0) (elim h [
      | inl a ↦ a
      | inr e ↦ subst (λ (z : A). Contains old z) e is.1
    ]),
  );
  kept = λ k y h. subst (λ (xs : List A). slice_get xs k ≡ Some y) (sym is.0) h;
}

-- nothing is found where nothing is so
pub finds_none : {A : Type 0} (old : List A) (IsSo : A → Type 0) → ((x : A) → IsSo x → ⊥) →
    Finds old old IsSo
finds_none old IsSo never = record {
  gains = gains_none old IsSo never;
  kept = λ k x h. h;
}

-- what is so for the next number
pub finds_next : {A : Type 0} (before now after : List A) (count : ℕ) (IsSo : ℕ → A → Type 0) →
    Finds before now (SoBelow count IsSo) → Finds now after (IsSo count) →
    Finds before after (SoBelow (count + 1) IsSo)
finds_next before now after count IsSo old new = record {
  gains = gains_next before now after count IsSo old.gains new.gains;
  kept = λ k x h. new.kept k x (old.kept k x h);
}

-- nothing is so for the next number
pub finds_skip : {A : Type 0} (before now : List A) (count : ℕ) (IsSo : ℕ → A → Type 0) →
    ((x : A) → IsSo count x → ⊥) → Finds before now (SoBelow count IsSo) →
    Finds before now (SoBelow (count + 1) IsSo)
finds_skip before now count IsSo never old =
    finds_next before now now count IsSo old (finds_none now (IsSo count) never)

-- the same thing said otherwise
pub finds_as : {A : Type 0} (before after : List A) (Old New : A → Type 0) →
    ((x : A) → Old x ↔ New x) → Finds before after Old → Finds before after New
finds_as before after Old New same finds = record {
  gains = gains_as before after Old New same finds.gains;
  kept = finds.kept;
}

-- at the end of a loop
pub finds_done : {A : Type 0} (before after : List A) (count all : ℕ) (IsSo : ℕ → A → Type 0) →
    count ≤ all → all ≤ count → Finds before after (SoBelow count IsSo) →
    Finds before after (SoBelow all IsSo)
finds_done before after count all IsSo most least finds = record {
  gains = gains_done before after count all IsSo most least finds.gains;
  kept = finds.kept;
}

-- what was there is there still
pub finds_old : {A : Type 0} (old new : List A) (IsSo : A → Type 0) → Finds old new IsSo → (x : A) →
    Contains old x → Contains new x
finds_old old new IsSo finds x h = (finds.gains x).1 (inl h)

-- what is so was found
pub finds_so : {A : Type 0} (old new : List A) (IsSo : A → Type 0) → Finds old new IsSo → (x : A) →
    IsSo x → Contains new x
finds_so old new IsSo finds x s = (finds.gains x).1 (inr s)

-- an item that is new stands behind the others
pub inserted_new : {A : Type 0} (old new : List A) (x : A) (is_new : Bool) →
    IsInserted old x is_new new → is_new ≡ true → new ≡ old ++ x ∷ []
inserted_new old new x true is e = is
inserted_new old new x false is e = absurd (cc)

-- where it isn't, the list is the same
pub inserted_old : {A : Type 0} (old new : List A) (x : A) (is_new : Bool) →
    IsInserted old x is_new new → is_new ≡ false → new ≡ old
inserted_old old new x true is e = absurd (cc)
inserted_old old new x false is e = is.0
