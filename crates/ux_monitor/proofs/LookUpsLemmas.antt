-- Entries of a map: what a look-up finds, and what there is after one was put.
use Rattle.std.proofs.Common.{◌≡◌, List, [], ◌∷◌, ◌⊎◌, inl, inr, refl, sym, ◌∙◌, ap, subst, Bool, true, false, cond, Bor}
use Rattle.std.specs.Prelude.{Option, Some, None, Result, Ok, Err, Contains, IfSome, OnOk, OnErr, option_copied}
use Rattle.std.specs.Map.{lookup}
use Rattle.std.proofs.lemmas.Option.{same_Some}
use Rattle.indexmap.specs.IndexMap.{insert_entry}
use Rattle.ux_base.proofs.Lists.{first_or_later, contains_first, contains_later}

module _ {K V : Type 0} (eq : K → K → Bool) (key : K)
    (same : (a b : K) → eq a b ≡ true → a ≡ b) where
  -- what is found at a key is an entry of it
  found_at : (es : List (K × V)) (v : V) → lookup (eq key) es ≡ Some v → Contains es (key, v)
  found_at [] v h = cc
  found_at (e ∷ es) v h = by (eq key e.0) refl (found_at es v)
    where
      by : (b : Bool) → eq key e.0 ≡ b →
          (lookup (eq key) es ≡ Some v → Contains es (key, v)) → Contains (e ∷ es) (key, v)
      by true is rest =
          let value : e.1 ≡ v = same_Some e.1 v
          (sym (ap (λ c. cond c (Some e.1) (lookup (eq key) es)) is) ∙ h) in
          subst (λ (x : K × V). Contains (e ∷ es) x)
          (ap (λ (k : K). (k, e.1)) (sym (same key e.0 is)) ∙ ap (λ (x : V). (key, x)) value)
          (contains_first e es)
      by false is rest = contains_later e es (key, v) (rest
          (sym (ap (λ c. cond c (Some e.1) (lookup (eq key) es)) is) ∙ h))

  pub looked_up : (es : List (K × V)) (r : Option (Bor V)) →
      option_copied r ≡ lookup (eq key) es → IfSome r (λ value. Contains es (key, value.now))
  looked_up es None h = tt
  looked_up es (Some value) h = found_at es value.now (sym h)

  -- an entry after one is put at the key was there, or is that one
  put_entry : (value : V) (es : List (K × V)) (k : K) (v : V) →
      Contains (insert_entry eq es key value) (k, v) →
      Contains es (k, v) ⊎ ((k ≡ key) × (v ≡ value))
  put_entry value [] k v h = elim (first_or_later (key, value) [] (k, v) h) [
    | inl e ↦ inr (sym (ap (λ (x : K × V). x.0) e), sym (ap (λ (x : K × V). x.1) e))
    | inr n ↦ inl n
  ]
  put_entry value (e ∷ es) k v h = by (eq key e.0) refl (put_entry value es k v)
    where
      by : (b : Bool) → eq key e.0 ≡ b → (Contains (insert_entry eq es key value) (k, v) →
          Contains es (k, v) ⊎ ((k ≡ key) × (v ≡ value))) →
          Contains (e ∷ es) (k, v) ⊎ ((k ≡ key) × (v ≡ value))
      by true is rest = elim (first_or_later (e.0, value) es (k, v)
          (subst (λ (l : List (K × V)). Contains l (k, v))
          (ap (λ c. cond c ((e.0, value) ∷ es) (e ∷ insert_entry eq es key value)) is) h)) [
            | inl f ↦ inr (
              sym (ap (λ (x : K × V). x.0) f) ∙ sym (same key e.0 is),
              sym (ap (λ (x : K × V). x.1) f),
            )
            | inr l ↦ inl (contains_later e es (k, v) l)
          ]
      by false is rest = elim (first_or_later e (insert_entry eq es key value) (k, v)
          (subst (λ (l : List (K × V)). Contains l (k, v))
          (ap (λ c. cond c ((e.0, value) ∷ es) (e ∷ insert_entry eq es key value)) is) h)) [
            | inl f ↦ inl (subst (λ (x : K × V). Contains (e ∷ es) x) f (contains_first e es))
            | inr l ↦ elim (rest l) [
              | inl old ↦ inl (contains_later e es (k, v) old)
              | inr new ↦ inr new
            ]
          ]

  pub one_more : {A E : Type 0} (value : V) (old new : List (K × V)) (r : Result A E) →
      OnOk r (new ≡ insert_entry eq old key value) → OnErr r (new ≡ old) → (k : K) (v : V) →
      Contains new (k, v) → Contains old (k, v) ⊎ ((k ≡ key) × (v ≡ value))
  one_more value old new (Ok x) is err k v h =
      put_entry value old k v (subst (λ (l : List (K × V)). Contains l (k, v)) is h)
  one_more value old new (Err e) ok is k v h =
      inl (subst (λ (l : List (K × V)). Contains l (k, v)) is h)
