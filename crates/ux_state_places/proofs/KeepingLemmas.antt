-- Places that are kept one after another are kept.
use Rattle.std.proofs.Common.{arith, ◌≡◌, ◌≢◌, ◌↔◌, ◌⊎◌, inl, inr, ℕ, ◌+◌, ◌<◌, ◌≤◌, List, length, refl, sym, subst, ◌∙◌, get_or, true, false, Bool}
use Rattle.std.specs.Prelude.{Contains}
use Rattle.ux_base.proofs.Lists.{same_or, less_or}
use Rattle.ux_boxes.specs.declared.place.Place.{Place}
use Rattle.ux_boxes.specs.Places.{label_lines, place_output, place_targets, is_reached}
use Rattle.ux_boxes.proofs.StepsLemmas.{target_from}
use Rattle.ux_admission.specs.Gains.{SoOfOne}
use Rattle.ux_state_places.specs.Arrivals.{AreKept, IsOpened}
use Rattle.ux_state_places.specs.Keeping.{AreSet, IsKeptAt, IsKeptTarget}

-- all targets of a place with a mark are kept
pub kept_marked : (old new : List Place) (n : ℕ) (is_met : Bool) → is_met ≡ true →
    AreSet old n true (place_targets old n) new → IsKeptAt old n is_met new
kept_marked old new n is_met is set = record {
  targets = place_targets old n;
  exact = λ q. (
    λ has. (q, has, (refl, inl is)),
    λ (t, has, (same, why)).
        subst (λ k. Contains (place_targets old n) k) same has,
  );
  set = subst (λ b. AreSet old n b (place_targets old n) new) (sym is) set;
}

module _ (marks : List Bool) (raw : List Place) where
  -- the places up to one are kept
  pub record AreKeptTo (n : ℕ) (places : List Place) : Type 0 where
    pub len : length places ≡ length raw
    pub outputs : (p : ℕ) → place_output places p ≡ place_output raw p
    pub lines : (p : ℕ) → label_lines places p ≡ label_lines raw p
    pub reached : (p : ℕ) → p < n → is_reached places p ≡ get_or marks p false
    pub targets : (p q : ℕ) → p < n → Contains (place_targets places p) q ↔
        (Contains (place_targets raw p) q × ((get_or marks p false ≡ true) ⊎ IsOpened raw q))
    pub later : (p : ℕ) → n ≤ p → place_targets places p ≡ place_targets raw p

  pub kept_first : AreKeptTo 0 raw
  kept_first = record {
    len = refl;
    outputs = λ p. refl;
    lines = λ p. refl;
    reached = λ p low. absurd (omega (arith, low));
    targets = λ p q low. absurd (omega (arith, low));
    later = λ p past. refl;
  }

  -- a target that is kept
  kept_so : (n : ℕ) (places : List Place) → AreKeptTo n places → (is_met : Bool) →
      is_met ≡ get_or marks n false → (q : ℕ) →
      SoOfOne (place_targets places n) (IsKeptTarget places is_met) q ↔
      (Contains (place_targets raw n) q × ((get_or marks n false ≡ true) ⊎ IsOpened raw q))
  kept_so n places to is_met mark q = (
    λ (t, has, (same, why)). (
      subst (λ (k : ℕ). Contains (place_targets raw n) k) same
          (subst (λ (l : List ℕ). Contains l t) (to.later n (omega arith)) has),
      elim why [
        | inl e ↦ inl (sym mark ∙ e)
        | inr (line, there, (sign, m)) ↦ inr (
          line,
          sign,
          subst (λ k. Contains (label_lines raw k) line) same
              (subst (λ l. Contains l line) (to.lines t) there),
          m,
        )
      ],
    ),
    λ (has, why). (
      q,
      subst (λ (l : List ℕ). Contains l q) (sym (to.later n (omega arith))) has,
      (
        refl,
        elim why [
          | inl e ↦ inl (mark ∙ e)
          | inr (line, sign, there, m) ↦ inr
              (line, subst (λ l. Contains l line) (sym (to.lines q)) there, (sign, m))
        ],
      ),
    ),
  )

  pub kept_next : (n : ℕ) (places new : List Place) (is_met : Bool) (targets : List ℕ) →
      AreKeptTo n places → is_met ≡ get_or marks n false →
      ((q : ℕ) → Contains targets q ↔
      SoOfOne (place_targets places n) (IsKeptTarget places is_met) q) →
      AreSet places n is_met targets new → AreKeptTo (n + 1) new
  kept_next n places new is_met targets to mark exact set = record {
    len = set.len ∙ to.len;
    outputs = λ p. set.outputs p ∙ to.outputs p;
    lines = λ p. set.lines p ∙ to.lines p;
    reached = λ p low. elim (same_or p n) [
      | inl e ↦ subst (λ k. is_reached new k ≡ get_or marks k false) (sym e) (set.reached ∙ mark)
      | inr apart ↦ set.others_reached p apart ∙ to.reached p (below p low apart)
    ];
    targets = λ p q low. elim (same_or p n) [
      | inl e ↦ subst (λ k. Contains (place_targets new k) q ↔
          (Contains (place_targets raw k) q × ((get_or marks k false ≡ true) ⊎ IsOpened raw q)))
          (sym e) (here q)
      | inr apart ↦
          let so = to.targets p q (below p low apart) in
          let same = set.others_targets p apart in (
            λ h. so.0 (subst (λ (l : List ℕ). Contains l q) same h),
            λ h. subst (λ (l : List ℕ). Contains l q) (sym same) (so.1 h),
          )
    ];
    later = λ p past.
        let apart : p ≢ n = λ e. absurd (omega (arith, past, e)) in
        set.others_targets p apart ∙ to.later p (omega (arith, past));
  }
    where
      below : (p : ℕ) → p < n + 1 → p ≢ n → p < n
      below p low apart = elim (less_or p n) [
        | inl l ↦ l
        | inr past ↦ absurd (apart (omega (arith, low, past)))
      ]

      here : (q : ℕ) → Contains (place_targets new n) q ↔
          (Contains (place_targets raw n) q × ((get_or marks n false ≡ true) ⊎ IsOpened raw q))
      here q =
          let so = kept_so n places to is_met mark q in (
            λ h. so.0 ((exact q).0 (subst (λ (l : List ℕ). Contains l q) set.leads h)),
            λ h. subst (λ (l : List ℕ). Contains l q) (sym set.leads) ((exact q).1 (so.1 h)),
          )

  pub kept_all : (n : ℕ) (places : List Place) → length raw ≤ n → AreKeptTo n places →
      AreKept marks raw places
  kept_all n places most to = record {
    len = to.len;
    reached = λ p inside. to.reached p (omega (arith, inside, most));
    outputs = to.outputs;
    lines = to.lines;
    targets = λ p q. elim (less_or p n) [
      | inl low ↦ to.targets p q low
      | inr past ↦ (
        λ h. absurd (none p q past (subst (λ (l : List ℕ). Contains l q) (to.later p past) h)),
        λ h. absurd (none p q past h.0),
      )
    ];
  }
    where
      none : (p q : ℕ) → n ≤ p → Contains (place_targets raw p) q → ⊥
      none p q past h = let low = target_from raw p q h in absurd (omega (arith, past, low, most))
