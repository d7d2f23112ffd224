-- Stretches listed in order, one position and one end after another.
use Rattle.std.proofs.Common.{arith, ◌≡◌, ℕ, ◌+◌, ◌<◌, ◌≤◌, ◌⊎◌, ◌↔◌, List, [], ◌∷◌, ◌++◌, Bool, inl, inr, sym, ap, subst, ◌∙◌, length, get_or, take}
use Rattle.std.specs.Prelude.{AllPairs, Contains, IsTrue}
use Rattle.std.specs.List.Sorted.{IsStrictlyIncreasing}
use Rattle.std.proofs.lemmas.List.{get_or-take, get_or_default, length-take}
use Rattle.std.proofs.lemmas.List.Elements.{Contains-append_left, Contains-get_or, Contains-push, Contains-push_cases}
use Rattle.std.proofs.lemmas.List.Kept.{AllPairs-from_increasing}
use Rattle.std.proofs.lemmas.List.Quantifiers.{all_pairs_push}
use Rattle.ux_base.proofs.Lists.{less_or, nothing_in, take_more, take_whole}
use Rattle.ux_tfst_locate.specs.declared.listing.Stretch.{Stretch}
use Rattle.ux_tfst_locate.specs.Listing.{AreListed, AreListedTo, ComesFirst, IsFound}
use Rattle.ux_tfst_locate.specs.Reaching.{is_marked}

-- what stands before a place of an ascending list is less
before_less : (xs : List ℕ) (k x : ℕ) → IsStrictlyIncreasing xs → k < length xs →
    Contains (take k xs) x → x < get_or xs k 0
before_less xs k x up inside (j, low, at) =
    let long = length-take k xs in
    let less : j < k = omega (arith, low, long) in
    let here : get_or xs j x ≡ x = sym (get_or-take k xs j x less) ∙ at in
    let same = get_or_default xs j x 0 (omega (arith, less, inside)) in
    let rises = AllPairs-from_increasing xs up j k 0 less inside in
    omega (arith, here, same, rises)

module _ (old : List Stretch) (from : ℕ) (ends : List ℕ) (leading : List Bool) where
  -- an end that is listed
  abbrev pub IsAdded : (ends : List ℕ) → Stretch → Type 0
  IsAdded ends s =
      (s.from ≡ from) × (from < s.to) × Contains ends s.to × IsTrue (is_marked leading s.to)

  -- the first ends are listed
  pub record AreAddedTo (k : ℕ) (found : List Stretch) : Type 0 where
    pub ascend : AllPairs ComesFirst found
    pub members : (s : Stretch) → Contains found s ↔ (Contains old s ⊎ IsAdded (take k ends) s)

  pub added_none : AreListedTo from old → AreAddedTo 0 old
  added_none are = record {
    ascend = are.ascend;
    members = λ s. (
      λ has. inl has,
      λ h. elim h [
        | inl has ↦ has
        | inr added ↦ absurd (nothing_in added.2)
      ],
    );
  }

  module _ (are : AreListedTo from old) (up : IsStrictlyIncreasing ends) (k : ℕ)
      (inside : k < length ends) where
    more : (d : ℕ) → take (k + 1) ends ≡ take k ends ++ get_or ends k d ∷ []
    more d = take_more ends k d inside

    pub added_past : (to : ℕ) (found : List Stretch) → to ≡ get_or ends k to →
        (from < to → IsTrue (is_marked leading to) → ⊥) → AreAddedTo k found →
        AreAddedTo (k + 1) found
    added_past to found is never added =
        let e : take (k + 1) ends ≡ take k ends ++ to ∷ [] =
        more to ∙ ap (λ n. take k ends ++ n ∷ []) (sym is) in
        record {
          ascend = added.ascend;
          members = λ s. (
            λ has. elim ((added.members s).0 has) [
              | inl was ↦ inl was
              | inr a ↦ inr (
                a.0,
                a.1,
                subst (λ (l : List ℕ). Contains l s.to) (sym e)
                    (Contains-append_left (take k ends) (to ∷ []) s.to a.2),
                a.3,
              )
            ],
            λ h. elim h [
              | inl was ↦ (added.members s).1 (inl was)
              | inr a ↦ elim (Contains-push_cases (take k ends) to s.to
                  (subst (λ (l : List ℕ). Contains l s.to) e a.2)) [
                    | inl there ↦ (added.members s).1 (inr (a.0, a.1, there, a.3))
                    | inr same ↦ absurd (never (subst (λ n. from < n) (sym same) a.1)
                        (subst (λ n. IsTrue (is_marked leading n)) (sym same) a.3))
                  ]
            ],
          );
        }

    pub added_more : (to : ℕ) (found new : List Stretch) (one : Stretch) → to ≡ get_or ends k to →
        from < to → IsTrue (is_marked leading to) → one.from ≡ from → one.to ≡ to →
        new ≡ found ++ one ∷ [] → AreAddedTo k found → AreAddedTo (k + 1) new
    added_more to found new one is some marked begins ends_at put added =
        let e : take (k + 1) ends ≡ take k ends ++ to ∷ [] =
        more to ∙ ap (λ n. take k ends ++ n ∷ []) (sym is) in
        let last = get_or_default ends k 0 to inside in
        let first : (i : ℕ) (d : Stretch) → i < length found → ComesFirst (get_or found i d) one =
        λ i d less. elim ((added.members (get_or found i d)).0 (Contains-get_or found i d less)) [
          | inl was ↦ let low = are.below (get_or found i d) was in inl (omega (arith, low, begins))
          | inr a ↦
              let same = a.0 in
              let less = before_less ends k (get_or found i d).to up inside a.2 in inr (
                omega (arith, same, begins),
                omega (arith, less, last, is, ends_at),
              )
        ] in
        subst (λ (l : List Stretch). AreAddedTo (k + 1) l) (sym put) (record {
          ascend = all_pairs_push ComesFirst found one added.ascend first;
          members = λ s. (
            λ has. elim (Contains-push_cases found one s has) [
              | inl there ↦ elim ((added.members s).0 there) [
                | inl was ↦ inl was
                | inr a ↦ inr (
                  a.0,
                  a.1,
                  subst (λ (l : List ℕ). Contains l s.to) (sym e)
                      (Contains-append_left (take k ends) (to ∷ []) s.to a.2),
                  a.3,
                )
              ]
              | inr same ↦ subst (λ (s : Stretch). Contains old s ⊎ IsAdded (take (k + 1) ends) s) same (
                  inr (
                    begins,
                    subst (λ n. from < n) (sym ends_at) some,
                    subst (λ (l : List ℕ). Contains l one.to) (sym e)
                        (subst (λ n. Contains (take k ends ++ to ∷ []) n) (sym ends_at)
                        (Contains-push (take k ends) to)),
                    subst (λ n. IsTrue (is_marked leading n)) (sym ends_at) marked,
                  ))
            ],
            λ h. elim h [
              | inl was ↦ Contains-append_left found (one ∷ []) s ((added.members s).1 (inl was))
              | inr a ↦ elim (Contains-push_cases (take k ends) to s.to
                  (subst (λ (l : List ℕ). Contains l s.to) e a.2)) [
                    | inl there ↦ Contains-append_left found (one ∷ []) s
                        ((added.members s).1 (inr (a.0, a.1, there, a.3)))
                    | inr same ↦
                        let is_one : one ≡ s = λ i. record {
                          from = (begins ∙ sym a.0) i;
                          to = (ends_at ∙ same) i;
                        } in
                        subst (λ (s : Stretch). Contains (found ++ one ∷ []) s) is_one
                        (Contains-push found one)
                  ]
            ],
          );
        })

  pub added_all : (k : ℕ) (found : List Stretch) → AreListedTo from old → length ends ≤ k →
      AreAddedTo k found → AreListedTo (from + 1) found
      × ((s : Stretch) → Contains found s ↔ (Contains old s ⊎ IsAdded ends s))
  added_all k found are over added =
      let members = subst (λ (l : List ℕ). (s : Stretch) → Contains found s
      ↔ (Contains old s ⊎ IsAdded l s)) (take_whole ends k over) added.members in (
        record {
          ascend = added.ascend;
          below = λ s has. elim ((members s).0 has) [
            | inl was ↦ let low = are.below s was in omega (arith, low)
            | inr a ↦ let e = a.0 in omega (arith, e)
          ];
        },
        members,
      )

module _ (reached leading : List Bool) (Ends : (from to : ℕ) → Type 0) where
  -- the stretches that begin before a position are listed
  pub record AreFoundTo (from : ℕ) (found : List Stretch) : Type 0 where
    pub listed : AreListedTo from found
    pub exact : (s : Stretch) → Contains found s ↔ ((s.from < from) × IsFound reached leading Ends s)

  pub found_none : AreFoundTo 0 []
  found_none = record {
    listed = record {
      ascend = λ i j d less inside. absurd (omega (arith, inside));
      below = λ s has. absurd (nothing_in has);
    };
    exact = λ s. (λ has. absurd (nothing_in has), λ h. let low = h.0 in absurd (omega (arith, low)));
  }

  pub found_past : (from : ℕ) (found : List Stretch) → (IsTrue (is_marked reached from) → ⊥) →
      AreFoundTo from found → AreFoundTo (from + 1) found
  found_past from found never are = record {
    listed = record {
      ascend = are.listed.ascend;
      below = λ s has. let low = are.listed.below s has in omega (arith, low);
    };
    exact = λ s. (
      λ has. let told = (are.exact s).0 has in (let low = told.0 in omega (arith, low), told.1),
      λ h. elim (less_or s.from from) [
        | inl low ↦ (are.exact s).1 (low, h.1)
        | inr past ↦
            let bound = h.0 in
            let e : s.from ≡ from = omega (arith, past, bound) in
            absurd (never (subst (λ n. IsTrue (is_marked reached n)) e h.1.is_reached))
      ],
    );
  }

  pub found_more : (from : ℕ) (old new : List Stretch) (ends : List ℕ) →
      IsTrue (is_marked reached from) → ((j : ℕ) → Contains ends j ↔ Ends from j) →
      AreListedTo (from + 1) new →
      ((s : Stretch) → Contains new s ↔ (Contains old s ⊎ IsAdded old from ends leading ends s)) →
      AreFoundTo from old → AreFoundTo (from + 1) new
  found_more from old new ends here are_ends listed members are = record {
    listed = listed;
    exact = λ s. (
      λ has. elim ((members s).0 has) [
        | inl was ↦ let told = (are.exact s).0 was in (let low = told.0 in omega (arith, low), told.1)
        | inr a ↦
            let begins = a.0 in (
              omega (arith, begins),
              record {
                some = subst (λ n. n < s.to) (sym begins) a.1;
                is_reached = subst (λ n. IsTrue (is_marked reached n)) (sym begins) here;
                is_leading = a.3;
                ends = subst (λ n. Ends n s.to) (sym begins) ((are_ends s.to).0 a.2);
              },
            )
      ],
      λ h. elim (less_or s.from from) [
        | inl low ↦ (members s).1 (inl ((are.exact s).1 (low, h.1)))
        | inr past ↦
            let bound = h.0 in
            let e : s.from ≡ from = omega (arith, past, bound) in
            (members s).1 (inr (
              e,
              subst (λ n. n < s.to) e h.1.some,
              (are_ends s.to).1 (subst (λ n. Ends n s.to) e h.1.ends),
              h.1.is_leading,
            ))
      ],
    );
  }

  pub found_all : (from : ℕ) (found : List Stretch) →
      ((i : ℕ) → IsTrue (is_marked reached i) → i < from) → AreFoundTo from found →
      AreListed (IsFound reached leading Ends) found
  found_all from found inside are = record {
    ascend = are.listed.ascend;
    exact = λ s. (
      λ has. ((are.exact s).0 has).1,
      λ h. (are.exact s).1 (inside s.from h.is_reached, h),
    );
  }
