-- States that are parted into those that are searched and what is kept aside: put back, they are the
-- states as they were.
use Rattle.std.proofs.Common.{arith, ◌≡◌, ℕ, zero, suc, ◌+◌, ◌<◌, ◌≤◌, List, [], ◌∷◌, ◌++◌, refl, sym, ◌∙◌, ap, ◌⊎◌, inl, inr, length, get_or, Bool, true, false, cond, Some, None}
use Rattle.std.specs.Prelude.{slice_get, Contains}
use Rattle.std.proofs.lemmas.Bool.{eq-eqb}
use Rattle.std.proofs.lemmas.Option.{same_Some}
use Rattle.ux_base.proofs.Lists.{nothing_in, first_or_later}
use Rattle.ux_net.specs.declared.net_graph.UnmetState.{UnmetState}
use Rattle.ux_net.specs.declared.state.State.{State}
use Rattle.ux_net.specs.Whole.{unmet_in, put_back, whole_from, bare_state, AreAside}
use Rattle.ux_net.proofs.KeysLemmas.{apart}
use Rattle.ux_net.proofs.WholeLemmas.{nothing}
use Rattle.ux_states.specs.Building.{entry_of, searched_from, aside_from}

-- what determines the whole states from n on is what is kept of those
whole_alike : (a b : List UnmetState) (n : ℕ) (states : List State) →
    ((m : ℕ) → n ≤ m → unmet_in a m ≡ unmet_in b m) → whole_from a n states ≡ whole_from b n states
whole_alike a b n [] same = refl
whole_alike a b n (s ∷ rest) same =
    ap (λ o. put_back o s ∷ whole_from a (n + 1) rest) (same n (omega arith))
    ∙ ap (λ l. put_back (unmet_in b n) s ∷ l)
    (whole_alike a b (n + 1) rest (λ m le. same m (omega (arith, le))))

module _ (met : ℕ → Bool) where
  -- nothing is kept of a state before the first
  none_before : (states : List State) (n m : ℕ) → m < n →
      unmet_in (aside_from met n states) m ≡ None
  none_before [] n m lt = refl
  none_before (s ∷ rest) n m lt = go (met n) (none_before rest (n + 1) m (omega (arith, lt)))
    where
      go : (t : Bool) → unmet_in (aside_from met (n + 1) rest) m ≡ None →
          unmet_in (cond t [] (entry_of n s ∷ []) ++ aside_from met (n + 1) rest) m ≡ None
      go true later = later
      go false later =
          ap (λ t. cond t (Some (entry_of n s)) (unmet_in (aside_from met (n + 1) rest) m))
          (apart n m (λ e. omega (arith, lt, e)))
          ∙ later

  -- the law: put back, the states are as they were
  pub whole : (states : List State) (n : ℕ) →
      whole_from (aside_from met n states) n (searched_from met n states) ≡ states
  whole [] n = refl
  whole (s ∷ rest) n =
      ap (λ x. x ∷ whole_from (aside_from met n (s ∷ rest)) (n + 1) (searched_from met (n + 1) rest))
      (first (met n))
      ∙ ap (λ l. s ∷ l) (behind (met n) (whole rest (n + 1)))
    where
      later : List UnmetState
      later = aside_from met (n + 1) rest

      first : (t : Bool) →
          put_back (unmet_in (cond t [] (entry_of n s ∷ []) ++ later) n) (cond t s bare_state) ≡ s
      first true = ap (λ o. put_back o s) (none_before rest (n + 1) n (omega arith))
      first false =
          ap (λ t. put_back (cond t (Some (entry_of n s)) (unmet_in later n)) bare_state)
          (eq-eqb n n refl)

      behind : (t : Bool) → whole_from later (n + 1) (searched_from met (n + 1) rest) ≡ rest →
          whole_from (cond t [] (entry_of n s ∷ []) ++ later) (n + 1) (searched_from met (n + 1) rest)
          ≡ rest
      behind true same = same
      behind false same =
          whole_alike (entry_of n s ∷ later) later (n + 1) (searched_from met (n + 1) rest)
          (λ m le. ap (λ t. cond t (Some (entry_of n s)) (unmet_in later m))
          (apart n m (λ e. omega (arith, le, e))))
          ∙ same

  -- there are as many
  pub length_searched : (states : List State) (n : ℕ) →
      length (searched_from met n states) ≡ length states
  length_searched [] n = refl
  length_searched (s ∷ rest) n = ap suc (length_searched rest (n + 1))

  -- a state to which a run comes is searched
  pub searched_at : (states : List State) (n i : ℕ) (state : State) →
      slice_get states i ≡ Some state → met (n + i) ≡ true →
      slice_get (searched_from met n states) i ≡ Some state
  searched_at [] n i state found is = cc
  searched_at (s ∷ rest) n zero state found is =
      let same : n + 0 ≡ n = omega arith in
      ap (λ t. Some (cond t s bare_state)) (ap met (sym same) ∙ is) ∙ found
  searched_at (s ∷ rest) n (suc i) state found is =
      let same : n + suc i ≡ n + 1 + i = omega arith in
      searched_at rest (n + 1) i state found (ap met (sym same) ∙ is)

  -- and what is searched is bare, or such a state
  pub searched_back : (states : List State) (n i : ℕ) (state : State) →
      slice_get (searched_from met n states) i ≡ Some state →
      ((met (n + i) ≡ true) × (slice_get states i ≡ Some state)) ⊎ (state ≡ bare_state)
  searched_back [] n i state found = cc
  searched_back (s ∷ rest) n zero state found = go (met n) refl found
    where
      go : (t : Bool) → met n ≡ t → Some (cond t s bare_state) ≡ Some state →
          ((met (n + 0) ≡ true) × (Some s ≡ Some state)) ⊎ (state ≡ bare_state)
      go true is here =
          let same : n + 0 ≡ n = omega arith in inl (ap met same ∙ is, here)
      go false is here = inr (sym (same_Some bare_state state here))
  searched_back (s ∷ rest) n (suc i) state found =
      let same : n + suc i ≡ n + 1 + i = omega arith in
      elim (searched_back rest (n + 1) i state found) [
        | inl (is, there) ↦ inl (ap met same ∙ is, there)
        | inr bare ↦ inr bare
      ]

  abbrev number_at : List UnmetState → ℕ → ℕ
  number_at entries i = (get_or entries i nothing).number

  -- entries are of the states from n on
  low : (states : List State) (n i : ℕ) → i < length (aside_from met n states) →
      n ≤ number_at (aside_from met n states) i
  low [] n i lt = absurd (omega (arith, lt))
  low (s ∷ rest) n i lt = go (met n) (low rest (n + 1)) i lt
    where
      later : List UnmetState
      later = aside_from met (n + 1) rest

      go : (t : Bool) → ((i : ℕ) → i < length later → n + 1 ≤ number_at later i) → (i : ℕ) →
          i < length (cond t [] (entry_of n s ∷ []) ++ later) →
          n ≤ number_at (cond t [] (entry_of n s ∷ []) ++ later) i
      go true behind i lt = let le = behind i lt in omega (arith, le)
      go false behind zero lt = omega arith
      go false behind (suc i) lt = let le = behind i (omega (arith, lt)) in omega (arith, le)

  -- and ascend
  rise : (states : List State) (n i j : ℕ) → i < j → j < length (aside_from met n states) →
      number_at (aside_from met n states) i < number_at (aside_from met n states) j
  rise [] n i j lt within = absurd (omega (arith, within))
  rise (s ∷ rest) n i j lt within = go (met n) (rise rest (n + 1)) i j lt within
    where
      later : List UnmetState
      later = aside_from met (n + 1) rest

      go : (t : Bool) →
          ((i j : ℕ) → i < j → j < length later → number_at later i < number_at later j) →
          (i j : ℕ) → i < j → j < length (cond t [] (entry_of n s ∷ []) ++ later) →
          number_at (cond t [] (entry_of n s ∷ []) ++ later) i
          < number_at (cond t [] (entry_of n s ∷ []) ++ later) j
      go true behind i j lt within = behind i j lt within
      go false behind i zero lt within = absurd (omega (arith, lt))
      go false behind zero (suc j) lt within =
          let le = low rest (n + 1) j (omega (arith, within)) in omega (arith, le)
      go false behind (suc i) (suc j) lt within =
          behind i j (omega (arith, lt)) (omega (arith, within))

  -- in their places stand bare states
  bare : (states : List State) (n : ℕ) (entry : UnmetState) →
      Contains (aside_from met n states) entry →
      (i : ℕ) × (entry.number ≡ n + i)
      × (slice_get (searched_from met n states) i ≡ Some bare_state)
  bare [] n entry has = absurd (nothing_in has)
  bare (s ∷ rest) n entry has =
      go (λ h.
      let r = bare rest (n + 1) entry h in
      let e = r.1 in
      (suc r.0, omega (arith, e), r.2)) (met n) refl has
    where
      later : List UnmetState
      later = aside_from met (n + 1) rest

      go : (Contains later entry → (i : ℕ) × (entry.number ≡ n + i)
          × (slice_get (searched_from met n (s ∷ rest)) i ≡ Some bare_state)) → (t : Bool) →
          met n ≡ t → Contains (cond t [] (entry_of n s ∷ []) ++ later) entry →
          (i : ℕ) × (entry.number ≡ n + i)
          × (slice_get (searched_from met n (s ∷ rest)) i ≡ Some bare_state)
      go behind true is has = behind has
      go behind false is has = elim (first_or_later (entry_of n s) later entry has) [
        | inl e ↦ (
          0,
          (let same = ap (λ (x : UnmetState). x.number) e in omega (arith, same)),
          ap (λ t. Some (cond t s bare_state)) is,
        )
        | inr more ↦ behind more
      ]

  -- so they are kept aside as they have to be
  pub are_aside : (states : List State) → AreAside (aside_from met 0 states) (searched_from met 0 states)
  are_aside states = record {
    ascend = rise states 0;
    bare = λ entry has.
        let r = bare states 0 entry has in
        let same : entry.number ≡ r.0 = let e = r.1 in omega (arith, e) in
        ap (slice_get (searched_from met 0 states)) same ∙ r.2;
  }
