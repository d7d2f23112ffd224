-- The root is finished.
use Rattle.std.proofs.Common.{arith, ◌≡◌, ℕ, zero, suc, ◌<◌, ◌+◌, ◌≤◌, ◌∙◌, List, [], ◌∷◌, ◌++◌, ◌⊎◌, ◌↔◌, inl, inr, refl, sym, ap, subst, length, length-append}
use Rattle.std.specs.Prelude.{Some, slice_get, Contains}
use Rattle.std.proofs.lemmas.Option.{same_Some, none-some, slice_get_within}
use Rattle.ux_dawg.specs.declared.state.State.{State}
use Rattle.ux_dawg.specs.declared.state.Edge.{Edge}
use Rattle.ux_dawg.specs.declared.pending.Frame.{Frame}
use Rattle.ux_dawg.specs.Flat.{state_of}
use Rattle.ux_dawg.specs.Register.{AreOnce, AreOnceStates, IsKept, IsKeptState}
use Rattle.ux_dawg.specs.Paths.{edge, Right, IsPath, Leads, IsFit, IsAlive}
use Rattle.ux_dawg.proofs.OrderLemmas.{numbered}
use Rattle.ux_dawg.specs.Building.{Held, IsSound, IsCut, IsReady, IsFinished, IsTarget, IsPending}
use Rattle.ux_dawg.proofs.PathLemmas.{is_some_of, kept_at, kept_from, right_stays, right_back}
use Rattle.ux_dawg.proofs.MinimalLemmas.{apart, have_paths, reached}

-- the root is no state that is there: from each of these a way leads up to it
climbs : (s : List State) (top : State) → IsSound s [] top → (r : ℕ) → slice_get s r ≡ Some top → (n i : ℕ) → r ≤ i → i < length s → length s ≤ i + n → ⊥
climbs s top sound r at zero i up less far = absurd (omega (arith, less, far))
climbs s top sound r at (suc n) i up less far = let t = sound.used i less in by t t.stands (λ j high below h. climbs s top sound r at n j high below h)
  where
    by : (t : IsTarget s [] top i) → IsPending [] top t.«from» ⊎ Contains s t.«from» → ((j : ℕ) → r ≤ j → j < length s → length s ≤ j + n → ⊥) → ⊥
    by t (inl (inl is)) on = absurd (let l = (sound.fit r top at).within (edge t.letter i) (subst (λ (x : State). Contains x.edges (edge t.letter i)) is t.leads) in omega (arith, l, up))
    by t (inl (inr f)) on = none-some f.0 (is_some_of [] f.0 f.1).1
    by t (inr there) on =
        let j = is_some_of s t.«from» there in
        let l = (sound.fit j.0 t.«from» j.1).within (edge t.letter i) t.leads in
        on j.0 (omega (arith, up, l)) (slice_get_within s j.0 t.«from» j.1) (omega (arith, far, l))

is_nil : (fs : List Frame) → length fs ≡ 0 → fs ≡ []
is_nil [] none = refl
is_nil (f ∷ fs) none = absurd (omega (arith, none))

module _ (s₁ : List State) (t₁ : State) (s₂ : List State) (r : ℕ) (sound : IsSound s₁ [] t₁) (kept : IsKept s₁ s₂ t₁ r) where
  root_new : (s₂ ≡ s₁ ++ t₁ ∷ []) × (r ≡ length s₁)
  root_new = elim kept.grown [
    | inl same ↦ absurd (
        let at : slice_get s₁ r ≡ Some t₁ = subst (λ (l : List State). slice_get l r ≡ Some t₁) same kept.stored in
        climbs s₁ t₁ sound r at (length s₁) r (omega arith) (slice_get_within s₁ r t₁ at) (omega arith))
    | inr new ↦ new
  ]

  stay : (i : ℕ) (x : State) → slice_get s₁ i ≡ Some x → slice_get s₂ i ≡ Some x
  stay = kept_at s₁ s₂ t₁ r kept

  last_is : length s₂ ≡ suc r
  last_is = let n = root_new in omega (arith, ap (length {A = State}) n.0, length-append s₁ (t₁ ∷ []), n.1)

  fit₂ : (i : ℕ) (x : State) → slice_get s₂ i ≡ Some x → IsFit i x
  fit₂ i x at = elim (kept_from s₁ s₂ t₁ r kept i x at) [
    | inl old ↦ sound.fit i x old
    | inr new ↦ subst (λ m. IsFit m x) (sym new.0) (subst (IsFit (length s₁)) (sym new.1) sound.top_fit)
  ]

  alive₂ : IsAlive t₁ → (i : ℕ) (x : State) → slice_get s₂ i ≡ Some x → IsAlive x
  alive₂ live i x at = elim (kept_from s₁ s₂ t₁ r kept i x at) [
    | inl old ↦ sound.alive i x old
    | inr new ↦ subst IsAlive (sym new.1) live
  ]

  used₂ : (i : ℕ) → i < r → (j a : ℕ) × (x : State) × (slice_get s₂ j ≡ Some x) × Contains x.edges (edge a i)
  used₂ i low = let n = root_new in let t = sound.used i (omega (arith, low, n.1)) in by t t.stands
    where
      by : (t : IsTarget s₁ [] t₁ i) → IsPending [] t₁ t.«from» ⊎ Contains s₁ t.«from» → (j a : ℕ) × (x : State) × (slice_get s₂ j ≡ Some x) × Contains x.edges (edge a i)
      by t (inl (inl is)) = (r, t.letter, t.«from», kept.stored ∙ ap Some (sym is), t.leads)
      by t (inl (inr f)) = absurd (none-some f.0 (is_some_of [] f.0 f.1).1)
      by t (inr there) = let j = is_some_of s₁ t.«from» there in (j.0, t.letter, t.«from», stay j.0 t.«from» j.1, t.leads)

  exact₂ : (w : List ℕ) (c : ℕ) → IsPath s₂ r w c ↔ Held s₁ [] t₁ w c
  exact₂ w c = (
    λ h. right_back s₁ s₂ stay sound.fit t₁ sound.top_fit w c (subst (λ (x : State). Right s₂ x w c) (same_Some h.0 t₁ (sym h.1 ∙ kept.stored)) h.2),
    λ h. (t₁, kept.stored, right_stays s₁ s₂ stay sound.fit t₁ w c h),
  )

  reached₂ : (i : ℕ) → i < length s₂ → (u : List ℕ) × Leads s₂ r u i
  reached₂ i less = reached s₂ r last_is fit₂ used₂ r i (omega arith) less

  -- one state alone, or all are alive
  apart₂ : AreOnce s₂ → (length s₁ ≡ 0) ⊎ IsAlive t₁ → (i j : ℕ) → i < length s₂ → j < length s₂ →
      ((w : List ℕ) (c : ℕ) → IsPath s₂ i w c ↔ IsPath s₂ j w c) → i ≡ j
  apart₂ once (inl none) i j low high same = let n = root_new in let l = last_is in omega (arith, low, high, l, n.1, none)
  apart₂ once (inr live) i j low high same = apart s₂ fit₂ (alive₂ live) once i j low high same

pub finished : (s : List State) (a : List Frame) (t : State) (s₁ : List State) (a₁ : List Frame) (t₁ : State) (s₂ : List State) (r : ℕ) →
    IsReady s a t → IsCut s a t s₁ a₁ t₁ 0 → IsKept s₁ s₂ t₁ r → AreOnce s₂ → IsFinished s a t s₂ r
finished s a t s₁ a₁ t₁ s₂ r ready cut kept once =
    let nil = is_nil a₁ cut.depth in
    let sound : IsSound s₁ [] t₁ = subst (λ (l : List Frame). IsSound s₁ l t₁) nil cut.sound in
    record {
      exact = λ w c. let e = exact₂ s₁ t₁ s₂ r sound kept w c in let h = cut.held w c in (
        λ x. h.0 (subst (λ (l : List Frame). Held s₁ l t₁ w c) (sym nil) (e.0 x)),
        λ x. e.1 (subst (λ (l : List Frame). Held s₁ l t₁ w c) nil (h.1 x)),
      );
      minimal = record {
        reached = reached₂ s₁ t₁ s₂ r sound kept;
        apart = apart₂ s₁ t₁ s₂ r sound kept once (or_empty (length a) refl);
      };
      numbered = numbered s₁ t₁ s₂ r sound.ordered sound.fit (fit₂ s₁ t₁ s₂ r sound kept) sound.top_fit.within (stay s₁ t₁ s₂ r sound kept) (last_is s₁ t₁ s₂ r sound kept) (root_new s₁ t₁ s₂ r sound kept).1 kept.stored;
      paths = λ some. have_paths s₂ (fit₂ s₁ t₁ s₂ r sound kept) (alive₂ s₁ t₁ s₂ r sound kept (cut.alive some));
      fit = fit₂ s₁ t₁ s₂ r sound kept;
      last = let l = last_is s₁ t₁ s₂ r sound kept in omega (arith, l);
    }
  where
    or_empty : (n : ℕ) → length a ≡ n → (length s₁ ≡ 0) ⊎ IsAlive t₁
    or_empty zero is = inl (ap (length {A = State}) (cut.still is) ∙ ready.empty is)
    or_empty (suc n) is = inr (cut.alive (omega (arith, is)))

-- the same of the states that a register gives up
pub finished_states : (s : List State) (a : List Frame) (t : State) (s₁ : List State)
    (a₁ : List Frame) (t₁ : State) (edges : List Edge) (s₂ : List State) (r : ℕ)
    (all : List State) → IsReady s a t → IsCut s a t s₁ a₁ t₁ 0 → edges ≡ t₁.edges →
    IsKeptState s₁ s₂ (state_of t₁.code edges) r → all ≡ s₂ → AreOnceStates all →
    IsFinished s a t s₂ r
finished_states s a t s₁ a₁ t₁ edges s₂ r all ready cut is kept same once =
    finished s a t s₁ a₁ t₁ s₂ r ready cut
    (subst (λ (l : List Edge). IsKeptState s₁ s₂ (state_of t₁.code l) r) is kept)
    (subst AreOnceStates same once)
