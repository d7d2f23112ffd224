-- A net keeps to the rule of the marks, or is refused for one state.
use Rattle.std.proofs.Common.{◌≡◌, ◌≢◌, ◌∙◌, ◌⊎◌, inl, inr, ℕ, zero, suc, ◌<◌, List, [], ◌∷◌, ap, refl, subst, sym}
use Rattle.std.specs.Prelude.{None, Option, Some, slice_get}
use Rattle.std.specs.List.{AllZip}
use Rattle.std.proofs.lemmas.Bool.{cases_order}
use Rattle.std.proofs.lemmas.Option.{same_Some}
use Rattle.ux_net.specs.declared.net_graph.NetGraph.{NetGraph}
use Rattle.ux_net.specs.declared.net_graph.UnmetState.{UnmetState}
use Rattle.ux_net.specs.declared.state.State.{State}
use Rattle.ux_net.specs.Nets.{graph_at, states_in, states_of}
use Rattle.ux_marks.specs.declared.error.MorphError.{MorphError}
use Rattle.ux_marks.specs.declared.error.MorphError.TheVariants.{BadMarks, BadOutput, NoMemory}
use Rattle.ux_marks.specs.Marks.{HasMarkAt, IsBadIn, IsBadState, IsFirstBad, IsNameOf, KeepsMarks, Refuses}

-- a net whose states are good isn't refused
pub keeps_not_refused : (net : List NetGraph) (error : MorphError) → error ≢ NoMemory →
    KeepsMarks net → Refuses net error → ⊥
keeps_not_refused net (BadMarks name node) some keeps refused = keeps refused.0 node refused.1.bad
keeps_not_refused net (BadOutput token) some keeps refused = refused
keeps_not_refused net NoMemory some keeps refused = some refl

module _ (net : List NetGraph) where
  one_graph : (g h n m : ℕ) → IsFirstBad net g n → IsFirstBad net h m → g ≡ h
  one_graph g h n m a b = elim (cases_order g h) [
    | inl same ↦ same
    | inr (inl low) ↦ absurd (b.graph g n low a.bad)
    | inr (inr low) ↦ absurd (a.graph h m low b.bad)
  ]

  one_state : (g n m : ℕ) → IsFirstBad net g n → IsFirstBad net g m → n ≡ m
  one_state g n m a b = elim (cases_order n m) [
    | inl same ↦ same
    | inr (inl low) ↦ absurd (b.state n low a.bad)
    | inr (inr low) ↦ absurd (a.state m low b.bad)
  ]

  one_name : (g : ℕ) (name other : List ℕ) → IsNameOf net g name → IsNameOf net g other →
      name ≡ other
  one_name g name other a b =
      let graph = same_Some a.graph b.graph (sym a.found ∙ b.found) in
      a.same ∙ (ap (λ (x : NetGraph). x.name) graph ∙ sym b.same)

  -- a net is refused for one error, want of memory aside
  pub refused_once : (e f : MorphError) → e ≢ NoMemory → f ≢ NoMemory → Refuses net e →
      Refuses net f → e ≡ f
  refused_once (BadMarks name node) (BadMarks other n) some also a b =
      let graph = one_graph a.0 b.0 node n a.1 b.1 in
      let first = subst (λ (g : ℕ). IsFirstBad net g node) graph a.1 in
      let named = subst (λ (g : ℕ). IsNameOf net g name) graph a.2 in
      ap (λ (x : List ℕ). BadMarks x node) (one_name b.0 name other named b.2)
      ∙ ap (BadMarks other) (one_state b.0 node n first b.1)
  refused_once (BadOutput token) f some also a b = absurd a
  refused_once e (BadOutput token) some also a b = absurd b
  refused_once NoMemory f some also a b = absurd (some refl)
  refused_once e NoMemory some also a b = absurd (also refl)

-- nets of the same names and states
abbrev pub AreAlike : NetGraph → NetGraph → Type 0
AreAlike x y = (x.name ≡ y.name) × (x.states ≡ y.states) × (x.unmet ≡ y.unmet)

-- graphs at one number are alike
graphs_alike : (a b : List NetGraph) (n : ℕ) (x : NetGraph) → AllZip AreAlike a b →
    slice_get a n ≡ Some x → (y : NetGraph) × (slice_get b n ≡ Some y) × AreAlike x y
graphs_alike [] [] n x each at = cc
graphs_alike [] (y ∷ b) n x each at = absurd each
graphs_alike (z ∷ a) [] n x each at = absurd each
graphs_alike (z ∷ a) (y ∷ b) zero x each at =
    (y, refl, subst (λ (w : NetGraph). AreAlike w y) (same_Some z x at) each.0)
graphs_alike (z ∷ a) (y ∷ b) (suc n) x each at = graphs_alike a b n x each.1 at

states_alike : (a b : List NetGraph) → AllZip AreAlike a b → (g : ℕ) →
    states_of a g ≡ states_of b g
states_alike [] [] each g = refl
states_alike [] (y ∷ b) each g = absurd each
states_alike (x ∷ a) [] each g = absurd each
states_alike (x ∷ a) (y ∷ b) each zero = refl
states_alike (x ∷ a) (y ∷ b) each (suc zero) = each.0.1
states_alike (x ∷ a) (y ∷ b) each (suc (suc g)) = states_alike a b each.1 (suc g)

module _ (a b : List NetGraph) (each : AllZip AreAlike a b) where
  bad_there : (g n : ℕ) → IsBadState a g n → IsBadState b g n
  bad_there g n (inl main) = inl (
    main.0,
    (
      main.1.0,
      subst (λ (states : List State). IsBadIn states n main.1.0) (states_alike a b each g) main.1.1,
    ),
  )
  bad_there g n (inr other) = inr (
    other.0,
    subst (λ (states : List State). HasMarkAt states n) (states_alike a b each g) other.1,
  )

  bad_back : (g n : ℕ) → IsBadState b g n → IsBadState a g n
  bad_back g n (inl main) = inl (
    main.0,
    (
      main.1.0,
      subst (λ (states : List State). IsBadIn states n main.1.0) (sym (states_alike a b each g))
          main.1.1,
    ),
  )
  bad_back g n (inr other) = inr (
    other.0,
    subst (λ (states : List State). HasMarkAt states n) (sym (states_alike a b each g)) other.1,
  )

  name_there : (g : ℕ) (name : List ℕ) → IsNameOf a g name → IsNameOf b g name
  name_there zero name named = absurd (let at : None ≡ Some named.graph = named.found in cc)
  name_there (suc g) name named =
      let there = graphs_alike a b g named.graph each named.found in
      record { graph = there.0; found = there.1; same = named.same ∙ there.2.0 }

  -- alike nets keep the rule together
  pub keeps_alike : KeepsMarks a → KeepsMarks b
  keeps_alike keeps g n bad = keeps g n (bad_back g n bad)

  -- and are refused for the same
  pub refused_alike : (error : MorphError) → Refuses a error → Refuses b error
  refused_alike (BadMarks name node) refused = (
    refused.0,
    record {
      bad = bad_there refused.0 node refused.1.bad;
      graph = λ h m low bad. refused.1.graph h m low (bad_back h m bad);
      state = λ m low bad. refused.1.state m low (bad_back refused.0 m bad);
    },
    name_there refused.0 name refused.2,
  )
  refused_alike (BadOutput token) refused = refused
  refused_alike NoMemory refused = tt
