-- Behind what a frame derives, the frames under it weigh less.
use Rattle.std.proofs.Common.{arith, ◌≡◌, ℕ, zero, suc, ◌+◌, ◌-◌, ◌<◌, ◌≤◌, List, [], ◌∷◌, ◌++◌, refl, inl, inr, length, subst, reverse}
use Rattle.std.specs.Prelude.{Some, slice_get, Contains}
use Rattle.ux_alphabet.specs.Letters.{Letters}
use Rattle.ux_tokens.specs.Tokens.{Token}
use Rattle.ux_lexical_tables.specs.Tables.{Tables}
use Rattle.ux_net.specs.declared.state.Edge.{Edge}
use Rattle.ux_net.specs.declared.state.State.{State}
use Rattle.ux_net.specs.declared.net_graph.NetGraph.{NetGraph}
use Rattle.ux_net.specs.Measured.{IsMeasured}
use Rattle.ux_net.specs.Nets.{states_of}
use Rattle.ux_outputs.specs.declared.event.Event.{Event}
use Rattle.ux_outputs.specs.declared.event.Event.TheVariants.{Take}
use Rattle.ux_walk.specs.declared.config.Frame.{Frame}
use Rattle.ux_walk.specs.Contexts.{Applying, ApplyAsMeant}
use Rattle.ux_walk.specs.Courses.{Course, GoesOn, passing, put_events}
use Rattle.ux_walk.specs.Settings.{applied_text}
use Rattle.ux_walk.proofs.OneStep.{Goes, Onward, goes_entered, goes_only}
use Rattle.ux_walk.proofs.Onward.{AreForward, next_lighter}
use Rattle.ux_walk.proofs.Weights.{weight_of}

module _ (alphabet : Letters) (tokens : List Token) (tables : Tables) (applies : Applying)
    (graphs : List NetGraph) (meant : ApplyAsMeant (applied_text alphabet tokens tables) graphs
    applies) (forward : AreForward alphabet tokens tables) (measured : IsMeasured graphs) where
  -- what frames weigh at a position
  abbrev pub weight : ℕ → List Frame → ℕ
  weight at frames = weight_of graphs ((length tokens - at) + 1) frames

  -- the position is in the text, and the frames weigh less there
  abbrev pub Lighter : (m n : ℕ) → (frames others : List Frame) → Type 0
  Lighter m n frames others = (m ≤ length tokens) × (weight m frames < weight n others)

  abbrev GoesTo : (g n i j : ℕ) → List Event → Type 0
  GoesTo = Goes alphabet tokens tables applies graphs meant

  abbrev frame : ℕ → ℕ → Frame
  frame g n = record { graph = g; state = n }

  stepped : (g n i : ℕ) (fs : List Frame) → i ≤ length tokens → (w : Course) →
      GoesOn alphabet tokens tables applies graphs (frame g n) fs i [] w →
      Lighter w.at i w.frames (frame g n ∷ fs)
  stepped g n i fs inside w step = next_lighter graphs alphabet tokens tables applies meant forward
      measured (frame g n) fs i [] inside w step

  -- behind what a frame derives that weighs less than the bound, it is lighter
  abbrev IsBelow : ℕ → Type 0
  IsBelow bound = (g n i k : ℕ) (here : List Event) (fs : List Frame) →
      weight i (frame g n ∷ fs) < bound → i ≤ length tokens → GoesTo g n i k here →
      Lighter k i fs (frame g n ∷ fs)

  over : (bound : ℕ) → IsBelow bound → (g n i k : ℕ) (fs : List Frame) →
      weight i (frame g n ∷ fs) < suc bound → i ≤ length tokens → (state : State) →
      slice_get (states_of graphs g) n ≡ Some state → (edge : Edge) → Contains state.edges edge →
      (after : List Event) →
      Onward alphabet tokens tables applies graphs meant edge.label g edge.target i k after →
      Lighter k i fs (frame g n ∷ fs)
  over bound below g n i k fs less inside state found edge of_state after
      (inl (m, later, t, on, e)) =
      let put : List Event = reverse (put_events edge.output) ++ [] in
      let one = stepped g n i fs inside (record {
        frames = frame g edge.target ∷ fs;
        at = m;
        before = Take i m ∷ put;
      }) (state, found, inl (edge, of_state, inl (m, t, refl))) in
      let two = below g edge.target m k later fs (omega (arith, less, one.1)) one.0 on in
      (two.0, omega (arith, one.1, two.1))
  over bound below g n i k fs less inside state found edge of_state after
      (inr (inl (later, t, on, e))) =
      let put : List Event = reverse (put_events edge.output) ++ [] in
      let one = stepped g n i fs inside (record {
        frames = frame g edge.target ∷ fs;
        at = i;
        before = passing edge.label ++ put;
      }) (state, found, inl (edge, of_state, inr (inl (t, refl)))) in
      let two = below g edge.target i k later fs (omega (arith, less, one.1)) one.0 on in
      (two.0, omega (arith, one.1, two.1))
  over bound below g n i k fs less inside state found edge of_state after
      (inr (inr (inl (h, m, called, later, label, goes, on, e)))) =
      let put : List Event = reverse (put_events edge.output) ++ [] in
      let next : List Frame = frame g edge.target ∷ fs in
      let one = stepped g n i fs inside (record { frames = frame h 0 ∷ next; at = i; before = put }) (
        state,
        found,
        inl (
          edge,
          of_state,
          inr (inr (inl (
            h,
            label,
            goes_entered alphabet tokens tables applies graphs meant h i m called goes,
            refl,
          ))),
        ),
      ) in
      let two = below h 0 i m called next (omega (arith, less, one.1)) one.0 goes in
      let three = below g edge.target m k later fs (omega (arith, less, one.1, two.1)) two.0 on in
      (three.0, omega (arith, one.1, two.1, three.1))
  over bound below g n i k fs less inside state found edge of_state after
      (inr (inr (inr (c, opening, applied, on)))) =
      let put : List Event = reverse (put_events edge.output) ++ [] in
      let one = stepped g n i fs inside (record { frames = frame g c ∷ fs; at = i; before = put })
      (state, found, inl (edge, of_state, inr (inr (inr (c, opening, applied, refl))))) in
      let two = below g c i k after fs (omega (arith, less, one.1)) one.0 on in
      (two.0, omega (arith, one.1, two.1))

  pub behind_lighter : (bound g n i k : ℕ) (here : List Event) (fs : List Frame) →
      weight i (frame g n ∷ fs) < bound → i ≤ length tokens → GoesTo g n i k here →
      Lighter k i fs (frame g n ∷ fs)
  behind_lighter zero g n i k here fs less inside goes = absurd (omega (arith, less))
  behind_lighter (suc bound) g n i k here fs less inside goes =
      elim (goes_only alphabet tokens tables applies graphs meant g n i k here goes) [
        | inl s ↦
            let l = stepped g n i fs inside (record { frames = fs; at = i; before = [] })
            (s.0.state, s.0.found, inr (s.0.final, refl)) in
            subst (λ m. Lighter m i fs (frame g n ∷ fs)) s.1 l
        | inr a ↦ over bound (behind_lighter bound) g n i k fs less inside a.0 a.1 a.2 a.3 a.4 a.5
      ]
