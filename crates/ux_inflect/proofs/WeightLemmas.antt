-- Why a search ends: each step leads to a place that weighs less, and so the work that is left falls.
use Rattle.std.proofs.Common.{arith, ◌≡◌, ℕ, zero, suc, ◌+◌, ◌*◌, ◌^◌, ◌<◌, ◌≤◌, List, [], ◌∷◌, refl, sym, subst, map, get_or, ◌⊎◌, inl, inr, Bool, true, false, Some, None}
use Rattle.std.specs.Prelude.{Contains, Option, slice_get}
use Rattle.std.proofs.Math.Nat.{mul-le-mul_left, mul-le-mul_right, pow-suc, pow-zero}
use Rattle.std.proofs.lemmas.List.Elements.{Contains-append_cases}
use Rattle.ux_base.proofs.Lists.{nothing_in, first_or_later, contains_first}
use Rattle.ux_base.proofs.JoinedLists.{contained_mapped}
use Rattle.ux_digraph.specs.Paths.{row_of, here}
use Rattle.ux_digraph.proofs.PathsLemmas.{reaches_then}
use Rattle.ux_net.specs.declared.label.Label.{Label}
use Rattle.ux_net.specs.declared.label.Label.TheVariants as label
use Rattle.ux_net.specs.declared.net_graph.NetGraph.{NetGraph}
use Rattle.ux_net.specs.declared.state.Edge.{Edge}
use Rattle.ux_net.specs.declared.state.State.{State}
use Rattle.ux_net.specs.Nets.{states_of}
use Rattle.ux_inflect.specs.declared.classes.Ranks.{Ranks}
use Rattle.ux_inflect.specs.declared.config.Frame.{Frame}
use Rattle.ux_inflect.specs.declared.stroke.Detail.{Detail}
use Rattle.ux_inflect.specs.Cyclic.{state_rows, call_rows, called_on}
use Rattle.ux_inflect.specs.Endings.{level_in, call_level, state_level, AreRanks}
use Rattle.ux_inflect.specs.Places.{Place, next, along_edge, returning, from_state, from_frames, entered}
use Rattle.ux_inflect.specs.Searches.{AreMet}
use Rattle.ux_inflect.specs.Weights.{total, base_of, frame_weight, weight}
use Rattle.ux_inflect.proofs.RowsLemmas.{edge_in_row, call_in_row}
use Rattle.ux_inflect.proofs.WordsLemmas.{frame_of}

-- a power of a number above 0, and of a greater exponent
pub power_some : (b k : ℕ) → 0 < b → 0 < b ^ k
power_some b zero h = subst (λ n. 0 < n) (sym (pow-zero b)) (omega arith)
power_some b (suc k) h =
    let some = power_some b k h in
    let more = mul-le-mul_left {m = 1} {n = b} (b ^ k) (omega arith) in
    subst (λ n. 0 < n) (sym (pow-suc b k)) (omega (arith, more, some))

pub power_more : (b k l : ℕ) → 0 < b → k < l → b ^ k * b ≤ b ^ l
power_more b k zero some h = absurd (omega arith)
power_more b k (suc l) some h = elim (below k l (omega arith)) [
  | inl e ↦ subst (λ (n : ℕ). b ^ k * b ≤ n) (sym (pow-suc b l))
      (subst (λ (n : ℕ). b ^ k * b ≤ b ^ n * b) e (omega arith))
  | inr less ↦
      let rest = power_more b k l some less in
      let more = mul-le-mul_left {m = 1} {n = b} (b ^ l) (omega arith) in
      subst (λ (n : ℕ). b ^ k * b ≤ n) (sym (pow-suc b l)) (omega (arith, rest, more))
]
  where
    below : (k l : ℕ) → k ≤ l → (k ≡ l) ⊎ (k < l)
    below zero zero h = inl refl
    below zero (suc l) h = inr (omega arith)
    below (suc k) zero h = absurd (omega arith)
    below (suc k) (suc l) h = elim (below k l (omega arith)) [
      | inl e ↦ inl (omega arith)
      | inr less ↦ inr (omega arith)
    ]

-- a member of a list of numbers is no greater than their total
level_below : (row : List ℕ) (s : ℕ) → level_in (slice_get row s) ≤ 1 + total (λ rank. rank) row
level_below [] s = omega arith
level_below (rank ∷ row) zero = omega arith
level_below (rank ∷ row) (suc s) = let rest = level_below row s in omega (arith, rest)

row_below : (rows : List (List ℕ)) (g : ℕ) →
    total (λ rank. rank) (get_or rows g []) ≤ total (total (λ rank. rank)) rows
row_below [] g = omega arith
row_below (row ∷ rows) zero = omega arith
row_below (row ∷ rows) (suc g) = let rest = row_below rows g in omega (arith, rest)

module _ (ranks : Ranks) where
  base_some : 0 < base_of ranks
  base_some = omega arith

  state_below : (g s : ℕ) → suc (state_level ranks g s) < base_of ranks
  state_below g s =
      let a = level_below (get_or ranks.states.items g []) s in
      let b = row_below ranks.states.items g in
      omega (arith, a, b)

  frame_some : (frame : Frame) → 0 < frame_weight ranks frame
  frame_some frame =
      let p = power_some (base_of ranks) (call_level ranks frame.graph) base_some in
      let m = mul-le-mul_right {m = 1} {n = suc (state_level ranks frame.graph frame.state)}
      (base_of ranks ^ call_level ranks frame.graph) (omega arith) in
      omega (arith, p, m)

  -- a lower state of the same graph weighs less, by at least the power of the graph
  lower_state : (g s t : ℕ) → state_level ranks g t < state_level ranks g s →
      frame_weight ranks (frame_of g t) + base_of ranks ^ call_level ranks g
      ≤ frame_weight ranks (frame_of g s)
  lower_state g s t h =
      let m = mul-le-mul_right {m = suc (suc (state_level ranks g t))}
      {n = suc (state_level ranks g s)} (base_of ranks ^ call_level ranks g) (omega arith) in
      omega (arith, m)

  -- the start of a called graph weighs less than that power
  lower_graph : (g h : ℕ) → call_level ranks h < call_level ranks g →
      frame_weight ranks (frame_of h 0) < base_of ranks ^ call_level ranks g
  lower_graph g h less =
      let b = base_of ranks in
      let p = power_some b (call_level ranks h) base_some in
      let more = power_more b (call_level ranks h) (call_level ranks g) base_some less in
      let s = state_below h 0 in
      let m = mul-le-mul_right {m = suc (suc (state_level ranks h 0))} {n = b}
      (b ^ call_level ranks h) (omega (arith, s)) in
      omega (arith, p, more, m)

module _ (detail : Detail) (net : List NetGraph) (ranks : Ranks) (are : AreRanks net ranks) where
  -- frames that are all reached and weigh less
  abbrev pub IsLower : List Frame → List Frame → Type 0
  IsLower frames below = AreMet net below × (weight ranks below < weight ranks frames)

  lower_plain : (g s t : ℕ) (below : List Frame) → AreMet net (frame_of g s ∷ below) →
      Contains (row_of (state_rows (states_of net g)) s) t →
      IsLower (frame_of g s ∷ below) (frame_of g t ∷ below)
  lower_plain g s t below met c =
      let m = lower_state ranks g s t (are.states g s t met.0 c) in
      let p = power_some (base_of ranks) (call_level ranks g) (base_some ranks) in (
        ((met.0.0, reaches_then (state_rows (states_of net g)) met.0.1 c), met.1),
        omega (arith, m, p),
      )

  lower_call : (g s t h : ℕ) (below : List Frame) → AreMet net (frame_of g s ∷ below) →
      Contains (row_of (state_rows (states_of net g)) s) t →
      Contains (row_of (call_rows net) g) h →
      IsLower (frame_of g s ∷ below) (frame_of h 0 ∷ frame_of g t ∷ below)
  lower_call g s t h below met c call =
      let m = lower_state ranks g s t (are.states g s t met.0 c) in
      let l = lower_graph ranks g h (are.calls g h met.0.0 call) in (
        (
          (reaches_then (call_rows net) met.0.0 call, here),
          ((met.0.0, reaches_then (state_rows (states_of net g)) met.0.1 c), met.1),
        ),
        omega (arith, m, l),
      )

  lower_edge : (g s : ℕ) (below : List Frame) (state : State) (edge : Edge) →
      slice_get (states_of net g) s ≡ Some state → Contains state.edges edge →
      AreMet net (frame_of g s ∷ below) → (x : Label) → edge.label ≡ x →
      IsLower (frame_of g s ∷ below) (entered x g edge.target below)
  lower_edge g s below state edge found inside met x is = by x is
    where
      c : Contains (row_of (state_rows (states_of net g)) s) edge.target
      c = edge_in_row (states_of net g) s state edge found inside

      plain_case : IsLower (frame_of g s ∷ below) (frame_of g edge.target ∷ below)
      plain_case = lower_plain g s edge.target below met c

      by : (x : Label) → edge.label ≡ x →
          IsLower (frame_of g s ∷ below) (entered x g edge.target below)
      by label.Empty is = plain_case
      by (label.CaseFolded text) is = plain_case
      by (label.CaseExact text) is = plain_case
      by (label.Mask mask) is = plain_case
      by (label.Brace text) is = plain_case
      by label.Space is = plain_case
      by label.NoSpace is = plain_case
      by (label.Begin name) is = plain_case
      by (label.End name) is = plain_case
      by label.Positive is = plain_case
      by label.Negative is = plain_case
      by label.ContextEnd is = plain_case
      by label.Cut is = plain_case
      by (label.Call h) is = lower_call g s edge.target h below met c
          (call_in_row net g s state edge h found inside
          (subst (λ (x : Label). Contains (called_on x) h) (sym is) (contains_first h [])))

  -- each step leads lower
  pub lower_step : (p : Place) (text : List ℕ) (q : Place) → AreMet net p.frames →
      Contains (next detail net p) (text, q) → IsLower p.frames q.frames
  lower_step p text q met c = by p.frames met c
    where
      in_state : (g s : ℕ) (below : List Frame) → AreMet net (frame_of g s ∷ below) →
          (o : Option State) → slice_get (states_of net g) s ≡ o →
          Contains (from_state detail g below p o) (text, q) →
          IsLower (frame_of g s ∷ below) q.frames
      in_state g s below met None found c = absurd (nothing_in c)
      in_state g s below met (Some state) found c = elim (Contains-append_cases
          (returning below p state.is_final) (map (along_edge detail g below p) state.edges)
          (text, q) c) [
            | inl back ↦ by_end state.is_final back
            | inr along ↦ (
                let m = contained_mapped (along_edge detail g below p) state.edges (text, q) along in
                subst (λ (x : List ℕ × Place). IsLower (frame_of g s ∷ below) x.1.frames) m.2
                (lower_edge g s below state m.0 found m.1 met m.0.label refl))
          ]
        where
          by_end : (b : Bool) → Contains (returning below p b) (text, q) →
              IsLower (frame_of g s ∷ below) q.frames
          by_end false c = absurd (nothing_in c)
          by_end true c = elim (first_or_later ([], record p { frames = below }) [] (text, q) c) [
            | inl same ↦ subst
                (λ (x : List ℕ × Place). IsLower (frame_of g s ∷ below) x.1.frames) same
                (met.1, (let f = frame_some ranks (frame_of g s) in omega (arith, f)))
            | inr later ↦ absurd (nothing_in later)
          ]

      by : (frames : List Frame) → AreMet net frames →
          Contains (from_frames detail net p frames) (text, q) → IsLower frames q.frames
      by [] met c = absurd (nothing_in c)
      by (frame ∷ below) met c = in_state frame.graph frame.state below met
          (slice_get (states_of net frame.graph) frame.state) refl c
