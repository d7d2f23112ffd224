-- Frames after a step weigh less: after one that takes a token, one that takes nothing, a call, and
-- an end.
use Rattle.std.proofs.Common.{arith, ◌≡◌, ℕ, zero, suc, ◌+◌, ◌-◌, ◌*◌, ◌^◌, ◌<◌, ◌≤◌, List, [], ◌∷◌, refl, sym, subst, ◌⊎◌, inl, inr, Bool, true, false, cond, get_or}
use Rattle.std.specs.Prelude.{Option, Some, None, slice_get, sum_by}
use Rattle.std.proofs.Math.Nat.{pow-le-pow_right}
use Rattle.std.proofs.lemmas.Grind.{pow_more}
use Rattle.std.proofs.lemmas.List.Sums.{get_or-le-sum_by, sum_by-cons}
use Rattle.std.proofs.lemmas.Option.{slice_get_within, get_or_from_slice_get}
use Rattle.ux_net.specs.declared.label.Label.TheVariants.{Call}
use Rattle.ux_net.specs.declared.net_graph.NetGraph.{NetGraph}
use Rattle.ux_net.specs.declared.net_graph.Rank.{Rank}
use Rattle.ux_net.specs.Measured.{rank_of, rank_in, bound_of, width_of, weigh, is_free, must, IsLower, Falls}
use Rattle.ux_walk.specs.declared.config.Frame.{Frame}
use Rattle.ux_walk.proofs.Weights.{weight_of}

-- powers
pub one_power : (c : ℕ) → 1 ≤ 3 ^ c
one_power c = pow-le-pow_right {n = 3} (omega arith) {i = 0} {j = c} (omega arith)

power_grows : (a c : ℕ) → a ≤ c → 3 ^ a ≤ 3 ^ c
power_grows a c h = pow-le-pow_right {n = 3} (omega arith) h

two_powers : (a b c : ℕ) → a < c → b < c → 3 ^ a + 3 ^ b < 3 ^ c
two_powers a b zero h i = absurd (omega arith)
two_powers a b (suc c) h i =
    let e : suc c ≡ c + 1 = omega arith in
    let p = power_grows a c (omega arith) in
    let q = power_grows b c (omega arith) in
    let one = one_power c in
    let m = pow_more 3 c in
    rw e (omega arith)

one_less : (a c : ℕ) → a < c → 3 ^ a < 3 ^ c
one_less a c h = let t = two_powers a a c h h in let o = one_power a in omega arith

module _ (graphs : List NetGraph) where
  -- no rank is above the sum of all
  pub rank_bounded : (g n : ℕ) → rank_of graphs g n ≤ bound_of graphs
  rank_bounded zero n = omega arith
  rank_bounded (suc g) n = go (slice_get graphs g) refl
    where
      zero_rank : Rank
      zero_rank = record { major = 0; minor = 0 }

      sum_of : NetGraph → ℕ
      sum_of graph = sum_by (weigh (width_of graphs)) graph.ranks

      row : (ranks : List Rank) (m : ℕ) → weigh (width_of graphs) (get_or ranks m zero_rank)
          ≤ sum_by (weigh (width_of graphs)) ranks
      row [] m = omega arith
      row (rank ∷ ranks) zero =
          let all = sum_by-cons (weigh (width_of graphs)) rank ranks in
          subst (λ k. weigh (width_of graphs) rank ≤ k) (sym all) (omega arith)
      row (rank ∷ ranks) (suc m) =
          let all = sum_by-cons (weigh (width_of graphs)) rank ranks in
          let one = row ranks m in
          subst (λ k. weigh (width_of graphs) (get_or ranks m zero_rank) ≤ k) (sym all)
          (omega (arith, one))

      go : (o : Option NetGraph) → slice_get graphs g ≡ o →
          rank_in (width_of graphs) o n ≤ bound_of graphs
      go None at = omega arith
      go (Some graph) at =
          let inside = slice_get_within graphs g graph at in
          let one = get_or-le-sum_by sum_of graphs g graph inside in
          let is : get_or graphs g graph ≡ graph = get_or_from_slice_get graphs g graph graph at in
          let part : sum_of graph ≤ bound_of graphs =
          subst (λ (x : NetGraph). sum_of x ≤ bound_of graphs) is one in
          let whole = row graph.ranks n in
          omega (arith, whole, part)

  must_small : (g n : ℕ) → must graphs g n ≤ 1
  must_small g n = go (is_free graphs g n)
    where
      go : (b : Bool) → cond b 0 1 ≤ 1
      go true = omega arith
      go false = omega arith

  abbrev digits : ℕ → Frame → ℕ
  digits m f = m * (bound_of graphs + 1) + rank_of graphs f.graph f.state

  -- more tokens left weigh no less
  weight_grows : (fs : List Frame) (m n : ℕ) → m ≤ n → weight_of graphs m fs ≤ weight_of graphs n fs
  weight_grows [] m n h = omega arith
  weight_grows (f ∷ fs) m n h =
      let e : n ≡ m + (n - m) = omega arith in
      let a : 3 ^ digits m f ≤ 3 ^ digits n f =
      power_grows (digits m f) (digits n f) (rw e (omega arith)) in
      let b = weight_grows fs (m - must graphs f.graph f.state) (n - must graphs f.graph f.state)
      (omega arith) in
      omega arith

  lighter_digits : (m n r s : ℕ) → r ≤ bound_of graphs → (m < n) ⊎ ((m ≡ n) × (r < s)) →
      m * (bound_of graphs + 1) + r < n * (bound_of graphs + 1) + s
  lighter_digits m n r s b (inl h) =
      let e : n ≡ m + 1 + (n - m - 1) = omega arith in rw e (omega arith)
  lighter_digits m n r s b (inr h) = rw h.0 (omega (arith, h.1))

  -- at an end the frame goes
  pub ended_lighter : (f : Frame) (fs : List Frame) (m : ℕ) → must graphs f.graph f.state ≡ 0 →
      weight_of graphs m fs < weight_of graphs m (f ∷ fs)
  ended_lighter f fs m free =
      let o = one_power (digits m f) in
      let same : m - must graphs f.graph f.state ≡ m = omega arith in
      rw same (omega arith)

  abbrev to_state : Frame → ℕ → Frame
  to_state f to = record { graph = f.graph; state = to }

  -- the frame goes on lower
  pub stays_lighter : (f : Frame) (to m : ℕ) (fs : List Frame) → IsLower graphs f.graph f.state to →
      weight_of graphs m (to_state f to ∷ fs) < weight_of graphs m (f ∷ fs)
  stays_lighter f to m fs lower =
      let falls = lower.0 in
      let keeps = lower.1 in
      let a = one_less (digits m (to_state f to)) (digits m f) (omega (arith, falls)) in
      let b = weight_grows fs (m - must graphs f.graph to) (m - must graphs f.graph f.state)
      (omega (arith, keeps)) in
      omega arith

  -- it takes a token
  pub takes_lighter : (f : Frame) (to m n : ℕ) (fs : List Frame) → m < n →
      weight_of graphs m (to_state f to ∷ fs) < weight_of graphs n (f ∷ fs)
  takes_lighter f to m n fs less =
      let a = one_less (digits m (to_state f to)) (digits n f)
      (lighter_digits m n (rank_of graphs f.graph to) (rank_of graphs f.graph f.state)
      (rank_bounded f.graph to) (inl less)) in
      let small = must_small f.graph f.state in
      let b = weight_grows fs (m - must graphs f.graph to) (n - must graphs f.graph f.state)
      (omega arith) in
      omega arith

  -- it calls a graph, and goes on after it
  pub calls_lighter : (f : Frame) (to h m : ℕ) (fs : List Frame) → 0 < m →
      Falls graphs f.graph f.state to (Call h) →
      weight_of graphs m (record { graph = h; state = 0 } ∷ to_state f to ∷ fs)
      < weight_of graphs m (f ∷ fs)
  calls_lighter f to h m fs left falls = go (must graphs h 0) refl (must_small h 0)
    where
      start : Frame
      start = record { graph = h; state = 0 }

      whole : (less : ℕ) → less * (bound_of graphs + 1) + rank_of graphs f.graph to < digits m f →
          less - must graphs f.graph to ≤ m - must graphs f.graph f.state →
          3 ^ digits m start + (3 ^ (less * (bound_of graphs + 1) + rank_of graphs f.graph to)
          + weight_of graphs (less - must graphs f.graph to) fs)
          < 3 ^ digits m f + weight_of graphs (m - must graphs f.graph f.state) fs
      whole less d k =
          let r = falls.0 in
          let a = two_powers (digits m start)
          (less * (bound_of graphs + 1) + rank_of graphs f.graph to) (digits m f)
          (omega (arith, r)) d in
          let b = weight_grows fs (less - must graphs f.graph to)
          (m - must graphs f.graph f.state) k in
          omega arith

      go : (u : ℕ) → must graphs h 0 ≡ u → must graphs h 0 ≤ 1 →
          weight_of graphs m (start ∷ to_state f to ∷ fs) < weight_of graphs m (f ∷ fs)
      go zero is small =
          let lower = falls.1 is in
          let r = lower.0 in
          let k = lower.1 in
          let same : m - must graphs h 0 ≡ m = omega arith in
          rw same (whole m (lighter_digits m m (rank_of graphs f.graph to)
          (rank_of graphs f.graph f.state) (rank_bounded f.graph to) (inr (refl, r)))
          (omega (arith, k)))
      go (suc u) is small =
          let low = must_small f.graph f.state in
          let same : m - must graphs h 0 ≡ m - 1 = omega arith in
          rw same (whole (m - 1) (lighter_digits (m - 1) m (rank_of graphs f.graph to)
          (rank_of graphs f.graph f.state) (rank_bounded f.graph to) (inl (omega arith)))
          (omega arith))
