-- From what the searches through calls and states tell it follows whether the words of a net end.
use Rattle.std.proofs.Common.{arith, ◌≡◌, ℕ, zero, suc, ◌+◌, ◌<◌, ◌≤◌, List, [], ◌∷◌, ◌++◌, length-append, refl, sym, ◌∙◌, ap, subst, map, length, get_or, inl, inr, Bool, true, false}
use Rattle.std.specs.Prelude.{Contains, slice_get}
use Rattle.std.specs.List.{list_any}
use Rattle.std.proofs.lemmas.Bool.{false≢true}
use Rattle.std.proofs.lemmas.List.{get_or_past}
use Rattle.std.proofs.lemmas.Option.{slice_get_past, slice_get-get_or}
use Rattle.ux_base.proofs.Lists.{nothing_in, less_or}
use Rattle.ux_digraph.specs.Paths.{row_of, Path, one, more, Reaches}
use Rattle.ux_digraph.specs.Rules.{is_marked_at}
use Rattle.ux_digraph.proofs.PathsLemmas.{edge_from}
use Rattle.ux_net.specs.declared.net_graph.NetGraph.{NetGraph}
use Rattle.ux_net.specs.declared.state.State.{State}
use Rattle.ux_net.specs.Nets.{states_of, states_in}
use Rattle.ux_inflect.specs.declared.classes.Ranks.{Ranks}
use Rattle.ux_inflect.specs.Cyclic.{state_rows, calls_of, call_rows, IsCyclic}
use Rattle.ux_inflect.specs.Endings.{level_in, call_level, state_level, IsMet, AreRanks, AreRanksOf}
use Rattle.ux_inflect.specs.Refusing.{IsAcyclic}
use Rattle.ux_inflect.specs.Rows.{inner_rows}
use Rattle.ux_inflect.specs.Surveys.{IsSurveyOf}
use Rattle.ux_inflect.proofs.ListLemmas.{no_mark, some_mark}
use Rattle.ux_inflect.proofs.RowsLemmas.{edge_inner, path_outer, cycle_inner, reaches_outer, reaches_inner, path_from, length_inner}

length_mapped : {A B : Type 0} (f : A → B) (xs : List A) → length (map f xs) ≡ length xs
length_mapped f [] = refl
length_mapped f (x ∷ xs) = ap suc (length_mapped f xs)

-- what a search through the inner rows tells of the rows themselves
module _ (rows : List (List ℕ)) (start : ℕ) (marks cyclic : List Bool) (ranks : List ℕ)
    (known : IsSurveyOf (inner_rows rows) start marks cyclic ranks) where
  pub marked_reached : (u : ℕ) → is_marked_at marks u ≡ true → Reaches rows start u
  marked_reached u is = reaches_outer rows ((known.reached u).0 is)

  pub unmarked : (u : ℕ) → u < length rows → is_marked_at marks u ≡ false → Reaches rows start u → ⊥
  unmarked u inside is r =
      false≢true (sym is ∙ (known.reached u).1 (reaches_inner rows r inside))

  pub marked_cycle : (u : ℕ) → is_marked_at cyclic u ≡ true → Path rows u u
  marked_cycle u is = path_outer rows ((known.cyclic u).0 is).1

  pub cycle_marked : (u : ℕ) → Reaches rows start u → Path rows u u → is_marked_at cyclic u ≡ true
  cycle_marked u r p =
      (known.cyclic u).1 (reaches_inner rows r (path_from rows p), cycle_inner rows u p)

  level_is : (u : ℕ) → u < length rows → level_in (slice_get ranks u) ≡ suc (get_or ranks u 0)
  level_is u inside =
      let l = known.len in
      let i = length_inner rows in
      ap level_in (slice_get-get_or ranks u 0 (omega (arith, l, i, inside)))

  level_past : (u : ℕ) → length rows ≤ u → level_in (slice_get ranks u) ≡ 0
  level_past u past =
      let l = known.len in
      let i = length_inner rows in
      ap level_in (slice_get_past ranks u (omega (arith, l, i, past)))

  -- levels fall, where no node is marked as one on a cycle
  pub levels_fall : ((u : ℕ) → is_marked_at cyclic u ≡ true → ⊥) → (u v : ℕ) →
      Reaches rows start u → Contains (row_of rows u) v →
      level_in (slice_get ranks v) < level_in (slice_get ranks u)
  levels_fall none u v r c =
      let inside = edge_from rows u v c in
      let here = level_is u inside in
      elim (less_or v (length rows)) [
        | inl less ↦ (
            let f = known.falls none u v (reaches_inner rows r inside) (edge_inner rows u v c less) in
            let there = level_is v less in
            omega (arith, here, there, f))
        | inr past ↦ (
            let there = level_past v past in omega (arith, here, there))
      ]

-- a graph with words without end is there
cycle_there : (rows : List (List ℕ)) (u : ℕ) → Path rows u u → row_of rows u ≡ [] → ⊥
cycle_there rows u (one {v = v} c) none = nothing_in (subst (λ (r : List ℕ). Contains r v) none c)
cycle_there rows u (more {v = v} c p) none = nothing_in (subst (λ (r : List ℕ). Contains r v) none c)

no_states : (s : ℕ) → Path (state_rows []) s s → ⊥
no_states s p = cycle_there (state_rows []) s p refl

past_states : (net : List NetGraph) (n : ℕ) → length net ≤ n → states_of net (suc n) ≡ []
past_states net n past = ap states_in (slice_get_past net n past)

pub cyclic_there : (net : List NetGraph) (g : ℕ) → IsCyclic net g → (1 ≤ g) × (g ≤ length net)
cyclic_there net zero cyclic = elim cyclic.cyclic [
  | inl h ↦ absurd (no_states h.state h.cycle)
  | inr p ↦ absurd (cycle_there (call_rows net) 0 p refl)
]
cyclic_there net (suc n) cyclic = elim (less_or n (length net)) [
  | inl less ↦ (omega arith, omega arith)
  | inr past ↦ elim cyclic.cyclic [
    | inl h ↦ absurd (no_states h.state (subst
        (λ (states : List State). Path (state_rows states) h.state h.state)
        (past_states net n past) h.cycle))
    | inr p ↦
        let l = length_mapped calls_of net in
        absurd (cycle_there (call_rows net) (suc n) p
        (get_or_past (call_rows net) (suc n) [] (omega (arith, l, past))))
  ]
]

module _ (net : List NetGraph) (g : ℕ) (marks cyclic : List Bool) (calls : List ℕ)
    (known : IsSurveyOf (inner_rows (call_rows net)) 1 marks cyclic calls) (inside : g ≤ length net) where
  there : g < length (call_rows net)
  there = let l = length_mapped calls_of net in omega (arith, l, inside)

  not_reached : is_marked_at marks g ≡ false → Reaches (call_rows net) 1 g → ⊥
  not_reached is r = unmarked (call_rows net) 1 marks cyclic calls known g there is r

  -- a graph that no call reaches
  pub unreached : is_marked_at marks g ≡ false →
      AreRanksOf net g [] × (IsCyclic net g → ⊥)
  unreached is = (
    record { falls = λ r s t m c. absurd (not_reached is r) },
    λ c. not_reached is c.reached,
  )

  -- one that is reached and calls itself in turn
  pub recursive : is_marked_at marks g ≡ true → is_marked_at cyclic g ≡ true → IsCyclic net g
  recursive reached is = record {
    reached = marked_reached (call_rows net) 1 marks cyclic calls known g reached;
    cyclic = inr (marked_cycle (call_rows net) 1 marks cyclic calls known g is);
  }

  module _ (found in_cycle : List Bool) (ranks : List ℕ)
      (states : IsSurveyOf (inner_rows (state_rows (states_of net g))) 0 found in_cycle ranks) where
    -- one with a cycle of states
    pub looping : is_marked_at marks g ≡ true → list_any (λ mark. mark) in_cycle ≡ true →
        IsCyclic net g
    looping reached some =
        let rows = state_rows (states_of net g) in
        let u = some_mark in_cycle some in
        record {
          reached = marked_reached (call_rows net) 1 marks cyclic calls known g reached;
          cyclic = inl (record {
            state = u.0;
            reached = reaches_outer rows ((states.cyclic u.0).0 u.1).0;
            cycle = marked_cycle rows 0 found in_cycle ranks states u.0 u.1;
          });
        }

    -- and one with neither
    pub ending_graph : is_marked_at cyclic g ≡ false → list_any (λ mark. mark) in_cycle ≡ false →
        AreRanksOf net g ranks × (IsCyclic net g → ⊥)
    ending_graph calm none =
        let rows = state_rows (states_of net g) in (
          record {
            falls = λ r s t m c. levels_fall rows 0 found in_cycle ranks states
                (no_mark in_cycle none) s t m c;
          },
          λ c. elim c.cyclic [
            | inl h ↦ no_mark in_cycle none h.state
                (cycle_marked rows 0 found in_cycle ranks states h.state h.reached h.cycle)
            | inr p ↦ false≢true (sym calm ∙ cycle_marked (call_rows net) 1 marks cyclic calls known g
                c.reached p)
          ],
        )

-- all graphs end, and the ranks are those of the net
pub ended : (net : List NetGraph) (marks cyclic : List Bool) (ranks : Ranks) →
    IsSurveyOf (inner_rows (call_rows net)) 1 marks cyclic ranks.calls.items →
    ((g : ℕ) → 1 ≤ g → g ≤ length net →
    AreRanksOf net g (get_or ranks.states.items g []) × (IsCyclic net g → ⊥)) →
    IsAcyclic net × AreRanks net ranks
ended net marks cyclic ranks known each = (acyclic, record { states = states; calls = calls })
  where
    acyclic : IsAcyclic net
    acyclic g c = let t = cyclic_there net g c in (each g t.0 t.1).1 c

    none : (u : ℕ) → is_marked_at cyclic u ≡ true → ⊥
    none u is =
        let k = (known.cyclic u).0 is in
        acyclic u (record {
          reached = reaches_outer (call_rows net) k.0;
          cyclic = inr (path_outer (call_rows net) k.1);
        })

    calls : (g h : ℕ) → Reaches (call_rows net) 1 g → Contains (row_of (call_rows net) g) h →
        call_level ranks h < call_level ranks g
    calls g h r c = levels_fall (call_rows net) 1 marks cyclic ranks.calls.items known none g h r c

    states : (g s t : ℕ) → IsMet net g s → Contains (row_of (state_rows (states_of net g)) s) t →
        state_level ranks g t < state_level ranks g s
    states zero s t met c = absurd (nothing_in c)
    states (suc n) s t met c = elim (less_or n (length net)) [
      | inl less ↦ (each (suc n) (omega arith) (omega arith)).0.falls met.0 s t met.1 c
      | inr past ↦ absurd (nothing_in (subst
          (λ (states : List State). Contains (row_of (state_rows states) s) t)
          (past_states net n past) c))
    ]

-- one graph more
pub ended_more : (P : ℕ → List ℕ → Type 0) (states : List (List ℕ)) (n : ℕ) (ranks : List ℕ) →
    length states ≡ n + 1 → ((g : ℕ) → 1 ≤ g → g ≤ n → P g (get_or states g [])) → P (n + 1) ranks →
    (length (states ++ ranks ∷ []) ≡ n + 1 + 1)
    × ((g : ℕ) → 1 ≤ g → g ≤ n + 1 → P g (get_or (states ++ ranks ∷ []) g []))
ended_more P states n ranks len known last = (
  (let l = length-append states (ranks ∷ []) in omega (arith, l, len)),
  λ g low high. elim (less_or g (n + 1)) [
    | inl before ↦ subst (λ (r : List ℕ). P g r)
        (sym (at_left states g (omega (arith, len, before)))) (known g low (omega arith))
    | inr after ↦
        let e : n + 1 ≡ g = omega arith in
        subst (λ m. P m (get_or (states ++ ranks ∷ []) m [])) e
        (subst (λ (r : List ℕ). P (n + 1) r) (sym (at_seam states (n + 1) len)) last)
  ],
)
  where
    at_left : (states : List (List ℕ)) (g : ℕ) → g < length states →
        get_or (states ++ ranks ∷ []) g [] ≡ get_or states g []
    at_left [] g less = absurd (omega arith)
    at_left (r ∷ states) zero less = refl
    at_left (r ∷ states) (suc g) less = at_left states g (omega arith)

    at_seam : (states : List (List ℕ)) (n : ℕ) → length states ≡ n →
        get_or (states ++ ranks ∷ []) n [] ≡ ranks
    at_seam [] zero len = refl
    at_seam [] (suc n) len = absurd (omega arith)
    at_seam (r ∷ states) zero len = absurd (omega arith)
    at_seam (r ∷ states) (suc n) len = at_seam states n (omega arith)
