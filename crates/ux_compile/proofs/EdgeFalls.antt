-- Every edge of a net that is built of places which have ranks leads to a rank that is lower, where
-- it may take nothing: first by the major number, and else by the minor one.
use Rattle.std.proofs.Common.{arith, ◌≡◌, ℕ, ◌+◌, ◌<◌, List, [], ◌∷◌, refl, sym, ◌∙◌, ap, subst, inl, inr, length, get_or, drop, Bool, true, false, cond}
use Rattle.std.specs.Prelude.{Option, Some, None, Contains, ◌&&◌}
use Rattle.std.proofs.Math.Nat.{le-max_left, le-max_right}
use Rattle.ux_net.specs.declared.label.Label.{Label}
use Rattle.ux_net.specs.declared.label.Label.TheVariants.{Empty, CaseFolded, CaseExact, Mask, Brace, Space, NoSpace, Begin, End, Positive, Negative, ContextEnd, Cut, Call}
use Rattle.ux_boxes.specs.declared.place.Place.{Place}
use Rattle.ux_net.specs.declared.net_graph.NetGraph.{NetGraph}
use Rattle.ux_net.specs.declared.net_graph.Rank.{Rank}
use Rattle.ux_net.specs.declared.state.Edge.{Edge}
use Rattle.ux_net.specs.declared.state.State.{State}
use Rattle.ux_net.specs.Words.{Letter, Sign, positive, negative, opens, mark_of, IsBody}
use Rattle.ux_boxes.specs.Places.{label_lines, place_targets, IsPlaceStep, places_of}
use Rattle.ux_net.specs.Closers.{ClosesInto}
use Rattle.ux_net.specs.Nets.{graph_at, states_in, net_graph, net_grammar, IsCalled, states_of as net_states}
use Rattle.ux_net.specs.Measured.{width_of, rank_of, must, IsLower, FallsOver, Falls}
use Rattle.ux_compile.specs.Construct.{has_state, number, line_at, called_at, labels_at, chain_len, first_chain, target_of, states_of, AreFit}
use Rattle.ux_net.specs.Silent.{is_silent, are_silent}
use Rattle.ux_admission.specs.Admission.{place_rank, is_place_free, IsLowerPlace}
use Rattle.ux_compile.specs.Ranks.{rest_rank, rest_free, above, call_rank}
use Rattle.ux_base.proofs.Lists.{contains_first}
use Rattle.ux_compile.proofs.StatesLemmas.{line_there, line_called, labels_called}
use Rattle.ux_compile.proofs.ConstructLaw.{lt_then, lt_else, has_line, starts, old_step, old_is_step, OfLabel, drawn, closes_back}
use Rattle.ux_compile.proofs.RankFalls.{IsLowerRank, lower_weighs, silent_more, free_more, rest_lower, rest_marked, beneath, call_below, both_marked, line_from, as_drawn, alone}
use Rattle.ux_compile.proofs.StateRanks.{graph_fit, graph_there, rank_is, free_is, Marked, rank_lower, lower, of_place, of_chain, after, before_call, IsRankedNet}

module _ {graphs : List (List Place)} {rows ranks : List (List ℕ)} {free : List (List Bool)}
    {built : List NetGraph} (net : IsRankedNet graphs rows ranks free built) where
  abbrev places : ℕ → List Place
  places g = places_of graphs g

  abbrev labels : ℕ → ℕ → ℕ → List Label
  labels g b l = labels_at (places g) b l

  abbrev line : ℕ → ℕ → ℕ → List Label
  line g b l = line_at (places g) b l

  abbrev called : ℕ → ℕ → ℕ → Option ℕ
  called g b l = called_at (places g) b l

  -- the first label of a line, from a place
  first_lower : (g a b l : ℕ) (graph : NetGraph) → graph_at built g ≡ Some graph →
      (ok : AreFit (places g)) → has_state (places g) a ≡ true →
      l < length (label_lines (places g) b) → 0 < length (labels g b l) → called g b l ≡ None →
      (are_silent (drop (0 + 1) (labels g b l)) ≡ true → IsLowerPlace ranks free g a b) →
      IsLower built g (number (places g) a) (target_of (places g) b l 0)
  first_lower g a b l graph there ok has at lt none falls =
      lower net g (number (places g) a) (target_of (places g) b l 0) graph there
      (of_place net g a has) (after net g b l 0 ok at lt none)
      (rest_lower (drop (0 + 1) (labels g b l)) (place_rank ranks g b) (place_rank ranks g a)
      (λ h. (falls h).falls))
      (λ h.
      let m = rest_marked (drop (0 + 1) (labels g b l)) (is_place_free free g b) h in
      (falls m.0).marked m.1)

  -- along a first label that takes nothing the rank falls
  first_silent : (g a b l : ℕ) (graph : NetGraph) → graph_at built g ≡ Some graph →
      (ok : AreFit (places g)) → has_state (places g) a ≡ true →
      Contains (place_targets (places g) a) b → l < length (label_lines (places g) b) →
      0 < length (labels g b l) → called g b l ≡ None →
      is_silent (get_or (labels g b l) 0 Empty) ≡ true →
      IsLower built g (number (places g) a) (target_of (places g) b l 0)
  first_silent g a b l graph there ok has leads at lt none silent =
      let rest = drop (0 + 1) (labels g b l) in
      first_lower g a b l graph there ok has at lt none (λ h.
      net.ranked.silent g (old_step (places g) ok a b l)
      (old_is_step (places g) ok a b l has leads at)
      (ap are_silent (sym (as_drawn (places g) ok b l none) ∙ line_from (labels g b l) 0 lt)
      ∙ (ap (λ b. b && are_silent rest) silent ∙ h)))

  -- a later label of a line, from a chain state
  later_silent : (g b l i : ℕ) (graph : NetGraph) → graph_at built g ≡ Some graph →
      (ok : AreFit (places g)) → l < length (label_lines (places g) b) →
      i < chain_len (places g) b l → i + 1 < length (labels g b l) → called g b l ≡ None →
      is_silent (get_or (labels g b l) (i + 1) Empty) ≡ true →
      IsLower built g (first_chain (places g) b l + i) (target_of (places g) b l (i + 1))
  later_silent g b l i graph there ok at lt more none silent =
      let label = get_or (labels g b l) (i + 1) Empty in
      let rest = drop ((i + 1) + 1) (labels g b l) in
      let is : drop (i + 1) (labels g b l) ≡ label ∷ rest =
      line_from (labels g b l) (i + 1) more in
      lower net g (first_chain (places g) b l + i) (target_of (places g) b l (i + 1)) graph there
      (of_chain net g b l i ok at lt none) (after net g b l (i + 1) ok at more none)
      (subst (λ (line : List Label). IsLowerRank (rest_rank (place_rank ranks g b) rest)
      (rest_rank (place_rank ranks g b) line)) (sym is)
      (silent_more label rest (place_rank ranks g b) silent))
      (λ h. ap (rest_free (is_place_free free g b)) is
      ∙ free_more label rest (is_place_free free g b) silent h)

  -- and along each label that takes nothing
  silent_falls : (g n : ℕ) (edge : Edge) (graph : NetGraph) → graph_at built g ≡ Some graph →
      (ok : AreFit (places g)) (o : OfLabel (places g) ok n edge) →
      called g o.place o.line ≡ None → is_silent edge.label ≡ true →
      IsLower built g n edge.target
  silent_falls g n edge graph there ok o none silent =
      let to : target_of (places g) o.place o.line o.k ≡ edge.target =
      ap (λ (e : Edge). e.target) o.is in
      let label : is_silent (get_or (labels g o.place o.line) o.k Empty) ≡ true =
      ap (λ (e : Edge). is_silent e.label) o.is ∙ silent in
      subst (λ m. IsLower built g n m) to (elim o.from [
        | inl first ↦
            subst (λ m. IsLower built g m (target_of (places g) o.place o.line o.k))
            (sym first.2)
            (subst (λ k. IsLower built g (number (places g) first.0)
            (target_of (places g) o.place o.line k)) (sym first.3)
            (first_silent g first.0 o.place o.line graph there ok first.1 first.4 o.inside
            (let b = o.below in omega arith) none
            (subst (λ k. is_silent (get_or (labels g o.place o.line) k Empty) ≡ true) first.3
            label)))
        | inr later ↦
            subst (λ m. IsLower built g m (target_of (places g) o.place o.line o.k))
            (sym later.3)
            (subst (λ k. IsLower built g (first_chain (places g) o.place o.line + later.0)
            (target_of (places g) o.place o.line k)) (sym later.2)
            (later_silent g o.place o.line later.0 graph there ok o.inside later.1
            (let b = o.below in let e = later.2 in omega arith) none
            (subst (λ k. is_silent (get_or (labels g o.place o.line) k Empty) ≡ true) later.2
            label)))
      ])

  -- the graph of a call on a line, and its start
  record Start (h : ℕ) : Type 0 where
    graph : NetGraph
    there : graph_at built h ≡ Some graph
    at : Marked net h 0
    rank : at.rank ≡ above (place_rank ranks h 0)
    mark : at.mark ≡ is_place_free free h 0

  start_of : (g h b l : ℕ) → l < length (label_lines (places g) b) → line g b l ≡ Call h ∷ [] →
      Start h
  start_of g h b l at only =
      let inside_call : IsCalled (length graphs) (Call h) =
      net.inside g b (line g b l) (Call h) (line_there (places g) b l at)
      (subst (λ (line : List Label). Contains line (Call h)) (sym only)
      (contains_first (Call h) [])) in
      let other = graph_there net h inside_call.0 inside_call.1 in
      record {
        graph = other.0;
        there = other.1;
        at = of_place net h 0 (starts (places h) (graph_fit net h other.0 other.1));
        rank = refl;
        mark = refl;
      }

  -- a start that must take nothing is marked
  start_free : (h : ℕ) → Start h → must built h 0 ≡ 0 → is_place_free free h 0 ≡ true
  start_free h start none =
      sym start.mark
      ∙ is_marked start.at.mark
      (sym (free_is net h 0 start.graph start.at.mark start.there start.at.marked_so) ∙ none)
    where
      is_marked : (b : Bool) → ◌≡◌ {A = ℕ} (cond b 0 1) 0 → b ≡ true
      is_marked true h = refl
      is_marked false h = absurd (omega arith)

  -- a state is above the start that is called
  above_start : (g h n : ℕ) (graph : NetGraph) → graph_at built g ≡ Some graph →
      (high : Marked net g n) → Start h → IsLowerRank (above (place_rank ranks h 0)) high.rank →
      rank_of built h 0 < rank_of built g n
  above_start g h n graph there high start falls =
      let here = rank_is net g n graph high.rank there high.ranked_so in
      let low = rank_is net h 0 start.graph start.at.rank start.there start.at.ranked_so in
      let weighs = lower_weighs (width_of built) start.at.rank high.rank low.1
      (subst (λ (rank : Rank). IsLowerRank rank high.rank) (sym start.rank) falls) in
      let x = here.0 in
      let y = low.0 in
      omega arith

  -- the call of a graph that is there, from a place
  first_call : (g h a b l : ℕ) (graph : NetGraph) → graph_at built g ≡ Some graph →
      (ok : AreFit (places g)) → has_state (places g) a ≡ true →
      Contains (place_targets (places g) a) b → l < length (label_lines (places g) b) →
      0 < length (labels g b l) → called g b l ≡ None → line g b l ≡ Call h ∷ [] →
      (rank_of built h 0 < rank_of built g (number (places g) a))
      × (must built h 0 ≡ 0 → IsLower built g (number (places g) a) (target_of (places g) b l 0))
  first_call g h a b l graph there ok has leads at lt none only =
      let start = start_of g h b l at only in
      let falls = net.ranked.calls g h (old_step (places g) ok a b l)
      (old_is_step (places g) ok a b l has leads at) only in (
        above_start g h (number (places g) a) graph there (of_place net g a has) start
            (inl (let f = falls.0 in omega arith)),
        λ free_start. first_lower g a b l graph there ok has at lt none
            (λ s. falls.1 (start_free h start free_start)),
      )

  -- along a call it falls to the start that is called
  call_falls : (g n h : ℕ) (edge : Edge) (graph : NetGraph) → graph_at built g ≡ Some graph →
      (ok : AreFit (places g)) (o : OfLabel (places g) ok n edge) →
      called g o.place o.line ≡ None → edge.label ≡ Call h →
      (rank_of built h 0 < rank_of built g n)
      × (must built h 0 ≡ 0 → IsLower built g n edge.target)
  call_falls g n h edge graph there ok o none call =
      let to : target_of (places g) o.place o.line o.k ≡ edge.target =
      ap (λ (e : Edge). e.target) o.is in
      let drawn = as_drawn (places g) ok o.place o.line none in
      let label : get_or (line g o.place o.line) o.k Empty ≡ Call h =
      ap (λ (line : List Label). get_or line o.k Empty) (sym drawn)
      ∙ (ap (λ (e : Edge). e.label) o.is ∙ call) in
      let only = alone (places g) ok o.place o.line o.k h o.inside
      (subst (λ (line : List Label). o.k < length line) drawn o.below) label in
      elim o.from [
        | inl first ↦
            let r = first_call g h first.0 o.place o.line graph there ok first.1 first.4 o.inside
            (let b = o.below in omega arith) none only.1 in
            let from = first.2 in
            let to_first : target_of (places g) o.place o.line 0 ≡ edge.target =
            ap (target_of (places g) o.place o.line) (sym only.0) ∙ to in
            subst (λ m. (rank_of built h 0 < rank_of built g m)
            × (must built h 0 ≡ 0 → IsLower built g m edge.target)) (sym from)
            (subst (λ t. (rank_of built h 0 < rank_of built g (number (places g) first.0))
            × (must built h 0 ≡ 0 → IsLower built g (number (places g) first.0) t)) to_first r)
        | inr later ↦ absurd (let a = only.0 in let e = later.2 in omega arith)
      ]

  -- a body of the net is one of its states
  net_body : (g : ℕ) (graph : NetGraph) → graph_at built g ≡ Some graph → (n c : ℕ) →
      ClosesInto (net_grammar built) g n c →
      (word : List Letter) × IsBody g (net_graph (states_of (places g))) n c word
  net_body g graph there n c into =
      let same : net_states built g ≡ states_of (places g) =
      ap states_in there ∙ (net.made.each g graph there).states in (
        into.0,
        subst (λ (s : List State). IsBody g (net_graph s) n c into.0) same into.1,
      )

  -- a step of the places that opens a context
  step_opens : (g a b l : ℕ) (graph : NetGraph) → graph_at built g ≡ Some graph →
      (ok : AreFit (places g)) → (sign : Sign) → has_state (places g) a ≡ true →
      IsPlaceStep (places g) (old_step (places g) ok a b l) →
      l < length (label_lines (places g) b) → mark_of (line g b l) ≡ opens sign →
      FallsOver built g (number (places g) a) (number (places g) b)
  step_opens g a b l graph there ok sign has step at mark =
      let falls = net.ranked.opens g (old_step (places g) ok a b l) sign step mark in
      let has_b = has_line (places g) ok b l at in (
        rank_lower net g (number (places g) a) (number (places g) b) graph there
            (of_place net g a has) (of_place net g b has_b) (inl (let f = falls.0 in omega arith)),
        λ n into.
            let body = net_body g graph there (number (places g) b) n into in
            let c = closes_back graphs g ok b n has_b body.0 body.1 in
            let behind = falls.1 c.0 c.3 in
            subst (λ m. IsLower built g (number (places g) a) m) (sym c.2)
            (lower net g (number (places g) a) (number (places g) c.0) graph there
            (of_place net g a has) (of_place net g c.0 c.1)
            (inl (let f = behind.falls in omega arith)) behind.marked),
      )

  opening_falls : (g n : ℕ) (edge : Edge) (graph : NetGraph) → graph_at built g ≡ Some graph →
      (ok : AreFit (places g)) (o : OfLabel (places g) ok n edge) → (sign : Sign) →
      mark_of (edge.label ∷ []) ≡ opens sign → FallsOver built g n edge.target
  opening_falls g n edge graph there ok o sign mark =
      let d = drawn (places g) ok n edge o (λ plain. absurd cc) in
      subst (λ m. FallsOver built g m edge.target) (sym d.at)
      (subst (λ t. FallsOver built g (number (places g) d.from) t) (sym d.leads)
      (step_opens g d.from o.place o.line graph there ok sign d.has d.step o.inside
      (d.mark ∙ mark)))

  -- so it is along each label of a line without an output before a call
  label_falls : (g n : ℕ) (edge : Edge) (graph : NetGraph) → graph_at built g ≡ Some graph →
      (ok : AreFit (places g)) (o : OfLabel (places g) ok n edge) →
      called g o.place o.line ≡ None → (label : Label) → edge.label ≡ label →
      Falls built g n edge.target label
  label_falls g n edge graph there ok o none (CaseFolded text) is = tt
  label_falls g n edge graph there ok o none (CaseExact text) is = tt
  label_falls g n edge graph there ok o none (Mask text) is = tt
  label_falls g n edge graph there ok o none (Brace text) is = tt
  label_falls g n edge graph there ok o none Space is = tt
  label_falls g n edge graph there ok o none Positive is =
      opening_falls g n edge graph there ok o positive
      (ap (λ (label : Label). mark_of (label ∷ [])) is)
  label_falls g n edge graph there ok o none Negative is =
      opening_falls g n edge graph there ok o negative
      (ap (λ (label : Label). mark_of (label ∷ [])) is)
  label_falls g n edge graph there ok o none ContextEnd is = tt
  label_falls g n edge graph there ok o none (Begin name) is =
      silent_falls g n edge graph there ok o none (ap is_silent is)
  label_falls g n edge graph there ok o none (End name) is =
      silent_falls g n edge graph there ok o none (ap is_silent is)
  label_falls g n edge graph there ok o none Cut is =
      silent_falls g n edge graph there ok o none (ap is_silent is)
  label_falls g n edge graph there ok o none Empty is =
      silent_falls g n edge graph there ok o none (ap is_silent is)
  label_falls g n edge graph there ok o none NoSpace is =
      silent_falls g n edge graph there ok o none (ap is_silent is)
  label_falls g n edge graph there ok o none (Call h) is =
      call_falls g n h edge graph there ok o none is

  -- the output before a call, from a place
  output_lower : (g h a b l : ℕ) (graph : NetGraph) → graph_at built g ≡ Some graph →
      (ok : AreFit (places g)) → has_state (places g) a ≡ true →
      Contains (place_targets (places g) a) b → (at : l < length (label_lines (places g) b)) →
      called g b l ≡ Some h →
      IsLower built g (number (places g) a) (first_chain (places g) b l + 0)
  output_lower g h a b l graph there ok has leads at is =
      let falls = net.ranked.calls g h (old_step (places g) ok a b l)
      (old_is_step (places g) ok a b l has leads at)
      (line_called (places g) ok b l h at is) in
      let below = call_below (place_rank ranks h 0) (place_rank ranks g b) (place_rank ranks g a)
      (is_place_free free h 0) falls.0 (λ marked. (falls.1 marked).falls) in
      lower net g (number (places g) a) (first_chain (places g) b l + 0) graph there
      (of_place net g a has) (before_call net g b l h ok at is) (inl (omega (arith, below)))
      (λ marked.
      let both = both_marked (is_place_free free h 0) (is_place_free free g b) marked in
      (falls.1 both.0).marked both.1)

  -- the call behind it, from the chain state
  behind_output : (g h b l : ℕ) (graph : NetGraph) → graph_at built g ≡ Some graph →
      (ok : AreFit (places g)) → (at : l < length (label_lines (places g) b)) →
      called g b l ≡ Some h →
      (rank_of built h 0 < rank_of built g (first_chain (places g) b l + 0))
      × (must built h 0 ≡ 0 →
      IsLower built g (first_chain (places g) b l + 0) (number (places g) b))
  behind_output g h b l graph there ok at is =
      let start = start_of g h b l at (line_called (places g) ok b l h at is) in
      let high = before_call net g b l h ok at is in
      let behind = cond (is_place_free free h 0) (place_rank ranks g b) 0 in (
        above_start g h (first_chain (places g) b l + 0) graph there high start
            (beneath (place_rank ranks h 0) (call_rank ranks free h (place_rank ranks g b))
            (let le = le-max_left (place_rank ranks h 0) behind in omega (arith, le))
            (omega arith)),
        λ free_start.
            let marked = start_free h start free_start in
            let whole : behind ≡ place_rank ranks g b =
            ap (λ t. cond t (place_rank ranks g b) 0) marked in
            lower net g (first_chain (places g) b l + 0) (number (places g) b) graph there high
            (of_place net g b (has_line (places g) ok b l at))
            (beneath (place_rank ranks g b) (call_rank ranks free h (place_rank ranks g b))
            (let le = le-max_right (place_rank ranks h 0) behind in omega (arith, le, whole))
            (omega arith))
            (λ free_place. ap (λ t. cond t (is_place_free free g b) false) marked ∙ free_place),
      )

  -- both edges of a call behind an output
  behind_falls : (g n h : ℕ) (edge : Edge) (graph : NetGraph) → graph_at built g ≡ Some graph →
      (ok : AreFit (places g)) (o : OfLabel (places g) ok n edge) →
      called g o.place o.line ≡ Some h → Falls built g n edge.target edge.label
  behind_falls g n h edge graph there ok o is =
      let b = o.place in
      let l = o.line in
      let two = labels_called (places g) ok b l h o.inside is in
      let len : length (labels g b l) ≡ 2 = ap (length {A = Label}) two in
      let below = o.below in
      elim o.from [
        | inl first ↦
            let to : first_chain (places g) b l + 0 ≡ edge.target =
            sym (lt_then (0 + 1) (length (labels g b l)) (first_chain (places g) b l + 0)
            (number (places g) b) (omega (arith, len)))
            ∙ (ap (target_of (places g) b l) (sym first.3) ∙ ap (λ (e : Edge). e.target) o.is) in
            let label : Empty ≡ edge.label =
            sym (ap (λ (line : List Label). get_or line 0 Empty) two)
            ∙ (ap (λ k. get_or (labels g b l) k Empty) (sym first.3)
            ∙ ap (λ (e : Edge). e.label) o.is) in
            subst (Falls built g n edge.target) label
            (subst (λ m. IsLower built g m edge.target) (sym first.2)
            (subst (λ t. IsLower built g (number (places g) first.0) t) to
            (output_lower g h first.0 b l graph there ok first.1 first.4 o.inside is)))
        | inr later ↦
            let one : later.0 ≡ 0 =
            let lt = later.1 in omega (arith, lt, len) in
            let k : o.k ≡ 1 = let e = later.2 in omega (arith, e, one) in
            let from : n ≡ first_chain (places g) b l + 0 =
            later.3 ∙ ap (λ i. first_chain (places g) b l + i) one in
            let to : number (places g) b ≡ edge.target =
            sym (lt_else (1 + 1) (length (labels g b l)) (first_chain (places g) b l + 1)
            (number (places g) b) (omega (arith, len)))
            ∙ (ap (target_of (places g) b l) (sym k) ∙ ap (λ (e : Edge). e.target) o.is) in
            let label : Call h ≡ edge.label =
            sym (ap (λ (line : List Label). get_or line 1 Empty) two)
            ∙ (ap (λ k. get_or (labels g b l) k Empty) (sym k)
            ∙ ap (λ (e : Edge). e.label) o.is) in
            subst (Falls built g n edge.target) label
            (subst (λ m. (rank_of built h 0 < rank_of built g m)
            × (must built h 0 ≡ 0 → IsLower built g m edge.target)) (sym from)
            (subst (λ t. (rank_of built h 0 < rank_of built g (first_chain (places g) b l + 0))
            × (must built h 0 ≡ 0 → IsLower built g (first_chain (places g) b l + 0) t)) to
            (behind_output g h b l graph there ok o.inside is)))
      ]

  -- and along each edge
  pub edge_falls : (g n : ℕ) (edge : Edge) (graph : NetGraph) → graph_at built g ≡ Some graph →
      (ok : AreFit (places g)) → OfLabel (places g) ok n edge →
      Falls built g n edge.target edge.label
  edge_falls g n edge graph there ok o = go (called g o.place o.line) refl
    where
      go : (c : Option ℕ) → called g o.place o.line ≡ c → Falls built g n edge.target edge.label
      go None is = label_falls g n edge graph there ok o is edge.label refl
      go (Some h) is = behind_falls g n h edge graph there ok o is
