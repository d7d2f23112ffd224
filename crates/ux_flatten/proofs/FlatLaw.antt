-- The theorem by which the states of a flat graph stand for copies of graphs: each edge is that of a
-- copy, leads into one or out of one, or is a call that isn't expanded, and each such edge is there.
use Rattle.std.proofs.Common.{arith, ◌≡◌, ℕ, zero, suc, ◌+◌, ◌<◌, ◌≤◌, inl, inr, List, [], ◌∷◌, ◌++◌, Some, refl, sym, subst, subst₂, ◌∙◌, ap, slice_get, length, Bool, true, false}
use Rattle.std.specs.Prelude.{Option, None, Contains}
use Rattle.std.proofs.lemmas.List.Elements.{Contains-append_left, Contains-append_right, Contains-append_cases}
use Rattle.std.proofs.lemmas.Option.{slice_get_within}
use Rattle.ux_base.proofs.Lists.{contains_first, first_or_later, nothing_in}
use Rattle.ux_grf.specs.declared.item.Piece.{Piece}
use Rattle.ux_net.specs.declared.label.Label.{Label}
use Rattle.ux_net.specs.declared.label.Label.TheVariants as label
use Rattle.ux_net.specs.declared.state.Edge.{Edge}
use Rattle.ux_net.specs.declared.state.State.{State}
use Rattle.ux_net.specs.declared.state_graph.StateGraph.{StateGraph}
use Rattle.ux_net.specs.Nets.{IsNetStep, IsNetEnd}
use Rattle.ux_net.specs.StateGraphs.{AreInsideStates, state_grammar, told_states}
use Rattle.ux_net.specs.Words.{Grammar, Step, StepGraph}
use Rattle.ux_flatten.specs.Copies.{called, copied, copied_by, copy_edge, copy_edges, copy_state, end_edges, is_end, stopped}
use Rattle.ux_flatten.specs.Flattening.{TellsWords}
use Rattle.ux_flatten.proofs.FlatGraphs.{HasLabels, IsUncalled, Layout, IsOwn, Enters, Leaves, Stops, IsCopied, own, enters, leaves, stops, Replaces, expanded, cut, IsFlat}
use Rattle.ux_flatten.proofs.BareRuns.{call_or_not}
use Rattle.ux_flatten.proofs.BareRuns as bare_runs
use Rattle.ux_flatten.proofs.EdgePlaces.{At, at_contains, contains_at}
use Rattle.ux_flatten.proofs.CopyStates.{copied_deeper, edge_there, of_edge, room_at, sizes_below, uncopied}
use Rattle.ux_flatten.proofs.CopyParts.{Call, IsPart, root, enter, back_of, find, next_of, state_of_part}
use Rattle.ux_flatten.proofs.CopyLayout as copies
use Rattle.ux_flatten.proofs.CopyLayout.{caller_of, target_of, get_some, stop_text}

-- what calls, and what doesn't
uncalled_none : (x : Label) → IsUncalled x → called x ≡ None
uncalled_none label.Empty u = refl
uncalled_none (label.CaseFolded text) u = refl
uncalled_none (label.CaseExact text) u = refl
uncalled_none (label.Mask mask) u = refl
uncalled_none (label.Brace text) u = refl
uncalled_none label.Space u = refl
uncalled_none label.NoSpace u = refl
uncalled_none (label.Begin name) u = refl
uncalled_none (label.End name) u = refl
uncalled_none label.Positive u = refl
uncalled_none label.Negative u = refl
uncalled_none label.ContextEnd u = refl
uncalled_none label.Cut u = refl
uncalled_none (label.Call h) u = absurd u

abbrev label_in : List Label → Label
label_in [] = label.Empty
label_in (x ∷ labels) = x

-- the one label of a step
pub one_label : (x y : Label) → x ∷ [] ≡ y ∷ [] → x ≡ y
one_label x y same = ap label_in same

same_call : (h k : ℕ) → Some h ≡ Some k → h ≡ k
same_call h k same = cc

-- a label that calls is a call
pub calls_some : (x : Label) (h : ℕ) → called x ≡ Some h → x ≡ label.Call h
calls_some x h is = elim (call_or_not x) [
  | bare_runs.call k e ↦
      let same : k ≡ h = same_call k h (sym (ap called e) ∙ is) in
      e ∙ ap (λ n. label.Call n) same
  | bare_runs.none u ↦
      let none : None ≡ Some h = sym (uncalled_none x u) ∙ is in
      absurd cc
]

module _ (graphs : List StateGraph) (has_word : ℕ → Bool) (depth : ℕ)
    (tells : TellsWords graphs has_word) (inside : AreInsideStates graphs)
    (some : 1 ≤ length graphs) where
  abbrev grammar : Grammar
  grammar = state_grammar graphs

  abbrev states_at : ℕ → List State
  states_at g = told_states graphs g

  abbrev flat_states : List State
  flat_states = copies.flat_states graphs has_word depth tells inside some

  abbrev flat_steps : StepGraph
  flat_steps = copies.flat_steps graphs has_word depth tells inside some

  abbrev layout : Layout
  layout = copies.layout graphs has_word depth tells inside some

  abbrev InCopy : (x c a : ℕ) → Type 0
  InCopy = copies.InCopy graphs has_word depth tells inside some

  abbrev Placed : (x c a : ℕ) → Type 0
  Placed = copies.Placed graphs has_word depth tells inside some

  abbrev Part : (d g first : ℕ) → Option Call → Type 0
  Part = IsPart graphs has_word depth

  -- an edge of a copied graph, and where what stands in place of it begins
  record EdgeAt (d g c : ℕ) (call : Option Call) (a m : ℕ) (edge : Edge) : Type 0 where
    pub part : Part d g c call
    pub state : State
    pub found : slice_get (states_at g) a ≡ Some state
    pub at : At (room_at graphs has_word d) (next_of graphs has_word depth d g c a) state.edges
        edge m

  -- the edge as a step of its graph
  abbrev old_step : (a : ℕ) → Edge → Step
  old_step a edge = record {
    from = a;
    to = edge.target;
    output = edge.output;
    labels = edge.label ∷ [];
  }

  old_is_step : {d g c a m : ℕ} {call : Option Call} {edge : Edge} → EdgeAt d g c call a m edge →
      IsNetStep (states_at g) (old_step a edge)
  old_is_step {d = d} {edge = edge} e = record {
    state = e.state;
    found = e.found;
    edge = edge;
    inside = at_contains (room_at graphs has_word d) e.at;
    to = refl;
    label = refl;
    puts = refl;
  }

  -- the edge of the copy as a step of the flat graph
  new_is_step : {d g c a m : ℕ} {call : Option Call} {edge : Edge} → EdgeAt d g c call a m edge →
      (calls : Option ℕ) → copied_by graphs has_word d edge ≡ calls →
      IsNetStep flat_states (old_step (c + a)
      (copy_edge graphs has_word (sizes_below graphs has_word d) d c (back_of call) calls m edge))
  new_is_step {d = d} {g = g} {c = c} {a = a} {m = m} {call = call} {edge = edge} e calls is =
      let sizes = sizes_below graphs has_word d in
      let next = next_of graphs has_word depth d g c a in
      let one = copy_edge graphs has_word sizes d c (back_of call) calls m edge in
      let edges = copy_edges graphs has_word sizes d c (back_of call) next e.state.edges in
      record {
        state = copy_state graphs has_word sizes d c (back_of call) next e.state;
        found = state_of_part graphs has_word depth e.part a e.state e.found;
        edge = one;
        inside = Contains-append_left edges (end_edges (back_of call) e.state.is_final) one
            (subst (λ (k : Option ℕ). Contains edges
            (copy_edge graphs has_word sizes d c (back_of call) k m edge)) is
            (edge_there graphs has_word sizes d c (back_of call) e.at));
        to = refl;
        label = refl;
        puts = refl;
      }

  -- the target of an edge is a state of its graph
  target_within : {d g c a m : ℕ} {call : Option Call} {edge : Edge} →
      EdgeAt d g c call a m edge → edge.target < length (states_at g)
  target_within {d = d} {g = g} {a = a} {edge = edge} e =
      (inside.edges g a e.state edge e.found (at_contains (room_at graphs has_word d) e.at)).target

  from_within : {d g c a m : ℕ} {call : Option Call} {edge : Edge} →
      EdgeAt d g c call a m edge → a < length (states_at g)
  from_within {g = g} {a = a} e = slice_get_within (states_at g) a e.state e.found

  stands : {d g first : ℕ} {call : Option Call} → Part d g first call → (a : ℕ) →
      a < length (states_at g) → InCopy (first + a) first a
  stands = copies.stands graphs has_word depth tells inside some

  graph_told : {d g first : ℕ} {call : Option Call} → Part d g first call →
      layout.graph first ≡ g
  graph_told = copies.graph_told graphs has_word depth tells inside some

  depth_told : {d g first : ℕ} {call : Option Call} → Part d g first call →
      layout.depth first ≡ d
  depth_told = copies.depth_told graphs has_word depth tells inside some

  -- a step of the copied graph, as one of what the layout tells
  step_told : {d g c a m : ℕ} {call : Option Call} {edge : Edge} → EdgeAt d g c call a m edge →
      (grammar.graph (layout.graph c)).IsStep (old_step a edge)
  step_told {a = a} {edge = edge} e =
      subst (λ n. (grammar.graph n).IsStep (old_step a edge)) (sym (graph_told e.part))
      (old_is_step e)

  abbrev Own : ℕ → Step → Step → Type 0
  Own = IsOwn grammar layout stop_text flat_steps

  abbrev Entering : ℕ → Step → ℕ → Step → Type 0
  Entering = Enters grammar layout stop_text flat_steps

  abbrev Stopping : ℕ → Step → ℕ → Step → Type 0
  Stopping = Stops grammar layout stop_text flat_steps

  abbrev Leaving : (c a : ℕ) → Step → Type 0
  Leaving = Leaves grammar layout stop_text flat_steps

  -- the three edges in place of one
  own_of : {d g c a m : ℕ} {call : Option Call} {edge : Edge} → EdgeAt d g c call a m edge →
      IsUncalled edge.label → (label : Label) → stopped (called edge.label) edge.label ≡ label →
      Own c (old_step a edge) (record {
        from = c + a;
        to = c + edge.target;
        output = edge.output;
        labels = label ∷ [];
      })
  own_of {a = a} {edge = edge} e u label is = record {
    inside = step_told e;
    label = edge.label;
    labels = refl;
    uncalled = u;
    same_labels = ap (λ x. x ∷ []) (sym is
        ∙ ap (λ (k : Option ℕ). stopped k edge.label) (uncalled_none edge.label u));
    same_output = refl;
    from = stands e.part a (from_within e);
    to = stands e.part edge.target (target_within e);
  }

  stops_of : {d g c a m : ℕ} {call : Option Call} {edge : Edge} → EdgeAt d g c call a m edge →
      (h : ℕ) → edge.label ≡ label.Call h → copied_by graphs has_word d edge ≡ None →
      (label : Label) → stopped (called edge.label) edge.label ≡ label →
      Stopping c (old_step a edge) h (record {
        from = c + a;
        to = c + edge.target;
        output = edge.output;
        labels = label ∷ [];
      })
  stops_of {d = d} {a = a} {edge = edge} e h calls none label is = record {
    inside = step_told e;
    labels = ap (λ x. x ∷ []) calls;
    stopped = ap (λ x. x ∷ []) (sym is ∙ ap (λ x. stopped (called x) x) calls);
    same_output = refl;
    cut = λ k deeper word has.
        let at_depth : d ≡ suc k = sym (depth_told e.part) ∙ deeper in
        uncopied graphs has_word k h
        (subst₂ (λ n x. copied graphs has_word n (called x) ≡ None) at_depth calls none)
        ((tells h).1 (word, has));
    from = stands e.part a (from_within e);
    to = stands e.part edge.target (target_within e);
  }

  enters_at : {k g c a m : ℕ} {call : Option Call} {edge : Edge} →
      EdgeAt (suc k) g c call a m edge → (h : ℕ) → edge.label ≡ label.Call h →
      copied_by graphs has_word (suc k) edge ≡ Some h → has_word h ≡ true →
      Entering c (old_step a edge) h (record {
        from = c + a;
        to = m;
        output = edge.output;
        labels = label.Empty ∷ [];
      })
  enters_at {k = k} {c = c} {a = a} {m = m} {edge = edge} e h calls is word =
      let new : Part k h m (Some (record { caller = c; target = edge.target })) =
      enter a e.state edge e.part e.found e.at is in
      let has = (tells h).0 word in
      record {
        inside = step_told e;
        labels = ap (λ x. x ∷ []) calls;
        word = has.0;
        has = has.1;
        empty = refl;
        same_output = refl;
        new = m;
        inner = λ zero_is.
            let later = (copies.known graphs has_word depth tells inside some new).later in
            omega (arith, later, zero_is);
        graph = graph_told new;
        depth = depth_told e.part ∙ ap suc (sym (depth_told new));
        caller = copies.caller_told graphs has_word depth tells inside some new;
        target = copies.target_told graphs has_word depth tells inside some new;
        from = stands e.part a (from_within e);
        to = subst (λ n. InCopy n m 0) (omega arith)
            (stands new 0 (copies.part_some graphs has_word depth tells inside some new));
      }

  enters_of : {d g c a m : ℕ} {call : Option Call} {edge : Edge} → EdgeAt d g c call a m edge →
      (h : ℕ) → copied_by graphs has_word d edge ≡ Some h →
      (edge.label ≡ label.Call h) × Entering c (old_step a edge) h (record {
        from = c + a;
        to = m;
        output = edge.output;
        labels = label.Empty ∷ [];
      })
  enters_of {d = d} {g = g} {c = c} {a = a} {m = m} {call = call} {edge = edge} e h is =
      let deeper = copied_deeper graphs has_word d (called edge.label) h is in
      let calls = calls_some edge.label h deeper.2 in (
        calls,
        enters_at (subst (λ n. EdgeAt n g c call a m edge) deeper.1 e) h calls
            (subst (λ n. copied_by graphs has_word n edge ≡ Some h) deeper.1 is) deeper.3,
      )

  -- an edge of a state that stands in a copy
  edge_at : (x c : ℕ) (t : Step) → (p : Placed x c t.from) →
      (i : IsNetStep (states_at p.g) t) →
      (m : ℕ) × EdgeAt p.d p.g c p.call t.from m i.edge
  edge_at x c t p i =
      let at =
      contains_at (room_at graphs has_word p.d) (next_of graphs has_word depth p.d p.g c t.from)
      i.state.edges i.edge i.inside in
      (at.0, record { part = p.part; state = i.state; found = i.found; at = at.1 })

  step_in : (x c : ℕ) (t : Step) → (p : Placed x c t.from) →
      (grammar.graph (layout.graph c)).IsStep t → IsNetStep (states_at p.g) t
  step_in x c t p i = subst (λ n. IsNetStep (states_at n) t) (graph_told p.part) i

  -- the step is that of its edge
  same_step : (states : List State) (t : Step) → (i : IsNetStep states t) →
      old_step t.from i.edge ≡ t
  same_step states t i =
      subst (λ to. record {
        from = t.from;
        to = to;
        output = i.edge.output;
        labels = i.edge.label ∷ [];
      } ≡ t) i.to
      (subst (λ (output : List Piece). record {
        from = t.from;
        to = t.to;
        output = output;
        labels = i.edge.label ∷ [];
      } ≡ t) i.puts
      (subst (λ (labels : List Label). record {
        from = t.from;
        to = t.to;
        output = t.output;
        labels = labels;
      } ≡ t) i.label refl))

  abbrev OwnEdges : (x c : ℕ) → Step → Type 0
  OwnEdges x c t = (s : Step) × IsNetStep flat_states s × (s.from ≡ x) × Own c t s

  own_there : (x c : ℕ) (t : Step) (label : Label) → InCopy x c t.from →
      (grammar.graph (layout.graph c)).IsStep t → t.labels ≡ label ∷ [] → IsUncalled label →
      OwnEdges x c t
  own_there x c t label st is labels u =
      let p = copies.placed graphs has_word depth tells inside some x c t.from st in
      let i = step_in x c t p is in
      let e = (edge_at x c t p i).1 in
      let same : label ≡ i.edge.label = one_label label i.edge.label (sym labels ∙ i.label) in
      let un : IsUncalled i.edge.label = subst IsUncalled same u in
      let none : copied_by graphs has_word p.d i.edge ≡ None =
      ap (copied graphs has_word p.d) (uncalled_none i.edge.label un) ∙ not_copied p.d in (
        old_step (c + t.from)
            (copy_edge graphs has_word (sizes_below graphs has_word p.d) p.d c (back_of p.call) None
            (edge_at x c t p i).0 i.edge),
        new_is_step e None none,
        sym p.is,
        subst (λ s. Own c s
            (old_step (c + t.from)
            (copy_edge graphs has_word (sizes_below graphs has_word p.d) p.d c (back_of p.call) None
            (edge_at x c t p i).0 i.edge))) (same_step (states_at p.g) t i)
            (own_of e un (stopped (called i.edge.label) i.edge.label) refl),
      )
    where
      not_copied : (d : ℕ) → copied graphs has_word d None ≡ None
      not_copied zero = refl
      not_copied (suc d) = refl

  abbrev CallEdges : (x c : ℕ) → Step → ℕ → Type 0
  CallEdges x c t h = (s : Step) × IsNetStep flat_states s × (s.from ≡ x)
      × Replaces grammar layout stop_text flat_steps c t h s

  call_there : (x c : ℕ) (t : Step) (h : ℕ) → InCopy x c t.from →
      (grammar.graph (layout.graph c)).IsStep t → t.labels ≡ label.Call h ∷ [] → CallEdges x c t h
  call_there x c t h st is labels =
      let p = copies.placed graphs has_word depth tells inside some x c t.from st in
      let i = step_in x c t p is in
      let at = edge_at x c t p i in
      let calls : i.edge.label ≡ label.Call h =
      one_label i.edge.label (label.Call h) (sym i.label ∙ labels) in
      by_copy p i at.0 at.1 calls (copied_by graphs has_word p.d i.edge) refl
    where
      by_copy : (p : Placed x c t.from) (i : IsNetStep (states_at p.g) t) (m : ℕ) →
          EdgeAt p.d p.g c p.call t.from m i.edge → i.edge.label ≡ label.Call h →
          (calls : Option ℕ) → copied_by graphs has_word p.d i.edge ≡ calls → CallEdges x c t h
      by_copy p i m e calls None none =
          let s =
          old_step (c + t.from)
          (copy_edge graphs has_word (sizes_below graphs has_word p.d) p.d c (back_of p.call) None m
          i.edge) in (
            s,
            new_is_step e None none,
            sym p.is,
            subst (λ t. Replaces grammar layout stop_text flat_steps c t h s)
                (same_step (states_at p.g) t i)
                (cut (stops_of e h calls none (stopped (called i.edge.label) i.edge.label) refl)),
          )
      by_copy p i m e calls (Some k) copied_is =
          let s =
          old_step (c + t.from)
          (copy_edge graphs has_word (sizes_below graphs has_word p.d) p.d c (back_of p.call)
          (Some k)
          m i.edge) in
          let entered = enters_of e k copied_is in
          let same : k ≡ h =
          same_call k h (ap called (sym entered.0 ∙ calls)) in (
            s,
            new_is_step e (Some k) copied_is,
            sym p.is,
            subst₂ (λ t n. Replaces grammar layout stop_text flat_steps c t n s)
                (same_step (states_at p.g) t i) same (expanded entered.1),
          )

  -- the edge from an end of a copy
  abbrev back_edge : Call → Edge
  back_edge call = record {
    label = label.Empty;
    output = [];
    target = call.caller + call.target;
  }

  leaves_of : {d g c a : ℕ} (call : Call) → Part d g c (Some call) → IsNetEnd (states_at g) a →
      IsNetStep flat_states (old_step (c + a) (back_edge call))
      × Leaving c a (old_step (c + a) (back_edge call))
  leaves_of {d = d} {g = g} {c = c} {a = a} call part end =
      let sizes = sizes_below graphs has_word d in
      let next = next_of graphs has_word depth d g c a in
      let edges =
      copy_edges graphs has_word sizes d c (back_of (Some call)) next end.state.edges in
      let of_call = copies.known graphs has_word depth tells inside some part in
      let caller = copies.caller_told graphs has_word depth tells inside some part in
      let target = copies.target_told graphs has_word depth tells inside some part in (
        record {
          state = copy_state graphs has_word sizes d c (back_of (Some call)) next end.state;
          found = state_of_part graphs has_word depth part a end.state end.found;
          edge = back_edge call;
          inside = Contains-append_right edges
              (end_edges (back_of (Some call)) end.state.is_final) (back_edge call)
              (subst (λ (b : Bool). Contains (end_edges (back_of (Some call)) b) (back_edge call))
              (sym end.final) (contains_first (back_edge call) []));
          to = refl;
          label = refl;
          puts = refl;
        },
        record {
          inner = λ zero_is. omega (arith, of_call.later, zero_is);
          ends = subst (λ n. (grammar.graph n).IsEnd a) (sym (graph_told part)) end;
          empty = refl;
          no_output = refl;
          from = stands part a (slice_get_within (states_at g) a end.state end.found);
          to = subst₂ (λ n b. InCopy (call.caller + call.target) n b) (sym caller) (sym target)
              (stands of_call.part call.target of_call.target);
        },
      )

  abbrev EndEdges : (x c a : ℕ) → Type 0
  EndEdges x c a = (s : Step) × IsNetStep flat_states s × (s.from ≡ x) × Leaving c a s

  end_there : (x c a : ℕ) → InCopy x c a → (grammar.graph (layout.graph c)).IsEnd a →
      (c ≡ 0 → ⊥) → EndEdges x c a
  end_there x c a st end inner =
      let p = copies.placed graphs has_word depth tells inside some x c a st in
      by_call p.call p.part p.is
      (subst (λ n. IsNetEnd (states_at n) a) (graph_told p.part) end)
    where
      by_call : {d g : ℕ} (call : Option Call) → Part d g c call → x ≡ c + a →
          IsNetEnd (states_at g) a → EndEdges x c a
      by_call None part at end =
          absurd (inner (copies.known graphs has_word depth tells inside some part).first_zero)
      by_call (Some call) part at end =
          let l = leaves_of call part end in
          (old_step (c + a) (back_edge call), l.0, sym at, l.1)

  -- each step of the flat graph is one of these
  abbrev Copied : Step → Type 0
  Copied = IsCopied grammar layout stop_text flat_steps

  copied_edge : {d g c a m : ℕ} {call : Option Call} {edge : Edge} →
      EdgeAt d g c call a m edge → (calls : Option ℕ) → copied_by graphs has_word d edge ≡ calls →
      Copied (old_step (c + a)
      (copy_edge graphs has_word (sizes_below graphs has_word d) d c (back_of call) calls m edge))
  copied_edge {c = c} {a = a} {edge = edge} e (Some h) is =
      enters c (old_step a edge) h (enters_of e h is).1
  copied_edge {c = c} {a = a} {edge = edge} e None is = elim (call_or_not edge.label) [
    | bare_runs.call h calls ↦
        stops c (old_step a edge) h
        (stops_of e h calls is (stopped (called edge.label) edge.label) refl)
    | bare_runs.none u ↦
        own c (old_step a edge) (own_of e u (stopped (called edge.label) edge.label) refl)
  ]

  copied_back : {d g c : ℕ} (a : ℕ) (call : Option Call) → Part d g c call → (state : State) →
      slice_get (states_at g) a ≡ Some state → (edge : Edge) → (final : Bool) →
      state.is_final ≡ final → Contains (end_edges (back_of call) final) edge →
      Copied (old_step (c + a) edge)
  copied_back a None part state found edge final is within = absurd (nothing_in within)
  copied_back a (Some call) part state found edge false is within = absurd (nothing_in within)
  copied_back {g = g} {c = c} a (Some call) part state found edge true is within =
      let end : IsNetEnd (states_at g) a =
      record { state = state; found = found; final = is } in
      let l = leaves_of call part end in
      elim (first_or_later (back_edge call) [] edge within) [
        | inl same ↦ subst (λ e. Copied (old_step (c + a) e)) same (leaves c a l.1)
        | inr later ↦ absurd (nothing_in later)
      ]

  same_some : {A : Type 0} (x y : A) → Some x ≡ Some y → x ≡ y
  same_some x y same = cc

  each_copied : (s : Step) → IsNetStep flat_states s → Copied s
  each_copied s i =
      let f =
      find graphs has_word depth s.from (slice_get_within flat_states s.from i.state i.found) in
      let st = get_some (states_at f.g) f.a f.inside in
      let sizes = sizes_below graphs has_word f.d in
      let next = next_of graphs has_word depth f.d f.g f.first f.a in
      let state = copy_state graphs has_word sizes f.d f.first (back_of f.call) next st.0 in
      let there : slice_get flat_states s.from ≡ Some state =
      ap (slice_get flat_states) f.is
      ∙ state_of_part graphs has_word depth f.part f.a st.0 st.1 in
      let same : i.state ≡ state = same_some i.state state (sym i.found ∙ there) in
      let edges =
      copy_edges graphs has_word sizes f.d f.first (back_of f.call) next st.0.edges in
      let within : Contains (edges ++ end_edges (back_of f.call) st.0.is_final) i.edge =
      subst (λ (q : State). Contains q.edges i.edge) same i.inside in
      let done : Copied (old_step (f.first + f.a) i.edge) =
      elim (Contains-append_cases edges (end_edges (back_of f.call) st.0.is_final) i.edge within) [
        | inl front ↦
            let it =
            of_edge graphs has_word sizes f.d f.first (back_of f.call) next st.0.edges i.edge
            front in
            let e : EdgeAt f.d f.g f.first f.call f.a it.m it.edge =
            record { part = f.part; state = st.0; found = st.1; at = it.at } in
            subst (λ q. Copied (old_step (f.first + f.a) q)) it.is
            (copied_edge e (copied_by graphs has_word f.d it.edge) refl)
        | inr behind ↦
            copied_back f.a f.call f.part st.0 st.1 i.edge st.0.is_final refl behind
      ] in
      subst Copied (same_step flat_states s i)
      (subst (λ n. Copied (old_step n i.edge)) (sym f.is) done)

  -- the ends of the flat graph are those of the main graph's copy
  abbrev EndOfMain : ℕ → Type 0
  EndOfMain x = (a : ℕ) × InCopy x 0 a × IsNetEnd (states_at 1) a

  each_end : (x : ℕ) → IsNetEnd flat_states x → EndOfMain x
  each_end x end =
      let f = find graphs has_word depth x (slice_get_within flat_states x end.state end.found) in
      let st = get_some (states_at f.g) f.a f.inside in
      let sizes = sizes_below graphs has_word f.d in
      let next = next_of graphs has_word depth f.d f.g f.first f.a in
      let state = copy_state graphs has_word sizes f.d f.first (back_of f.call) next st.0 in
      let there : slice_get flat_states x ≡ Some state =
      ap (slice_get flat_states) f.is
      ∙ state_of_part graphs has_word depth f.part f.a st.0 st.1 in
      let same : end.state ≡ state = same_some end.state state (sym end.found ∙ there) in
      let final : is_end (back_of f.call) st.0.is_final ≡ true =
      ap (λ (q : State). q.is_final) (sym same) ∙ end.final in
      by_call f.g f.a f.call f.part st.0 st.1 f.is final
    where
      by_call : {d first : ℕ} (g a : ℕ) (call : Option Call) → Part d g first call →
          (state : State) →
          slice_get (states_at g) a ≡ Some state → x ≡ first + a →
          is_end (back_of call) state.is_final ≡ true → EndOfMain x
      by_call g a None part state found at final =
          let main = copies.known graphs has_word depth tells inside some part in (
            a,
            subst₂ (λ n c. InCopy n c a) (sym at) main.first_zero
                (stands part a (slice_get_within (states_at g) a state found)),
            subst (λ n. IsNetEnd (states_at n) a) main.graph
                (record { state = state; found = found; final = final }),
          )
      by_call g a (Some call) part state found at final = absurd cc

  final_there : (x a : ℕ) → InCopy x 0 a → IsNetEnd (states_at 1) a → IsNetEnd flat_states x
  final_there x a st end =
      let p = copies.placed graphs has_word depth tells inside some x 0 a st in
      by_call p.call p.part p.is
    where
      by_call : {d g : ℕ} (call : Option Call) → Part d g 0 call → x ≡ 0 + a →
          IsNetEnd flat_states x
      by_call {d = d} {g = g} None part at =
          let main = copies.known graphs has_word depth tells inside some part in
          let e : IsNetEnd (states_at g) a =
          subst (λ n. IsNetEnd (states_at n) a) (sym main.graph) end in
          record {
            state = copy_state graphs has_word (sizes_below graphs has_word d) d 0 None
                (next_of graphs has_word depth d g 0 a) e.state;
            found = ap (slice_get flat_states) at
                ∙ state_of_part graphs has_word depth part a e.state e.found;
            final = e.final;
          }
      by_call (Some call) part at =
          let later = (copies.known graphs has_word depth tells inside some part).later in
          absurd (omega (arith, later))

  -- the law
  pub is_flat : IsFlat grammar layout stop_text flat_steps 1 depth
  is_flat = record {
    start = stands root 0 (copies.part_some graphs has_word depth tells inside some root);
    of_main = graph_told root;
    at_depth = depth_told root;
    ends = each_end;
    final = final_there;
    steps = each_copied;
    own_edge = own_there;
    call_edge = call_there;
    end_edge = end_there;
    apart = λ x y c a sx sy.
        let p = copies.placed graphs has_word depth tells inside some x c a sx in
        let q = copies.placed graphs has_word depth tells inside some y c a sy in
        p.is ∙ sym q.is;
  }

  pub has_labels : HasLabels grammar
  has_labels g s i = (i.edge.label, i.label)
