-- Where each state of a flat graph stands, as functions, and that they tell it.
use Rattle.std.proofs.Common.{arith, ◌≡◌, ℕ, zero, suc, ◌+◌, ◌-◌, ◌<◌, ◌≤◌, List, [], ◌∷◌, Some, refl, sym, subst, ◌∙◌, ap, slice_get, length, Bool}
use Rattle.std.specs.Prelude.{Option, None}
use Rattle.std.proofs.lemmas.Option.{slice_get_within}
use Rattle.ux_tokens.specs.Tokens.{STOP}
use Rattle.ux_net.specs.declared.state.State.{State}
use Rattle.ux_net.specs.declared.state_graph.StateGraph.{StateGraph}
use Rattle.ux_net.specs.Nets.{net_graph}
use Rattle.ux_net.specs.StateGraphs.{AreInsideStates, state_grammar, told_states}
use Rattle.ux_net.specs.Words.{Grammar, StepGraph}
use Rattle.ux_flatten.specs.Flattening.{TellsWords}
use Rattle.ux_flatten.proofs.FlatGraphs.{Layout, Stands}
use Rattle.ux_flatten.proofs.EdgePlaces.{at_contains, at_state, at_from}
use Rattle.ux_flatten.proofs.CopyStates.{behind, copied_deeper, room_at}
use Rattle.ux_flatten.proofs.CopyParts.{Call, Spot, IsPart, root, enter, flat, part_inside, size_some, find, spot, spot_of_part}

-- the text in place of a call that isn't expanded
abbrev pub stop_text : List ℕ
stop_text = STOP

abbrev pub caller_of : Option Call → ℕ
caller_of None = 0
caller_of (Some call) = call.caller

abbrev pub target_of : Option Call → ℕ
target_of None = 0
target_of (Some call) = call.target

-- a number within a list has an element
pub get_some : {A : Type 0} (xs : List A) (i : ℕ) → i < length xs →
    (x : A) × (slice_get xs i ≡ Some x)
get_some [] i lt = absurd (omega (arith, lt))
get_some (x ∷ xs) zero lt = (x, refl)
get_some (x ∷ xs) (suc i) lt = get_some xs i (omega (arith, lt))

module _ (graphs : List StateGraph) (has_word : ℕ → Bool) (depth : ℕ)
    (tells : TellsWords graphs has_word) (inside : AreInsideStates graphs)
    (some : 1 ≤ length graphs) where
  abbrev pub grammar : Grammar
  grammar = state_grammar graphs

  abbrev states_at : ℕ → List State
  states_at g = told_states graphs g

  abbrev pub flat_states : List State
  flat_states = flat graphs has_word depth

  abbrev pub flat_steps : StepGraph
  flat_steps = net_graph flat_states

  abbrev Part : (d g first : ℕ) → Option Call → Type 0
  Part = IsPart graphs has_word depth

  abbrev spot_at : ℕ → Spot
  spot_at = spot graphs has_word depth

  abbrev pub layout : Layout
  layout = record {
    copy = λ x. (spot_at x).first;
    state = λ x. x - (spot_at x).first;
    graph = λ c. (spot_at c).graph;
    depth = λ c. (spot_at c).depth;
    caller = λ c. caller_of (spot_at c).call;
    target = λ c. target_of (spot_at c).call;
    root = 0;
  }

  abbrev pub InCopy : (x c a : ℕ) → Type 0
  InCopy = Stands grammar layout stop_text flat_steps

  -- each graph that is copied has a state
  first_some : (graphs : List StateGraph) → AreInsideStates graphs → 1 ≤ length graphs →
      0 < length (told_states graphs 1)
  first_some [] inside some = absurd (omega (arith, some))
  first_some (graph ∷ graphs) inside some = inside.start 1 graph refl

  pub part_some : {d g first : ℕ} {call : Option Call} → Part d g first call →
      0 < length (states_at g)
  part_some root = first_some graphs inside some
  part_some (enter {d = d} {h = h} a state edge part found at is) =
      let deeper = copied_deeper graphs has_word (suc d) _ h is in
      let word = (tells h).0 deeper.3 in
      omega (arith, slice_get_within (states_at h) word.1.last word.1.ends.state word.1.ends.found)

  -- what is known of a copy by its call
  pub record OfMain (d g first : ℕ) : Type 0 where
    pub first_zero : first ≡ 0
    pub graph : g ≡ 1
    pub at_depth : d ≡ depth

  pub record OfCall (call : Call) (first : ℕ) : Type 0 where
    pub later : 0 < first
    pub d : ℕ
    pub g : ℕ
    pub call_before : Option Call
    pub part : Part d g call.caller call_before
    pub target : call.target < length (states_at g)

  abbrev Known : Option Call → (d g first : ℕ) → Type 0
  Known None d g first = OfMain d g first
  Known (Some call) d g first = OfCall call first

  pub known : {d g first : ℕ} {call : Option Call} → Part d g first call → Known call d g first
  known root = record { first_zero = refl; graph = refl; at_depth = refl }
  known (enter {d = d} {g = g} {first = first} {m = m} {call = call} a state edge part found at
      is) =
      let room = room_at graphs has_word (suc d) in
      let from =
      at_from room (at_state room (behind graphs has_word g first) (states_at g) a state found
      at) in
      record {
        later = omega (arith, from, part_some part);
        d = suc d;
        g = g;
        call_before = call;
        part = part;
        target = (inside.edges g a state edge found (at_contains room at)).target;
      }

  -- what is told of a copy
  spot_of_copy : {d g first : ℕ} {call : Option Call} → Part d g first call →
      spot_at first ≡ record { first = first; graph = g; depth = d; call = call }
  spot_of_copy {d = d} {g = g} {first = first} {call = call} part =
      subst (λ n. spot_at n ≡ record { first = first; graph = g; depth = d; call = call })
      (omega arith) (spot_of_part graphs has_word depth part 0 (part_some part))

  pub graph_told : {d g first : ℕ} {call : Option Call} → Part d g first call →
      layout.graph first ≡ g
  graph_told part = ap (λ (s : Spot). s.graph) (spot_of_copy part)

  pub depth_told : {d g first : ℕ} {call : Option Call} → Part d g first call →
      layout.depth first ≡ d
  depth_told part = ap (λ (s : Spot). s.depth) (spot_of_copy part)

  pub caller_told : {d g first : ℕ} {call : Option Call} → Part d g first call →
      layout.caller first ≡ caller_of call
  caller_told part = ap (λ (s : Spot). caller_of s.call) (spot_of_copy part)

  pub target_told : {d g first : ℕ} {call : Option Call} → Part d g first call →
      layout.target first ≡ target_of call
  target_told part = ap (λ (s : Spot). target_of s.call) (spot_of_copy part)

  -- a state of a copy stands there
  pub stands : {d g first : ℕ} {call : Option Call} → Part d g first call → (a : ℕ) →
      a < length (states_at g) → InCopy (first + a) first a
  stands {d = d} {g = g} {first = first} part a lt =
      let copy : layout.copy (first + a) ≡ first =
      ap (λ (s : Spot). s.first) (spot_of_part graphs has_word depth part a lt) in
      record {
        is = omega (
          arith,
          lt,
          size_some graphs has_word depth d g,
          part_inside graphs has_word depth part,
        );
        copy = copy;
        state = omega (arith, copy);
      }

  -- what stands in a copy is a state of it
  pub record Placed (x c a : ℕ) : Type 0 where
    pub d : ℕ
    pub g : ℕ
    pub call : Option Call
    pub part : Part d g c call
    pub within : a < length (states_at g)
    pub is : x ≡ c + a

  pub placed : (x c a : ℕ) → InCopy x c a → Placed x c a
  placed x c a st =
      let f = find graphs has_word depth x st.is in
      let told : (spot_at x).first ≡ f.first =
      ap (λ n. (spot_at n).first) f.is
      ∙ ap (λ (s : Spot). s.first) (spot_of_part graphs has_word depth f.part f.a f.inside) in
      let same : f.first ≡ c = sym told ∙ st.copy in
      record {
        d = f.d;
        g = f.g;
        call = f.call;
        part = subst (λ n. Part f.d f.g n f.call) same f.part;
        within = subst (λ n. n < length (states_at f.g)) (omega (arith, told, f.is, st.state))
            f.inside;
        is = omega (arith, told, f.is, st.state, same);
      }
