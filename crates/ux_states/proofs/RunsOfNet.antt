-- The runs of a net are those of the states that are told, from states to which runs come.
use Rattle.std.proofs.Common.{ℕ, List}
use Rattle.ux_net.specs.declared.net_graph.NetGraph.{NetGraph}
use Rattle.ux_net.specs.Closers.{ClosesInto}
use Rattle.ux_net.specs.Nets.{net_graph, net_grammar, states_of}
use Rattle.ux_net.specs.StateGraphs.{told_states, state_grammar}
use Rattle.ux_net.specs.Words.{Letter, Run, stop, along, across, IsBody}
use Rattle.ux_net.proofs.SameGrammar.{run_steps, body_steps}
use Rattle.ux_state_places.proofs.RunLifts.{IsMetState, hop, opened_place, run_lifts}
use Rattle.ux_states.proofs.Found.{Found, IsBuilt}
use Rattle.ux_states.proofs.NetStates.{of_step, to_step}

module _ (it : Found) (net : List NetGraph) (made : IsBuilt it net) (g : ℕ) where
  open it use {graphs, places, stands, hubs, stand}

  abbrev Met : ℕ → Type 0
  Met n = IsMetState graphs places stands hubs stand g n

  abbrev Told : ℕ → ℕ → List Letter → Type 0
  Told a b word = Run g (net_graph (told_states graphs g)) a b word

  abbrev InNet : ℕ → ℕ → List Letter → Type 0
  InNet a b word = Run g (net_graph (states_of net g)) a b word

  -- a run of the net is told
  pub run_told : {a b : ℕ} {word : List Letter} → InNet a b word → Told a b word
  run_told r =
      run_steps g (net_graph (states_of net g)) (net_graph (told_states graphs g))
      (λ s i. (of_step it net made g s i).1) r

  -- where the net closes a body, the states do
  pub into_told : (a c : ℕ) → ClosesInto (net_grammar net) g a c → ClosesInto (state_grammar graphs) g a c
  into_told a c into = (
    into.0,
    body_steps g (net_graph (states_of net g)) (net_graph (told_states graphs g))
        (λ s i. (of_step it net made g s i).1) a c into.0 into.1,
  )

  -- a run comes to where a run leads on
  pub met_then : {a b : ℕ} {word : List Letter} → Told a b word → Met a → Met b
  met_then r met = (run_lifts graphs places stands hubs stand g r met).met

  -- a run that is told is one of the net, where it begins at a state to which a run comes
  pub run_in_net : {a b : ℕ} {word : List Letter} → Told a b word → Met a → InNet a b word
  run_in_net stop met = stop
  run_in_net (along s i m r) met =
      along s (to_step it net made g s i met) m
      (run_in_net r (hop graphs places stands hubs stand g s i m met).met)
  run_in_net (across sign s t i m body j n r) met =
      let opened = (opened_place graphs places stands hubs stand g s sign i m).met in
      across sign s t (to_step it net made g s i met) m (run_in_net body opened)
      (to_step it net made g t j (met_then body opened)) n
      (run_in_net r (met_then (across sign s t i m body j n stop) met))

  -- and a body that is told is one of the net, with where it is closed
  pub body_in_net : (a c : ℕ) (word : List Letter) → Met a →
      IsBody g (net_graph (told_states graphs g)) a c word →
      IsBody g (net_graph (states_of net g)) a c word
  body_in_net a c word met body = record {
    step = body.step;
    inside = to_step it net made g body.step body.inside (met_then body.run met);
    closed = body.closed;
    after = body.after;
    run = run_in_net body.run met;
  }

  pub into_net : (a c : ℕ) → Met a → ClosesInto (state_grammar graphs) g a c →
      ClosesInto (net_grammar net) g a c
  into_net a c met into = (into.0, body_in_net a c into.0 met into.1)
