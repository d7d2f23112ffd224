-- The theorem by which a net that is built of states means what they mean: each graph has the same
-- words in both, and each context the same bodies.
use Rattle.std.proofs.Common.{arith, ◌≡◌, ℕ, ◌<◌, List, [], ◌++◌, refl, sym, subst, inl, inr, length}
use Rattle.ux_net.specs.declared.net_graph.NetGraph.{NetGraph}
use Rattle.ux_net.specs.Nets.{net_graph, net_grammar, states_of, IsNetStep}
use Rattle.ux_net.specs.StateGraphs.{told_states, state_grammar}
use Rattle.ux_net.specs.Words.{Sign, Step, Letter, Grammar, opens, mark_of, Run, stop, along, across, IsWord, IsBody, same_context, AreRenumbered, none, more, SayTheSame}
use Rattle.ux_net.proofs.RefineLemmas.{renumbered_joined, put_same, line_same}
use Rattle.ux_net.proofs.RunLemmas.{run_joined, one_step}
use Rattle.ux_admission.specs.Admissible.{IsMet}
use Rattle.ux_state_places.proofs.RunLifts.{IsMetState, from_inside, opened_place}
use Rattle.ux_state_places.proofs.RunProjects.{start_met, end_inside}
use Rattle.ux_states.specs.Met.{met_grammar}
use Rattle.ux_states.proofs.Found.{Found, IsBuilt}
use Rattle.ux_states.proofs.NetStates.{of_step, of_end, to_end}
use Rattle.ux_net.proofs.SameGrammar.{run_steps, body_steps}
use Rattle.ux_states.proofs.RunsOfNet.{run_told, met_then, run_in_net, body_in_net}

module _ (it : Found) (net : List NetGraph) (made : IsBuilt it net) where
  open it use {graphs, places, stands, hubs, stand}

  abbrev Old : Grammar
  Old = met_grammar graphs

  -- places keep their numbers
  abbrev number : (g place : ℕ) → ℕ
  number g place = place

  module _ (g : ℕ) where
    abbrev Told : ℕ → ℕ → List Letter → Type 0
    Told a b word = Run g (net_graph (told_states graphs g)) a b word

    abbrev Comes : ℕ → Type 0
    Comes n = IsMet (state_grammar graphs) g n

    abbrev Met : ℕ → Type 0
    Met n = IsMetState graphs places stands hubs stand g n

    -- a run comes to where a run leads on
    comes_on : {a b : ℕ} {word : List Letter} → Told a b word → Comes a → Comes b
    comes_on {word = word} r m = record {
      first = m.first;
      unit = m.unit;
      word = m.word ++ word;
      run = run_joined g (net_graph (told_states graphs g)) m.run r;
    }

    -- and to where a context opens
    comes_in : (s : Step) (sign : Sign) → IsNetStep (told_states graphs g) s →
        mark_of s.labels ≡ opens sign → Comes s.to
    comes_in s sign i m = record {
      first = s.to;
      unit = inr (sign, record { step = s; of_graph = i; to = refl; opens = m });
      word = [];
      run = stop;
    }

    -- and to the start
    comes_first : Comes 0
    comes_first = record { first = 0; unit = inl refl; word = []; run = stop }

    -- a word is the same, its places numbered, where a run comes to its beginning
    same_word : {a b : ℕ} {word : List Letter} → Told a b word → Comes a →
        AreRenumbered Old number word word
    same_word stop m = none
    same_word (along s i mark r) m =
        renumbered_joined Old number
        (renumbered_joined Old number (put_same Old number s.output) (line_same Old number s.labels))
        (same_word r (comes_on (one_step g (net_graph (told_states graphs g)) s i mark) m))
    same_word (across sign s t i mark body j closed r) m =
        let after = comes_on (across sign s t i mark body j closed stop) m in
        renumbered_joined Old number (put_same Old number s.output)
        (more (same_context (comes_in s sign i mark) after) (same_word r after))

    -- to such a state a run of the places leads
    met_state : {n : ℕ} → 0 < length (told_states graphs g) → Comes n → Met n
    met_state some m = met_then it net made g m.run (elim m.unit [
      | inl first ↦ subst Met (sym first) (start_met graphs places stands hubs stand g some)
      | inr (sign, opening) ↦
          subst Met opening.to
          (opened_place graphs places stands hubs stand g opening.step sign opening.of_graph
          opening.opens).met
    ])

    -- a run that is told, as one of the old grammar, and back
    run_old : {a b : ℕ} {word : List Letter} → Told a b word → Run g (Old.graph g) a b word
    run_old r = run_steps g (net_graph (told_states graphs g)) (Old.graph g) (λ s i. i) r

    run_of_old : {a b : ℕ} {word : List Letter} → Run g (Old.graph g) a b word → Told a b word
    run_of_old r = run_steps g (Old.graph g) (net_graph (told_states graphs g)) (λ s i. i) r

    -- a word of the states is one of the net, and back
    word_forth : (v : List Letter) → IsWord g (Old.graph g) v →
        (w : List Letter) × AreRenumbered Old number v w
        × IsWord g (net_graph (states_of net g)) w
    word_forth v is =
        let run = run_of_old is.run in
        let last = end_inside graphs places stands hubs stand g is.last is.ends in
        let first = start_met graphs places stands hubs stand g (omega (arith, last)) in (
          v,
          same_word run comes_first,
          record {
            last = is.last;
            ends = to_end it net made g is.last is.ends (met_then it net made g run first);
            run = run_in_net it net made g run first;
          },
        )

    word_back : (w : List Letter) → IsWord g (net_graph (states_of net g)) w →
        (v : List Letter) × AreRenumbered Old number v w × IsWord g (Old.graph g) v
    word_back w is =
        let run = run_told it net made g is.run in (
          w,
          same_word run comes_first,
          record {
            last = is.last;
            ends = (of_end it net made g is.last is.ends).1;
            run = run_old run;
          },
        )

    -- a body of the states is one of the net, and back
    body_forth : (opening closing : ℕ) → Comes opening → (v : List Letter) →
        IsBody g (Old.graph g) opening closing v →
        (w : List Letter) × AreRenumbered Old number v w
        × IsBody g (net_graph (states_of net g)) opening closing w
    body_forth opening closing comes v body =
        let told = body_steps g (Old.graph g) (net_graph (told_states graphs g)) (λ s i. i) opening
        closing v body in
        let some = from_inside graphs places stands hubs stand g told.step told.inside in (
          v,
          same_word told.run comes,
          body_in_net it net made g opening closing v (met_state (omega (arith, some)) comes) told,
        )

    body_back : (opening closing : ℕ) → Comes opening → (w : List Letter) →
        IsBody g (net_graph (states_of net g)) opening closing w →
        (v : List Letter) × AreRenumbered Old number v w
        × IsBody g (Old.graph g) opening closing v
    body_back opening closing comes w body =
        let told = body_steps g (net_graph (states_of net g)) (net_graph (told_states graphs g))
        (λ s i. (of_step it net made g s i).1) opening closing w body in (
          w,
          same_word told.run comes,
          body_steps g (net_graph (told_states graphs g)) (Old.graph g) (λ s i. i) opening closing w told,
        )

  -- the law
  pub net_same : SayTheSame (met_grammar graphs) (net_grammar net)
  net_same = record {
    number = number;
    words = word_forth;
    words_back = word_back;
    bodies = λ g opening closing a b v body. body_forth g opening closing a v body;
    bodies_back = λ g opening closing a b w body. body_back g opening closing a w body;
  }
