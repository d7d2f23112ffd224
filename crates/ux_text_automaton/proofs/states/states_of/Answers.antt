use Rattle.std.proofs.Common.{arith, ◌≡◌, ◌+◌, ◌≤◌, ◌++◌, ◌∷◌, [], List, ℕ, cond, sym, ◌∙◌, ap, subst}
use Rattle.ux_text_automaton.specs.Candidates.{AreStates}
use Rattle.ux_text_automaton.specs.Runs.{is_no_space, state_at}
use Rattle.ux_text_automaton.proofs.StateLemmas.{state_bound, state_first, state_next, states_more, states_start}
use Rattle.ux_text_automaton.proofs.states.states_of.Goals as goal

pub loop-place-init : goal.loop-place-init
loop-place-init c = record {
  filled = subst (AreStates c.args.text.now c.args.run.first c.args.run.first)
      (sym (c.in_ok-push.ensures.items
      ∙ ap (λ (l : List ℕ). l ++ 0 ∷ []) c.new-states.ensures.items))
      (states_start c.args.text.now c.args.run.first);
  state = sym (state_first c.args.text.now c.args.run.first);
}

pub state_after-state-requires : goal.state_after-state-requires
state_after-state-requires c =
    let first = c.args.run.first in
    omega (arith, state_bound c.args.text.now first c.loop-place.place, c.loop-place.invariant.state)

pub loop-place-preserved : goal.loop-place-preserved
loop-place-preserved c =
    let tokens = c.args.text.now in
    let first = c.args.run.first in
    let place = c.loop-place.place in
    let from : first ≤ place = omega arith in
    let next = state_next tokens first place from c.kind.result c.kind.ensures in
    let is : c.state_after-state.result ≡ state_at tokens first (place + 1) =
    c.state_after-state.ensures
    ∙ (ap (λ (n : ℕ). cond (is_no_space c.kind.result) (n + 1) n) c.loop-place.invariant.state
    ∙ sym next) in
    record {
      filled = subst (AreStates tokens first (place + 1))
          (sym c.in_ok-push-2.ensures.items)
          (states_more tokens first place c.loop-place.states.items c.state_after-state.result from
          c.loop-place.invariant.filled is);
      state = is;
    }

pub returns : goal.returns
returns c =
    subst (λ (n : ℕ). AreStates c.args.text.now c.args.run.first n c.loop-place.states.items)
    (omega arith) c.loop-place.invariant.filled
