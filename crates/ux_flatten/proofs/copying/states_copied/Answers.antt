use Rattle.std.proofs.Common.{◌≡◌, ◌+◌, ◌++◌, ◌∙◌, ℕ, List, [], sym, ap, subst, append-nil, drop, length}
use Rattle.ux_base.proofs.Lists.{drop_whole}
use Rattle.ux_net.specs.declared.state.State.{State}
use Rattle.ux_flatten.specs.declared.pending.Pending.{Pending}
use Rattle.ux_flatten.specs.Copies.{edges_of}
use Rattle.ux_flatten.specs.Making.{pending_in, states_in}
use Rattle.ux_flatten.proofs.MakingLemmas.{inner_more, states_more}
use Rattle.ux_flatten.proofs.copying.states_copied.Goals as goal

pub loop-state-init : goal.loop-state-init
loop-state-init c =
    let source = c.args.source.now in
    let copy = c.args.copy in
    let from : List State = c.states-from.result.now in
    record {
      states = ap (λ (n : ℕ). c.args.states.now.items ++ states_in source copy n from)
          c.in_ok-next.ensures;
      inner = ap (λ (l : List Pending). l ++ pending_in source copy c.in_ok-next.next (edges_of from))
          c.new-inner.ensures.items
          ∙ ap (λ (n : ℕ). pending_in source copy n (edges_of from)) c.in_ok-next.ensures;
    }

pub loop-state-preserved : goal.loop-state-preserved
loop-state-preserved c =
    let source = c.args.source.now in
    let copy = c.args.copy in
    let from : List State = c.states-from.result.now in
    let begins = copy.first + length from in
    let i = c.loop-state.state-index in
    let next = c.loop-state.next in
    let below = c.loop-state-test.true in
    let at = c.state-item.is in
    let one = c.in_ok-state_copied.ensures in
    record {
      states = states_more source copy from i next c.state_copied.new.next c.state-item.result
          c.in_ok-state_copied.field-0 c.loop-state.states.items c.push.new.self.items
          (c.args.states.now.items ++ states_in source copy begins from) below at
          c.loop-state.invariant.states one.state c.in_ok-push.ensures.items one.next;
      inner = inner_more source copy from i next c.state_copied.new.next c.state-item.result
          c.loop-state.inner.items c.state_copied.new.inner.items
          (pending_in source copy begins (edges_of from)) below at c.loop-state.invariant.inner
          one.inner one.next;
    }

pub returns : goal.returns
returns c =
    let source = c.args.source.now in
    let copy = c.args.copy in
    let from : List State = c.states-from.result.now in
    let next = c.loop-state.next in
    let states = c.loop-state.states.items in
    let inner = c.loop-state.inner.items in
    let none : drop c.loop-state.state-index from ≡ [] =
    drop_whole from c.loop-state.state-index c.loop-state-test.false in
    record {
      states = subst (λ (l : List State). states
          ≡ c.args.states.now.items ++ states_in source copy (copy.first + length l) l)
          c.states-from.ensures
          (sym (append-nil states)
          ∙ (ap (λ (l : List State). states ++ states_in source copy next l) (sym none)
          ∙ c.loop-state.invariant.states));
      inner = subst (λ (l : List State). inner
          ≡ pending_in source copy (copy.first + length l) (edges_of l)) c.states-from.ensures
          (sym (append-nil inner)
          ∙ (ap (λ (l : List State). inner ++ pending_in source copy next (edges_of l)) (sym none)
          ∙ c.loop-state.invariant.inner));
    }
