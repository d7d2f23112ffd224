use Rattle.std.proofs.Common.{◌≡◌, ◌∙◌, List, length, refl, sym, subst}
use Rattle.ux_dawg.specs.declared.state.State.{State}
use Rattle.ux_dawg.specs.Flat.{state_of}
use Rattle.ux_dawg.specs.Paths.{AreStates}
use Rattle.ux_dawg.specs.Register.{follower_of, IsKeptState}
use Rattle.ux_dawg.proofs.RegisterLemmas.{follower_within, kept_last, kept_there, newest-new, register_put}
use Rattle.ux_dawg.proofs.register.Register.keep.Goals as goal

pub invariant_of-self-then-number-len : goal.invariant_of-self-then-number-len
invariant_of-self-then-number-len c =
    let states = c.self.inside.states in
    let state = state_of c.args.code c.args.edges.now in
    let fit = subst AreStates (sym c.self.view_is) c.requires in
    let newest : follower_of c.args.edges.now ≡ length states =
    sym c.follower-number.ensures ∙ c.if-number-len.true ∙ c.len.ensures in
    register_put states state c.self.inside.index c.self.invariant
    (newest-new states state fit newest) c.push.new.self c.in_ok-push.ensures.ok newest

pub returns-then-number-len : goal.returns-then-number-len
returns-then-number-len c =
    let state = state_of c.args.code c.args.edges.now in
    let number = c.follower-number.result in
    subst (λ (l : List State). IsKeptState l c.push.new.self state number) c.self.view_is
    (kept_last c.self.inside.states c.push.new.self state number c.in_ok-push.ensures.ok
    (c.if-number-len.true ∙ c.len.ensures))

pub returns-then-is_state : goal.returns-then-is_state
returns-then-is_state c =
    let states = c.self.inside.states in
    let state = state_of c.args.code c.args.edges.now in
    let number = c.follower-number.result in
    let at = c.is_state.ensures.0 c.if-is_state.true in
    let within = follower_within states state number c.follower-number.ensures
    (λ same. c.if-number-len.false (same ∙ sym c.len.ensures)) at in
    subst (λ (l : List State). IsKeptState l l state number) c.self.view_is
    (kept_there states states state number refl within at)
