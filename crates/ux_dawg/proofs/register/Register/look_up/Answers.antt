use Rattle.std.proofs.Common.{◌≢◌, List, get_or, subst, sym}
use Rattle.ux_dawg.specs.declared.state.State.{State}
use Rattle.ux_dawg.specs.Building.{bare}
use Rattle.ux_dawg.specs.Flat.{state_of}
use Rattle.ux_dawg.specs.Register.{follower_of}
use Rattle.ux_dawg.proofs.RegisterLemmas.{kept_after, kept_there, nowhere, register_after, register_widened}
use Rattle.ux_dawg.proofs.register.Register.look_up.Goals as goal

pub invariant_of-self : goal.invariant_of-self
invariant_of-self c =
    register_widened c.self.inside.states c.self.inside.index c.widen.new.self c.self.invariant
    c.widen.ensures.widened

pub invariant_of-self-in-Some : goal.invariant_of-self-in-Some
invariant_of-self-in-Some c =
    register_widened c.self.inside.states c.self.inside.index c.widen.new.self c.self.invariant
    c.widen.ensures.widened

pub store-requires-clause-within : goal.store-requires-clause-within
store-requires-clause-within c =
    (register_widened c.self.inside.states c.self.inside.index c.widen.new.self
    c.self.invariant c.widen.ensures.widened).within

pub invariant_of-self-in-None : goal.invariant_of-self-in-None
invariant_of-self-in-None c =
    let states = c.self.inside.states in
    let state = state_of c.args.code c.args.edges.now in
    let wide = c.widen.new.self in
    let widened = c.widen.ensures.widened in
    let apart = subst (λ (l : List State).
    get_or l (follower_of c.args.edges.now) bare ≢ state) (sym c.self.view_is) c.requires in
    register_after states c.store.new.states state wide c.store.new.self c.store.result
    (register_widened states c.self.inside.index wide c.self.invariant widened)
    (nowhere states c.self.inside.index wide state c.self.invariant widened apart
    c.in-None.ensures) c.store.ensures.ok c.store.ensures.same c.store.ensures.err

pub returns-in-Some : goal.returns-in-Some
returns-in-Some c =
    let are = register_widened c.self.inside.states c.self.inside.index c.widen.new.self
    c.self.invariant c.widen.ensures.widened in
    kept_there c.args.self.now c.self.inside.states (state_of c.args.code c.args.edges.now)
    c.in-Some.number c.self.view_is (are.within c.in-Some.number c.in-Some.ensures.0)
    c.in-Some.ensures.1

pub returns-in-None : goal.returns-in-None
returns-in-None c =
    kept_after c.self.inside.states c.store.new.states (state_of c.args.code c.args.edges.now)
    c.widen.new.self c.store.new.self c.store.result c.args.self.now c.self.view_is
    c.store.ensures.ok
