use Rattle.std.proofs.Common.{rules, ◌<◌, ◌^◌, [], subst}
use Rattle.ux_subsets.specs.Machines.{Grows}
use Rattle.ux_monitor.specs.Parts.{Joined, SatisfiesParts, StandsJointly, seen_in}
use Rattle.ux_monitor.proofs.ProductLemmas.{begun-watched, jointly_grows, jointly_state, side_of}
use Rattle.ux_monitor.proofs.product.BesideMachine.begin.Goals as goal

pub returns-clause-grows : goal.returns-clause-grows
returns-clause-grows c =
    let i = c.self.inside in
    let parts = i.parts.now in
    let of = i.of.now in
    let new = c.begin.new.self in
    subst (λ (old : Joined). Grows (StandsJointly old)
    (StandsJointly (side_of parts of (seen_in new.each.items) new.states.keys))
    (SatisfiesParts old.parts) (SatisfiesParts parts)) c.self.view_is
    (jointly_grows parts of (seen_in i.memories.each.items) (seen_in new.each.items)
    i.memories.states.keys new.states.keys c.in_ok-state.ensures.kept)

pub returns-clause-begun : goal.returns-clause-begun
returns-clause-begun c =
    let i = c.self.inside in
    let parts = i.parts.now in
    let new = c.begin.new.self in
    let begun = c.in_ok-state.ensures.begun in
    let small : c.in_ok-state.state < 2 ^ 64 = search rules in
    jointly_state (side_of parts i.of.now (seen_in new.each.items) new.states.keys)
    c.in_ok-state.state [] small (
      begun.0,
      begun.1,
      begun-watched parts (seen_in new.each.items) begun.0.seen.items begun.2,
    )

pub invariant_of-self : goal.invariant_of-self
invariant_of-self c = (
  c.self.invariant.0,
  c.begin.ensures.right c.self.inside.of.now c.self.invariant.1,
)

pub invariant_of-self-2 : goal.invariant_of-self-2
invariant_of-self-2 c = (
  c.self.invariant.0,
  c.begin.ensures.right c.self.inside.of.now c.self.invariant.1,
)
