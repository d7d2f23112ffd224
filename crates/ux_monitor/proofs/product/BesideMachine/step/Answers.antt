use Rattle.std.proofs.Common.{rules, ◌<◌, ◌^◌, [], ◌∷◌, ◌++◌, subst, sym}
use Rattle.ux_subsets.specs.Machines.{Grows}
use Rattle.ux_monitor.specs.Parts.{Joined, SatisfiesParts, StandsJointly, seen_in}
use Rattle.ux_monitor.proofs.ProductLemmas.{jointly_grows, jointly_state, side_of, watched-later}
use Rattle.ux_monitor.proofs.product.BesideMachine.step.Goals as goal

pub returns-clause-grows : goal.returns-clause-grows
returns-clause-grows c =
    let i = c.self.inside in
    let parts = i.parts.now in
    let of = i.of.now in
    let new = c.step.new.self in
    subst (λ (old : Joined). Grows (StandsJointly old)
    (StandsJointly (side_of parts of (seen_in new.each.items) new.states.keys))
    (SatisfiesParts old.parts) (SatisfiesParts parts)) c.self.view_is
    (jointly_grows parts of (seen_in i.memories.each.items) (seen_in new.each.items)
    i.memories.states.keys new.states.keys c.in_ok-next.ensures.kept)

pub returns-clause-stepped : goal.returns-clause-stepped
returns-clause-stepped c = λ before stands.
    let i = c.self.inside in
    let parts = i.parts.now in
    let of = i.of.now in
    let old = i.memories in
    let new = c.step.new.self in
    let here : c.args.state < 2 ^ 64 = search rules in
    let small : c.in_ok-next.next < 2 ^ 64 = search rules in
    let s = (subst (λ (j : Joined). StandsJointly j c.args.state before) (sym c.self.view_is)
    stands).state here in
    jointly_state (side_of parts of (seen_in new.each.items) new.states.keys) c.in_ok-next.next
    (before ++ c.args.reading ∷ []) small
    (watched-later parts of (seen_in old.each.items) (seen_in new.each.items) old.states.keys
    new.states.keys c.in_ok-next.ensures.kept c.args.state c.args.reading c.in_ok-next.next before s
    c.in_ok-next.ensures.stepped)
