use Rattle.std.proofs.Common.{rules, ◌<◌, ◌^◌, ◌↔◌, subst, sym}
use Rattle.std.specs.Prelude.{IsTrue}
use Rattle.ux_monitor.specs.Parts.{Joined, SatisfiesParts, StandsJointly}
use Rattle.ux_monitor.proofs.ProductLemmas.{accepts-parts, joint-in}
use Rattle.ux_monitor.proofs.WordsLemmas.{both_ways}
use Rattle.ux_monitor.proofs.product.BesideMachine.accepts.Goals as goal

pub returns : goal.returns
returns c = λ before stands.
    let i = c.self.inside in
    let parts = i.parts.now in
    let here : c.args.state < 2 ^ 64 = search rules in
    let s = (subst (λ (j : Joined). StandsJointly j c.args.state before) (sym c.self.view_is)
    stands).state here in
    let right = c.self.invariant.1 in
    let is = right.joints s.0 (joint-in i.memories.states.keys c.args.state s.0 s.1) in
    subst (λ (j : Joined). IsTrue c.accepts.result ↔ SatisfiesParts j.parts before) c.self.view_is
    (both_ways (c.accepts.ensures s.0 s.1)
    (accepts-parts parts i.memories.each.items right.each s.0 is before s.2))
