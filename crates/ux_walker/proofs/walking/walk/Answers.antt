use Rattle.std.proofs.Common.{◌≤◌, ◌∙◌, List, ap, length, subst}
use Rattle.std.proofs.lemmas.List.Elements.{Contains-push}
use Rattle.ux_tokens.specs.Tokens.{Token}
use Rattle.ux_walk.specs.Settings.{Setting}
use Rattle.ux_walker.specs.declared.agenda.Visit.{Visit}
use Rattle.ux_walker.specs.Walking.{IsUnderWay}
use Rattle.ux_walker.proofs.UnderWay.{least_ready, left_falls}
use Rattle.ux_walker.proofs.walking.walk.Goals as goal

pub go_on-requires-clause-least : goal.go_on-requires-clause-least
go_on-requires-clause-least c =
    least_ready c.loop-visit.automaton c.args.start c.loop-visit.agenda c.take_least.new.self
    c.in-Some.visit c.loop-visit.ends.items c.in-Some.ensures.taken c.in-Some.ensures.least
    c.loop-visit.invariant.way

pub loop-visit-smaller : goal.loop-visit-smaller
loop-visit-smaller c =
    let tokens = ap (λ (s : Setting). s.tokens) c.loop-visit.invariant.same ∙ c.requires.text in
    let there = subst (λ (l : List Visit). IsUnderWay c.loop-visit.automaton c.args.start l
    c.loop-visit.ends.items) c.in-Some.ensures.taken c.loop-visit.invariant.way in
    left_falls c.args.text.now c.loop-visit.agenda c.go_on.new.agenda c.take_least.new.self
    c.in-Some.visit c.in-Some.ensures.taken
    (subst (λ (l : List Token). c.in-Some.visit.at ≤ length l) tokens
    (there.ready c.in-Some.visit (Contains-push c.take_least.new.self c.in-Some.visit)).within)
    (λ other inside. (c.in_ok-go_on.ensures.further other inside).after)
