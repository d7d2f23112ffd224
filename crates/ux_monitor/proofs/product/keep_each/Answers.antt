use Rattle.std.proofs.Common.{ℕ, List, ◌≡◌, ◌∙◌, sym, ap, subst}
use Rattle.ux_subsets.specs.declared.automaton.Automaton.{Automaton}
use Rattle.ux_subsets.specs.Paths.{Spells, IsLeft}
use Rattle.ux_monitor.specs.Parts.{AreRemembered, Joined, RulePart, SatisfiesParts, seen_in}
use Rattle.ux_monitor.proofs.KeepingLemmas.{left_same, some_left, none_left}
use Rattle.ux_monitor.proofs.ProductLemmas.{side_of, side_same}
use Rattle.ux_monitor.proofs.product.keep_each.Goals as goal

pub returns-clause-left : goal.returns-clause-left
returns-clause-left c =
    let last = c.args.last in
    let links = c.args.links.now in
    let old = SatisfiesParts c.args.parts.now in
    let new = SatisfiesParts c.apply.new.machine.parts in
    let meant = c.in_ok-answer.ensures.grows.meant in
    some_left c.in_ok-answer.answer
    (λ (left : Automaton). IsLeft new last links left.last left.links.items)
    (λ (left : Automaton). IsLeft old last links left.last left.links.items)
    (λ left l. left_same new old (λ w. ((meant w).1, (meant w).0)) last links left.last
    left.links.items l) c.in_ok-answer.ensures.left

pub returns-clause-nothing : goal.returns-clause-nothing
returns-clause-nothing c =
    let last = c.args.last in
    let links = c.args.links.now in
    let old = SatisfiesParts c.args.parts.now in
    let new = SatisfiesParts c.apply.new.machine.parts in
    let meant = c.in_ok-answer.ensures.grows.meant in
    none_left c.in_ok-answer.answer
    ((readings : List ℕ) → Spells links 0 last readings → new readings → ⊥)
    ((readings : List ℕ) → Spells links 0 last readings → old readings → ⊥)
    (λ never readings spelled satisfied. never readings spelled ((meant readings).0 satisfied))
    c.in_ok-answer.ensures.nothing

-- the pass gave back monitors of the same rules and kinds
pub returns-clause-right : goal.returns-clause-right
returns-clause-right c =
    let i = c.beside.inside in
    let old = side_of c.args.parts.now c.args.of.now (seen_in c.args.memories.each.items)
    c.args.memories.states.keys in
    let same = side_same old c.apply.new.machine c.in_ok-answer.ensures.grows in
    let parts : i.parts.now ≡ c.args.parts.now =
    ap (λ (j : Joined). j.parts) c.beside.view_is ∙ sym same.0 in
    let of : i.of.now ≡ c.args.of.now = ap (λ (j : Joined). j.of) c.beside.view_is ∙ sym same.1 in
    subst (λ (ps : List RulePart). AreRemembered ps c.args.of.now i.memories) parts
    (subst (λ (o : List ℕ). AreRemembered i.parts.now o i.memories) of c.beside.invariant.1)
