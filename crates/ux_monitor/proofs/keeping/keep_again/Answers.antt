use Rattle.std.proofs.Common.{ℕ, List, ◌≡◌, ◌∙◌, sym, ap, subst}
use Rattle.ux_subsets.specs.declared.automaton.Automaton.{Automaton}
use Rattle.ux_subsets.specs.Paths.{Spells, IsLeft}
use Rattle.ux_monitor.specs.Monitors.{Monitored, tests_of, watched}
use Rattle.ux_monitor.specs.Remembering.{AreRight, kinds_in}
use Rattle.ux_monitor.specs.Naming.{Watching}
use Rattle.ux_monitor.proofs.KeepingLemmas.{SatisfiesOf, left_same, some_left, none_left, over_same, watching}
use Rattle.ux_monitor.proofs.keeping.keep_again.Goals as goal

pub returns-clause-left : goal.returns-clause-left
returns-clause-left c =
    let last = c.args.automaton.last in
    let links = c.args.automaton.links.items in
    let kinds = kinds_in c.args.kinds.now in
    let old = SatisfiesOf (watching (watched c.args.steps.now c.args.ends.now kinds)
    (tests_of kinds c.args.of.now) c.args.memory.states.keys) in
    let new = SatisfiesOf c.apply_again.new.machine in
    let meant = c.in_ok-answer.ensures.grows.meant in
    some_left c.in_ok-answer.answer
    (λ (left : Automaton). IsLeft new last links left.last left.links.items)
    (λ (left : Automaton). IsLeft old last links left.last left.links.items)
    (λ left l. left_same new old (λ w. ((meant w).1, (meant w).0)) last links left.last
    left.links.items l) c.in_ok-answer.ensures.left

pub returns-clause-nothing : goal.returns-clause-nothing
returns-clause-nothing c =
    let last = c.args.automaton.last in
    let links = c.args.automaton.links.items in
    let kinds = kinds_in c.args.kinds.now in
    let old = SatisfiesOf (watching (watched c.args.steps.now c.args.ends.now kinds)
    (tests_of kinds c.args.of.now) c.args.memory.states.keys) in
    let new = SatisfiesOf c.apply_again.new.machine in
    let meant = c.in_ok-answer.ensures.grows.meant in
    none_left c.in_ok-answer.answer
    ((readings : List ℕ) → Spells links 0 last readings → new readings → ⊥)
    ((readings : List ℕ) → Spells links 0 last readings → old readings → ⊥)
    (λ never readings spelled satisfied. never readings spelled ((meant readings).0 satisfied))
    c.in_ok-answer.ensures.nothing

-- the pass gave back a watch over the same rule and kinds
pub returns-clause-right : goal.returns-clause-right
returns-clause-right c =
    let i = c.watch.inside in
    let kinds = kinds_in c.args.kinds.now in
    let over = watched c.args.steps.now c.args.ends.now kinds in
    let old = watching over (tests_of kinds c.args.of.now) c.args.memory.states.keys in
    let same : watched i.steps.now i.ends.now (kinds_in i.kinds.now) ≡ over =
    ap (λ (w : Watching). w.over) c.watch.view_is
    ∙ sym (over_same old c.apply_again.new.machine c.in_ok-answer.ensures.grows) in
    subst (λ (m : Monitored). AreRight m.rule.steps m.rule.ends m.kinds i.memory.states.keys
    i.memory.first i.memory.next.entries) same c.watch.invariant
