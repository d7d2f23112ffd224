use Rattle.std.proofs.Common.{ℕ, List, ◌↔◌, ◌<◌, ◌∙◌, arith, sym, subst, ap, length}
use Rattle.std.specs.Prelude.{map}
use Rattle.std.proofs.lemmas.Result.{IfOk-weaker}
use Rattle.ux_monitor.specs.Monitors.{tests_of}
use Rattle.ux_monitor.specs.Rules.{SatisfiesBy}
use Rattle.ux_rules.specs.declared.step.Step.{Step}
use Rattle.ux_rules.specs.Rules.{RuleSteps, SatisfiesRule}
use Rattle.ux_subsets.specs.declared.automaton.Link.{Link}
use Rattle.ux_elag.specs.Numbers.{IsKept, reading_at}
use Rattle.ux_elag.specs.Ready.{IsMonitorOf, IsTable}
use Rattle.ux_elag.proofs.LeaveLemmas.{empty-left, left-below, left-keeps, monitor-tells}
use Rattle.ux_elag.proofs.NamedPaths.{AreSmall}
use Rattle.ux_elag.proofs.ready.ReadyRule.leave.Goals as goal
use Rattle.ux_elag.proofs.ready.ReadyRule.leave.Goals.{After-drop-source-2}

pub returns-then-sentence-eq0-clause-left : goal.returns-then-sentence-eq0-clause-left
returns-then-sentence-eq0-clause-left c =
    empty-left (SatisfiesRule c.args.self.now) c.args.readings.now c.args.sentence.now
    c.without_states.result c.if-sentence-eq0.true c.without_states.ensures

-- numbers of readings satisfy the rule, as the monitor tells
abbrev is_good : After-drop-source-2 → List ℕ → Type 0
is_good c = SatisfiesBy c.kinds_of.new.monitor.rule
    (tests_of c.kinds_of.new.monitor.kinds c.as_slice.result.now)

-- the monitor tells of the rule
tells : (c : After-drop-source-2) (word : List ℕ) → AreSmall (length c.args.readings.now) word →
    is_good c word
    ↔ SatisfiesRule c.args.self.now (map (reading_at c.args.readings.now) word)
tells c word small =
    let rule = c.args.self.now in
    let readings = c.args.readings.now in
    let steps = ap (λ (r : RuleSteps). r.steps) c.self.view_is in
    let monitor = c.kinds_of.new.monitor in
    monitor-tells rule.steps monitor.rule readings (tests_of monitor.kinds c.as_slice.result.now)
    (subst (IsMonitorOf rule.steps) (sym c.kinds_of.ensures.rule)
    (subst (λ (ss : List Step). IsMonitorOf ss c.self.inside.monitor.rule) steps c.self.invariant))
    (subst (λ (ks : List ℕ). IsTable rule.steps readings (tests_of monitor.kinds ks))
    (sym c.as_slice.ensures.value)
    (subst (λ (ss : List Step). IsTable ss readings (tests_of monitor.kinds
    c.in_ok-kinds.kinds.items))
    (c.steps.ensures ∙ steps) c.in_ok-kinds.ensures.kinds)) word small

-- what the rule keeps of the source
is_kept : (c : After-drop-source-2) → IsKept (is_good c) c.in_ok-source.source.last
    c.in_ok-source.source.links.items c.in_ok-kept.kept
is_kept c = subst (λ (ls : List Link). IsKept (is_good c) c.in_ok-source.source.last ls
    c.in_ok-kept.kept) c.as_slice-2.ensures.value
    (record { left = c.in_ok-kept.ensures.left; nothing = c.in_ok-kept.ensures.nothing })

some : (c : After-drop-source-2) → 0 < c.args.sentence.now.states
some c = let not = c.if-sentence-eq0.false in omega arith

pub returns-clause-below : goal.returns-clause-below
returns-clause-below c =
    IfOk-weaker c.ordered_sentence.result _ _
    (λ new ordered. left-below c.args.sentence.now new c.in_ok-source.source c.in_ok-kept.kept
    c.args.texts.now c.args.readings.now (some c) c.in_ok-source.ensures c.requires.readings
    c.requires.texts c.requires.below
    (SatisfiesRule c.args.self.now) (is_good c) (tells c) (is_kept c) ordered)
    c.ordered_sentence.ensures

pub returns-clause-left : goal.returns-clause-left
returns-clause-left c =
    IfOk-weaker c.ordered_sentence.result _ _
    (λ new ordered. left-keeps c.args.sentence.now new c.in_ok-source.source c.in_ok-kept.kept
    c.args.texts.now c.args.readings.now (some c) c.in_ok-source.ensures c.requires.readings
    c.requires.texts c.requires.below
    (SatisfiesRule c.args.self.now) (is_good c) (tells c) (is_kept c) ordered)
    c.ordered_sentence.ensures
