use Rattle.std.proofs.Common.{◌≡◌, ◌⊎◌, ◌↔◌, ◌+◌, ◌≤◌, ◌∙◌, ℕ, List, ap, arith, inr, length, sym, subst}
use Rattle.std.proofs.lemmas.List.Elements.{Contains-push}
use Rattle.ux_tokens.specs.Tokens.{Token}
use Rattle.ux_outputs.specs.Rendering.{skip}
use Rattle.ux_walk.specs.Settings.{Setting}
use Rattle.ux_walk.proofs.Onward.{skip_forward}
use Rattle.ux_walker.specs.Walking.{FrontLeads, LandingsLead, VisitsLead}
use Rattle.ux_walker.proofs.UnderWay.{gone_on}
use Rattle.ux_walker.proofs.WalkLemmas.{ready_kept}
use Rattle.ux_walker.proofs.walking.go_on.Goals as goal

pub step-requires-clause-front : goal.step-requires-clause-front
step-requires-clause-front c =
    (c.requires.under_way.ready c.args.visit (Contains-push c.args.agenda.now c.args.visit)).front

pub step-requires-clause-inside : goal.step-requires-clause-inside
step-requires-clause-inside c =
    (c.requires.under_way.ready c.args.visit (Contains-push c.args.agenda.now c.args.visit)).within

pub put_step-requires-clause-inside : goal.put_step-requires-clause-inside
put_step-requires-clause-inside c =
    subst (λ (l : List Token). c.args.visit.at ≤ length l) c.requires.text
    (c.requires.under_way.ready c.args.visit (Contains-push c.args.agenda.now c.args.visit)).within

pub put_step-requires-clause-landings : goal.put_step-requires-clause-landings
put_step-requires-clause-landings c landing inside =
    let is = c.in_ok-step.ensures.step.landings landing inside in
    let forward = skip_forward c.step.new.self.setting.tokens c.args.visit.at in
    let later = is.later in
    (record { is = is.front; within = inr is.within }, omega (arith, later, forward))

pub put_step-requires-clause-ready : goal.put_step-requires-clause-ready
put_step-requires-clause-ready c visit inside =
    ready_kept c.args.automaton.now c.step.new.self c.in_ok-step.ensures.keeps (c.args.visit.at + 1)
    visit (c.requires.least visit inside)

pub returns-clause-under_way : goal.returns-clause-under_way
returns-clause-under_way c =
    let k0 = c.args.automaton.now in
    let k1 = c.step.new.self in
    let k2 = c.put_step.new.automaton in
    let at = c.args.visit.at in
    let step = c.in_ok-step.step in
    let rest = c.args.agenda.now in
    let new = c.put_step.new.agenda in
    let tokens : k1.setting.tokens ≡ c.args.text.now =
    ap (λ (s : Setting). s.tokens) c.in_ok-step.ensures.keeps.setting ∙ c.requires.text in
    let put = subst (λ (l : List Token). (e : ℕ) → VisitsLead k2 new e ↔ (VisitsLead k1 rest e
    ⊎ (FrontLeads k1 step.over_space (at + 1) e
    ⊎ (FrontLeads k1 step.over_token (skip l at + 1) e
    ⊎ LandingsLead k1 step.landings.items e)))) (sym tokens) c.in_ok-put_step.ensures.leads in
    gone_on k0 k1 k2 c.args.start rest new c.args.visit c.args.ends.now.items
    c.note_end.new.ends.items step c.requires.under_way c.in_ok-step.ensures.keeps
    c.in_ok-step.ensures.step c.in_ok-note_end.ensures c.in_ok-put_step.ensures.keeps
    c.in_ok-put_step.ensures.ready put
