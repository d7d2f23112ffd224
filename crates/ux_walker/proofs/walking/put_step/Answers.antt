use Rattle.std.proofs.Common.{◌≡◌, ◌⊎◌, ◌↔◌, ◌+◌, List, ℕ, arith, subst}
use Rattle.std.specs.Prelude.{Contains}
use Rattle.std.proofs.lemmas.Result.{on_ok_weaker}
use Rattle.ux_outputs.specs.Rendering.{skip}
use Rattle.ux_automaton.specs.Fronts.{IsFront}
use Rattle.ux_walk.proofs.Onward.{skip_forward}
use Rattle.ux_automaton.specs.declared.step.Landing.{Landing}
use Rattle.ux_walker.specs.Walking.{FrontLeads, LandingsLead, VisitsLead}
use Rattle.ux_walker.proofs.WalkLemmas.{keeps_both, may_kept, ready_from, skip_near, step_put}
use Rattle.ux_walker.proofs.walking.put_step.Goals as goal

pub overflow_add-behind : goal.overflow_add-behind
overflow_add-behind c =
    let near = skip_near c.args.text.now c.args.at in
    omega (arith, near, c.skip-behind.ensures)

pub put-requires-clause-ready : goal.put-requires-clause-ready
put-requires-clause-ready c =
    ready_from c.args.automaton.now 0 (c.args.at + 1) c.args.agenda.now (omega arith) c.requires.ready

pub put-requires-2-clause-ready : goal.put-requires-2-clause-ready
put-requires-2-clause-ready c =
    ready_from c.put.new.automaton 0 (c.args.at + 1) c.put.new.agenda (omega arith)
    (c.in_ok-put.ensures.ready (c.args.at + 1) (omega arith) c.requires.ready)

pub put_landings-requires-clause-landings : goal.put_landings-requires-clause-landings
put_landings-requires-clause-landings c landing inside =
    let keeps = keeps_both c.args.automaton.now c.put.new.automaton c.put-2.new.automaton
    c.in_ok-put.ensures.keeps c.in_ok-put-2.ensures.keeps in
    let may = c.requires.landings landing
    (subst (λ (l : List Landing). Contains l landing) c.as_slice.ensures.value inside) in
    (may_kept c.args.automaton.now c.put-2.new.automaton keeps landing.front landing.at may.0, may.1)

pub put_landings-requires-clause-ready : goal.put_landings-requires-clause-ready
put_landings-requires-clause-ready c =
    let forward = skip_forward c.args.text.now c.args.at in
    c.in_ok-put-2.ensures.ready (c.args.at + 1) (omega (arith, forward, c.skip-behind.ensures))
    (c.in_ok-put.ensures.ready (c.args.at + 1) (omega arith) c.requires.ready)

pub returns-clause-keeps : goal.returns-clause-keeps
returns-clause-keeps c =
    let keeps = keeps_both c.args.automaton.now c.put.new.automaton c.put-2.new.automaton
    c.in_ok-put.ensures.keeps c.in_ok-put-2.ensures.keeps in
    on_ok_weaker c.put_landings.result (keeps_both c.args.automaton.now c.put-2.new.automaton
    c.put_landings.new.automaton keeps) c.put_landings.ensures.keeps

pub returns-clause-leads : goal.returns-clause-leads
returns-clause-leads c =
    let tokens = c.args.text.now in
    let at = c.args.at in
    let step = c.args.step.now in
    let old = c.args.automaton.now in
    let landings = c.as_slice.result.now in
    let is : landings ≡ step.landings.items = c.as_slice.ensures.value in
    let second = subst (λ (n : ℕ). (e : ℕ) → VisitsLead c.put-2.new.automaton c.put-2.new.agenda e
    ↔ (VisitsLead c.put.new.automaton c.put.new.agenda e
    ⊎ FrontLeads c.put.new.automaton step.over_token (n + 1) e)) c.skip-behind.ensures
    c.in_ok-put-2.ensures.leads in
    let are : (landing : Landing) → Contains landings landing → IsFront old landing.front =
    λ landing inside. (c.requires.landings landing
    (subst (λ (l : List Landing). Contains l landing) is inside)).0.is in
    on_ok_weaker c.put_landings.result (λ third e.
    subst (λ (l : List Landing). VisitsLead c.put_landings.new.automaton c.put_landings.new.agenda e
    ↔ (VisitsLead old c.args.agenda.now e ⊎ (FrontLeads old step.over_space (at + 1) e
    ⊎ (FrontLeads old step.over_token (skip tokens at + 1) e ⊎ LandingsLead old l e)))) is
    (step_put old c.put.new.automaton c.put-2.new.automaton c.put_landings.new.automaton
    c.args.agenda.now c.put.new.agenda c.put-2.new.agenda c.put_landings.new.agenda step.over_space
    step.over_token (at + 1) (skip tokens at + 1) landings c.in_ok-put.ensures.keeps
    c.in_ok-put-2.ensures.keeps c.requires.token.is are e (c.in_ok-put.ensures.leads e) (second e)
    (third e))) c.put_landings.ensures.leads
