use Rattle.std.proofs.Common.{ℕ, ◌+◌, sym, subst, Vec, Global}
use Rattle.ux_subsets.specs.declared.departures.Step.{Step}
use Rattle.ux_subsets.proofs.RunsLemmas.{AreMet, met_first, met_same, met_more, met_all}
use Rattle.ux_subsets.proofs.expanding.others_of.Goals.{then-state-latest+then-state-last+in_ok-push, else-state-latest, else-state-latest-via-then-state-latest+else-state-last, else-state-latest-via-else-state-latest}
use Rattle.ux_subsets.proofs.expanding.others_of.Goals as goal

pub loop-step-init : goal.loop-step-init
loop-step-init c = λ up. met_first c.args.run.now c.args.last c.args.first c.new-others.result.items c.new-others.ensures.items

pub loop-step-preserved : goal.loop-step-preserved
loop-step-preserved c = λ up differs there least.
    let run = c.args.run.now in
    let last = c.args.last in
    let first = c.args.first in
    let i = c.loop-step.step-index in
    let inside = c.loop-step-test.true in
    let d : Step = record { reading = 0; to = 0 } in
    let m = c.loop-step.invariant up differs there least in
    elim c.if-state-latest.branch [
      | then-state-latest+then-state-last+in_ok-push w ↦
          subst (λ (others : Vec ℕ Global). AreMet run last first others.items c.if-state-latest.latest (i + 1)) (sym w.others-is)
          (subst (λ (latest : ℕ). AreMet run last first w.push.new.self.items latest (i + 1)) (sym w.latest-is)
          (met_more run last first c.loop-step.others.items c.loop-step.latest i d inside up m w.push.new.self.items
          w.in_ok-push.ensures.items w.if-state-latest.true w.if-state-last.true))
      | else-state-latest w ↦
          subst (λ (others : Vec ℕ Global). AreMet run last first others.items c.if-state-latest.latest (i + 1)) (sym w.others-is)
          (subst (λ (latest : ℕ). AreMet run last first c.loop-step.others.items latest (i + 1)) (sym w.latest-is)
          (met_same run last first c.loop-step.others.items c.loop-step.latest i d inside up m (λ new other. elim w.else-state-latest.branch [
            | else-state-latest-via-then-state-latest+else-state-last w' ↦ other w'.if-state-last.false
            | else-state-latest-via-else-state-latest w' ↦ new w'.if-state-latest.false
          ])))
    ]

pub returns : goal.returns
returns c = λ up differs there least.
    met_all c.args.run.now c.args.last c.args.first c.loop-step.others.items c.loop-step.latest c.loop-step.step-index c.loop-step-test.false
    (c.loop-step.invariant up differs there least)
