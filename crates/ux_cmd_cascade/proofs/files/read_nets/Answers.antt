use Rattle.std.proofs.Common.{arith, ◌≡◌, length, subst, take}
use Rattle.std.proofs.Math.Seq.{take-length}
use Rattle.std.specs.List.{AllZip}
use Rattle.std.proofs.lemmas.Result.{err_from_is_err_and}
use Rattle.ux_plan.specs.Plans.{all}
use Rattle.ux_plan.proofs.PlanLaws.{later_both}
use Rattle.ux_plan.proofs.PlanSteps.{halts_memory}
use Rattle.ux_cmd_cascade.specs.Files.{HasStepNet}
use Rattle.ux_cmd_cascade.specs.Reading.{step_plan}
use Rattle.ux_cmd_cascade.proofs.ReadingLemmas.{nets_more, nets_read, step_halts}
use Rattle.ux_cmd_cascade.proofs.files.read_nets.Goals as goal

-- the grammar of this step stops the reading
pub returns-in_err-net-clause-err : goal.returns-in_err-net-clause-err
returns-in_err-net-clause-err g c =
    let p = err_from_is_err_and c.from_residual.result c.from_residual.ensures.1 in
    let seen = g.F.Folder.seen in
    let l = c.loop-step in
    rw (p.1, p.2) (step_halts c.args.alphabet.now c.args.steps.now l.step-index c.step-item.result
    c.loop-step-test.true c.step-item.is l.nets.items (seen c.args.folder.now) (seen l.folder)
    (seen c.read_step.new.folder) c.in_err-net.field-0.0 l.invariant.later l.invariant.read
    c.in_err-net.ensures.err)

-- memory ran out for it
pub returns-in_err-push-clause-err : goal.returns-in_err-push-clause-err
returns-in_err-push-clause-err g c =
    let r = c.from_residual-in_err-push in
    let p = err_from_is_err_and r.result r.ensures.1 in
    let seen = g.F.Folder.seen in
    rw (p.1, p.2) (halts_memory (all (step_plan c.args.alphabet.now) c.args.steps.now)
    (seen c.args.folder.now) (seen c.read_step.new.folder))

-- this grammar was read
pub loop-step-preserved : goal.loop-step-preserved
loop-step-preserved g c =
    let seen = g.F.Folder.seen in
    let l = c.loop-step in
    let read = c.in_ok-net.ensures in
    record {
      later = later_both (seen c.args.folder.now) (seen l.folder) (seen c.read_step.new.folder)
          l.invariant.later read.later;
      read = nets_more c.args.alphabet.now c.args.steps.now l.step-index c.step-item.result
          c.loop-step-test.true c.step-item.is (seen c.args.folder.now).files (seen l.folder).files
          c.in_ok-net.net l.nets.items c.push.new.self.items l.invariant.later.kept l.invariant.read
          read.ok c.in_ok-push.ensures.items;
    }

-- all were read
pub returns-clause-ok : goal.returns-clause-ok
returns-clause-ok g c =
    let l = c.loop-step in
    let steps = c.args.steps.now in
    let letters = c.args.alphabet.now in
    let files = (g.F.Folder.seen c.args.folder.now).files in
    let all : l.step-index ≡ length steps =
    omega (arith, c.loop-step-test.false, l.auto.step-index-end) in
    nets_read letters files steps l.nets.items (rw take-length at (subst
    (λ n. AllZip (HasStepNet letters files) (take n steps) l.nets.items) all l.invariant.read))
