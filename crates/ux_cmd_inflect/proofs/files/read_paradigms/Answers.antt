use Rattle.std.proofs.Common.{arith, ◌≤◌, length}
use Rattle.std.proofs.lemmas.Result.{err_from_is_err_and}
use Rattle.ux_tokens.specs.Numbers.{texts_in}
use Rattle.ux_tokens.proofs.NumbersLemmas.{length-texts_in}
use Rattle.ux_plan.specs.Plans.{all}
use Rattle.ux_plan.proofs.PlanLaws.{later_both}
use Rattle.ux_plan.proofs.PlanSteps.{halts_memory}
use Rattle.ux_cmd_inflect.specs.Reading.{class_plan}
use Rattle.ux_cmd_inflect.proofs.NetLemmas.{class_stops, nets_count, read_all, read_more}
use Rattle.ux_cmd_inflect.proofs.files.read_paradigms.Goals as goal

-- the graphs of this class stop the reading
pub returns-in_err-read_paradigm-clause-err : goal.returns-in_err-read_paradigm-clause-err
returns-in_err-read_paradigm-clause-err g c =
    let p = err_from_is_err_and c.from_residual.result c.from_residual.ensures.1 in
    let seen = g.F.Folder.seen in
    let l = c.loop-number in
    rw (p.1, p.2) (class_stops c.args.word.now (texts_in c.args.classes.now)
    (seen c.args.folder.now) (seen l.folder) (seen c.read_paradigm.new.folder) l.number
    c.class_at-class.result.now l.paradigms.items c.in_err-read_paradigm.field-0.0
    c.class_at-class.ensures l.invariant.later l.invariant.read c.in_err-read_paradigm.ensures.err)

-- memory ran out for their net
pub returns-in_err-push-clause-err : goal.returns-in_err-push-clause-err
returns-in_err-push-clause-err g c =
    let r = c.from_residual-in_err-push in
    let p = err_from_is_err_and r.result r.ensures.1 in
    let seen = g.F.Folder.seen in
    rw (p.1, p.2) (halts_memory (all (class_plan c.args.word.now) (texts_in c.args.classes.now))
    (seen c.args.folder.now) (seen c.read_paradigm.new.folder))

-- the graphs of this class were read
pub loop-number-preserved : goal.loop-number-preserved
loop-number-preserved g c =
    let seen = g.F.Folder.seen in
    let l = c.loop-number in
    let read = c.in_ok-read_paradigm.ensures in
    record {
      later = later_both (seen c.args.folder.now) (seen l.folder) (seen c.read_paradigm.new.folder)
          l.invariant.later read.later;
      read = read_more c.args.word.now (texts_in c.args.classes.now)
          (seen c.args.folder.now).files l.number c.class_at-class.result.now l.paradigms.items
          c.push.new.self.items c.in_ok-read_paradigm.field-0 c.class_at-class.ensures l.invariant.read
          (rw l.invariant.later.kept at read.ok) c.in_ok-push.ensures.items;
    }

-- all were read
pub returns-clause-ok : goal.returns-clause-ok
returns-clause-ok g c =
    let l = c.loop-number in
    let names = texts_in c.args.classes.now in
    let past : length names ≤ l.number = omega (
      arith,
      c.loop-number-test.false,
      c.len-number-end.ensures.len,
      length-texts_in c.args.classes.now,
    ) in
    read_all c.args.word.now names (g.F.Folder.seen c.args.folder.now).files l.number
    l.paradigms.items past l.invariant.read

pub returns-clause-count : goal.returns-clause-count
returns-clause-count g c =
    let l = c.loop-number in
    let names = texts_in c.args.classes.now in
    let past : length names ≤ l.number = omega (
      arith,
      c.loop-number-test.false,
      c.len-number-end.ensures.len,
      length-texts_in c.args.classes.now,
    ) in
    nets_count c.args.word.now names (g.F.Folder.seen c.args.folder.now).files l.paradigms.items l.number
    past l.invariant.read
