use Rattle.std.proofs.Common.{arith, ◌≡◌, length, Some, refl, subst}
use Rattle.std.specs.Prelude.{slice_get}
use Rattle.std.proofs.lemmas.Option.{slice_get_read}
use Rattle.std.proofs.lemmas.Result.{err_from_is_err_and}
use Rattle.ux_plan.specs.Plans.{each}
use Rattle.ux_plan.proofs.Growing.{each_stops}
use Rattle.ux_plan.proofs.PlanLaws.{later_both}
use Rattle.ux_plan.proofs.PlanSteps.{halts_memory}
use Rattle.ux_cmd_elag.specs.Reading.{named_format}
use Rattle.ux_cmd_elag.proofs.ReadingLemmas.{AreReadTo, read_all, read_more}
use Rattle.ux_cmd_elag.proofs.files.read_rules.Goals as goal

-- this rule stops the reading
pub returns-in_err-rule-clause-err : goal.returns-in_err-rule-clause-err
returns-in_err-rule-clause-err g c =
    let p = err_from_is_err_and c.from_residual.result c.from_residual.ensures.1 in
    let seen = g.F.Folder.seen in
    let l = c.loop-name in
    let names = c.args.names.now in
    let read = l.invariant.read in
    let stops = rw c.as_str.ensures at c.in_err-rule.ensures.err in
    let at : slice_get names (length read.graphs) ≡ Some c.name-item.result =
    rw read.count (slice_get_read names (length names) l.name-index c.name-item.result refl
    c.loop-name-test.true c.name-item.is) in
    rw (p.1, p.2) (each_stops named_format names (seen c.args.folder.now) (seen l.folder)
    l.invariant.later read.graphs read.rest c.name-item.result at
    (seen c.read_rule.new.folder) c.in_err-rule.field-0.0 stops)

-- memory ran out for it
pub returns-in_err-push-clause-err : goal.returns-in_err-push-clause-err
returns-in_err-push-clause-err g c =
    let r = c.from_residual-in_err-push in
    let p = err_from_is_err_and r.result r.ensures.1 in
    let seen = g.F.Folder.seen in
    rw (p.1, p.2) (halts_memory (each named_format c.args.names.now) (seen c.args.folder.now)
    (seen c.read_rule.new.folder))

-- this rule was read
pub loop-name-preserved : goal.loop-name-preserved
loop-name-preserved g c =
    let seen = g.F.Folder.seen in
    let l = c.loop-name in
    let names = c.args.names.now in
    let read = c.in_ok-rule.ensures in
    let one = rw c.as_str.ensures at read.ok in
    let at : slice_get names l.name-index ≡ Some c.name-item.result =
    slice_get_read names (length names) l.name-index c.name-item.result refl
    c.loop-name-test.true c.name-item.is in
    record {
      later = later_both (seen c.args.folder.now) (seen l.folder)
          (seen c.read_rule.new.folder) l.invariant.later read.later;
      read = read_more names (seen c.args.folder.now).files (seen c.args.folder.now) (seen l.folder)
          refl l.invariant.later l.name-index l.rules.items c.push.new.self.items
          c.name-item.result c.in_ok-rule.rule l.invariant.read at one c.in_ok-push.ensures.items;
    }

-- all were read
pub returns-clause-ok : goal.returns-clause-ok
returns-clause-ok g c =
    let l = c.loop-name in
    let names = c.args.names.now in
    let files = (g.F.Folder.seen c.args.folder.now).files in
    let all : l.name-index ≡ length names =
    omega (arith, c.loop-name-test.false, l.auto.name-index-end) in
    read_all names files l.rules.items
    (subst (λ n. AreReadTo names files n l.rules.items) all l.invariant.read)
