use Rattle.std.proofs.lemmas.Result.{err_from_is_err_and}
use Rattle.ux_rules.proofs.BoxLemmas.{box_next, stops_first}
use Rattle.ux_rules.proofs.draft.push_box.Goals as goal

pub returns-in_err-push_lines-clause-err : goal.returns-in_err-push_lines-clause-err
returns-in_err-push_lines-clause-err c =
    let p = err_from_is_err_and c.from_residual.result c.from_residual.ensures.1 in
    rw (p.1, p.2) (stops_first c.args.graph.now c.args.node c.args.draft.now
    c.in_err-push_lines.field-0.0 c.requires.before c.in_err-push_lines.ensures.err)

pub returns-clause-done : goal.returns-clause-done
returns-clause-done c =
    box_next c.args.graph.now c.args.node c.args.draft.now c.push_lines.new.draft
    c.push_targets.new.draft c.requires.before c.in_ok-push_lines.ensures.done
    c.in_ok-push_targets.ensures.done
