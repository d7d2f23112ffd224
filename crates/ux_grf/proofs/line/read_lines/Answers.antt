use Rattle.std.proofs.Common.{rules, ◌∙◌, ap, List, [], ◌∷◌, ◌++◌, arith}
use Rattle.std.proofs.lemmas.Grind.{common_steps}
use Rattle.ux_grf.specs.declared.item.Item.{Item}
use Rattle.std.proofs.lemmas.Result.{err_from_is_err_and}
use Rattle.ux_grf.proofs.LinesLemmas.{lines_more, lines_all, bad_more, stops_line}
use Rattle.ux_grf.proofs.line.read_lines.Goals as goal

pub returns-in_err-line-clause-bad : goal.returns-in_err-line-clause-bad
returns-in_err-line-clause-bad c =
    let p = err_from_is_err_and c.from_residual.result
    c.from_residual.ensures.1 in
    rw (p.1, p.2)
    (stops_line c.args.text.now c.loop-lines.rest.now _ c.loop-lines.invariant.bad
    c.in_err-line.ensures.bad)

pub loop-lines-preserved : goal.loop-lines-preserved
loop-lines-preserved c = record {
  text = search rules;
  lines = lines_more c.args.text.now c.loop-lines.rest.now c.loop-lines.lines.items
      c.loop-lines.invariant.lines c.in_ok-line.line.items.items c.in_ok-line.line.after.now
      c.in_ok-line.ensures.line c.in-Some.next.now c.push.new.self.items c.in-Some.ensures.some
      (c.in_ok-push.ensures.items ∙ ap (λ (l : List Item). c.loop-lines.lines.items ++ l ∷ [])
      c.fitted.ensures);
  bad = bad_more c.args.text.now c.loop-lines.rest.now c.in_ok-line.line.items.items
      c.in_ok-line.line.after.now c.in-Some.next.now c.loop-lines.invariant.bad
      c.in_ok-line.ensures.line c.in-Some.ensures.some;
}

pub returns-in-None-clause-lines : goal.returns-in-None-clause-lines
returns-in-None-clause-lines c =
    lines_all c.args.text.now c.loop-lines.rest.now c.loop-lines.lines.items
    c.loop-lines.invariant.lines c.in_ok-line.line.items.items c.in_ok-line.line.after.now
    c.in_ok-line.ensures.line c.last_output-output.result.now c.push.new.self.items c.last_output-output.ensures
    (c.in_ok-push.ensures.items ∙ ap (λ (l : List Item). c.loop-lines.lines.items ++ l ∷ [])
    c.fitted.ensures)

pub loop-lines-init : goal.loop-lines-init
loop-lines-init c = grind (arith, common_steps)

pub read_line-requires-text-text : goal.read_line-requires-text-text
read_line-requires-text-text c κs = grind (arith, common_steps)

pub returns-in_err-line-clause-lines : goal.returns-in_err-line-clause-lines
returns-in_err-line-clause-lines c = grind (arith, common_steps)

pub returns-in_err-push-clause-lines : goal.returns-in_err-push-clause-lines
returns-in_err-push-clause-lines c = grind (arith, common_steps)

pub returns-in_err-push-clause-bad : goal.returns-in_err-push-clause-bad
returns-in_err-push-clause-bad c = grind (arith, common_steps)

pub strip_sign-requires-text-text : goal.strip_sign-requires-text-text
strip_sign-requires-text-text c κs = grind (arith, common_steps)

pub strip_sign-requires-clause-some : goal.strip_sign-requires-clause-some
strip_sign-requires-clause-some c = grind (arith, common_steps)

pub strip_sign-requires-clause-ascii : goal.strip_sign-requires-clause-ascii
strip_sign-requires-clause-ascii c = grind (arith, common_steps)

pub loop-lines-smaller : goal.loop-lines-smaller
loop-lines-smaller c = grind (arith, common_steps)

pub last_output-output-requires-text-text : goal.last_output-output-requires-text-text
last_output-output-requires-text-text c κs = grind (arith, common_steps)

pub last_output-output-requires-clause-ends : goal.last_output-output-requires-clause-ends
last_output-output-requires-clause-ends c = grind (arith, common_steps)

pub last_output-output-requires-clause-last : goal.last_output-output-requires-clause-last
last_output-output-requires-clause-last c = grind (arith, common_steps)
