use Rattle.std.proofs.Common.{◌≡◌, ◌∙◌, ℕ, List, [], subst, sym}
use Rattle.std.proofs.lemmas.Result.{err_from_is_err_and}
use Rattle.ux_dela.specs.declared.entry.Entry.{Entry}
use Rattle.ux_walk.specs.Noting.{Includes}
use Rattle.ux_morpho.specs.Analyses.{IsLineOf, SaysOne}
use Rattle.ux_morpho.specs.Putting.{AreLinesOf}
use Rattle.ux_morpho.proofs.LineLemmas.{bad_among, lines_all, lines_more, lines_none}
use Rattle.ux_morpho.proofs.lines.lines_of.Goals as goal

pub loop-output-init : goal.loop-output-init
loop-output-init c =
    subst (λ (l : List (List ℕ)). AreLinesOf c.args.token.now [] l) (sym c.new-lines.ensures.items)
    (lines_none c.args.token.now)

pub add_line-requires : goal.add_line-requires
add_line-requires c = record { front = c.as_str.ensures.value ∙ c.in_ok-front.ensures }

pub loop-output-preserved : goal.loop-output-preserved
loop-output-preserved c =
    let output = c.output-item.result in
    lines_more c.args.token.now c.args.outputs.now c.loop-output.output-index output
    c.loop-output.lines.items c.add_line.new.lines.items c.loop-output-test.true c.output-item.is
    c.loop-output.invariant
    (subst (λ (o : List ℕ). Includes (IsLineOf c.args.token.now o) c.loop-output.lines.items
    c.add_line.new.lines.items) c.as_str-in-loop-output.ensures c.in_ok-add_line.ensures.lines)
    (subst (λ (o : List ℕ). (entry : Entry) × SaysOne c.args.token.now o entry)
    c.as_str-in-loop-output.ensures c.in_ok-add_line.ensures.says)

pub returns-clause-lines : goal.returns-clause-lines
returns-clause-lines c =
    lines_all c.args.token.now c.args.outputs.now c.loop-output.output-index
    c.loop-output.lines.items c.loop-output-test.false c.loop-output.invariant

pub returns-in_err-add_line-clause-err : goal.returns-in_err-add_line-clause-err
returns-in_err-add_line-clause-err c =
    let r = c.from_residual-in_err-add_line in
    let p = err_from_is_err_and r.result r.ensures.1 in
    rw (p.1, p.2) (bad_among c.args.token.now c.args.outputs.now c.loop-output.output-index
    c.output-item.result c.as_str-in-loop-output.result.now c.in_err-add_line.field-0.0
    c.loop-output-test.true c.output-item.is c.as_str-in-loop-output.ensures
    c.in_err-add_line.ensures.err)
