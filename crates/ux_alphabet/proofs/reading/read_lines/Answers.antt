use Rattle.std.proofs.Common.{arith, length, ap, sym, inr, [], ◌∷◌, Option, subst, append-nil}
use Rattle.std.specs.Option.{option_to_list}
use Rattle.std.proofs.lemmas.Result.{err_from_is_err_and}
use Rattle.ux_base.specs.Lines.{lines_of}
use Rattle.ux_base.proofs.LinesLemmas.{lines_of-count}
use Rattle.ux_base.proofs.EachLineLemmas.{read_more, read_stops, read_whole}
use Rattle.ux_alphabet.specs.File.{LineSays, RefusesLine}
use Rattle.ux_alphabet.specs.declared.line.Line.{Line}
use Rattle.ux_alphabet.proofs.reading.read_lines.Goals as goal

-- this line is one of the text's, which are no more than its bytes
pub overflow_add-number : goal.overflow_add-number
overflow_add-number c =
    let left = ap length c.in-Some.ensures.steps in
    omega (arith, left, c.loop-line.invariant.read.counted, lines_of-count c.args.text.now)

-- a line that says something
pub loop-line-preserved-in-Continue-branch-3 : goal.loop-line-preserved-in-Continue-branch-3
loop-line-preserved-in-Continue-branch-3 c =
    let line = c.in-Some-2.line in
    let says = subst (λ (o : Option Line). LineSays c.in-Some.line.now (option_to_list o))
    c.in-Some-2.is c.in_ok-line.ensures.ok in
    record {
      next = tt;
      finite = tt;
      read = read_more LineSays RefusesLine (lines_of c.args.text.now) c.loop-line.line-iterator
          c.next.new.self c.loop-line.number c.in-Some.line.now c.loop-line.lines.items
          c.push.new.self.items (line ∷ []) c.loop-line.invariant.read c.in-Some.ensures.steps says
          c.in_ok-push.ensures.items;
    }

-- and one that says nothing
pub loop-line-preserved : goal.loop-line-preserved
loop-line-preserved c =
    let says = subst (λ (o : Option Line). LineSays c.in-Some.line.now (option_to_list o))
    c.in_default.is c.in_ok-line.ensures.ok in
    record {
      next = tt;
      finite = tt;
      read = read_more LineSays RefusesLine (lines_of c.args.text.now) c.loop-line.line-iterator
          c.next.new.self c.loop-line.number c.in-Some.line.now c.loop-line.lines.items
          c.loop-line.lines.items [] c.loop-line.invariant.read c.in-Some.ensures.steps says
          (sym (append-nil c.loop-line.lines.items));
    }

pub returns-in_err-line-clause-err : goal.returns-in_err-line-clause-err
returns-in_err-line-clause-err c =
    let p = err_from_is_err_and c.from_residual.result c.from_residual.ensures.1 in
    let stops = read_stops LineSays RefusesLine (lines_of c.args.text.now) c.loop-line.line-iterator
    c.next.new.self c.loop-line.number c.in-Some.line.now c.loop-line.lines.items
    c.in_err-line.field-0.0 c.loop-line.invariant.read c.in-Some.ensures.steps in
    rw (p.1, p.2) (inr (stops c.in_err-line.ensures.err))

pub returns-clause-ok : goal.returns-clause-ok
returns-clause-ok c =
    let none = c.in-None.ensures in
    read_whole LineSays RefusesLine (lines_of c.args.text.now) c.loop-line.line-iterator
    c.loop-line.number c.loop-line.lines.items c.loop-line.invariant.read none.steps.0
