use Rattle.ux_morpho.proofs.LineLemmas.{lines_same}
use Rattle.ux_morpho.proofs.lines.entry_lines.Goals as goal

pub returns-clause-lines : goal.returns-clause-lines
returns-clause-lines c =
    lines_same c.args.token.now c.args.outputs.now c.in_ok-lines.lines.items
    c.sort_once.new.texts.items c.sort_once.ensures.same c.in_ok-lines.ensures.lines
