use Rattle.ux_dela.proofs.BareLemmas.{bare_says}
use Rattle.ux_dela.proofs.bare.bare_line.Goals as goal

pub returns : goal.returns
returns c =
    bare_says c.args.line.now c.written_lemma.result.now c.in_ok-cut.cut c.in_ok-cut.ensures
    c.written_lemma.ensures
