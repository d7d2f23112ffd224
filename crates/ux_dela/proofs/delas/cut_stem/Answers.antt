use Rattle.std.proofs.Common.{[], refl}
use Rattle.ux_dela.specs.Signs.{BACKSLASH}
use Rattle.ux_dela.proofs.CutLemmas.{no_comma, last_place}
use Rattle.ux_dela.proofs.StemLemmas.{open_stem}
use Rattle.ux_dela.proofs.delas.cut_stem.Goals as goal

pub returns-in-Last-clause-err : goal.returns-in-Last-clause-err
returns-in-Last-clause-err c =
    let last = c.in-Last.ensures in (refl, no_comma c.args.line.now _ last.0 last.1, refl)

pub returns-in-Open-clause-err : goal.returns-in-Open-clause-err
returns-in-Open-clause-err c =
    let ends = c.in-Open.ensures in
    let line = c.args.line.now in
    (refl, open_stem line ends.0 ends.1 ends.2, last_place line ends.0 [] BACKSLASH ends.1)
