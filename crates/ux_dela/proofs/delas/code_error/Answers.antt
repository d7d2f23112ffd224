use Rattle.std.proofs.Common.{inr, refl}
use Rattle.ux_dela.proofs.StemLemmas.{empty_stem_code}
use Rattle.ux_dela.proofs.delas.code_error.Goals as goal

pub returns-in-Empty : goal.returns-in-Empty
returns-in-Empty c =
    let stops = rw c.in-Empty.is at c.requires.stops in
    inr (
      refl,
      empty_stem_code c.args.line.now c.args.cut.now stops.0 c.in-Empty.rest.now c.requires.cut
          stops.1 stops.2,
    )
