use Rattle.std.proofs.Common.{refl}
use Rattle.ux_dela.proofs.LineLemmas.{empty_code}
use Rattle.ux_dela.proofs.delaf.code_error.Goals as goal

pub returns : goal.returns
returns c =
    let stops = c.requires.stops in (
      refl,
      empty_code c.args.line.now c.args.cut.now stops.0 c.args.rest.now c.requires.cut stops.1
          stops.2,
    )
