use Rattle.std.proofs.Common.{subst, sym}
use Rattle.ux_digraph.specs.Paths.{here}
use Rattle.ux_inflect.specs.Places.{Place}
use Rattle.ux_inflect.specs.Searches.{AreMet}
use Rattle.ux_inflect.proofs.inflecting.explored_by.Goals as goal

pub explore-requires-clause-met : goal.explore-requires-clause-met
explore-requires-clause-met c =
    subst (λ (p : Place). AreMet c.args.net.now p.frames) (sym c.in_ok-start.ensures)
    ((here, here), tt)
