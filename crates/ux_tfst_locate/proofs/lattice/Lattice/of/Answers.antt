use Rattle.std.proofs.Common.{List, subst, sym}
use Rattle.std.specs.Prelude.{All}
use Rattle.ux_tfst_locate.specs.declared.lattice.Arc.{Arc}
use Rattle.ux_tfst_locate.specs.declared.lattice.Place.{Place}
use Rattle.ux_tfst_locate.specs.Lattices.{AreArcs, AreStarts, HasEnds}
use Rattle.ux_tfst_locate.proofs.ArcsLemmas.{have_arcs}
use Rattle.ux_tfst_locate.proofs.LatticeLemmas.{ends_there, owned, rising_from_sorted}
use Rattle.ux_tfst_locate.proofs.lattice.Lattice.of.Goals as goal

pub arcs_of-requires-clause-there : goal.arcs_of-requires-clause-there
arcs_of-requires-clause-there c =
    let places = c.in_ok-places.places.items in
    subst (λ (ps : List Place). All (HasEnds ps) c.args.links.now) (sym c.as_slice.ensures.value)
    (ends_there c.args.links.now places c.in_ok-places.ensures.same)

pub returns : goal.returns
returns c =
    let places = c.in_ok-places.places.items in
    let arcs = c.in_ok-arcs.arcs.items in
    let starts = c.in_ok-starts.starts.items in
    record {
      rising = rising_from_sorted places c.in_ok-places.ensures.rise;
      owned = owned c.args.links.now places c.in_ok-places.ensures.same;
      arcs = have_arcs arcs starts
          (subst (λ (l : List Arc). AreStarts l starts) c.as_slice-2.ensures.value
          c.in_ok-starts.ensures) places c.args.links.now
          (subst (λ (ps : List Place). AreArcs ps c.args.links.now arcs) c.as_slice.ensures.value
          c.in_ok-arcs.ensures.arcs);
    }
