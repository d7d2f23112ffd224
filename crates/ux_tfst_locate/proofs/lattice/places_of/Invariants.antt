use Rattle.std.proofs.Common.{◌↔◌, take}
use Rattle.std.specs.Prelude.{Contains, flat_map}
use Rattle.ux_tfst_locate.specs.Lattices.{ends_of}
use Rattle.ux_tfst_locate.specs.declared.lattice.Place.{Place}
use Rattle.ux_tfst_locate.proofs.lattice.places_of.Given as goal

-- the states of the links so far are there
abbrev pub invariant-loop-link : goal.invariant-loop-link
invariant-loop-link l = (place : Place) → Contains l.places.items place
    ↔ Contains (flat_map ends_of (take l.link-index l.links)) place
