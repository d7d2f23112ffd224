use Rattle.std.proofs.Common.{Vec, Global, subst, sym}
use Rattle.std.proofs.lemmas.List.Sorted.{Contains-permutation, IsPermutation-sym}
use Rattle.ux_tfst_locate.specs.declared.lattice.Arc.{Arc}
use Rattle.ux_tfst_locate.specs.Lattices.{AreArcs}
use Rattle.ux_tfst_locate.proofs.ArcsLemmas.{arcs_moved}
use Rattle.ux_tfst_locate.proofs.lattice.arcs_of.Goals as goal
use Rattle.ux_tfst_locate.proofs.lattice.arcs_of.Goals.{then-not-are_in_order, else-not-are_in_order}

pub returns-clause-arcs : goal.returns-clause-arcs
returns-clause-arcs c =
    let places = c.args.places.now in
    let links = c.args.links.now in
    let arcs = c.in_ok-arcs.arcs.items in
    elim c.if-not-are_in_order.branch [
      | then-not-are_in_order w ↦
          let new = w.sort.new.arcs.items in
          let back = IsPermutation-sym arcs new w.sort.ensures.same in
          subst (λ (v : Vec Arc Global). AreArcs places links v.items) (sym w.arcs-is)
          (arcs_moved places links arcs new
          (λ arc has. Contains-permutation arcs new arc w.sort.ensures.same has)
          (λ arc has. Contains-permutation new arcs arc back has) c.in_ok-arcs.ensures)
      | else-not-are_in_order w ↦
          subst (λ (v : Vec Arc Global). AreArcs places links v.items) (sym w.arcs-is)
          c.in_ok-arcs.ensures
    ]
