use Rattle.std.proofs.Common.{List, ℕ, subst, sym}
use Rattle.ux_admission.specs.Uses.{AreLinkEdges}
use Rattle.ux_admission.proofs.LinkPaths.{links_inside}
use Rattle.ux_admission.proofs.negative_recursion.numbers_of.Goals as goal

pub components-requires : goal.components-requires
components-requires c = record {
  inside = links_inside c.args.graphs.now c.requires.fit c.deref.result.now
      (subst (λ (rows : List (List ℕ)). AreLinkEdges c.args.graphs.now rows)
      (sym c.deref.ensures.value) c.in_ok-rows.ensures);
}
