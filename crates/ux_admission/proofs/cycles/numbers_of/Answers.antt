use Rattle.std.proofs.Common.{List, ℕ, subst, sym}
use Rattle.ux_admission.specs.Cycles.{AreAllEdges}
use Rattle.ux_admission.proofs.CyclesLemmas.{all_inside}
use Rattle.ux_admission.proofs.cycles.numbers_of.Goals as goal

pub components-requires : goal.components-requires
components-requires c = record {
  inside = all_inside c.args.graphs.now c.requires.fit c.deref.result.now
      (subst (λ (rows : List (List ℕ)). AreAllEdges c.args.graphs.now rows)
      (sym c.deref.ensures.value) c.in_ok-rows.ensures);
}
