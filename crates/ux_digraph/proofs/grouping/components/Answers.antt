use Rattle.std.proofs.Common.{arith, ◌∙◌, ap, sym, subst, List, ℕ}
use Rattle.std.proofs.lemmas.Grind.{common_steps}
use Rattle.std.specs.Prelude.{map}
use Rattle.ux_digraph.specs.Components.{AreComponents}
use Rattle.ux_digraph.specs.Grouping.{number_of}
use Rattle.ux_digraph.proofs.VisitLemmas.{components_found}
use Rattle.ux_digraph.proofs.grouping.components.Goals as goal

pub returns : goal.returns
returns c =
    subst (λ (ns : List ℕ). AreComponents c.args.edges.now ns)
    (sym (c.in_ok-numbers.ensures ∙ ap (map number_of) c.deref.ensures.value))
    (components_found c.args.edges.now c.requires.inside c.loop-node.marks.items c.loop-node.count
    c.loop-node.invariant.resting (λ u h. let most = c.loop-node-test.false in
    c.loop-node.invariant.met u (omega arith)))

pub loop-node-init : goal.loop-node-init
loop-node-init c = grind (arith, common_steps)
