use Rattle.std.proofs.Common.{ℕ, All, List, sym, subst}
use Rattle.ux_net.specs.declared.net_graph.NetGraph.{NetGraph}
use Rattle.ux_paradigm.proofs.KeptLemmas.{IsKeptEntry, kept_more}
use Rattle.ux_paradigm.specs.Kept.{IsKept}
use Rattle.ux_paradigm.proofs.paradigm.Paradigm.keep.Goals as goal

-- the ends of the lines stand at their ending
pub invariant_of-self-2 : goal.invariant_of-self-2
invariant_of-self-2 c =
    let net = c.self.inside.net in
    let given = subst (λ (n : List NetGraph). IsKept n c.args.ending.now c.args.tails.items)
    (sym c.self.view_is) c.requires in
    let is = subst (λ (text : List ℕ). IsKept net text c.args.tails.items)
    (sym c.in_ok-key.ensures.ok) given in
    subst (All (IsKeptEntry net)) (sym c.in_ok-insert.ensures.entries)
    (kept_more net c.in_ok-key.key c.args.tails is c.self.inside.kept.entries c.self.invariant)
