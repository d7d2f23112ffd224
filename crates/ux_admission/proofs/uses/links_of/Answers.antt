use Rattle.std.proofs.Common.{◌+◌, List, length, subst}
use Rattle.ux_admission.specs.declared.uses.Link.{Link}
use Rattle.ux_admission.specs.Gains.{Gains, SoBelow}
use Rattle.ux_admission.specs.Uses.{IsLinkIn}
use Rattle.ux_admission.proofs.UsesLemmas.{links_all}
use Rattle.ux_admission.proofs.uses.links_of.Goals as goal

pub returns : goal.returns
returns c = record {
  exact = links_all c.args.graphs.now c.push_graphs.new.links.items
      (subst (λ (links : List Link). Gains links c.push_graphs.new.links.items
      (SoBelow (length c.args.graphs.now) (λ k. IsLinkIn c.args.graphs.now (k + 1))))
      c.new-links.ensures.items c.in_ok-push_graphs.ensures);
}
