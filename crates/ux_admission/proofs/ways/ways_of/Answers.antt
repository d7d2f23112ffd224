use Rattle.std.proofs.Common.{List, subst}
use Rattle.ux_admission.specs.declared.way.Way.{Way}
use Rattle.ux_admission.specs.Gains.{Gains}
use Rattle.ux_admission.specs.Ways.{IsWay}
use Rattle.ux_admission.proofs.GainsLemmas.{gains_all}
use Rattle.ux_admission.proofs.ways.ways_of.Goals as goal

pub returns : goal.returns
returns c = record {
  exact = gains_all c.push_graphs.new.ways.items (IsWay c.args.graphs.now)
      (subst (λ (ways : List Way). Gains ways c.push_graphs.new.ways.items
      (IsWay c.args.graphs.now)) c.new-ways.ensures.items c.in_ok-push_graphs.ensures);
}
