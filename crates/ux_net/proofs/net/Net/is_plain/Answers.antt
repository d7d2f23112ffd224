use Rattle.std.proofs.Common.{◌∙◌, ap}
use Rattle.std.specs.List.{list_all}
use Rattle.ux_net.specs.Nets.{each_in_graph, is_plain}
use Rattle.ux_net.proofs.LabelLaws.{plain_law}
use Rattle.ux_net.proofs.net.Net.is_plain.Goals as goal

pub returns : goal.returns
returns c =
    plain_law c.args.self.now c.are_all.result
    (c.are_all.ensures
    ∙ ap (list_all (each_in_graph is_plain)) (c.deref.ensures.value ∙ c.self.view_is))
