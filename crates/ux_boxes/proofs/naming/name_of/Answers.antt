use Rattle.std.proofs.Common.{ℕ, List, map, string_bytes, sym, ◌∙◌, subst}
use Rattle.ux_boxes.specs.Refusing.{is_name_at}
use Rattle.ux_boxes.proofs.SplitGraphs.{named_number}
use Rattle.ux_boxes.proofs.naming.name_of.Goals as goal

pub returns : goal.returns
returns c =
    subst (λ (name : List ℕ). is_name_at (map string_bytes c.args.names.now) c.args.graph name)
    (sym (c.in_ok-from_str.ensures ∙ c.as_str.ensures.value))
    (named_number c.args.names.now c.args.graph c.index-names-graph.result c.requires.from
    c.requires.to c.index-names-graph.is)
