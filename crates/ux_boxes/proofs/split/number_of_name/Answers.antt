use Rattle.std.proofs.Common.{refl, sym, ◌∙◌, ap, arith}
use Rattle.std.proofs.lemmas.Grind.{common_steps}
use Rattle.std.specs.Option.{is_some}
use Rattle.ux_net.proofs.NamesLemmas.{named_at, named_there}
use Rattle.ux_boxes.proofs.split.number_of_name.Goals as goal

pub unreachable-requires : goal.unreachable-requires
unreachable-requires c =
    let found = named_there c.args.names.now.keys c.args.name c.requires.there in
    let none = ap is_some c.in-None.is in
    let both = sym none ∙ (c.get_index_of.ensures.found ∙ found) in
    cc

pub returns : goal.returns
returns c = (
  c.in-Some.index,
  named_at c.args.names.now.keys c.args.name c.in-Some.index
      (sym c.get_index_of.ensures.index ∙ c.in-Some.is),
  refl,
)

pub overflow_cast-result : goal.overflow_cast-result
overflow_cast-result c = grind (arith, common_steps)

pub overflow_add-result : goal.overflow_add-result
overflow_add-result c = grind (arith, common_steps)
