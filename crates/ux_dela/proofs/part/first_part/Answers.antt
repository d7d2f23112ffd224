use Rattle.std.proofs.Common.{◌<◌, length, sym, ◌∙◌, ap, arith}
use Rattle.std.proofs.lemmas.Grind.{common_steps}
use Rattle.std.specs.Prelude.{is_some}
use Rattle.std.proofs.lemmas.Bool.{ltb-true}
use Rattle.ux_dela.proofs.StopLemmas.{part_end_behind}
use Rattle.ux_dela.proofs.part.first_part.Goals as goal

pub range_from-requires : goal.range_from-requires
range_from-requires c =
    let bytes = c.as_bytes.result.now in
    let some : 0 < length bytes =
    ltb-true 0 (length bytes) (sym c.first.ensures.item.0 ∙ ap is_some c.in-Some.is) in
    λ _. part_end_behind c.args.stop bytes c.split_part.result.1.now c.as_bytes.ensures.value
    c.as_bytes.ensures.utf8 some c.split_part.ensures.split.ends

pub returns-in-None : goal.returns-in-None
returns-in-None c = grind (arith, common_steps)
