use Rattle.std.proofs.Common.{arith}
use Rattle.std.proofs.lemmas.Grind.{common_steps}
use Rattle.ux_masks.proofs.EndLemmas.{name_end_cut}
use Rattle.ux_masks.proofs.name.split_name.Goals as goal

-- the cut falls before a sign, which is ASCII, or at the text's end
pub range_from-requires : goal.range_from-requires
range_from-requires c =
    λ _. name_end_cut c.as_bytes.result.now c.args.text.now c.name_len-end.result
    c.as_bytes.ensures.value c.name_len-end.ensures.within c.name_len-end.ensures.split.ends

pub range-requires-clause-end_boundary : goal.range-requires-clause-end_boundary
range-requires-clause-end_boundary c = grind (arith, common_steps)
