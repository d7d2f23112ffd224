use Rattle.ux_text_chart.proofs.PartIndexLemmas.{indexed_none}
use Rattle.ux_text_chart.proofs.part_index.add_parts.Goals as goal

pub loop-place-init : goal.loop-place-init
loop-place-init c = λ texts ready. indexed_none c.args.alphabet.now texts c.args.net.now
    c.args.parts.now c.args.beginnings.now.items c.args.everywhere.now.items c.requires.none

pub loop-place-preserved : goal.loop-place-preserved
loop-place-preserved c = λ texts ready.
    c.in_ok-add_part.ensures texts ready (c.loop-place.invariant texts ready)
