use Rattle.ux_text_chart.specs.Likely.{IsLikelyRow}
use Rattle.ux_tfst_locate.specs.Bases.{input_of}
use Rattle.ux_tfst_locate.proofs.beginning.likely_parts.Given as goal

-- the parts so far were asked about
abbrev pub invariant-loop-number : goal.invariant-loop-number
invariant-loop-number l =
    IsLikelyRow (input_of l.basis) l.net l.parts l.row.items l.at l.number
