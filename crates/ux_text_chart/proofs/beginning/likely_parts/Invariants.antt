use Rattle.std.proofs.Common.{◌-◌}
use Rattle.ux_text_chart.specs.Leading.{input_of}
use Rattle.ux_walk.specs.Settings.{masked_setting}
use Rattle.ux_text_chart.specs.Likely.{IsLikelyRow}
use Rattle.ux_text_chart.proofs.beginning.likely_parts.Given as goal

-- the parts so far were asked about
abbrev pub invariant-parts : goal.invariant-parts
invariant-parts l = IsLikelyRow (input_of (masked_setting l.text)) l.text.net.now l.parts
    l.row.items l.at l.from

abbrev pub decreases-parts : goal.decreases-parts
decreases-parts l = 4294967296 - l.from
