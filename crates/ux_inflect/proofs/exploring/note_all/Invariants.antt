use Rattle.std.proofs.Common.{map, vec_len}
use Rattle.ux_inflect.specs.Places.{step_of}
use Rattle.ux_inflect.specs.Searches.{IsNoting}
use Rattle.ux_inflect.proofs.exploring.note_all.Given as goal

-- each step is left or has its link
abbrev pub invariant-loop-successor : goal.invariant-loop-successor
invariant-loop-successor l = IsNoting l.fn.configs.keys (map step_of l.fn.found.items)
    (map step_of l.found.items) l.configs.keys l.row.items

abbrev pub decreases-loop-successor : goal.decreases-loop-successor
decreases-loop-successor l = vec_len l.found
