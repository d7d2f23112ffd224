use Rattle.std.proofs.Common.{List, take}
use Rattle.std.specs.Prelude.{All}
use Rattle.std.specs.List.{AllZip}
use Rattle.ux_dela.specs.Sound.{IsSound}
use Rattle.ux_dela.specs.declared.entry.Entry.{Entry}
use Rattle.ux_dict.specs.Forms.{IsFitting}
use Rattle.ux_apply.specs.declared.priority.Priority.{Priority}
use Rattle.ux_apply.specs.Applying.{content_at}
use Rattle.ux_apply.specs.Cursors.{IsCursor}
use Rattle.ux_apply.proofs.applying.fitting_entries.Given as goal

-- the entries of the dictionaries so far, which are sound
abbrev pub invariant-loop-cursor : goal.invariant-loop-cursor
invariant-loop-cursor l = (dics : List (Priority × List Entry)) →
    AllZip (IsCursor l.alphabet l.text) dics (take l.cursor-index l.cursors) →
    IsFitting l.alphabet l.text (content_at l.priority dics) l.entries.items
    × All IsSound l.entries.items
