use Rattle.std.proofs.Common.{◌≡◌, ◌++◌, map, take}
use Rattle.ux_mask_table.proofs.MaskedTextLemmas.{moved}
use Rattle.ux_mask_table.proofs.masked_text.MaskedText.add_mask_ends.Given as goal

-- the ends so far were added
abbrev pub invariant-loop-end : goal.invariant-loop-end
invariant-loop-end l = l.ends.items
    ≡ l.fn.ends.items ++ map (moved l.place l.told.from) (take l.end-index l.told.ends.now)
