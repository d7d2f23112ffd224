use Rattle.std.proofs.Common.{◌≡◌, ◌<◌, true, length}
use Rattle.ux_masks.proofs.MeaningLemmas.{IsCopiedTo}
use Rattle.ux_masks.proofs.name.find_backslash.Given as goal

-- so far all is copied
abbrev pub invariant-loop-place : goal.invariant-loop-place
invariant-loop-place l =
    IsCopiedTo l.protected l.text l.place l.now_protected
    × (l.now_protected ≡ true → l.place < length l.text)
