use Rattle.std.proofs.Common.{◌≡◌, ◌<◌, true, length}
use Rattle.ux_dela.specs.Reading.{mark_sign}
use Rattle.ux_dela.proofs.PlainLemmas.{IsCopiedTo}
use Rattle.ux_dela.proofs.plain.find_sign.Given as goal

-- so far all is copied
abbrev pub invariant-loop-place : goal.invariant-loop-place
invariant-loop-place l =
    IsCopiedTo (mark_sign l.fn.mark) l.protected l.text l.place l.now_protected
    × (l.now_protected ≡ true → l.place < length l.text)
