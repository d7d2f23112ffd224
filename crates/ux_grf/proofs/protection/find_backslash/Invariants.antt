use Rattle.std.proofs.Common.{◌≡◌, ◌++◌, take, drop}
use Rattle.ux_grf.specs.Protection.{resolved}
use Rattle.ux_grf.proofs.protection.find_backslash.Given as goal

-- so far nothing is left out
abbrev pub invariant-loop-place : goal.invariant-loop-place
invariant-loop-place l =
    resolved l.layer l.protected l.text
    ≡ take l.place l.text ++ resolved l.layer l.now_protected (drop l.place l.text)
