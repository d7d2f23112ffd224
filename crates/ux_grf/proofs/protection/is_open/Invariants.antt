use Rattle.std.proofs.Common.{◌≡◌, false, drop}
use Rattle.ux_grf.specs.Protection.{ends_open}
use Rattle.ux_grf.proofs.protection.is_open.Given as goal

-- what is left ends as the whole does
abbrev pub invariant-loop-byte : goal.invariant-loop-byte
invariant-loop-byte l =
    ends_open false l.text ≡ ends_open l.protected (drop l.byte-index l.text)
