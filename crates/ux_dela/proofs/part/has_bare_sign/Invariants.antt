use Rattle.std.proofs.Common.{◌≡◌, drop}
use Rattle.ux_dela.specs.Reading.{is_stop, characters, characters_from}
use Rattle.ux_dela.specs.Written.{has_bare}
use Rattle.ux_dela.proofs.part.has_bare_sign.Given as goal

-- no sign stands bare so far
abbrev pub invariant-loop-byte : goal.invariant-loop-byte
invariant-loop-byte l =
    has_bare (is_stop l.stop) (characters l.text)
    ≡ has_bare (is_stop l.stop) (characters_from l.protected (drop l.byte-index l.text))
