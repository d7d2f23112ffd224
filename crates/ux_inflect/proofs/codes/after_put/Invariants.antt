use Rattle.std.proofs.Common.{◌≡◌, take}
use Rattle.ux_inflect.specs.Places.{after_text}
use Rattle.ux_inflect.proofs.codes.after_put.Given as goal

-- the bytes so far are read
abbrev pub invariant-loop-byte : goal.invariant-loop-byte
invariant-loop-byte l = l.codes ≡ after_text l.fn.codes (take l.byte-index l.text)
