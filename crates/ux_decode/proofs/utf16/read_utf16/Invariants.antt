use Rattle.std.proofs.Common.{length, drop, string_bytes}
use Rattle.ux_decode.specs.Decoding.{Spells}
use Rattle.ux_decode.specs.declared.encoding.Encoding.TheVariants.{Utf16}
use Rattle.ux_decode.proofs.utf16.read_utf16.Given as goal

-- the text is what stands before the rest
abbrev pub invariant-loop-unit : goal.invariant-loop-unit
invariant-loop-unit l = Spells (Utf16 l.order) (drop 2 l.bytes) (string_bytes l.text) l.rest

abbrev pub decreases-loop-unit : goal.decreases-loop-unit
decreases-loop-unit l = length l.rest
