use Rattle.std.proofs.Common.{◌≡◌, ℕ, Some, length}
use Rattle.std.specs.List.{slice_get}
use Rattle.ux_tokens.specs.declared.kind.Kind.{Kind}
use Rattle.ux_tokens.specs.Blocks.{IsClass}
use Rattle.ux_tokens.proofs.classes.classes.Given as goal

-- the kinds of the bytes so far
abbrev pub invariant-loop-byte : goal.invariant-loop-byte
invariant-loop-byte l = record {
  len : length l.kinds.items ≡ l.byte;
  each : (byte : ℕ) (kind : Kind) → slice_get l.kinds.items byte ≡ Some kind →
      IsClass l.alphabet byte kind;
}
