use Rattle.std.proofs.Common.{take}
use Rattle.std.specs.Prelude.{Contains}
use Rattle.ux_grf.specs.declared.item.Piece.{Piece}
use Rattle.ux_inflect.specs.Refusing.{IsValue}
use Rattle.ux_inflect.proofs.items.has_value.Given as goal

-- no piece so far is a value
abbrev pub invariant-loop-piece : goal.invariant-loop-piece
invariant-loop-piece l = (part : Piece) → Contains (take l.piece-index l.output) part → IsValue part → ⊥
