use Rattle.std.proofs.Common.{List, ◌++◌, length}
use denote.Text.{Utf8}
use denote.Shadow.{shadow}
use Rattle.ux_grf.specs.declared.item.Piece.{Piece}
use Rattle.ux_grf.specs.Output.{ArePieces}
use Rattle.ux_grf.proofs.output.read_pieces.Given as goal

-- the pieces are those so far and those of the rest
abbrev pub invariant-loop-place : goal.invariant-loop-place
invariant-loop-place l = record {
  text : shadow (Utf8 l.rest);
  pieces : (later : List Piece) → ArePieces l.rest later →
      ArePieces l.text (l.pieces.items ++ later);
}

abbrev pub decreases-loop-place : goal.decreases-loop-place
decreases-loop-place l = length l.rest
