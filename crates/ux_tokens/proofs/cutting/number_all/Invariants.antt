use Rattle.std.proofs.Common.{◌≡◌, ◌+◌, ◌-◌, ◌≤◌, ◌++◌, List, length, take}
use Rattle.std.specs.Str.{IsCharBoundary}
use Rattle.indexmap.specs.IndexSet.{index_set_len}
use Rattle.ux_alphabet.specs.Letters.{Letters}
use Rattle.ux_tokens.specs.declared.cutting.TheConstants.{MAX_TOKENS}
use Rattle.ux_tokens.specs.declared.piece.Piece.{Piece}
use Rattle.ux_tokens.specs.Blocks.{AreFronts, last_from}
use Rattle.ux_tokens.specs.Columns.{pieces_from}
use Rattle.ux_tokens.specs.Cutting.{IsSoFar}
use Rattle.ux_tokens.specs.Known.{AreKnown}
use Rattle.ux_tokens.specs.Numbers.{texts_in}
use Rattle.ux_tokens.proofs.cutting.number_all.Given as goal

-- the tokens so far are numbered
abbrev pub invariant-loop-i : goal.invariant-loop-i
invariant-loop-i l = record {
  given : length l.given ≡ length l.ends;
  from_is : l.from ≡ last_from l.start (take l.i l.ends);
  in_order : l.start ≤ l.from;
  between : IsCharBoundary l.text l.from;
  room : index_set_len l.numbers + (length l.ends - l.i) ≤ MAX_TOKENS;
  known : AreKnown (texts_in l.numbers) l.known;
  so_far : (alphabet : Letters) (pieces : List Piece) →
      AreFronts alphabet l.text l.start l.ends l.kinds →
      length pieces + length l.ends ≤ MAX_TOKENS →
      IsSoFar alphabet l.text l.start pieces (texts_in l.initial.numbers) →
      IsSoFar alphabet l.text l.from
      (pieces ++ pieces_from (take l.i l.ends) (take l.i l.given) (take l.i l.kinds))
      (texts_in l.numbers);
}
