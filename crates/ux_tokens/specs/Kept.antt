-- What a text keeps of its tokens: for inner functions alone.
use Rattle.std.specs.Prelude.{◌≡◌, ◌≤◌, ℕ, List, length}
use Rattle.std.specs.BTreeMap.{BTreeMap}
use Rattle.ux_dela.specs.declared.entry.Entry.{Entry}
use Rattle.ux_tokens.specs.declared.cutting.TheConstants.{MAX_TOKENS}
use Rattle.ux_tokens.specs.declared.pieces.Pieces.{Pieces}
use Rattle.ux_tokens.specs.Numbers.{different_texts}
use Rattle.ux_tokens.specs.Columns.{AreEven, pieces_of}
use Rattle.ux_tokens.specs.Entries.{AreEntriesOf}
use Rattle.ux_tokens.specs.Pieces.{ArePieces, tokens_from}

-- the text's pieces, how many different tokens there are, and the entries of tags
pub record IsKept (text : List ℕ) (pieces : Pieces) (different : ℕ)
    (entries : BTreeMap ℕ Entry) : Type 0 where
  pub are : ArePieces text (pieces_of pieces)
      (different_texts (tokens_from text 0 (pieces_of pieces)))
  pub count : different ≡ length (different_texts (tokens_from text 0 (pieces_of pieces)))
  pub even : AreEven pieces
  pub few : length (pieces_of pieces) ≤ MAX_TOKENS
  pub entries_are : AreEntriesOf text (pieces_of pieces) entries
