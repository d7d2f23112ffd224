use Rattle.ux_tokens.specs.Columns.{pieces_of}
use Rattle.ux_tokens.specs.Entries.{AreRight, HaveEntries}
use Rattle.ux_tokens.specs.Numbers.{different_texts}
use Rattle.ux_tokens.specs.Pieces.{tokens_from}
use Rattle.ux_tokens.proofs.entries.read_entries.Given as goal

abbrev pub invariant-loop-i : goal.invariant-loop-i
invariant-loop-i l = record {
  right : AreRight (different_texts (tokens_from l.text 0 (pieces_of l.cut.pieces))) l.entries;
  all : HaveEntries (pieces_of l.cut.pieces) l.i l.entries;
}
