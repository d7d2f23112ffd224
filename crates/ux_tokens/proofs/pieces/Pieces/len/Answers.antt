use Rattle.std.proofs.Common.{arith}
use Rattle.ux_tokens.specs.Columns.{ends_of}
use Rattle.ux_tokens.proofs.ColumnsLemmas.{length-pieces_from}
use Rattle.ux_tokens.proofs.pieces.Pieces.len.Goals as goal

pub returns : goal.returns
returns c =
    let pieces = c.args.self.now in
    let same = length-pieces_from (ends_of pieces.ends) pieces.numbers.items pieces.kinds.items
    c.requires.ends c.requires.kinds in
    omega (arith, same, c.len.ensures)
