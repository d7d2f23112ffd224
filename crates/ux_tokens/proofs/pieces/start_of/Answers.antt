use Rattle.std.proofs.Common.{arith}
use Rattle.ux_tokens.specs.Columns.{pieces_of}
use Rattle.ux_tokens.proofs.PlacesLemmas.{start_behind}
use Rattle.ux_tokens.proofs.pieces.start_of.Goals as goal

pub returns-else-i-eq0 : goal.returns-else-i-eq0
returns-else-i-eq0 c =
    start_behind (pieces_of c.args.pieces.now) c.args.i c.at.result (omega arith) c.at.ensures
