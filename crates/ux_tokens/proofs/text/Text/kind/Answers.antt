use Rattle.std.proofs.Common.{string_bytes, []}
use Rattle.ux_tokens.specs.Columns.{pieces_of}
use Rattle.ux_tokens.proofs.PiecesLemmas.{within_pieces}
use Rattle.ux_tokens.proofs.PlacesLemmas.{token_kind}
use Rattle.ux_tokens.proofs.text.Text.kind.Goals as goal

pub at-requires : goal.at-requires
at-requires c =
    let text = string_bytes c.self.inside.text in
    let pieces = pieces_of c.self.inside.pieces in
    within_pieces text pieces c.args.self.now c.args.i c.self.view_is c.requires

pub returns : goal.returns
returns c =
    let text = string_bytes c.self.inside.text in
    let pieces = pieces_of c.self.inside.pieces in
    rw (← c.self.view_is) (token_kind text pieces [] c.args.i c.at.result c.at.ensures)
