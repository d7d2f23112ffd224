use Rattle.std.proofs.Common.{◌+◌, [], string_bytes, ◌∙◌}
use Rattle.ux_tokens.specs.Columns.{pieces_of}
use Rattle.ux_tokens.proofs.PiecesLemmas.{within_pieces, piece_at}
use Rattle.ux_tokens.proofs.PlacesLemmas.{slice_same, token_text}
use Rattle.ux_tokens.proofs.text.Text.token.Goals as goal

pub part-requires-clause-within : goal.part-requires-clause-within
part-requires-clause-within c =
    let text = string_bytes c.self.inside.text in
    let pieces = pieces_of c.self.inside.pieces in
    within_pieces text pieces c.args.self.now c.args.i c.self.view_is c.requires

pub returns : goal.returns
returns c =
    let text = string_bytes c.self.inside.text in
    let pieces = pieces_of c.self.inside.pieces in
    let within = within_pieces text pieces c.args.self.now c.args.i c.self.view_is c.requires in
    let piece = piece_at pieces c.args.i within in
    rw (← c.self.view_is)
    (token_text text pieces [] c.args.i piece.0 c.part.result.now piece.1
    (c.part.ensures
    ∙ slice_same c.as_str.result.now text pieces c.args.i (c.args.i + 1) c.as_str.ensures.value))
