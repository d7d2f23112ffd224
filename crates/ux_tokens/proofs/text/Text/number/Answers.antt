use Rattle.std.proofs.Common.{string_bytes}
use Rattle.ux_tokens.specs.Columns.{pieces_of}
use Rattle.ux_tokens.proofs.PiecesLemmas.{within_pieces}
use Rattle.ux_tokens.proofs.PlacesLemmas.{token_number, number_below}
use Rattle.ux_tokens.proofs.text.Text.number.Goals as goal

pub at-requires : goal.at-requires
at-requires c =
    let text = string_bytes c.self.inside.text in
    let pieces = pieces_of c.self.inside.pieces in
    within_pieces text pieces c.args.self.now c.args.i c.self.view_is c.requires

pub returns-clause-place : goal.returns-clause-place
returns-clause-place c =
    let text = string_bytes c.self.inside.text in
    let pieces = pieces_of c.self.inside.pieces in
    rw (← c.self.view_is)
    (token_number text pieces _ c.self.invariant.are c.args.i c.at.result c.at.ensures)

pub returns-clause-below : goal.returns-clause-below
returns-clause-below c =
    let text = string_bytes c.self.inside.text in
    let pieces = pieces_of c.self.inside.pieces in
    rw (← c.self.view_is)
    (number_below text pieces _ c.self.invariant.are c.args.i c.at.result c.at.ensures)
