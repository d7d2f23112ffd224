use Rattle.std.proofs.Common.{string_bytes}
use Rattle.ux_tokens.specs.Columns.{pieces_of}
use Rattle.ux_tokens.proofs.PiecesLemmas.{within_pieces}
use Rattle.ux_tokens.proofs.EntriesLemmas.{no_entry, found_entry, found_sound}
use Rattle.ux_tokens.proofs.text.Text.tag.Goals as goal

pub at-piece-requires : goal.at-piece-requires
at-piece-requires c =
    let text = string_bytes c.self.inside.text in
    let pieces = pieces_of c.self.inside.pieces in
    within_pieces text pieces c.args.self.now c.args.i c.self.view_is c.requires

pub returns-then-not-is_tag-clause-entry : goal.returns-then-not-is_tag-clause-entry
returns-then-not-is_tag-clause-entry c =
    let text = string_bytes c.self.inside.text in
    let pieces = pieces_of c.self.inside.pieces in
    rw (← c.self.view_is)
    (no_entry text pieces c.args.i c.at-piece.result c.at-piece.ensures
    (λ tag. let t = c.is_tag.ensures.1 tag in let f = c.if-not-is_tag.true in cc))

pub returns-clause-entry : goal.returns-clause-entry
returns-clause-entry c =
    let text = string_bytes c.self.inside.text in
    let pieces = pieces_of c.self.inside.pieces in
    let kept = c.self.invariant in
    rw (← c.self.view_is)
    (found_entry text pieces c.self.inside.entries kept.entries_are kept.are c.args.i
    c.at-piece.result c.at-piece.ensures
    (c.is_tag.ensures.0 c.if-not-is_tag.false) c.get.result c.get.ensures.value)

pub returns-clause-sound : goal.returns-clause-sound
returns-clause-sound c =
    let text = string_bytes c.self.inside.text in
    let pieces = pieces_of c.self.inside.pieces in
    let kept = c.self.invariant in
    found_sound text pieces c.self.inside.entries kept.entries_are kept.are c.args.i
    c.at-piece.result c.at-piece.ensures
    (c.is_tag.ensures.0 c.if-not-is_tag.false) c.get.result c.get.ensures.value
