use Rattle.std.proofs.Common.{length, refl, arith}
use Rattle.std.proofs.lemmas.Option.{slice_get_read}
use Rattle.ux_tokens.specs.Columns.{ends_of}
use Rattle.ux_tokens.proofs.ColumnsLemmas.{slice_get-pieces_from, within_columns}
use Rattle.ux_tokens.proofs.pieces.Pieces.at.Goals as goal

pub at-requires : goal.at-requires
at-requires c =
    let pieces = c.args.self.now in
    let within = within_columns (ends_of pieces.ends) pieces.numbers.items pieces.kinds.items
    c.args.i c.requires in
    within.0

pub index-requires : goal.index-requires
index-requires c =
    let pieces = c.args.self.now in
    let within = within_columns (ends_of pieces.ends) pieces.numbers.items pieces.kinds.items
    c.args.i c.requires in
    omega (arith, within.1)

pub index-requires-2 : goal.index-requires-2
index-requires-2 c =
    let pieces = c.args.self.now in
    let within = within_columns (ends_of pieces.ends) pieces.numbers.items pieces.kinds.items
    c.args.i c.requires in
    omega (arith, within.2)

pub returns : goal.returns
returns c =
    let pieces = c.args.self.now in
    let numbers = pieces.numbers.items in
    let kinds = pieces.kinds.items in
    let within = within_columns (ends_of pieces.ends) numbers kinds c.args.i c.requires in
    slice_get-pieces_from (ends_of pieces.ends) numbers kinds c.args.i c.at.result
    c.index.result.now c.index-2.result.now c.at.ensures
    (slice_get_read numbers (length numbers) c.args.i c.index.result.now refl within.1
    c.index.ensures)
    (slice_get_read kinds (length kinds) c.args.i c.index-2.result.now refl within.2
    c.index-2.ensures)
