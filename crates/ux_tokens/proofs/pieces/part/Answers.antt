use Rattle.std.proofs.Common.{◌≡◌, ◌+◌, ◌-◌, ◌≤◌, sym, ap, subst, arith}
use Rattle.std.specs.Str.{IsCharBoundary}
use Rattle.ux_tokens.specs.Numbers.{different_texts}
use Rattle.ux_tokens.specs.Columns.{ends_of, pieces_of}
use Rattle.ux_tokens.specs.Pieces.{tokens_from}
use Rattle.ux_tokens.proofs.ColumnsLemmas.{within_columns}
use Rattle.ux_tokens.proofs.PlacesLemmas.{start_at, start_boundary, start_in_order}
use Rattle.ux_tokens.proofs.pieces.part.Goals as goal

pub range-requires-clause-start_le_end : goal.range-requires-clause-start_le_end
range-requires-clause-start_le_end c =
    let text = c.args.text.now in
    let pieces = pieces_of c.args.pieces.now in
    let gap : c.args.first + (c.args.last + 1 - c.args.first) ≡ c.args.last + 1 = omega arith in
    let order : start_at pieces c.args.first ≤ start_at pieces
    (c.args.first + (c.args.last + 1 - c.args.first)) =
    start_in_order text pieces (different_texts (tokens_from text 0 pieces)) c.requires.are
    (c.args.last + 1 - c.args.first) c.args.first (omega arith) in
    let ends : start_at pieces (c.args.first + (c.args.last + 1 - c.args.first)) ≡ start_at pieces
    (c.args.last + 1) =
    ap (start_at pieces) gap in
    omega (arith, c.start_of-start.ensures, c.start_of-end.ensures)

pub range-requires-clause-start_boundary : goal.range-requires-clause-start_boundary
range-requires-clause-start_boundary c some =
    let text = c.args.text.now in
    let pieces = pieces_of c.args.pieces.now in
    subst (IsCharBoundary text) (sym c.start_of-start.ensures)
    (start_boundary text pieces (different_texts (tokens_from text 0 pieces)) c.utf8.text
    c.requires.are
    c.args.first (omega arith))

pub range-requires-clause-end_boundary : goal.range-requires-clause-end_boundary
range-requires-clause-end_boundary c =
    let text = c.args.text.now in
    let pieces = pieces_of c.args.pieces.now in
    subst (IsCharBoundary text) (sym c.start_of-end.ensures)
    (start_boundary text pieces (different_texts (tokens_from text 0 pieces)) c.utf8.text
    c.requires.are
    (c.args.last + 1) (omega arith))

-- a list has fewer items than there are addresses
pub overflow_add-last : goal.overflow_add-last
overflow_add-last c =
    let pieces = c.args.pieces.now in
    let within = within_columns (ends_of pieces.ends) pieces.numbers.items pieces.kinds.items
    c.args.last c.requires.within in
    omega (arith, within.1, pieces.numbers.ok, pieces.numbers.small)
