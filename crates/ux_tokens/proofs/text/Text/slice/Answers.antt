use Rattle.std.proofs.Common.{◌≡◌, ℕ, ◌+◌, ◌-◌, string_bytes, sym, ◌∙◌, ap, arith}
use Rattle.std.specs.List.{slice_range}
use Rattle.ux_tokens.specs.Numbers.{different_texts}
use Rattle.ux_tokens.specs.Pieces.{tokens_from}
use Rattle.ux_tokens.specs.Columns.{pieces_of}
use Rattle.ux_tokens.proofs.PiecesLemmas.{within_pieces}
use Rattle.ux_tokens.proofs.PlacesLemmas.{start_at, slice_same, joined-slice}
use Rattle.ux_tokens.proofs.text.Text.slice.Goals as goal

pub part-requires-clause-within : goal.part-requires-clause-within
part-requires-clause-within c =
    let text = string_bytes c.self.inside.text in
    let pieces = pieces_of c.self.inside.pieces in
    within_pieces text pieces c.args.self.now c.args.last c.self.view_is c.requires.within

pub returns : goal.returns
returns c =
    let text = string_bytes c.self.inside.text in
    let pieces = pieces_of c.self.inside.pieces in
    let gap : c.args.first + (c.args.last + 1 - c.args.first) ≡ c.args.last + 1 = omega arith in
    let within =
    within_pieces text pieces c.args.self.now c.args.last c.self.view_is c.requires.within in
    rw (← c.self.view_is)
    (c.part.ensures
    ∙ slice_same c.as_str.result.now text pieces c.args.first (c.args.last + 1)
    c.as_str.ensures.value
    ∙ ap (λ (e : ℕ). slice_range text (start_at pieces c.args.first) (start_at pieces e)) (sym gap)
    ∙ sym (joined-slice text pieces (different_texts (tokens_from text 0 pieces))
    c.self.invariant.are
    (c.args.last + 1 - c.args.first) c.args.first (omega arith)))
