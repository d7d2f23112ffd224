use Rattle.std.proofs.Common.{ℕ, List, string_bytes, subst}
use Rattle.ux_tokens.specs.Columns.{pieces_of}
use Rattle.ux_tokens.specs.Pieces.{tokens_from}
use Rattle.ux_tokens.specs.Cutting.{IsCutting, RefusesCut}
use Rattle.ux_tokens.specs.Reading.{Refuses}
use Rattle.ux_tokens.proofs.ReadingLemmas.{exit, tokens_are, no_longer, refused}
use Rattle.ux_tokens.proofs.PiecesLemmas.{length-tokens_from}
use Rattle.ux_tokens.proofs.text.Text.read.Goals as goal

pub returns-in_err-cut-clause-refused : goal.returns-in_err-cut-clause-refused
returns-in_err-cut-clause-refused c =
    let alphabet = c.args.alphabet.now in
    let text = string_bytes c.args.text in
    let error = c.in_err-cut.field-0.0 in
    exit c.from_residual.result error (Refuses alphabet text) c.from_residual.ensures.1
    (refused alphabet text (string_bytes c.into_single_spaced-text.result)
    c.into_single_spaced-text.ensures error
    (subst (λ (bytes : List ℕ). RefusesCut alphabet bytes error) c.as_str.ensures.value
    c.in_err-cut.ensures.err))

pub returns-clause-tokens : goal.returns-clause-tokens
returns-clause-tokens c =
    let spaced = string_bytes c.into_single_spaced-text.result in
    let cut : IsCutting c.args.alphabet.now spaced c.in_ok-cut.cut =
    subst (λ (bytes : List ℕ). IsCutting c.args.alphabet.now bytes c.in_ok-cut.cut)
    c.as_str.ensures.value c.in_ok-cut.ensures.ok in
    tokens_are c.args.alphabet.now (string_bytes c.args.text) spaced
    c.into_single_spaced-text.ensures (tokens_from spaced 0 (pieces_of c.in_ok-cut.cut.pieces))
    cut.tokens

pub returns-clause-few : goal.returns-clause-few
returns-clause-few c =
    rw (length-tokens_from (string_bytes c.into_single_spaced-text.result) 0
    (pieces_of c.in_ok-cut.cut.pieces))
    c.in_ok-cut.ensures.ok.few

pub returns-clause-not_too_many : goal.returns-clause-not_too_many
returns-clause-not_too_many c =
    let spaced = string_bytes c.into_single_spaced-text.result in
    let pieces = pieces_of c.in_ok-cut.cut.pieces in
    let cut : IsCutting c.args.alphabet.now spaced c.in_ok-cut.cut =
    subst (λ (bytes : List ℕ). IsCutting c.args.alphabet.now bytes c.in_ok-cut.cut)
    c.as_str.ensures.value c.in_ok-cut.ensures.ok in
    no_longer c.args.alphabet.now (string_bytes c.args.text) spaced
    c.into_single_spaced-text.ensures (tokens_from spaced 0 pieces) cut.tokens
    (rw (length-tokens_from spaced 0 pieces) cut.few)
