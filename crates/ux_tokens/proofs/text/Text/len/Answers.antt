use Rattle.std.proofs.Common.{◌≡◌, length, string_bytes, arith}
use Rattle.std.specs.Prelude.{◌≤◌}
use Rattle.ux_tokens.specs.declared.cutting.TheConstants.{MAX_TOKENS}
use Rattle.ux_tokens.specs.Columns.{pieces_of}
use Rattle.ux_tokens.specs.Pieces.{tokens_from}
use Rattle.ux_tokens.proofs.PiecesLemmas.{length-tokens_from}
use Rattle.ux_tokens.proofs.text.Text.len.Goals as goal

pub returns-clause-len : goal.returns-clause-len
returns-clause-len c =
    let same : length (tokens_from (string_bytes c.self.inside.text) 0
    (pieces_of c.self.inside.pieces))
    ≡ length (pieces_of c.self.inside.pieces) =
    length-tokens_from (string_bytes c.self.inside.text) 0 (pieces_of c.self.inside.pieces) in
    rw (← c.self.view_is) (omega (arith, c.len.ensures))

pub returns-clause-few : goal.returns-clause-few
returns-clause-few c =
    let few : length (pieces_of c.self.inside.pieces) ≤ MAX_TOKENS = c.self.invariant.few in
    omega (arith, c.len.ensures, few)
