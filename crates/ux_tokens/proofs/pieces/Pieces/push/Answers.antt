use Rattle.std.proofs.Common.{ℕ, List, [], ◌∷◌, ◌++◌, ◌∙◌, ap, arith}
use Rattle.std.proofs.lemmas.Grind.{common_steps}
use Rattle.ux_tokens.specs.declared.kind.Kind.{Kind}
use Rattle.ux_tokens.specs.Columns.{ends_of, pieces_from}
use Rattle.ux_tokens.proofs.ColumnsLemmas.{pieces_from-push}
use Rattle.ux_tokens.proofs.pieces.Pieces.push.Goals as goal

pub returns-clause-pieces : goal.returns-clause-pieces
returns-clause-pieces c =
    let ends = ends_of c.args.self.now.ends in
    let numbers = c.args.self.now.numbers.items in
    let kinds = c.args.self.now.kinds.items in
    let piece = c.args.piece in
    ap (λ (l : List ℕ). pieces_from l c.push-2.new.self.items c.push-3.new.self.items)
    c.in_ok-push.ensures
    ∙ ap (λ (l : List ℕ). pieces_from (ends ++ piece.end ∷ []) l c.push-3.new.self.items)
    c.in_ok-push-2.ensures.items
    ∙ ap (λ (l : List Kind). pieces_from (ends ++ piece.end ∷ []) (numbers ++ piece.number ∷ []) l)
    c.in_ok-push-3.ensures.items
    ∙ pieces_from-push ends numbers kinds piece.end piece.number piece.kind c.requires.ends
    c.requires.kinds

pub returns-clause-even : goal.returns-clause-even
returns-clause-even c = grind (arith, common_steps)
