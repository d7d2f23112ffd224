use Rattle.std.proofs.Common.{ℕ, List, ◌++◌, ◌∙◌, ap}
use Rattle.ux_tokens.specs.declared.kind.Kind.{Kind}
use Rattle.ux_tokens.specs.Columns.{ends_of, pieces_from}
use Rattle.ux_tokens.proofs.ColumnsLemmas.{near_more, pieces_from-append}
use Rattle.ux_tokens.proofs.pieces.Pieces.extend.Goals as goal

pub returns-clause-pieces : goal.returns-clause-pieces
returns-clause-pieces c =
    let near = c.args.self.now.ends.near.items in
    let far = c.args.self.now.ends.far.items in
    let numbers = c.args.self.now.numbers.items in
    let kinds = c.args.self.now.kinds.items in
    let ends = ends_of c.args.self.now.ends ++ c.args.ends.now in
    let new_numbers = c.extend_from_slice-2.new.self.items in
    let new_kinds = c.extend_from_slice-3.new.self.items in
    ap (λ (l : List ℕ). pieces_from (l ++ far) new_numbers new_kinds)
    c.in_ok-extend_from_slice.ensures.items
    ∙ ap (λ (l : List ℕ). pieces_from l new_numbers new_kinds)
    (near_more near c.args.ends.now far c.requires.near)
    ∙ ap (λ (l : List ℕ). pieces_from ends l new_kinds) c.in_ok-extend_from_slice-2.ensures.items
    ∙ ap (λ (l : List Kind). pieces_from ends (numbers ++ c.args.numbers.now) l)
    c.in_ok-extend_from_slice-3.ensures.items
    ∙ pieces_from-append (ends_of c.args.self.now.ends) numbers kinds c.args.ends.now
    c.args.numbers.now c.args.kinds.now c.requires.even.ends c.requires.even.kinds
