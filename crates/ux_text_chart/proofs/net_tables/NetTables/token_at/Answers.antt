use Rattle.std.proofs.Common.{◌≡◌, subst}
use Rattle.std.specs.Prelude.{IsSomeAnd, Some, slice_get}
use Rattle.ux_tokens.specs.Numbers.{different_texts}
use Rattle.ux_text_chart.proofs.NetTablesLemmas.{among_words, own_number}
use Rattle.ux_text_chart.proofs.net_tables.NetTables.token_at.Goals as goal

pub returns-in-Some : goal.returns-in-Some
returns-in-Some c = λ alphabet texts numbering.
    let tokens = c.args.text.now in
    among_words alphabet texts tokens c.in-Some.words c.token.result.now c.args.at
    c.number_among.result c.number_among.ensures.number c.number_among.ensures.never
    (subst (λ place. IsSomeAnd (slice_get tokens place) (λ token. c.token.result.now ≡ token.text))
    c.skip-place.ensures c.token.ensures)
    (rw c.in-Some.is at numbering)

pub returns-in-None : goal.returns-in-None
returns-in-None c = λ alphabet texts numbering.
    let tokens = c.args.text.now in
    own_number tokens texts c.args.at c.number.result
    (rw c.in-None.is at numbering)
    (subst (λ place. IsSomeAnd (slice_get tokens place)
    (λ token. slice_get (different_texts tokens) c.number.result ≡ Some token.text))
    c.skip-place.ensures c.number.ensures.place)
