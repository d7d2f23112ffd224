use Rattle.std.proofs.Common.{List, ℕ, subst}
use Rattle.std.proofs.lemmas.Result.{IfOk-weaker}
use Rattle.ux_alphabet.specs.Spans.{IsSwept}
use Rattle.ux_alphabet.proofs.SpanLemmas.{IsTableOf-swept}
use Rattle.ux_alphabet.proofs.spans.table_of.Goals as goal

pub returns : goal.returns
returns c =
    let spans = c.args.spans.now in
    let size = c.end_of-size.result in
    let reaches = c.in_ok-reaches.reaches.items in
    let are = c.in_ok-reaches.ensures in
    let below = c.end_of-size.ensures in
    IfOk-weaker c.swept.result _ _ (
    λ table swept.
    let of_reaches = subst (λ (r : List ℕ). IsSwept r table.items) c.deref.ensures.value swept in
    IsTableOf-swept spans reaches table.items size below are.reaches are.size of_reaches)
    c.swept.ensures
