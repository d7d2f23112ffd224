use Rattle.std.proofs.Common.{◌≡◌, ◌++◌, ◌+◌, ◌∙◌, List, ℕ, ap, arith, subst}
use Rattle.std.specs.Prelude.{slice_range}
use Rattle.std.proofs.lemmas.Result.{IfOk-weaker}
use Rattle.ux_tokens.specs.Tokens.{joined}
use Rattle.ux_lexical_tables.specs.Spans.{text_of}
use Rattle.ux_apply.specs.Cursors.{AreReachedBy}
use Rattle.ux_apply.proofs.SpanLemmas.{joined-on}
use Rattle.ux_apply.proofs.compounds.go_on_to.Goals as goal

pub returns : goal.returns
returns c =
    let tokens = c.args.text.now in
    let next = c.args.next in
    let last = c.args.last in
    IfOk-weaker c.go_on.result _ _
    (λ all goes dics first from led.
    let front = joined (slice_range tokens first next) in
    let whole : front ++ c.slice.result.now ≡ text_of tokens first last =
    ap (λ (t : List ℕ). front ++ t) c.slice.ensures
    ∙ joined-on tokens first next (last + 1) from (omega (arith, c.requires.in_order)) in
    subst (λ (t : List ℕ). AreReachedBy c.args.alphabet.now dics t all.items) whole (goes dics front led))
    c.go_on.ensures
