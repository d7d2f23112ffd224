use Rattle.std.proofs.Common.{◌≡◌, ◌<◌, ℕ, List, length, ap, subst, sym, ◌∙◌}
use Rattle.std.specs.Prelude.{MatchOption, Option, slice_get}
use Rattle.std.specs.Str.{chars}
use Rattle.std.proofs.lemmas.Option.{none-some}
use Rattle.ux_dawg.specs.Paths.{Accepts}
use Rattle.ux_dawg.specs.declared.state.State.{State}
use Rattle.ux_dict.specs.Forms.{count_of}
use Rattle.ux_image_lexicon.specs.Told.{read_in}
use Rattle.ux_image_lexicon.specs.declared.codes.ReadCode.{ReadCode}
use Rattle.ux_image_lexicon.specs.declared.codes.ReadList.{ReadList}
use Rattle.ux_image_lexicon.proofs.ExactLemmas.{exact_none, exact_some}
use Rattle.ux_image_lexicon.proofs.lexicon.ImageLexicon.exact.Goals as goal

pub returns-in_err-number : goal.returns-in_err-number
returns-in_err-number c =
    let coded = c.self.inside.coded in
    let text = c.args.form.now in
    let none = exact_none coded c.states.ensures.is text c.utf8.form (λ n path.
    none-some n (sym c.in_err-number.was ∙ (c.number_of.ensures n).1
    (subst (λ (l : List State). Accepts l (chars text) n) (sym c.states.ensures.value) path))) in
    subst (λ (o : Option ℕ). MatchOption o (count_of text c.args.self.now ≡ 0)
    (λ count. (count ≡ count_of text c.args.self.now) × (0 < count))) (sym c.from_residual.ensures)
    (ap (count_of text) (sym c.self.view_is) ∙ none)

pub returns : goal.returns
returns c =
    let coded = c.self.inside.coded in
    let text = c.args.form.now in
    let number = c.in_ok-number.number in
    let path = subst (λ (l : List State). Accepts l (chars text) number) c.states.ensures.value
    ((c.number_of.ensures number).0 c.in_ok-number.was) in
    let codes = length c.codes_at-codes.result.now in
    let many = ap (length {A = ReadCode}) (c.codes_at-codes.ensures
    ∙ ap (λ (l : List ReadList). read_in (slice_get l number)) c.lists.ensures) in
    let found = exact_some coded c.states.ensures.is text c.utf8.form c.self.inside.counts
    c.self.invariant.1 number path codes many in (
      c.of.ensures ∙ found.0 ∙ ap (count_of text) c.self.view_is,
      subst (λ n. 0 < n) (sym c.of.ensures) found.1,
    )
