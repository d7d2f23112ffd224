use lib.Pointwise.{bytes_decides}
use Rattle.std.proofs.Common.{arith, [], ◌∷◌, ◌++◌, ℕ, List, Some, sym, ◌∙◌, ap, length}
use Rattle.std.specs.Prelude.{◌==◌}
use Rattle.std.proofs.lemmas.Bool.{both_ways}
use Rattle.std.proofs.lemmas.Str.Pattern.{split_parts}
use Rattle.ux_dela.specs.Signs.{COMMA, DOT}
use Rattle.ux_sentence.specs.Written.{OPENING_BRACE, CLOSING_BRACE}
use Rattle.ux_reading_table.proofs.bare.bare_parts.Goals as goal

pub returns : goal.returns
returns c =
    let form = c.in_ok-form.form.now in
    let lemma = c.in_ok-lemma.lemma.now in
    let first = split_parts COMMA c.in_ok-body.body.now (Some (c.in_ok-form.form, c.in_ok-form.behind))
    c.in_ok-form.ensures.cases (omega arith) in
    let second = split_parts DOT c.in_ok-form.behind.now
    (Some (c.in_ok-lemma.lemma, c.in_ok-lemma.codes)) c.in_ok-lemma.ensures.cases (omega arith) in
    record {
      whole = c.in_ok-body.ensures
          ∙ ap (λ (body : List ℕ). OPENING_BRACE ∷ (body ++ CLOSING_BRACE ∷ []))
          (first.0 ∙ ap (λ (behind : List ℕ). form ++ COMMA ∷ behind) second.0);
      some = λ none. both_ways _ (sym c.is_empty.ensures ∙ c.if-is_empty.false)
          (ap (λ (text : List ℕ). length text == 0) none);
      other = λ same. both_ways _ (sym c.if-eq.ensures) ((bytes_decides lemma form).1 same);
      bare_form = sym c.if-has_special.ensures;
      bare_lemma = sym c.if-has_special-2.ensures;
    }
