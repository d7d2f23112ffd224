use Rattle.std.proofs.Common.{sym, ◌∙◌}
use Rattle.std.proofs.lemmas.Bool.{false≢true}
use Rattle.ux_tokens.proofs.FirstLemmas.{run_first}
use Rattle.ux_tokens.proofs.first.word_len.Goals as goal

pub returns-then-single-clause-word : goal.returns-then-single-clause-word
returns-then-single-clause-word c = λ some. record {
  is = c.letter_len.ensures.word some;
  longest = λ runs word. absurd (false≢true (sym runs ∙ (sym c.single.ensures ∙ c.if-single.true)));
}

pub returns-clause-word : goal.returns-clause-word
returns-clause-word c = λ some.
    run_first c.args.alphabet.now c.args.text.now c.run_len.result c.utf8.text
    (sym c.single.ensures ∙ c.if-single.false) c.run_len.ensures.cut c.run_len.ensures.letters
    c.run_len.ensures.ends some

pub returns-clause-none : goal.returns-clause-none
returns-clause-none c = λ none.
    rw none at c.run_len.ensures.ends
