use Rattle.std.proofs.Common.{ℕ, List, subst}
use Rattle.std.specs.Prelude.{◌↔◌, Contains}
use Rattle.std.proofs.lemmas.Result.{err_from_is_err_and}
use Rattle.ux_cmd_morpho.specs.Files.{IsBadIn, IsLineIn}
use Rattle.ux_cmd_morpho.proofs.GoingLemmas.{adds_appended, text_at, word_stops, word_text}
use Rattle.ux_cmd_morpho.proofs.words.add_lines.Goals as goal

pub lines_of-requires : goal.lines_of-requires
lines_of-requires c = record {
  analyser = c.requires.analyser;
  few = λ many. c.requires.short (
    c.token.result.now,
    (
      c.args.place,
      text_at c.args.files.now.text c.args.place c.token.result.now c.requires.word.0
          c.token.ensures c.requires.word.1,
    ),
    many,
  );
}

pub returns-in_err-more-clause-err : goal.returns-in_err-more-clause-err
returns-in_err-more-clause-err c =
    let p = err_from_is_err_and c.from_residual.result c.from_residual.ensures.1 in
    let files = c.args.files.now in
    let text = c.token.result.now in
    rw (p.1, p.2) (word_stops files.text (IsBadIn files) c.args.graph.now text c.args.place
    c.in_err-more.field-0.0
    (text_at files.text c.args.place text c.requires.word.0 c.token.ensures c.requires.word.1)
    c.in_err-more.ensures.err)

pub returns-clause-lines : goal.returns-clause-lines
returns-clause-lines c word at =
    let files = c.args.files.now in
    let more = c.in_ok-more.more.items in
    let same = word_text files.text c.args.place c.token.result.now word c.token.ensures at in
    adds_appended (IsLineIn files word) c.args.lines.now.items more c.append.new.self.items
    c.in_ok-append.ensures.items
    (subst (λ (w : List ℕ). (line : List ℕ) → Contains more line ↔ IsLineIn files w line) same
    c.in_ok-more.ensures.lines)

pub returns-clause-good : goal.returns-clause-good
returns-clause-good c word at =
    let files = c.args.files.now in
    subst (λ (w : List ℕ). IsBadIn files w → ⊥)
    (word_text files.text c.args.place c.token.result.now word c.token.ensures at)
    c.in_ok-more.ensures.good
