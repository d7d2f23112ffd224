use Rattle.std.proofs.Common.{◌≡◌, ◌++◌, encode_utf8, sym, ◌∙◌}
use Rattle.std.proofs.lemmas.Str.{IsCharBoundary-start}
use Rattle.ux_tokens.proofs.FirstLemmas.{cut_char, letter_word}
use Rattle.ux_tokens.proofs.first.letter_len.Goals as goal

pub returns-then-is_letter-clause-cut : goal.returns-then-is_letter-clause-cut
returns-then-is_letter-clause-cut c =
    let text = c.args.text.now in
    let first : text ≡ encode_utf8 c.in-Some.c ++ c.next.new.self.rest.now =
    sym c.chars.ensures.rest ∙ c.in-Some.ensures.steps.0 in
    rw c.len_utf8.ensures.value
    (cut_char text c.next.new.self.rest.now c.in-Some.c c.utf8.text first)

pub returns-then-is_letter-clause-word : goal.returns-then-is_letter-clause-word
returns-then-is_letter-clause-word c = λ some.
    let text = c.args.text.now in
    let first : text ≡ encode_utf8 c.in-Some.c ++ c.next.new.self.rest.now =
    sym c.chars.ensures.rest ∙ c.in-Some.ensures.steps.0 in
    rw c.len_utf8.ensures.value
    (letter_word c.args.alphabet.now text c.next.new.self.rest.now c.in-Some.c c.utf8.text first
    (c.is_letter.ensures.0 c.if-is_letter.true))

pub returns-clause-cut : goal.returns-clause-cut
returns-clause-cut c = IsCharBoundary-start c.args.text.now c.utf8.text
