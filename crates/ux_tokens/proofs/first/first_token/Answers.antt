use Rattle.std.proofs.Common.{◌≡◌, ℕ, ◌++◌, encode_utf8, sym, ◌∙◌, subst, arith}
use Rattle.std.proofs.lemmas.Grind.{common_steps}
use Rattle.std.specs.Char.{len_utf8}
use Rattle.std.specs.Str.{IsCharBoundary}
use Rattle.ux_tokens.specs.First.{BeginsWithNoLetter, IsFirstToken}
use Rattle.ux_tokens.specs.declared.kind.Kind.TheVariants.{Other}
use Rattle.ux_tokens.proofs.FirstLemmas.{cut_char, other_first}
use Rattle.ux_tokens.proofs.first.first_token.Goals as goal

pub returns-in-Some-eq32-clause-cut : goal.returns-in-Some-eq32-clause-cut
returns-in-Some-eq32-clause-cut c =
    let text = c.args.text.now in
    let first : text ≡ encode_utf8 c.in-Some-eq32.field-0 ++ c.next.new.self.rest.now =
    sym c.chars.ensures.rest ∙ c.in-Some-eq32.ensures.steps.0 in
    let space : c.in-Some-eq32.field-0 ≡ 32 = omega arith in
    subst (λ (char : ℕ). IsCharBoundary text (len_utf8 char)) space
    (cut_char text c.next.new.self.rest.now c.in-Some-eq32.field-0 c.utf8.text first)

pub returns-in-Some-clause-cut : goal.returns-in-Some-clause-cut
returns-in-Some-clause-cut c =
    let text = c.args.text.now in
    let first : text ≡ encode_utf8 c.in-Some.c ++ c.next.new.self.rest.now =
    sym c.chars.ensures.rest ∙ c.in-Some.ensures.steps.0 in
    rw c.len_utf8.ensures.value (cut_char text c.next.new.self.rest.now c.in-Some.c c.utf8.text
    first)

pub returns-in-Some-clause-is : goal.returns-in-Some-clause-is
returns-in-Some-clause-is c =
    let text = c.args.text.now in
    let first : text ≡ encode_utf8 c.in-Some.c ++ c.next.new.self.rest.now =
    sym c.chars.ensures.rest ∙ c.in-Some.ensures.steps.0 in
    let other : BeginsWithNoLetter c.args.alphabet.now text =
    c.word_len-word.ensures.none (omega arith) in
    subst (IsFirstToken c.args.alphabet.now text Other) (sym c.len_utf8.ensures.value)
    (other_first c.args.alphabet.now text c.next.new.self.rest.now c.in-Some.c c.utf8.text first
    other c.in-Some.c-test.1)

pub returns-then-word-gt0-clause-is : goal.returns-then-word-gt0-clause-is
returns-then-word-gt0-clause-is c = c.word_len-word.ensures.word (omega arith)

pub returns-in-Some-eq32-clause-is : goal.returns-in-Some-eq32-clause-is
returns-in-Some-eq32-clause-is c = grind (arith, common_steps)
