use Rattle.std.proofs.Common.{ℕ, List, drop, sym, subst}
use Rattle.std.specs.Prelude.{MatchOption}
use Rattle.std.proofs.lemmas.Bool.{false≢true}
use Rattle.std.proofs.lemmas.Str.{IsUtf8-drop}
use Rattle.ux_tokens.specs.Tokens.{BeginsWithMark}
use Rattle.ux_tokens.specs.First.{IsFront, IsMarkFront}
use Rattle.ux_tokens.specs.Regions.{IsFree}
use Rattle.ux_tokens.proofs.MarksLemmas.{plain_front, other_or_mark}
use Rattle.ux_tokens.proofs.front.token_at.Goals as goal

pub mark_at-requires-clause-free : goal.mark_at-requires-clause-free
mark_at-requires-clause-free c =
    subst (λ (bytes : List ℕ). IsFree bytes c.args.start c.args.free.now)
    (sym c.as_bytes.ensures.value) c.requires.free

pub returns-then-eq-clause-front : goal.returns-then-eq-clause-front
returns-then-eq-clause-front c =
    let alphabet = c.args.alphabet.now in
    let start = c.args.start in
    let rest = drop start c.args.text.now in
    let kind = c.first_token-kind.result.0 in
    let len = c.first_token-kind.result.1 in
    let first = c.first_token-kind.ensures in
    let value = c.range_from.ensures.value in
    rw c.unwrap_or.ensures
    (other_or_mark alphabet c.mark_at.result rest kind len
    (IsUtf8-drop c.args.text.now start c.utf8.text c.requires.boundary)
    (subst (λ (bytes : List ℕ). MatchOption c.mark_at.result (BeginsWithMark (drop start bytes) → ⊥)
    (λ (kind, len). IsMarkFront (drop start bytes) kind len))
    c.as_bytes.ensures.value c.mark_at.ensures.exact)
    (λ none. subst (λ (bytes : List ℕ). IsFront alphabet bytes kind len) value
    (plain_front alphabet c.range_from.result.now kind len first.cut first.some first.is first.plain
    (λ other begins. none (subst BeginsWithMark value begins)))))

pub returns-then-eq-clause-free : goal.returns-then-eq-clause-free
returns-then-eq-clause-free c =
    subst (λ (bytes : List ℕ). IsFree bytes c.args.start c.mark_at.new.free)
    c.as_bytes.ensures.value c.mark_at.ensures.free

pub returns-clause-front : goal.returns-clause-front
returns-clause-front c =
    let alphabet = c.args.alphabet.now in
    let kind = c.first_token-kind.result.0 in
    let len = c.first_token-kind.result.1 in
    let first = c.first_token-kind.ensures in
    subst (λ (bytes : List ℕ). IsFront alphabet bytes kind len) c.range_from.ensures.value
    (plain_front alphabet c.range_from.result.now kind len first.cut first.some first.is first.plain
    (λ other. absurd (false≢true (rw other at c.if-eq.ensures))))
