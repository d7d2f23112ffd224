use Rattle.std.proofs.Common.{ℕ, List, drop, refl, sym, subst, arith}
use Rattle.std.proofs.lemmas.Grind.{common_steps}
use Rattle.ux_tokens.specs.Known.{AreKnown}
use Rattle.ux_tokens.specs.Numbers.{texts_in}
use Rattle.ux_tokens.proofs.ListingLemmas.{counted_start, counted_next, counted_more, counted_whole, few_texts}
use Rattle.ux_tokens.proofs.MarksLemmas.{free_later}
use Rattle.ux_tokens.proofs.NumbersLemmas.{length-texts_in}
use Rattle.ux_tokens.proofs.listing.add_tokens.Goals as goal

pub loop-end-init : goal.loop-end-init
loop-end-init c = record {
  counted = rw c.requires.none (counted_start c.args.alphabet.now c.args.text.now c.utf8.text);
  known =
      subst (λ (l : List (List ℕ)). AreKnown l c.args.known.now) (sym c.requires.none)
      c.requires.known;
  free = λ k low high tag. omega (arith, high);
}

pub returns-then-count-eq-MAX_TOKENS-clause-err : goal.returns-then-count-eq-MAX_TOKENS-clause-err
returns-then-count-eq-MAX_TOKENS-clause-err c =
    counted_more c.args.alphabet.now c.args.text.now c.utf8.text
    c.loop-end.end c.loop-end.count (texts_in c.loop-end.texts) c.loop-end.invariant.counted
    (omega arith) (omega arith)

pub number_front-requires-clause-room : goal.number_front-requires-clause-room
number_front-requires-clause-room c =
    let keys = length-texts_in c.loop-end.texts in
    let fewer = few_texts c.args.alphabet.now c.args.text.now c.loop-end.end c.loop-end.count
    (texts_in c.loop-end.texts) c.loop-end.invariant.counted in
    let few = c.loop-end.invariant.counted.few in
    omega (arith, keys, fewer, few)

pub loop-end-preserved : goal.loop-end-preserved
loop-end-preserved c =
    let few = c.loop-end.invariant.counted.few in
    let front = c.in_ok-front.ensures in
    record {
      counted =
          counted_next c.args.alphabet.now c.args.text.now c.utf8.text
          c.loop-end.end c.loop-end.count (texts_in c.loop-end.texts)
          (texts_in c.number_front.new.numbers) (drop c.loop-end.end c.args.text.now) c.in_ok-front.front
          c.loop-end.invariant.counted (omega (arith, few)) refl
          front.front front.texts front.place;
      known = front.known;
      free = free_later c.args.text.now c.loop-end.end _ c.number_front.new.free (omega arith)
          front.free;
    }

pub returns-clause-ok : goal.returns-clause-ok
returns-clause-ok c =
    counted_whole c.args.alphabet.now c.args.text.now c.loop-end.end c.loop-end.count
    (texts_in c.loop-end.texts) c.loop-end.invariant.counted (omega arith)

pub overflow_add-end : goal.overflow_add-end
overflow_add-end c = grind (arith, common_steps)
