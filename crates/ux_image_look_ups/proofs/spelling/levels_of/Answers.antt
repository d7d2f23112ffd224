use Rattle.std.proofs.Common.{◌≡◌, ◌↔◌, List, ℕ, [], get_or, subst, arith, ◌∙◌}
use Rattle.std.specs.Prelude.{Contains}
use Rattle.std.proofs.lemmas.List.{get_or_default}
use Rattle.ux_alphabet.specs.Letters.{Letters}
use Rattle.ux_image_look_ups.specs.Steps.{GoesFrom}
use Rattle.ux_image_look_ups.proofs.SpellingLemmas.{levels-more}
use Rattle.ux_image_look_ups.proofs.spelling.levels_of.Goals as goal

pub loop-place-preserved : goal.loop-place-preserved
loop-place-preserved c =
    let states = c.args.states.now in
    let alphabet = c.args.alphabet.now in
    let text = c.args.text.now in
    let n = c.loop-place.place in
    let levels = c.loop-place.levels.items in
    let next = c.in_ok-next.next in
    let less = c.loop-place-test.true in
    let many = c.loop-place.invariant.many in
    let level = c.index.result.now in
    let here : level ≡ get_or levels n [] =
    c.index.ensures ∙ get_or_default levels n level [] (omega (arith, many)) in
    let letter : c.of-taken.result.c ≡ get_or text n 0 =
    c.of-taken.ensures.c ∙ c.index-text-place.is
    ∙ get_or_default text n c.index-text-place.result 0 less in
    levels-more states alphabet text levels c.requires.fit c.push-in-loop-place.new.self.items next n
    c.loop-place.invariant c.in_ok-push-2.ensures.items
    (subst (λ (l : List ℕ). (t : ℕ) → Contains next t ↔ GoesFrom states alphabet (get_or text n 0) l t)
    here
    (subst (λ k. (t : ℕ) → Contains next t ↔ GoesFrom states alphabet k level t) letter
    (subst (λ (a : Letters). (t : ℕ) →
    Contains next t ↔ GoesFrom states a c.of-taken.result.c level t) c.of-taken.ensures.alphabet
    c.in_ok-next.ensures)))
