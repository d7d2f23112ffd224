use Rattle.std.proofs.Common.{◌≡◌, ◌∙◌, ap, subst, [], ◌∷◌, ◌++◌, false, true, arith}
use Rattle.std.proofs.lemmas.Grind.{common_steps}
use Rattle.ux_grf.specs.Numbers.{is_number, value_of}
use Rattle.ux_grf.proofs.BoxLineLemmas.{all_more, values_more, numbers_in-bad, texts, texts_inside, texts_at}
use Rattle.ux_grf.proofs.box_line.read_numbers.Goals as goal

pub returns-in-None : goal.returns-in-None
returns-in-None c =
    let words = c.args.words.now in
    let i = c.loop-word.word-index in
    let lt = c.loop-word-test.true in
    let is = c.as_bytes.ensures.value ∙ texts_at words i _ lt in
    numbers_in-bad (texts words) i (texts_inside words i lt)
    (subst (λ w. is_number w ≡ false) is c.in-None.ensures.none)

pub loop-word-preserved : goal.loop-word-preserved
loop-word-preserved c =
    let words = c.args.words.now in
    let i = c.loop-word.word-index in
    let lt = c.loop-word-test.true in
    let inside = texts_inside words i lt in
    let is = c.as_bytes.ensures.value ∙ texts_at words i _ lt in
    let number = subst (λ w. is_number w ≡ true) is c.in-Some.ensures.some in
    let value = c.in-Some.ensures.value ∙ ap value_of is in (
      all_more (texts words) i inside c.loop-word.invariant.0 number,
      values_more
          (texts words) i inside c.loop-word.values.items c.push.new.self.items
          c.loop-word.invariant.1
          (c.in_ok-push-in-Some.ensures.items ∙ ap (λ v. c.loop-word.values.items ++ v ∷ []) value),
    )

pub returns : goal.returns
returns c = grind (arith, common_steps)
