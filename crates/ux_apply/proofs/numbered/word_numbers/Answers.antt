use Rattle.std.proofs.Common.{List, arith, subst}
use Rattle.std.specs.List.{AllZip}
use Rattle.std.proofs.lemmas.List.{take_all}
use Rattle.ux_tokens.specs.Tokens.{Token}
use Rattle.ux_apply.specs.Kept.{IsWordNumber}
use Rattle.ux_apply.proofs.UnknownLemmas.{few_words, words-more}
use Rattle.ux_apply.proofs.numbered.word_numbers.Goals as goal

pub push-requires : goal.push-requires
push-requires c =
    few_words c.args.text.now (omega arith) c.word_number.result c.word_number.ensures.below

pub loop-place-preserved : goal.loop-place-preserved
loop-place-preserved c =
    words-more c.args.text.now c.loop-place.place c.loop-place.words
    c.push.new.self c.word_number.result c.word_number.ensures.number c.loop-place.invariant
    c.in_ok-push.ensures

pub returns : goal.returns
returns c =
    subst
    (λ (l : List Token). AllZip (IsWordNumber c.args.text.now) l c.loop-place.words)
    (take_all c.loop-place.place c.args.text.now (omega arith)) c.loop-place.invariant
