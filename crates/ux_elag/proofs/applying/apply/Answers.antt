use Rattle.std.proofs.Common.{List, ℕ, length, sym, subst}
use Rattle.std.specs.Prelude.{All}
use Rattle.std.proofs.lemmas.Result.{IfOk-weaker}
use Rattle.ux_sentence.specs.declared.sentence.Reading.{Reading}
use Rattle.ux_sentence.specs.declared.sentence.Sentence.{Sentence}
use Rattle.ux_sentence.specs.Paths.{IsWellFormed}
use Rattle.ux_sentence.specs.Valid.{HasSpellable}
use Rattle.ux_elag.specs.Numbers.{AreBelow, HaveTexts, sentence_of}
use Rattle.ux_elag.proofs.LeaveLemmas.{formed-named, named-spellable}
use Rattle.ux_elag.proofs.applying.apply.Goals as goal

pub leave-requires-clause-formed : goal.leave-requires-clause-formed
leave-requires-clause-formed c =
    let numbered = c.in_ok-texts.field-0 in
    formed-named numbered.readings.items numbered.sentence
    (subst IsWellFormed c.in_ok-texts.ensures.is c.requires.formed)

pub leave-requires-clause-texts : goal.leave-requires-clause-texts
leave-requires-clause-texts c =
    let numbered = c.in_ok-texts.field-0 in
    subst (λ (ts : List (List ℕ)). HaveTexts ts c.as_slice-2.result.now)
    (sym c.as_slice.ensures.value)
    (subst (HaveTexts numbered.texts.items) (sym c.as_slice-2.ensures.value)
    c.in_ok-texts.ensures.texts_are)

pub returns-clause-spellable : goal.returns-clause-spellable
returns-clause-spellable c =
    let readings = c.in_ok-texts.field-0.readings.items in
    let left = c.in_ok-left.left in
    let slice = c.as_slice-3.ensures.value in
    IfOk-weaker c.named_sentence.result _ _
    (λ new is. subst (λ (s : Sentence). All HasSpellable s.links) (sym is)
    (subst (λ (rs : List Reading). All HasSpellable (sentence_of rs left).links) (sym slice)
    (named-spellable readings left.links.items c.in_ok-texts.ensures.are_readings
    (subst (λ (rs : List Reading). AreBelow (length rs) left.links.items) c.as_slice-2.ensures.value
    c.in_ok-left.ensures.below)))) c.named_sentence.ensures
