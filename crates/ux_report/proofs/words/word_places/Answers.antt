use Rattle.std.proofs.Common.{◌∙◌, ◌+◌, List, ℕ, ap, subst, sym}
use Rattle.std.specs.Prelude.{Option}
use Rattle.std.proofs.lemmas.Bool.{false≢true}
use Rattle.ux_report.specs.Words.{AreWordPlacesUpTo}
use Rattle.ux_report.proofs.PlacesLemmas.{no-word, places-other, places-word, word-at}
use Rattle.ux_report.proofs.words.word_places.Goals as goal
use Rattle.ux_report.proofs.words.word_places.Goals.{then-is_word, else-is_word}

pub loop-place-preserved : goal.loop-place-preserved
loop-place-preserved c =
    let tokens = c.args.text.now in
    let place = c.loop-place.place in
    let before = c.loop-place.places.items in
    elim c.if-is_word.branch [
      | then-is_word w ↦
          subst (λ (l : List (Option ℕ)). AreWordPlacesUpTo tokens (place + 1) l)
          (sym (ap (λ v. v.items) w.places-is))
          (places-word tokens place before c.loop-place.invariant w.number.result
          w.number.ensures.below
          (word-at tokens w.number.result place c.is_word.result c.is_word.ensures
          w.number.ensures.place w.if-is_word.true))
      | else-is_word w ↦
          subst (λ (l : List (Option ℕ)). AreWordPlacesUpTo tokens (place + 1) l)
          (sym (ap (λ v. v.items) w.places-is))
          (places-other tokens place before c.loop-place.invariant
          (no-word tokens place c.is_word.result c.is_word.ensures
          (λ is. false≢true (sym w.if-is_word.false ∙ is))))
    ]
