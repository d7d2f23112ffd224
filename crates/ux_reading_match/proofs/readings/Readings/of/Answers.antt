use Rattle.std.proofs.Common.{arith, ◌≡◌, ◌+◌, ◌<◌, ◌∙◌, List, ℕ, [], ◌∷◌, ◌++◌, ap, subst, sym, get_or, length, map, take}
use Rattle.std.specs.Prelude.{All}
use Rattle.std.proofs.lemmas.List.{map-append}
use Rattle.std.proofs.lemmas.List.Elements.{All-push}
use Rattle.std.proofs.lemmas.Option.{get_or_from_slice_get, slice_get_within}
use Rattle.ux_base.proofs.Lists.{take_more}
use Rattle.ux_sentence.specs.declared.sentence.Reading.{Reading}
use Rattle.ux_sentence.specs.Readings.{IsSpellable}
use Rattle.ux_sentence.specs.Written.{reading_text}
use Rattle.ux_reading_match.proofs.readings.Readings.of.Goals as goal

pub loop-number-preserved : goal.loop-number-preserved
loop-number-preserved c =
    let reading = c.in_ok-reading.field-0 in
    let number = c.loop-number.number in
    let texts = c.args.table.now in
    let before = c.loop-number.readings.items in
    let put = c.in_ok-push.ensures.items in
    let text = c.in_ok-reading.ensures.text in
    let inside = slice_get_within texts number (reading_text reading) text in
    let here = get_or_from_slice_get texts number (reading_text reading) [] text in
    let more : take (number + 1) texts ≡ take number texts ++ reading_text reading ∷ [] =
    take_more texts number [] inside
    ∙ ap (λ (t : List ℕ). take number texts ++ t ∷ []) here in
    record {
      texts_are = ap (λ (rs : List Reading). map reading_text rs) put
          ∙ (map-append reading_text before (reading ∷ [])
          ∙ (ap (λ (ts : List (List ℕ)). ts ++ reading_text reading ∷ [])
          c.loop-number.invariant.texts_are ∙ sym more));
      spellable = subst (λ (rs : List Reading). All IsSpellable rs) (sym put)
          (All-push IsSpellable before reading c.loop-number.invariant.spellable
          c.in_ok-reading.ensures.spellable);
    }
