use Rattle.std.proofs.Common.{◌≡◌, [], ◌∙◌, ap, arith, refl}
use Rattle.std.proofs.lemmas.Grind.{common_steps}
use Rattle.std.specs.List.{AllZip}
use Rattle.std.specs.Str.{chars}
use Rattle.std.specs.Str.Iter.{chars_rest}
use Rattle.std.proofs.lemmas.List.{drop_all}
use Rattle.std.proofs.lemmas.Str.{IsUtf8-past_char, chars-nil}
use Rattle.ux_alphabet.specs.Letters.{Fits}
use Rattle.ux_reading_match.proofs.FittingLemmas.{fits_turn, fits_end}
use Rattle.ux_reading_match.proofs.spelling.fits_text.Goals as goal

pub loop-c-preserved : goal.loop-c-preserved
loop-c-preserved c = record {
  same = fits_turn (Fits c.args.alphabet.now)
      (AllZip (Fits c.args.alphabet.now) (chars c.args.entry.now) (chars c.args.text.now))
      (chars_rest c.loop-c.rest) (chars_rest c.next-in-loop-c.new.self)
      (chars_rest c.loop-c.c-iterator) (chars_rest c.next.new.self)
      c.in-Some-next.first c.in-Some.c c.loop-c.invariant.entry c.loop-c.invariant.text
      c.in-Some-next.ensures.steps.0 c.in-Some.ensures.steps.0
      (c.if-not-fits.ensures.0 refl) c.loop-c.invariant.same;
  entry = IsUtf8-past_char _ _ c.in-Some-next.first c.loop-c.invariant.entry
      c.in-Some-next.ensures.steps.0;
  text = IsUtf8-past_char _ _ c.in-Some.c c.loop-c.invariant.text c.in-Some.ensures.steps.0;
}

pub returns-in-None-next : goal.returns-in-None-next
returns-in-None-next c =
    let text = chars_rest c.loop-c.c-iterator in
    let entry = chars_rest c.loop-c.rest in
    let no_text : text ≡ [] = drop_all 0 text (omega (arith, c.in-None.ensures.steps.0.0)) in
    let no_entry : entry ≡ [] = drop_all 0 entry
    (omega (arith, c.in-None-next.ensures.steps.0.0)) in
    let end = fits_end (Fits c.args.alphabet.now)
    (AllZip (Fits c.args.alphabet.now) (chars c.args.entry.now) (chars c.args.text.now))
    entry text (ap chars no_text ∙ chars-nil) c.loop-c.invariant.same in
    (λ _. end.1 (ap chars no_entry ∙ chars-nil), λ _. refl)

pub loop-c-init : goal.loop-c-init
loop-c-init c = grind (arith, common_steps)
