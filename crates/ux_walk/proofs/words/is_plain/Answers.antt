use Rattle.std.proofs.Common.{◌≡◌, [], ◌∙◌, All, List, ℕ, ap, arith, refl, subst, sym}
use Rattle.std.specs.Str.{IsUtf8, chars}
use Rattle.std.specs.Str.Iter.{chars_rest}
use Rattle.std.proofs.lemmas.List.{drop_all}
use Rattle.std.proofs.lemmas.List.Elements.{All-nil}
use Rattle.std.proofs.lemmas.Str.{IsUtf8-past_char, chars-nil}
use Rattle.ux_walk.specs.Literals.{IsPlainChar}
use Rattle.ux_walk.proofs.FittedLemmas.{all_turn}
use Rattle.ux_walk.proofs.words.is_plain.Goals as goal

pub loop-c-init : goal.loop-c-init
loop-c-init c =
    let start : chars_rest c.into_iter-c-iterator.result ≡ c.args.text.now =
    ap chars_rest c.into_iter-c-iterator.ensures.into_iter_gives ∙ c.chars-c-items.ensures.rest in
    record {
      whole = λ plain. subst (λ (bs : List ℕ). All (IsPlainChar c.args.alphabet.now) (chars bs))
          start plain;
      utf8 = subst IsUtf8 (sym start) c.utf8.text;
    }

pub loop-c-preserved : goal.loop-c-preserved
loop-c-preserved c = record {
  whole = all_turn (IsPlainChar c.args.alphabet.now)
      (All (IsPlainChar c.args.alphabet.now) (chars c.args.text.now))
      (chars_rest c.loop-c.c-iterator) (chars_rest c.next.new.self) c.in-Some.c
      c.loop-c.invariant.utf8 c.in-Some.ensures.steps.0 (c.if-not-is_plain_char.ensures refl)
      c.loop-c.invariant.whole;
  utf8 = IsUtf8-past_char _ _ c.in-Some.c c.loop-c.invariant.utf8 c.in-Some.ensures.steps.0;
}

pub returns : goal.returns
returns c _ =
    let rest = chars_rest c.loop-c.c-iterator in
    let no_rest : rest ≡ [] = drop_all 0 rest (omega (arith, c.in-None.ensures.steps.0.0)) in
    c.loop-c.invariant.whole (subst (All (IsPlainChar c.args.alphabet.now))
    (sym (ap chars no_rest ∙ chars-nil)) (All-nil (IsPlainChar c.args.alphabet.now)))
