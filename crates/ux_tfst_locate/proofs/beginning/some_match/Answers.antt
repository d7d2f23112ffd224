use Rattle.std.proofs.Common.{arith, ◌∙◌, ◌≡◌, List, ap, get_or, inl, inr, refl, subst, sym}
use Rattle.std.specs.Prelude.{Contains, Some, slice_get}
use Rattle.std.proofs.lemmas.Bool.{false≢true}
use Rattle.std.proofs.lemmas.List.{get_or_default}
use Rattle.std.proofs.lemmas.Option.{same_Some, slice_get-get_or}
use Rattle.ux_base.proofs.Lists.{less_or}
use Rattle.ux_reading_match.specs.Readings.{MatchesNumber}
use Rattle.ux_tfst_locate.specs.declared.lattice.Arc.{Arc}
use Rattle.ux_tfst_locate.proofs.beginning.some_match.Goals as goal

abbrev none : Arc
none = record { from = 0; to = 0; reading = 0 }

pub loop-arc-preserved : goal.loop-arc-preserved
loop-arc-preserved c = λ m arc low found so.
    let row = c.row-row.result.now in
    let n = c.loop-arc.arc-index in
    elim (less_or m n) [
      | inl l ↦ c.loop-arc.invariant m arc l found so
      | inr past ↦
          let e : m ≡ n = omega (arith, past, low) in
          let here = slice_get-get_or row n none c.loop-arc-test.true in
          let same = same_Some arc (get_or row n none)
          (sym found ∙ (ap (λ k. slice_get row k) e ∙ here)) in
          false≢true (sym c.if-matches.false ∙ c.matches.ensures.1
          (subst (λ (a : Arc). MatchesNumber c.args.basis.now.alphabet.now
          c.args.basis.now.readings.now c.args.label.now a.reading) same so))
    ]

pub returns-then-matches : goal.returns-then-matches
returns-then-matches c =
    let row = c.row-row.result.now in
    let n = c.loop-arc.arc-index in
    let arc = get_or row n none in
    let inside : Contains row arc =
    (n, c.loop-arc-test.true, get_or_default row n arc none c.loop-arc-test.true) in (
      λ t. (
        arc.to,
        (
          arc,
          subst (λ (l : List Arc). Contains l arc) c.row-row.ensures inside,
          refl,
          c.matches.ensures.0 c.if-matches.true,
        ),
      ),
      λ h. refl,
    )

pub returns : goal.returns
returns c = (
  λ t. cc,
  λ (k, (arc, has, to, so)).
      let row = c.row-row.result.now in
      let (n, inside, is) = subst (λ (l : List Arc). Contains l arc) (sym c.row-row.ensures) has in
      absurd (c.loop-arc.invariant n arc (omega (arith, inside, c.loop-arc-test.false))
      (slice_get-get_or row n arc inside ∙ ap Some is) so),
)
