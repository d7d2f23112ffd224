use Rattle.std.proofs.Common.{◌≡◌, false, true, refl}
use Rattle.std.proofs.lemmas.Option.{slice_get_read}
use Rattle.std.proofs.lemmas.Bool.{ltb-true, lt-ltb}
use Rattle.ux_dawg.proofs.StepLemmas.{next_at, next_past, next_never}
use Rattle.ux_dawg.proofs.pending.comes_next.Goals as goal

pub returns-in_default : goal.returns-in_default
returns-in_default c = (
  λ no. let e : false ≡ true = no in cc,
  λ less. absurd (next_never c.args.above.now c.args.word.now _ c.count_same-same.ensures
      c.in_default.ensures.lookup.3 less),
)

pub returns-in-Some-get : goal.returns-in-Some-get
returns-in-Some-get c =
    let frame = c.in-Some-get.ensures.lookup in
    let letter = c.in-Some.ensures.lookup in
    let next = next_at c.args.above.now c.args.word.now _ c.count_same-same.ensures _ _
    (slice_get_read c.args.above.now _ _ _ refl frame.3.0 frame.1)
    (slice_get_read c.args.word.now _ _ _ refl letter.3.0 letter.1) in
    (λ low. next.0 (ltb-true _ _ low), λ less. lt-ltb _ _ (next.1 less))

pub returns-in-None : goal.returns-in-None
returns-in-None c =
    let letter = c.in-Some.ensures.lookup in (
      λ yes. next_past c.args.above.now c.args.word.now _ c.count_same-same.ensures _
          c.in-None.ensures.lookup.3
          (slice_get_read c.args.word.now _ _ _ refl letter.3.0 letter.1),
      λ less. refl,
    )
