use Rattle.std.proofs.Common.{◌≡◌, true, false, sym, ◌∙◌}
use Rattle.std.proofs.lemmas.Result.{on_ok_weaker}
use Rattle.ux_listing.proofs.PutLemmas.{comes_here}
use Rattle.ux_walk.proofs.Results.{on_any}
use Rattle.ux_listing.proofs.walking.put_item.Goals as goal

pub returns-then-not-is_led-clause-told : goal.returns-then-not-is_led-clause-told
returns-then-not-is_led-clause-told g c = λ i o h. h

pub returns-then-not-is_led-clause-adds : goal.returns-then-not-is_led-clause-adds
returns-then-not-is_led-clause-adds g c = c.in_ok-place.ensures.added.adds

pub returns-then-not-is_led-clause-seen : goal.returns-then-not-is_led-clause-seen
returns-then-not-is_led-clause-seen g c = (
  c.in_ok-place.ensures.added.has,
  λ led. absurd (
      let on = c.is_led.ensures led in
      let no : true ≡ false = sym on ∙ c.if-not-is_led.true in cc),
)

pub returns-clause-adds : goal.returns-clause-adds
returns-clause-adds g c = on_any c.note.result _ c.in_ok-place.ensures.added.adds

pub returns-clause-seen : goal.returns-clause-seen
returns-clause-seen g c = on_ok_weaker c.note.result (λ told. (
  c.in_ok-place.ensures.added.has,
  λ led. comes_here c.args.seen.now.keys c.number.new.set.keys
      (g.O.Origins.told c.note.new.self) c.args.from c.args.item c.args.origin c.in_ok-place.place
      c.in_ok-place.ensures.added c.requires.from c.in_ok-place.ensures.numbered told,
)) c.note.ensures.noted
