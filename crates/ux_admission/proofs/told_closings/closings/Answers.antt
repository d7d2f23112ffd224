use Rattle.std.proofs.Common.{◌+◌, ◌++◌, List, [], ℕ, get_or, cond, ◌∙◌, ap}
use Rattle.ux_admission.specs.ToldClosings.{is_refused, closing_from, closings_at}
use Rattle.ux_base.proofs.JoinedLists.{adds_list}
use Rattle.ux_admission.proofs.told_closings.closings.Goals as goal

pub loop-place-preserved : goal.loop-place-preserved
loop-place-preserved c =
    let places = c.args.places.now in
    let stands = c.args.stands.now in
    let place = c.loop-place.place in
    adds_list (closings_at (λ p. get_or stands p 0) places (λ p. get_or c.args.closers.now (c.args.before + p) [])) []
    c.loop-place.list.items c.push_closing.new.list.items place c.loop-place.invariant
    (c.in_ok-push_closing.ensures
    ∙ ap (λ (row : List ℕ).
    c.loop-place.list.items ++ cond (is_refused places place) (closing_from (λ p. get_or stands p 0) place row) [])
    c.row_at-row.ensures)
