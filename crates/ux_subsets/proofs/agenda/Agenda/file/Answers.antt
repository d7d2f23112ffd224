use Rattle.std.proofs.Common.{arith, ◌≡◌, ◌+◌, ◌<◌, ◌∙◌, ◌++◌, ◌∷◌, [], ap, length}
use Rattle.ux_subsets.specs.Agenda.{filed_in}
use Rattle.ux_subsets.proofs.AgendaLemmas.{filed}
use Rattle.ux_subsets.proofs.agenda.Agenda.file.Goals as goal

pub returns-clause-filed : goal.returns-clause-filed
returns-clause-filed c = λ due.
    let one = c.args.waiting in
    let place = c.saturating_sub-place.result in
    let rows = c.pad.new.self.rows in
    let same = c.in_ok-pad.ensures.due in
    let is = c.saturating_sub-place.ensures in
    let at : one.set.first ≡ c.pad.new.self.due + place = omega (arith, due, same, is) in
    let inside = c.in_ok-pad.ensures.there in
    let ok = rows.ok.0 in
    let within : place < length rows.items = omega (arith, inside, ok) in
    filed c.pad.new.self.due (filed_in c.args.self.now) rows.items place c.push.new.self c.index_mut.result.now one at within c.in_ok-pad.ensures.same
    (c.in_ok-push.ensures.items ∙ ap (λ row. row.items ++ one ∷ []) c.index_mut.ensures.value)
