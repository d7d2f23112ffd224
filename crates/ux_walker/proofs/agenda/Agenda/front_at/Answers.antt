use Rattle.std.proofs.Common.{List, sym, subst}
use Rattle.ux_walker.specs.declared.agenda.Visit.{Visit}
use Rattle.ux_walker.specs.Agendas.{IsAt, IsFree, IsPlaceOf, Waits}
use Rattle.ux_walker.proofs.AgendaLemmas.{free, waits_at}
use Rattle.ux_walker.proofs.agenda.Agenda.front_at.Goals as goal

pub returns-else-is_at : goal.returns-else-is_at
returns-else-is_at c =
    let visits = c.self.inside.visits.items in
    let at = c.args.at in
    let place = c.place_of-place.result in
    let found = subst (λ (l : List Visit). IsPlaceOf l at place) c.deref.ensures.value
    c.place_of-place.ensures in
    subst (λ (l : List Visit). IsFree l at) c.self.view_is
    (free visits place at c.self.invariant found
    (λ here.
    let yes = c.is_at.ensures.1
    (subst (λ (l : List Visit). IsAt l place at) (sym c.deref-2.ensures.value) here) in
    let no = c.if-is_at.false in
    cc))

pub returns-then-is_at : goal.returns-then-is_at
returns-then-is_at c =
    let visits = c.self.inside.visits.items in
    let at = c.args.at in
    let place = c.place_of-place.result in
    let here = subst (λ (l : List Visit). IsAt l place at) c.deref-2.ensures.value
    (c.is_at.ensures.0 c.if-is_at.true) in
    let seen = c.index.result.now in
    subst (λ (l : List Visit). Waits l at seen.front) c.self.view_is
    (waits_at visits place at seen c.self.invariant here c.index.ensures)
