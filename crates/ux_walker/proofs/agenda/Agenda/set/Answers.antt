use Rattle.std.proofs.Common.{List, sym, subst}
use Rattle.ux_walker.specs.declared.agenda.Visit.{Visit}
use Rattle.ux_walker.specs.Agendas.{IsAt, IsFalling, IsPlaceOf}
use Rattle.ux_walker.proofs.AgendaLemmas.{falling_inserted, falling_replaced, holds_inserted, holds_replaced}
use Rattle.ux_walker.proofs.agenda.Agenda.set.Goals as goal

pub invariant_of-self : goal.invariant_of-self
invariant_of-self c =
    let visits = c.self.inside.visits.items in
    let at = c.args.at in
    let place = c.place_of-place.result in
    let found = subst (λ (l : List Visit). IsPlaceOf l at place) c.deref.ensures.value
    c.place_of-place.ensures in
    let here = subst (λ (l : List Visit). IsAt l place at) c.deref-2.ensures.value
    (c.is_at.ensures.0 c.if-is_at.true) in
    falling_replaced visits place at c.self.invariant found here c.args.front

pub invariant_of-self-else-is_at : goal.invariant_of-self-else-is_at
invariant_of-self-else-is_at c =
    let visits = c.self.inside.visits.items in
    let at = c.args.at in
    let place = c.place_of-place.result in
    let found = subst (λ (l : List Visit). IsPlaceOf l at place) c.deref.ensures.value
    c.place_of-place.ensures in
    let not : IsAt visits place at → ⊥ = λ here.
    let yes = c.is_at.ensures.1
    (subst (λ (l : List Visit). IsAt l place at) (sym c.deref-2.ensures.value) here) in
    let no = c.if-is_at.false in
    cc in
    subst IsFalling (sym c.in_ok-insert.ensures.items)
    (falling_inserted visits place at c.self.invariant found not c.args.front)

pub returns-then-is_at : goal.returns-then-is_at
returns-then-is_at c =
    let visits = c.self.inside.visits.items in
    let at = c.args.at in
    let front = c.args.front in
    let place = c.place_of-place.result in
    let found = subst (λ (l : List Visit). IsPlaceOf l at place) c.deref.ensures.value
    c.place_of-place.ensures in
    let here = subst (λ (l : List Visit). IsAt l place at) c.deref-2.ensures.value
    (c.is_at.ensures.0 c.if-is_at.true) in
    λ visit.
    let holds = holds_replaced visits place at c.self.invariant found here front visit in
    rw (← c.self.view_is) holds

pub returns-in_ok-insert : goal.returns-in_ok-insert
returns-in_ok-insert c =
    let visits = c.self.inside.visits.items in
    let at = c.args.at in
    let front = c.args.front in
    let place = c.place_of-place.result in
    let found = subst (λ (l : List Visit). IsPlaceOf l at place) c.deref.ensures.value
    c.place_of-place.ensures in
    let not : IsAt visits place at → ⊥ = λ here.
    let yes = c.is_at.ensures.1
    (subst (λ (l : List Visit). IsAt l place at) (sym c.deref-2.ensures.value) here) in
    let no = c.if-is_at.false in
    cc in
    λ visit.
    let holds = holds_inserted visits place at c.self.invariant found not front visit in
    rw (c.in_ok-insert.ensures.items, ← c.self.view_is) holds
