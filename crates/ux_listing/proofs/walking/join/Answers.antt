use Rattle.std.proofs.Common.{◌≡◌, ◌∙◌, true, false, subst, sym}
use Rattle.std.proofs.lemmas.Option.{none-some}
use Rattle.ux_listing.proofs.GoingLemmas.{on_two}
use Rattle.ux_listing.proofs.PutLemmas.{joins_here, joins_nowhere, joins_unmarked}
use Rattle.ux_listing.proofs.walking.join.Goals as goal

pub returns-in_default-clause-joined : goal.returns-in_default-clause-joined
returns-in_default-clause-joined g c = joins_nowhere (g.M.Marks.marked c.args.marks.now) c.args.waits
    c.args.end c.args.seen.now.keys (g.O.Origins.told c.args.origins.now)
    (λ r f at at'. none-some r (sym c.in_default.is ∙ (c.waiting_at.ensures r).1 at))

pub returns-in_default-found_at-clause-joined : goal.returns-in_default-found_at-clause-joined
returns-in_default-found_at-clause-joined g c = joins_nowhere (g.M.Marks.marked c.args.marks.now) c.args.waits
    c.args.end c.args.seen.now.keys (g.O.Origins.told c.args.origins.now)
    (λ r f at at'. none-some f (sym c.in_default-found_at.is ∙ (c.found_at.ensures f).1 at'))

pub returns-then-not-has-clause-joined : goal.returns-then-not-has-clause-joined
returns-then-not-has-clause-joined g c = joins_unmarked (g.M.Marks.marked c.args.marks.now)
    c.args.waits c.args.end c.args.seen.now.keys (g.O.Origins.told c.args.origins.now)
    c.in-Some.waiting c.in-Some-found_at.found ((c.waiting_at.ensures c.in-Some.waiting).0 c.in-Some.is)
    ((c.found_at.ensures c.in-Some-found_at.found).0 c.in-Some-found_at.is)
    (λ m. absurd (let on = c.has.ensures.1
    (subst (g.M.Marks.marked c.args.marks.now) (sym c.mark_of.ensures) m) in
    let no : true ≡ false = sym on ∙ c.if-not-has.true in cc))

pub returns-clause-joined : goal.returns-clause-joined
returns-clause-joined g c = on_two c.note-2.result (λ kept noted.
    joins_here (g.M.Marks.marked c.args.marks.now) c.args.waits c.args.end c.args.seen.now.keys
    (g.O.Origins.told c.note-2.new.self) c.in-Some.waiting c.in-Some-found_at.found
    ((c.waiting_at.ensures c.in-Some.waiting).0 c.in-Some.is)
    ((c.found_at.ensures c.in-Some-found_at.found).0 c.in-Some-found_at.is)
    c.number.new.set.keys c.in_ok-place.place c.in_ok-place.ensures.added
    c.in_ok-place.ensures.numbered (kept c.in_ok-place.place c.args.waits c.in_ok-note.ensures.noted)
    noted) c.note-2.ensures.kept c.note-2.ensures.noted
