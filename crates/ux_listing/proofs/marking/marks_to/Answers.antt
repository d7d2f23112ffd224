use Rattle.std.proofs.Common.{List, ℕ, subst}
use Rattle.std.specs.Prelude.{Contains}
use Rattle.ux_walk.specs.Settings.{masked_setting}
use Rattle.ux_listing.specs.Marking.{AreEndsMarked}
use Rattle.ux_listing.proofs.MarkingLemmas.{closed_complete}
use Rattle.ux_listing.proofs.marking.marks_to.Goals as goal

pub walk-requires-clause-known : goal.walk-requires-clause-known
walk-requires-clause-known g c = (tt, tt)

pub returns-clause-complete : goal.returns-clause-complete
returns-clause-complete g c = closed_complete _ (λ s e r h. h) (masked_setting c.args.masked.now)
    (g.C.Contexts.applies c.args.contexts.now) _ c.args.start c.in_ok-seen.seen.keys _
    c.in_ok-seen.ensures.walked c.in_ok-seen.ensures.once (Contains c.args.ends)
    c.in_ok-marked.marked.keys
    (subst (λ (l : List ℕ). AreEndsMarked c.in_ok-seen.seen.keys (Contains l) c.args.start
    c.in_ok-marked.marked.keys) c.as_slice.ensures c.in_ok-marked.ensures.ends)
    c.in_ok-marked.ensures.closed
