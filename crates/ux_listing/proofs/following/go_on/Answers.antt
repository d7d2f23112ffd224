use Rattle.std.proofs.Common.{◌∷◌, [], ℕ, List, sym, subst}
use Rattle.std.specs.Prelude.{Contains}
use Rattle.std.proofs.lemmas.Result.{on_ok_weaker}
use Rattle.ux_outputs.specs.declared.event.Event.TheVariants.{Take}
use Rattle.ux_walk.specs.declared.matching.LabelMatch.{LabelMatch}
use Rattle.ux_walk.specs.declared.matching.LabelMatch.TheVariants as how
use Rattle.ux_listing.specs.Moves.{Only, goes}
use Rattle.ux_listing.specs.Walking.{Follows}
use Rattle.ux_listing.proofs.FollowsLemmas.{follows_as, follows_none}
use Rattle.ux_listing.proofs.MovesLemmas.{Matched, closed_makes, follows_matched}
use Rattle.ux_listing.proofs.following.go_on.Goals as goal

pub returns-in-Takes-clause-follows : goal.returns-in-Takes-clause-follows
returns-in-Takes-clause-follows g c = on_ok_weaker c.take.result (λ f setting m.
    let applies = g.C.Contexts.applies c.args.contexts.now in
    let marked = g.M.Marks.marked c.args.marks.now in
    let edge = c.args.edge.now in
    let config = c.args.config in
    follows_matched setting applies config.visit.graph edge.label edge.target config.at
    (g.F.Fold.next c.take.new.fold) marked config c.args.next.now.items c.take.new.next.items
    c.args.matched m
    (subst (λ (r : LabelMatch). Follows (g.F.Fold.next c.take.new.fold) marked config
    (Matched setting applies config.visit.graph edge.label edge.target config.at r)
    c.args.next.now.items c.take.new.next.items) (sym c.in-Takes.is) f)) c.take.ensures.follows

pub returns-in-Spans-clause-follows : goal.returns-in-Spans-clause-follows
returns-in-Spans-clause-follows g c = on_ok_weaker c.take_each.result (λ f setting m.
    let applies = g.C.Contexts.applies c.args.contexts.now in
    let marked = g.M.Marks.marked c.args.marks.now in
    let edge = c.args.edge.now in
    let config = c.args.config in
    follows_matched setting applies config.visit.graph edge.label edge.target config.at
    (g.F.Fold.next c.take_each.new.fold) marked config c.args.next.now.items
    c.take_each.new.next.items c.args.matched m
    (subst (λ (r : LabelMatch). Follows (g.F.Fold.next c.take_each.new.fold) marked config
    (Matched setting applies config.visit.graph edge.label edge.target config.at r)
    c.args.next.now.items c.take_each.new.next.items) (sym c.in-Spans.is)
    (subst (λ (l : List ℕ). Follows (g.F.Fold.next c.take_each.new.fold) marked config
    (λ move events. (k : ℕ) × Contains l k
    × Only (goes edge.target k) (Take config.at k ∷ []) move events)
    c.args.next.now.items c.take_each.new.next.items) c.as_slice.ensures.value f)))
    c.take_each.ensures.follows

pub returns-in-Stays-clause-follows : goal.returns-in-Stays-clause-follows
returns-in-Stays-clause-follows g c = on_ok_weaker c.pass.result (λ f setting m.
    let applies = g.C.Contexts.applies c.args.contexts.now in
    let marked = g.M.Marks.marked c.args.marks.now in
    let edge = c.args.edge.now in
    let config = c.args.config in
    follows_matched setting applies config.visit.graph edge.label edge.target config.at
    (g.F.Fold.next c.pass.new.fold) marked config c.args.next.now.items c.pass.new.next.items
    c.args.matched m
    (subst (λ (r : LabelMatch). Follows (g.F.Fold.next c.pass.new.fold) marked config
    (Matched setting applies config.visit.graph edge.label edge.target config.at r)
    c.args.next.now.items c.pass.new.next.items) (sym c.in-Stays.is) f)) c.pass.ensures.follows

pub returns-in-Calls-clause-follows : goal.returns-in-Calls-clause-follows
returns-in-Calls-clause-follows g c = on_ok_weaker c.call.result (λ f setting m.
    let applies = g.C.Contexts.applies c.args.contexts.now in
    let marked = g.M.Marks.marked c.args.marks.now in
    let edge = c.args.edge.now in
    let config = c.args.config in
    follows_matched setting applies config.visit.graph edge.label edge.target config.at
    (g.F.Fold.next c.args.fold.now) marked config c.args.next.now.items c.call.new.next.items
    c.args.matched m
    (subst (λ (r : LabelMatch). Follows (g.F.Fold.next c.args.fold.now) marked config
    (Matched setting applies config.visit.graph edge.label edge.target config.at r)
    c.args.next.now.items c.call.new.next.items) (sym c.in-Calls.is) f)) c.call.ensures

pub returns-in-Opens-clause-follows : goal.returns-in-Opens-clause-follows
returns-in-Opens-clause-follows g c = on_ok_weaker c.close_each.result (λ f setting m.
    let applies = g.C.Contexts.applies c.args.contexts.now in
    let marked = g.M.Marks.marked c.args.marks.now in
    let edge = c.args.edge.now in
    let config = c.args.config in
    let next = g.F.Fold.next c.args.fold.now in
    let closers = c.closers-closers.result.now in
    follows_matched setting applies config.visit.graph edge.label edge.target config.at
    next marked config c.args.next.now.items c.close_each.new.next.items
    c.args.matched m
    (subst (λ (r : LabelMatch). Follows next marked config
    (Matched setting applies config.visit.graph edge.label edge.target config.at r)
    c.args.next.now.items c.close_each.new.next.items) (sym c.in-Opens.is)
    (follows_as marked config next
    (λ move events. (b : ℕ) × Contains closers b × Only (goes b config.at) [] move events)
    (Matched setting applies config.visit.graph edge.label edge.target config.at how.Opens)
    c.args.next.now.items c.close_each.new.next.items
    (λ move events t. (t.0, (c.closers-closers.ensures t.0).0 t.1, t.2))
    (λ move events t. (t.0, (c.closers-closers.ensures t.0).1 t.1, t.2)) f)))
    c.close_each.ensures

pub returns-in-Closed-clause-follows : goal.returns-in-Closed-clause-follows
returns-in-Closed-clause-follows g c = λ setting m.
    let config = c.args.config in
    let edge = c.args.edge.now in
    follows_none (g.M.Marks.marked c.args.marks.now) config (g.F.Fold.next c.args.fold.now) _
    c.args.next.now.items
    (closed_makes setting (g.C.Contexts.applies c.args.contexts.now) config.visit.graph edge.label
    edge.target config.at c.args.matched m c.in-Closed.is)
