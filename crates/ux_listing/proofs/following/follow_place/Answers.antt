use Rattle.std.proofs.Common.{◌∙◌, sym, subst}
use Rattle.std.proofs.lemmas.Option.{same_Some, none-some}
use Rattle.std.proofs.lemmas.Result.{on_ok_weaker}
use Rattle.ux_base.proofs.FirstsLemmas.{Contains-from_place}
use Rattle.ux_net.specs.declared.state.Edge.{Edge}
use Rattle.ux_mask_table.proofs.KnownLabels.{edge_known}
use Rattle.ux_walk.specs.Settings.{masked_setting}
use Rattle.ux_listing.specs.Moves.{Crosses, CrossesAt}
use Rattle.ux_listing.proofs.FollowsLemmas.{follows_as, follows_none, grows_none}
use Rattle.ux_listing.proofs.following.follow_place.Goals as goal

pub follow-requires-clause-known_label : goal.follow-requires-clause-known_label
follow-requires-clause-known_label g c =
    edge_known c.args.masked.now c.args.edges.now c.in-Some.edge.now c.requires.known_edges
    (Contains-from_place c.args.edges.now c.args.place c.in-Some.edge.now (sym c.in-Some.ensures))

pub follow-requires-clause-asked : goal.follow-requires-clause-asked
follow-requires-clause-asked g c = c.requires.asked c.in-Some.edge.now
    (Contains-from_place c.args.edges.now c.args.place c.in-Some.edge.now (sym c.in-Some.ensures))

pub returns-in-Some-clause-follows : goal.returns-in-Some-clause-follows
returns-in-Some-clause-follows g c = on_ok_weaker c.follow.result (λ f.
    let setting = masked_setting c.args.masked.now in
    let applies = g.C.Contexts.applies c.args.contexts.now in
    follows_as (g.M.Marks.marked c.args.marks.now) c.args.config
    (g.F.Fold.next c.follow.new.fold)
    (Crosses setting applies c.args.config.visit.graph c.in-Some.edge.now c.args.config.at)
    (CrossesAt setting applies c.args.config.visit.graph c.args.edges.now c.args.place
    c.args.config.at) c.args.next.now.items c.follow.new.next.items
    (λ move events t. (c.in-Some.edge.now, sym c.in-Some.ensures, t))
    (λ move events t. subst (λ (e : Edge).
    Crosses setting applies c.args.config.visit.graph e c.args.config.at move events)
    (same_Some t.0 c.in-Some.edge.now (sym t.1 ∙ sym c.in-Some.ensures)) t.2) f) c.follow.ensures.follows

pub returns-in-None-clause-grows : goal.returns-in-None-clause-grows
returns-in-None-clause-grows g c = grows_none (g.F.Fold.next c.args.fold.now)
    (g.F.Fold.means c.args.fold.now)

pub returns-in-None-clause-follows : goal.returns-in-None-clause-follows
returns-in-None-clause-follows g c =
    follows_none (g.M.Marks.marked c.args.marks.now) c.args.config (g.F.Fold.next c.args.fold.now)
    (CrossesAt (masked_setting c.args.masked.now) (g.C.Contexts.applies c.args.contexts.now)
    c.args.config.visit.graph c.args.edges.now c.args.place c.args.config.at)
    c.args.next.now.items (λ move events t. none-some t.0 (c.in-None.ensures ∙ t.1))
