use Rattle.std.proofs.Common.{◌≡◌, ◌∙◌, true, false, sym}
use Rattle.std.proofs.lemmas.Result.{on_ok_weaker}
use Rattle.ux_mask_table.proofs.KnownLabels.{edges_known}
use Rattle.ux_walk.specs.Settings.{masked_setting}
use Rattle.ux_listing.proofs.FollowsLemmas.{grows_none}
use Rattle.ux_listing.proofs.SetsLemmas.{adds_none}
use Rattle.ux_listing.proofs.StateLemmas.{edges_lead, ends_done, ends_lead, inner_done, nowhere}
use Rattle.ux_listing.proofs.following.follow_config.Goals as goal

pub follow_state-requires-clause-known_edges : goal.follow_state-requires-clause-known_edges
follow_state-requires-clause-known_edges g c =
    edges_known c.args.masked.now c.args.config.visit.graph c.args.config.state
    c.in-Some.state.now c.requires.table (sym c.in-Some.ensures)

pub follow_state-requires-clause-asked : goal.follow_state-requires-clause-asked
follow_state-requires-clause-asked g c = λ edge inside opens.
    c.requires.told.asked c.args.config.visit.graph edge c.args.config.at (record {
      from = c.args.config.state;
      state = c.in-Some.state.now;
      found = sym c.in-Some.ensures;
      inside = inside;
      sign = opens.0;
      is = opens.1;
    }) c.requires.inside

pub returns-in_default-clause-grows : goal.returns-in_default-clause-grows
returns-in_default-clause-grows g c = grows_none (g.F.Fold.next c.args.fold.now)
    (g.F.Fold.means c.args.fold.now)

pub returns-in_default-clause-adds : goal.returns-in_default-clause-adds
returns-in_default-clause-adds g c = adds_none c.args.next.now.items

pub returns-in_default-clause-done : goal.returns-in_default-clause-done
returns-in_default-clause-done g c = nowhere (g.F.Fold.next c.args.fold.now)
    (masked_setting c.args.masked.now) (g.C.Contexts.applies c.args.contexts.now)
    (g.M.Marks.marked c.args.marks.now) c.args.config c.in_default.ensures
    c.args.next.now.items

pub returns-then-not-state-clause-sound : goal.returns-then-not-state-clause-sound
returns-then-not-state-clause-sound g c = c.follow_state.ensures.sound c.args.masked.now.net.now
    (sym c.in-Some.ensures) c.requires.sound

pub returns-then-not-state-clause-adds : goal.returns-then-not-state-clause-adds
returns-then-not-state-clause-adds g c = edges_lead (g.F.Fold.next c.follow_state.new.fold)
    (masked_setting c.args.masked.now) (g.C.Contexts.applies c.args.contexts.now)
    (g.M.Marks.marked c.args.marks.now) c.args.config c.in-Some.state.now (sym c.in-Some.ensures)
    c.args.next.now.items c.follow_state.new.next.items
    (c.in_ok-follow_state.ensures.follows c.args.masked.now.net.now (sym c.in-Some.ensures)
    c.requires.sound)

pub returns-then-not-state-clause-done : goal.returns-then-not-state-clause-done
returns-then-not-state-clause-done g c = inner_done (g.F.Fold.next c.follow_state.new.fold)
    (masked_setting c.args.masked.now) (g.C.Contexts.applies c.args.contexts.now)
    (g.M.Marks.marked c.args.marks.now) c.args.config c.in-Some.state.now (sym c.in-Some.ensures)
    c.args.next.now.items c.follow_state.new.next.items
    (c.in_ok-follow_state.ensures.follows c.args.masked.now.net.now (sym c.in-Some.ensures)
    c.requires.sound)
    (λ yes. let no : true ≡ false = sym yes ∙ c.if-not-state.true in cc)

pub returns-clause-sound : goal.returns-clause-sound
returns-clause-sound g c = c.follow_state.ensures.sound c.args.masked.now.net.now
    (sym c.in-Some.ensures) c.requires.sound

pub returns-clause-adds : goal.returns-clause-adds
returns-clause-adds g c = on_ok_weaker c.push.result (λ added.
    ends_lead (g.F.Fold.next c.follow_state.new.fold)
    (masked_setting c.args.masked.now) (g.C.Contexts.applies c.args.contexts.now)
    (g.M.Marks.marked c.args.marks.now) c.args.config c.in-Some.state.now (sym c.in-Some.ensures)
    c.args.next.now.items c.follow_state.new.next.items
    (c.in_ok-follow_state.ensures.follows c.args.masked.now.net.now (sym c.in-Some.ensures)
    c.requires.sound) c.if-not-state.false c.push.new.list.items added) c.push.ensures

pub returns-clause-done : goal.returns-clause-done
returns-clause-done g c = on_ok_weaker c.push.result (λ added.
    ends_done (g.F.Fold.next c.follow_state.new.fold)
    (masked_setting c.args.masked.now) (g.C.Contexts.applies c.args.contexts.now)
    (g.M.Marks.marked c.args.marks.now) c.args.config c.in-Some.state.now (sym c.in-Some.ensures)
    c.args.next.now.items c.follow_state.new.next.items
    (c.in_ok-follow_state.ensures.follows c.args.masked.now.net.now (sym c.in-Some.ensures)
    c.requires.sound) c.push.new.list.items added) c.push.ensures
