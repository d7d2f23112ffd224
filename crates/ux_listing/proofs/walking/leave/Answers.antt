use Rattle.std.proofs.Common.{List, refl, subst, sym}
use Rattle.std.specs.Prelude.{Contains}
use Rattle.ux_lexical_tables.proofs.OneTokenLaws.{accepts_forward}
use Rattle.ux_walk.specs.Settings.{masked_setting}
use Rattle.ux_listing.specs.declared.config.Item.{Item}
use Rattle.ux_listing.specs.declared.config.Item.TheVariants.{At}
use Rattle.ux_listing.specs.Sets.{Adds}
use Rattle.ux_listing.specs.Walking.{IsKnown}
use Rattle.ux_listing.proofs.FollowsLemmas.{known_still}
use Rattle.ux_listing.proofs.GoingLemmas.{left, on_three}
use Rattle.ux_listing.proofs.RunsLemmas.{entered_within, way_within}
use Rattle.ux_listing.proofs.SetsLemmas.{in_place}
use Rattle.ux_listing.proofs.walking.leave.Goals as goal

pub follow_config-requires-clause-inside : goal.follow_config-requires-clause-inside
follow_config-requires-clause-inside g c =
    let masked = c.args.masked.now in
    let setting = masked_setting masked in
    let applies = g.C.Contexts.applies c.args.contexts.now in
    let forward = accepts_forward masked.alphabet.now masked.text.now masked.applied.now
    c.requires.table.belongs in
    let w = c.requires.reached.walking.sound (At c.args.config)
    (in_place c.args.reached.now.seen.keys c.args.next (At c.args.config) c.requires.next) in
    way_within setting applies forward w.way (entered_within setting applies forward w.entered
    c.requires.inside)

pub follow_config-requires-clause-known : goal.follow_config-requires-clause-known
follow_config-requires-clause-known g c =
    (c.requires.reached.walking.sound (At c.args.config)
    (in_place c.args.reached.now.seen.keys c.args.next (At c.args.config) c.requires.next)).known

pub returns-clause-reached : goal.returns-clause-reached
returns-clause-reached g c =
    let now = c.follow_config.new.fold in
    let grows = c.in_ok-follow_config.ensures.grows in
    let items = c.follow_config.new.next.items in
    let told = g.O.Origins.told c.put_all.new.origins in
    on_three c.put_all.result (λ stays adds seen.
    left (masked_setting c.args.masked.now) (g.C.Contexts.applies c.args.contexts.now) c.args.start
    c.args.first (g.M.Marks.marked c.args.marks.now) (g.F.Fold.next now)
    (IsKnown (g.F.Fold.means now))
    (λ s e u h. g.met.F.Fold.lands now s e u h) (g.F.Fold.next c.args.fold.now) grows.next
    (IsKnown (g.F.Fold.means c.args.fold.now)) (λ s k. known_still grows s k)
    (g.O.Origins.told c.args.origins.now) told stays c.args.reached.now
    (record {
      seen = c.put_all.new.seen;
      waits = c.args.reached.now.waits;
      found = c.args.reached.now.found;
    }) c.args.next c.args.config
    c.clear.new.self.items items c.requires.next refl refl c.clear.ensures.items
    c.in_ok-follow_config.ensures.adds c.in_ok-follow_config.ensures.done
    (subst (λ (l : List Item). Adds (Contains l) c.args.reached.now.seen.keys
    c.put_all.new.seen.keys) c.as_slice.ensures.value adds)
    (λ w h. seen w (subst (λ (l : List Item). Contains l w) (sym c.as_slice.ensures.value) h))
    c.requires.reached) c.put_all.ensures.told c.put_all.ensures.adds c.put_all.ensures.seen
