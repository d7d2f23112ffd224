use Rattle.std.proofs.Common.{List, ◌≡◌, ◌↔◌, ◌⊎◌, subst, sym, get_or, take}
use Rattle.std.specs.Prelude.{Contains, flat_map}
use Rattle.ux_base.proofs.Lists.{take_more, take_whole}
use Rattle.ux_tfst_locate.specs.declared.lattice.Place.{Place}
use Rattle.ux_tfst_locate.specs.declared.lattice.SentenceLink.{SentenceLink}
use Rattle.ux_tfst_locate.specs.Lattices.{ends_of}
use Rattle.ux_tfst_locate.proofs.LatticeLemmas.{ends_more, ends_none, same_place}
use Rattle.ux_tfst_locate.proofs.lattice.places_of.Goals as goal

abbrev none : SentenceLink
none = record { sentence = 0; from = 0; to = 0; reading = 0; last = 0 }

pub loop-link-init : goal.loop-link-init
loop-link-init c = ends_none c.new-places.result.items c.new-places.ensures.items

pub loop-link-preserved : goal.loop-link-preserved
loop-link-preserved c =
    let links = c.args.links.now in
    let k = c.loop-link.link-index in
    let link = get_or links k none in
    subst (λ (ls : List SentenceLink). (place : Place) → Contains c.push_new-in-loop-link.new.places.items place
    ↔ Contains (flat_map ends_of ls) place) (sym (take_more links k none c.loop-link-test.true))
    (ends_more (take k links) link c.loop-link.places.items c.push_new.new.places.items
    c.push_new-in-loop-link.new.places.items c.loop-link.invariant
    (subst (λ (p : Place). (q : Place) → Contains c.push_new.new.places.items q
    ↔ (Contains c.loop-link.places.items q ⊎ (q ≡ p))) c.from_of.ensures c.in_ok-push_new.ensures)
    (subst (λ (p : Place). (q : Place) → Contains c.push_new-in-loop-link.new.places.items q
    ↔ (Contains c.push_new.new.places.items q ⊎ (q ≡ p))) c.to_of.ensures c.in_ok-push_new-2.ensures))

pub returns-clause-same : goal.returns-clause-same
returns-clause-same c = λ place.
    let all = take_whole c.args.links.now c.loop-link.link-index c.loop-link-test.false in
    let told = subst (λ (ls : List SentenceLink). Contains c.loop-link.places.items place
    ↔ Contains (flat_map ends_of ls) place) all (c.loop-link.invariant place) in
    let sorted = c.in_order.ensures.same same_place place in
    (λ has. told.0 (sorted.0 has), λ has. sorted.1 (told.1 has))
