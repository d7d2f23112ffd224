use Rattle.std.proofs.Common.{List, subst, sym, get_or, take}
use Rattle.ux_base.proofs.Lists.{take_more}
use Rattle.ux_tfst_locate.specs.declared.lattice.SentenceLink.{SentenceLink}
use Rattle.ux_tfst_locate.specs.Lattices.{AreArcs}
use Rattle.ux_tfst_locate.proofs.ArcsLemmas.{arcs_more}
use Rattle.ux_tfst_locate.proofs.lattice.each_arc.Goals as goal

abbrev none : SentenceLink
none = record { sentence = 0; from = 0; to = 0; reading = 0; last = 0 }

pub arc_of-arc-requires-clause-there : goal.arc_of-arc-requires-clause-there
arc_of-arc-requires-clause-there c =
    c.requires.there c.loop-link.link-index none c.loop-link-test.true

pub loop-link-preserved : goal.loop-link-preserved
loop-link-preserved c =
    let places = c.args.places.now in
    let links = c.args.links.now in
    let k = c.loop-link.link-index in
    subst (λ (ls : List SentenceLink). AreArcs places ls c.push.new.self.items)
    (sym (take_more links k none c.loop-link-test.true))
    (arcs_more places (take k links) (get_or links k none) c.loop-link.arcs.items
    c.push.new.self.items c.arc_of-arc.result c.in_ok-push.ensures.items c.arc_of-arc.ensures
    c.loop-link.invariant)
