use Rattle.std.proofs.Common.{◌+◌, ◌∙◌, Vec, Global, refl, subst, sym, get_or}
use Rattle.std.proofs.lemmas.Bool.{false≢true}
use Rattle.std.proofs.lemmas.List.{get_or_default}
use Rattle.ux_tfst_locate.specs.declared.listing.Stretch.{Stretch}
use Rattle.ux_tfst_locate.proofs.ListingLemmas.{AreAddedTo, added_all, added_more, added_past}
use Rattle.ux_tfst_locate.proofs.listing.push_ends.Goals as goal
use Rattle.ux_tfst_locate.proofs.listing.push_ends.Goals.{then-goes_on+in_ok-push, else-goes_on}

pub loop-to-preserved : goal.loop-to-preserved
loop-to-preserved c =
    let old = c.args.found.now.items in
    let from = c.args.from in
    let ends = c.args.ends.now in
    let leading = c.args.leading.now in
    let k = c.loop-to.to-index in
    let inside = c.loop-to-test.true in
    let to = get_or ends k 0 in
    let found = c.loop-to.found.items in
    elim c.if-goes_on.branch [
      | then-goes_on+in_ok-push w ↦
          let told = c.goes_on.ensures.0 w.if-goes_on.true in
          let one : Stretch = record { from = from; to = to } in
          subst (λ (f : Vec Stretch Global). AreAddedTo old from ends leading (k + 1) f.items)
          (sym w.found-is)
          (added_more old from ends leading c.requires.ascend c.requires.ends k inside to found
          w.push.new.self.items one (get_or_default ends k 0 to inside) told.0 told.1 refl refl
          w.in_ok-push.ensures.items c.loop-to.invariant)
      | else-goes_on w ↦
          subst (λ (f : Vec Stretch Global). AreAddedTo old from ends leading (k + 1) f.items)
          (sym w.found-is)
          (added_past old from ends leading c.requires.ascend c.requires.ends k inside to found
          (get_or_default ends k 0 to inside)
          (λ less marked. false≢true (sym w.if-goes_on.false ∙ c.goes_on.ensures.1 (less, marked)))
          c.loop-to.invariant)
    ]

pub returns-clause-ascend : goal.returns-clause-ascend
returns-clause-ascend c =
    (added_all c.args.found.now.items c.args.from c.args.ends.now c.args.leading.now
    c.loop-to.to-index c.loop-to.found.items c.requires.ascend c.loop-to-test.false
    c.loop-to.invariant).0

pub returns-clause-more : goal.returns-clause-more
returns-clause-more c =
    (added_all c.args.found.now.items c.args.from c.args.ends.now c.args.leading.now
    c.loop-to.to-index c.loop-to.found.items c.requires.ascend c.loop-to-test.false
    c.loop-to.invariant).1
