use Rattle.std.proofs.Common.{List, sym, subst}
use Rattle.std.specs.Prelude.{Contains}
use Rattle.ux_lexical_tables.proofs.OneTokenLaws.{accepts_forward}
use Rattle.ux_walk.specs.Settings.{masked_setting}
use Rattle.ux_listing.specs.declared.config.Item.{Item}
use Rattle.ux_listing.specs.declared.config.Item.TheVariants.{Ends}
use Rattle.ux_listing.specs.Walking.{IsKnown, main_visit}
use Rattle.ux_listing.proofs.CompleteLemmas.{all_found, exact}
use Rattle.ux_listing.proofs.MeaningLemmas.{derives_runs}
use Rattle.ux_listing.proofs.listing.list.Goals as goal

pub returns-clause-exact : goal.returns-clause-exact
returns-clause-exact g c = λ e u wanted.
    let masked = c.args.masked.now in
    let setting = masked_setting masked in
    let applies = g.C.Contexts.applies c.args.contexts.now in
    let forward = accepts_forward masked.alphabet.now masked.text.now masked.applied.now
    c.requires.table.belongs in
    let runs = derives_runs setting applies c.requires.told.meant forward c.requires.measured in
    let told = c.in_ok-ends.ensures (record { end = e; fold = u }) in
    let found : Item = Ends (record { visit = main_visit c.args.start c.args.first; end = e; fold = u }) in
    let derived = exact setting applies (g.F.Fold.next c.walk.new.fold)
    (IsKnown (g.F.Fold.means c.walk.new.fold)) c.args.start c.args.first
    (g.M.Marks.marked c.args.marks.now) c.in_ok-seen.seen.keys _ c.in_ok-seen.ensures.walked
    (g.M.Marks.wanted c.args.marks.now) c.requires.complete
    (g.met.F.Fold.one c.walk.new.fold) e u wanted in (
      λ h. let d = derived.0 (subst (λ (l : List Item). Contains l found) c.as_slice.ensures
          (told.0 h)) in
          (d.0, (runs c.args.start e d.0 c.requires.inside).1 d.1, d.2),
      λ h. told.1 (subst (λ (l : List Item). Contains l found) (sym c.as_slice.ensures)
          (derived.1 (h.0, (runs c.args.start e h.0 c.requires.inside).0 h.1, h.2))),
    )

pub returns-clause-folded : goal.returns-clause-folded
returns-clause-folded g c = λ e events wanted der.
    let masked = c.args.masked.now in
    let setting = masked_setting masked in
    let applies = g.C.Contexts.applies c.args.contexts.now in
    let forward = accepts_forward masked.alphabet.now masked.text.now masked.applied.now
    c.requires.table.belongs in
    let runs = derives_runs setting applies c.requires.told.meant forward c.requires.measured in
    let o = all_found setting applies (g.F.Fold.next c.walk.new.fold)
    (IsKnown (g.F.Fold.means c.walk.new.fold)) c.args.start c.args.first
    (g.M.Marks.marked c.args.marks.now) c.in_ok-seen.seen.keys _ c.in_ok-seen.ensures.walked
    (g.M.Marks.wanted c.args.marks.now) c.requires.complete
    e events wanted ((runs c.args.start e events c.requires.inside).0 der) in
    (o.0, o.1)
