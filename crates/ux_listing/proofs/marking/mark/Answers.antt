use Rattle.std.proofs.Common.{List, ℕ, subst, sym, ◌∙◌}
use Rattle.std.specs.Prelude.{Contains}
use Rattle.ux_listing.specs.Groups.{IsIn}
use Rattle.ux_listing.proofs.MarkedLemmas.{closed_begins, closed_on, closed_ends, ends_kept}
use Rattle.ux_listing.proofs.SetsLemmas.{still}
use Rattle.ux_listing.proofs.marking.mark.Goals as goal

pub loop-item-init : goal.loop-item-init
loop-item-init c = record {
  ends = c.in_ok-marked.ensures;
  closed = closed_begins (λ (item origin : ℕ). IsIn c.args.origins.now.groups item origin)
      c.in_ok-marked.marked.keys;
}

pub loop-item-preserved : goal.loop-item-preserved
loop-item-preserved c = record {
  ends = ends_kept c.args.seen.now.keys (Contains c.args.ends.now) c.args.start
      c.loop-item.marked.keys c.add_all.new.marked.keys (still _ _ c.in_ok-add_all.ensures.adds.kept)
      c.loop-item.invariant.ends;
  closed = closed_on (λ (item origin : ℕ). IsIn c.args.origins.now.groups item origin)
      c.loop-item.marked.keys c.add_all.new.marked.keys c.loop-item.next c.in-Some.item
      (sym c.in-Some.ensures.is) c.in_ok-add_all.ensures.adds.kept
      (λ origin t. c.in_ok-add_all.ensures.has origin
      (subst (λ (l : List ℕ). Contains l origin) (sym c.as_slice.ensures.value)
      ((c.in_ok-from.ensures c.requires origin).1 t))) c.loop-item.invariant.closed;
}

pub returns-clause-closed : goal.returns-clause-closed
returns-clause-closed c = closed_ends (λ (item origin : ℕ). IsIn c.args.origins.now.groups item origin)
    c.loop-item.marked.keys c.loop-item.next (sym c.in_default.is ∙ c.item_at.ensures.is)
    c.loop-item.invariant.closed
