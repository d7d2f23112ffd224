use Rattle.std.proofs.Common.{List, [], arith, refl, subst, sym}
use Rattle.std.specs.List.{AllZip}
use Rattle.std.proofs.lemmas.Str.{IsUtf8-nil}
use Rattle.ux_dela.specs.declared.entry.Entry.{Entry}
use Rattle.ux_apply.specs.declared.cursors.Cursor.{Cursor}
use Rattle.ux_apply.specs.declared.priority.Priority.{Priority}
use Rattle.ux_apply.specs.Cursors.{IsCursor}
use Rattle.ux_apply.proofs.CursorLemmas.{begun-more}
use Rattle.ux_apply.proofs.FoundLemmas.{contents-all}
use Rattle.ux_apply.proofs.cursors.begin.Goals as goal

pub loop-priority-init : goal.loop-priority-init
loop-priority-init g c alphabet =
    subst (λ (l : List Cursor). AllZip (IsCursor alphabet []) [] l)
    (sym c.new-cursors.ensures.items) tt

pub loop-priority-preserved : goal.loop-priority-preserved
loop-priority-preserved g c alphabet =
    begun-more g.L.Lexicon.content c.args.dics.now c.loop-priority.priority-index
    c.loop-priority-item.result (omega arith) c.loop-priority-item.is alphabet
    c.loop-priority.cursors.items c.push.new.self.items _ (c.loop-priority.invariant alphabet) refl
    (c.in_ok-reached.ensures alphabet) c.in_ok-push.ensures.items

pub returns : goal.returns
returns g c alphabet = record {
  utf8 = IsUtf8-nil;
  each = subst
      (λ (l : List (Priority × List Entry)). AllZip (IsCursor alphabet []) l
      c.loop-priority.cursors.items)
      (contents-all g.L.Lexicon.content c.args.dics.now c.loop-priority.priority-index (omega arith))
      (c.loop-priority.invariant alphabet);
}
