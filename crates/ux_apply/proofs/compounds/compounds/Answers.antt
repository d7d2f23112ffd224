use Rattle.std.proofs.Common.{ℕ, arith, subst}
use Rattle.ux_apply.specs.Applying.{contents}
use Rattle.ux_apply.specs.Kept.{AreRowsUpTo, AreSoundMembers}
use Rattle.ux_apply.specs.Applied.{IsCompoundRow}
use Rattle.ux_apply.proofs.RowLemmas.{rows-more, rows-start}
use Rattle.ux_apply.proofs.compounds.compounds.Goals as goal

pub loop-first-init : goal.loop-first-init
loop-first-init g c = record {
  rows = rows-start (IsCompoundRow c.args.alphabet.now (contents g.L.Lexicon.content c.args.dics.now)
      c.args.text.now) c.new-rows.result c.new-rows.ensures.empty;
  sound = rows-start (λ _. AreSoundMembers) c.new-rows.result c.new-rows.ensures.empty;
}

pub loop-first-preserved : goal.loop-first-preserved
loop-first-preserved g c = record {
  rows = rows-more (IsCompoundRow c.args.alphabet.now (contents g.L.Lexicon.content c.args.dics.now)
      c.args.text.now) c.loop-first.first c.loop-first.rows c.put_row.new.rows
      c.in_ok-row.row.items c.loop-first.invariant.rows c.in_ok-row.ensures.row
      c.in_ok-put_row.ensures.here c.in_ok-put_row.ensures.others;
  sound = rows-more (λ _. AreSoundMembers) c.loop-first.first c.loop-first.rows c.put_row.new.rows
      c.in_ok-row.row.items c.loop-first.invariant.sound c.in_ok-row.ensures.sound
      c.in_ok-put_row.ensures.here c.in_ok-put_row.ensures.others;
}

pub returns : goal.returns
returns g c = record {
  rows = subst
      (λ (k : ℕ). AreRowsUpTo (IsCompoundRow c.args.alphabet.now
      (contents g.L.Lexicon.content c.args.dics.now) c.args.text.now) k c.loop-first.rows)
      (omega arith) c.loop-first.invariant.rows;
  sound = subst (λ (k : ℕ). AreRowsUpTo (λ _. AreSoundMembers) k c.loop-first.rows) (omega arith)
      c.loop-first.invariant.sound;
}
