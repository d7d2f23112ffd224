use Rattle.std.proofs.Common.{ℕ, arith, subst}
use Rattle.ux_apply.specs.Kept.{AreRowsUpTo, IsOwnRow}
use Rattle.ux_apply.proofs.RowLemmas.{rows-more, rows-start}
use Rattle.ux_apply.proofs.tagged.tagged.Goals as goal

pub loop-place-init : goal.loop-place-init
loop-place-init c =
    rows-start (IsOwnRow c.args.alphabet.now c.args.text.now) c.new-rows.result
    c.new-rows.ensures.empty

pub loop-place-preserved : goal.loop-place-preserved
loop-place-preserved c =
    rows-more (IsOwnRow c.args.alphabet.now c.args.text.now) c.loop-place.place
    c.loop-place.rows c.put_row.new.rows c.in_ok-row.row.items c.loop-place.invariant
    c.in_ok-row.ensures c.in_ok-put_row.ensures.here c.in_ok-put_row.ensures.others

pub returns : goal.returns
returns c =
    subst
    (λ (k : ℕ). AreRowsUpTo (IsOwnRow c.args.alphabet.now c.args.text.now) k c.loop-place.rows)
    (omega arith) c.loop-place.invariant
