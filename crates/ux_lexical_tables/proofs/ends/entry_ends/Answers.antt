use Rattle.std.proofs.Common.{arith, ◌≡◌, ◌∙◌, ◌+◌, ◌<◌, ◌≤◌, ℕ, List, length, inl, inr, subst, sym}
use Rattle.std.proofs.lemmas.List.{take_all}
use Rattle.ux_dela.specs.declared.entry.Entry.{Entry}
use Rattle.ux_lexical_tables.specs.Ends.{AreEnds, Asks, EndsBy, HasSo, IsPut}
use Rattle.ux_lexical_tables.proofs.EndsLemmas.{put_more, start_ends}
use Rattle.ux_lexical_tables.proofs.ends.entry_ends.Goals as goal
use Rattle.ux_lexical_tables.proofs.ends.entry_ends.Goals.{then-accepts, else-accepts}

pub loop-last-init : goal.loop-last-init
loop-last-init c =
    start_ends (Asks c.args.asked) c.args.compounds.now c.args.i c.if-accepts.told
    c.has_entry-accepts.result (HasSo (Asks c.args.asked) c.args.simple.now)
    c.has_entry-accepts.ensures
    (elim c.if-accepts.branch [
      | then-accepts w ↦ inl (w.if-accepts.true, w.told-is ∙ w.position_after-told.ensures)
      | else-accepts w ↦ inr (w.if-accepts.false, w.told-is)
    ]) c.in_ok-ends.ends.items c.in_ok-ends.ensures

pub loop-last-preserved : goal.loop-last-preserved
loop-last-preserved c =
    let member = c.loop-last-item.result in
    let low = (subst
    (λ (m : ℕ × Entry). (c.args.i ≤ m.0) × (m.0 < length c.args.text.now))
    (sym c.loop-last-item.is) (c.requires.within c.loop-last.last-index member (omega arith))).0 in
    put_more (Asks c.args.asked)
    (λ k. HasSo (Asks c.args.asked) c.args.simple.now × (k ≡ c.args.i + 1)) c.args.compounds.now
    c.loop-last.last-index member (omega arith) c.loop-last-item.is c.args.i (λ k first. first.1)
    c.requires.ordered low c.loop-last.told c.in_ok-told.told c.loop-last.ends.items
    c.put_end.new.ends.items c.loop-last.invariant
    (subst
    (λ (end : ℕ). IsPut c.loop-last.told end (Asks c.args.asked member.1) c.loop-last.ends.items
    c.put_end.new.ends.items c.in_ok-told.told) c.position_after-end.ensures
    c.in_ok-told.ensures)

pub returns : goal.returns
returns c =
    subst
    (λ (l : List (ℕ × Entry)). AreEnds (EndsBy (Asks c.args.asked)
    (λ k. HasSo (Asks c.args.asked) c.args.simple.now × (k ≡ c.args.i + 1)) l)
    c.loop-last.ends.items)
    (take_all c.loop-last.last-index c.args.compounds.now (omega arith)) c.loop-last.invariant.are
