use Rattle.std.proofs.Common.{List, ℕ, ◌+◌, ◌<◌, ◌≤◌, ◌≡◌, arith, length, refl, subst, sym}
use Rattle.std.specs.Prelude.{slice_range}
use Rattle.ux_dela.specs.declared.entry.Entry.{Entry}
use Rattle.std.proofs.lemmas.List.Elements.{All-nil}
use Rattle.ux_alphabet.specs.Letters.{Letters}
use Rattle.ux_tokens.specs.Tokens.{Token, joined}
use Rattle.ux_lexical_tables.specs.Spans.{text_of}
use Rattle.ux_apply.specs.declared.priority.Priority.{Priority}
use Rattle.ux_apply.specs.declared.cursors.Cursor.{Cursor}
use Rattle.ux_apply.specs.Applying.{contents}
use Rattle.ux_apply.specs.Cursors.{AreReachedBy}
use Rattle.ux_apply.specs.Kept.{AreSoundMembers}
use Rattle.ux_apply.specs.Applied.{AreCompoundUpTo}
use Rattle.ux_apply.proofs.CompoundLemmas.{row-more}
use Rattle.ux_apply.proofs.SpanLemmas.{front-more, joined-none, none-begins, none-past, row-whole}
use Rattle.ux_apply.proofs.StartLemmas.{front-nearest, nearest-within, row-start}
use Rattle.ux_apply.proofs.RowLemmas.{sound-more}
use Rattle.ux_apply.proofs.compounds.spans_from.Goals as goal

-- the tokens up to the last one lead on from where those before the next one led
on : (alphabet : Letters) (dics : List (Priority × List Entry)) (tokens : List Token)
    (first next last : ℕ) (old given new : List Cursor) → given ≡ old → first ≤ next →
    AreReachedBy alphabet dics (joined (slice_range tokens first next)) old →
    ((all : List (Priority × List Entry)) (from : ℕ) → from ≤ next →
    AreReachedBy alphabet all (joined (slice_range tokens from next)) given →
    AreReachedBy alphabet all (text_of tokens from last) new) →
    AreReachedBy alphabet dics (text_of tokens first last) new
on alphabet dics tokens first next last old given new same from led goes =
    goes dics first from
    (subst (AreReachedBy alphabet dics (joined (slice_range tokens first next))) (sym same) led)

pub loop-last-init : goal.loop-last-init
loop-last-init g c =
    let dics = contents g.L.Lexicon.content c.args.dics.now in record {
      row = subst
          (λ (l : List (ℕ × Entry)). AreCompoundUpTo c.args.alphabet.now dics c.args.text.now
          c.args.first c.args.nearest l)
          (sym c.new-row.ensures.items)
          (row-start c.args.alphabet.now dics c.args.text.now c.args.first c.args.nearest
          c.requires.begins c.requires.from);
      front = front-nearest c.args.text.now c.args.first c.args.nearest c.requires.begins
          c.requires.from;
      sound = subst AreSoundMembers (sym c.new-row.ensures.items) (All-nil _);
      from_first = omega arith;
      to_last = omega (arith, c.requires.from);
      led = subst (λ (t : List ℕ). AreReachedBy c.args.alphabet.now dics t c.in_ok-cursors.cursors.items)
          (joined-none c.args.text.now c.args.first)
          (c.in_ok-cursors.ensures c.args.alphabet.now);
    }

pub loop-last-preserved : goal.loop-last-preserved
loop-last-preserved g c =
    let lines = c.args.alphabet.now in
    let dics = contents g.L.Lexicon.content c.args.dics.now in
    let tokens = c.args.text.now in
    let first = c.args.first in
    let last = c.loop-last.last in
    let before = c.loop-last.invariant in
    let led = on lines dics tokens first c.loop-last.next last c.loop-last.cursors.items
    c.deref.result.now c.in_ok-cursors-2.cursors.items c.deref.ensures.value before.from_first
    before.led c.in_ok-cursors-2.ensures in
    let there = subst (AreReachedBy lines dics (text_of tokens first last))
    (sym c.deref-in-loop-last-2.ensures.value) led in
    let later : first < last = omega (arith, c.requires.from) in record {
      row = subst (AreCompoundUpTo lines dics tokens first (last + 1)) (sym c.in_ok-push_row.ensures)
          (row-more lines dics tokens first last c.loop-last.row.items
          c.in_ok-entries.entries.items before.row
          (c.in_ok-entries.ensures.entries dics there));
      front = front-more tokens first last c.kind.result before.front c.kind.ensures
          (c.may_stand.ensures.0 c.if-not-may_stand.false);
      sound = subst AreSoundMembers (sym c.in_ok-push_row.ensures)
          (sound-more last c.loop-last.row.items c.in_ok-entries.entries.items before.sound
          (c.in_ok-entries.ensures.sound dics there));
      from_first = omega (arith, later);
      to_last = omega arith;
      led = led;
    }

-- the token can't stand in a span
pub returns-then-not-may_stand-clause-row : goal.returns-then-not-may_stand-clause-row
returns-then-not-may_stand-clause-row g c =
    let dics = contents g.L.Lexicon.content c.args.dics.now in
    row-whole c.args.alphabet.now dics c.args.text.now c.args.first c.loop-last.last
    c.loop-last.row.items (omega arith) c.loop-last.invariant.row
    (none-past c.args.alphabet.now dics c.args.text.now c.args.first c.loop-last.last
    c.kind.result c.kind.ensures (omega arith)
    (λ stands. let t = c.may_stand.ensures.1 stands in let f = c.if-not-may_stand.true in cc))

-- no form goes on with the tokens so far
pub returns-then-not-may_go_on-clause-row : goal.returns-then-not-may_go_on-clause-row
returns-then-not-may_go_on-clause-row g c =
    let lines = c.args.alphabet.now in
    let dics = contents g.L.Lexicon.content c.args.dics.now in
    let tokens = c.args.text.now in
    let first = c.args.first in
    let last = c.loop-last.last in
    let text = text_of tokens first last in
    let before = c.loop-last.invariant in
    let led = on lines dics tokens first c.loop-last.next last c.loop-last.cursors.items
    c.deref.result.now c.in_ok-cursors-2.cursors.items c.deref.ensures.value before.from_first
    before.led c.in_ok-cursors-2.ensures in
    row-whole lines dics tokens first last c.loop-last.row.items (omega arith) before.row
    (none-begins lines dics tokens first last text refl led.utf8 (omega arith)
    (c.may_go_on.ensures c.if-not-may_go_on.true text lines dics
    (subst (AreReachedBy lines dics text) (sym c.deref-in-loop-last.ensures.value) led)))

pub returns-clause-row : goal.returns-clause-row
returns-clause-row g c =
    let within = nearest-within c.args.text.now c.args.first c.args.nearest c.requires.within
    c.requires.from in
    let end : c.loop-last.last ≡ length c.args.text.now = omega (arith, within) in
    subst
    (λ (k : ℕ). AreCompoundUpTo c.args.alphabet.now
    (contents g.L.Lexicon.content c.args.dics.now) c.args.text.now c.args.first k
    c.loop-last.row.items) end c.loop-last.invariant.row
