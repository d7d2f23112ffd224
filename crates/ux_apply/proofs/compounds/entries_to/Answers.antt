use Rattle.std.proofs.Common.{List, ℕ, subst, sym}
use Rattle.std.specs.Prelude.{All}
use Rattle.std.proofs.lemmas.List.Elements.{All-nil}
use Rattle.std.proofs.lemmas.Result.{IfOk-weaker}
use Rattle.ux_dela.specs.Sound.{IsSound}
use Rattle.ux_dela.specs.declared.entry.Entry.{Entry}
use Rattle.ux_lexical_tables.specs.Spans.{text_of}
use Rattle.ux_apply.specs.declared.priority.Priority.{Priority}
use Rattle.ux_apply.specs.Cursors.{AreReachedBy}
use Rattle.ux_apply.specs.Applied.{AreOfSpan}
use Rattle.ux_apply.proofs.SpanLemmas.{none-here, of_span, span-front}
use Rattle.ux_apply.proofs.compounds.entries_to.Goals as goal

pub returns-then-not-may_bound-clause-entries : goal.returns-then-not-may_bound-clause-entries
returns-then-not-may_bound-clause-entries c = λ dics led.
    let alphabet = c.args.alphabet.now in
    subst (AreOfSpan alphabet dics c.args.text.now c.args.first c.args.last)
    (sym c.new.ensures.items)
    (none-here alphabet dics c.args.text.now c.args.first c.args.last c.kind.result c.kind.ensures
    (λ bounds. let t = c.may_bound.ensures.1 bounds in let f = c.if-not-may_bound.true in cc))

pub returns-then-not-may_bound-clause-sound : goal.returns-then-not-may_bound-clause-sound
returns-then-not-may_bound-clause-sound c = λ dics led.
    subst (λ (l : List Entry). All IsSound l) (sym c.new.ensures.items) (All-nil IsSound)

pub returns : goal.returns
returns c =
    let tokens = c.args.text.now in
    let first = c.args.first in
    let last = c.args.last in
    let alphabet = c.args.alphabet.now in
    let led : (dics : List (Priority × List Entry)) →
    AreReachedBy alphabet dics (text_of tokens first last) c.args.cursors.now →
    AreReachedBy alphabet dics c.slice.result.now c.args.cursors.now =
    λ dics there. subst (λ (t : List ℕ). AreReachedBy alphabet dics t c.args.cursors.now)
    (sym c.slice.ensures) there in record {
      entries = IfOk-weaker c.applying_there.result _ _
          (λ entries is dics there.
          of_span alphabet dics tokens first last c.slice.result.now entries.items c.slice.ensures
          (span-front tokens first last c.kind.result c.requires.front c.requires.longer
          c.kind.ensures (c.may_bound.ensures.0 c.if-not-may_bound.false))
          (is dics (led dics there))) c.applying_there.ensures.applies;
      sound = IfOk-weaker c.applying_there.result _ _
          (λ entries is dics there. is dics (led dics there))
          c.applying_there.ensures.sound;
    }
