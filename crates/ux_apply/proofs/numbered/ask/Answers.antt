use Rattle.std.proofs.Common.{List, subst, sym}
use Rattle.std.specs.Prelude.{All}
use Rattle.std.proofs.lemmas.List.Elements.{All-nil}
use Rattle.ux_dela.specs.Sound.{IsSound}
use Rattle.ux_dela.specs.declared.entry.Entry.{Entry}
use Rattle.ux_apply.specs.declared.cursors.Cursor.{Cursor}
use Rattle.ux_apply.specs.Applying.{AreApplying, contents}
use Rattle.ux_apply.specs.Cursors.{AreReachedBy}
use Rattle.ux_apply.proofs.NothingLemmas.{nothing-there}
use Rattle.ux_apply.proofs.numbered.ask.Goals as goal

pub returns-then-not-may_go_on : goal.returns-then-not-may_go_on
returns-then-not-may_go_on g c =
    let lines = c.args.alphabet.now in
    let dics = contents g.L.Lexicon.content c.args.dics.now in
    let token = c.args.token.now in
    let led = subst (λ (l : List Cursor). AreReachedBy lines dics token l) (sym c.deref.ensures.value)
    c.in_ok-cursors.ensures in
    let none = c.may_go_on.ensures c.if-not-may_go_on.true token lines dics led in record {
      applying = subst (AreApplying lines dics token) (sym c.new.ensures.items)
          (nothing-there lines token c.utf8.token dics none);
      sound = subst (λ (l : List Entry). All IsSound l) (sym c.new.ensures.items) (All-nil IsSound);
      start = (c.utf8.token, none);
    }

pub returns : goal.returns
returns g c =
    let lines = c.args.alphabet.now in
    let dics = contents g.L.Lexicon.content c.args.dics.now in
    let token = c.args.token.now in
    let led = c.in_ok-cursors.ensures in
    let there = subst (λ (l : List Cursor). AreReachedBy lines dics token l)
    (sym c.deref-2.ensures.value) led in record {
      applying = c.in_ok-entries.ensures.applies dics there;
      sound = c.in_ok-entries.ensures.sound dics there;
      start = c.in_ok-start.ensures dics token
          (subst (λ (l : List Cursor). AreReachedBy lines dics token l)
          (sym c.deref-3.ensures.value) led);
    }
