use Rattle.std.proofs.Common.{List, ◌∷◌, ◌++◌, [], ◌≡◌, true, false, arith, subst, sym, ap}
use Rattle.std.specs.Prelude.{All}
use Rattle.std.proofs.lemmas.List.Elements.{All-nil}
use Rattle.ux_dela.specs.Sound.{IsSound}
use Rattle.ux_dela.specs.declared.entry.Entry.{Entry}
use Rattle.ux_dict.specs.Forms.{IsFitting, none}
use Rattle.ux_apply.specs.declared.priority.Priority.{Priority}
use Rattle.ux_apply.specs.Applying.{content_at, is_same}
use Rattle.ux_apply.specs.Cursors.{IsCursor}
use Rattle.ux_apply.proofs.CursorLemmas.{taken-all}
use Rattle.ux_apply.proofs.FoundLemmas.{fitting-more, fitting-skip}
use Rattle.ux_apply.proofs.ZipLemmas.{zip-none, zip-taken}
use Rattle.ux_apply.proofs.applying.fitting_entries.Goals as goal
use Rattle.ux_apply.proofs.applying.fitting_entries.Goals.{then-is+in_ok-push_ending, else-is}

pub loop-cursor-init : goal.loop-cursor-init
loop-cursor-init c dics led =
    let alphabet = c.args.alphabet.now in
    let text = c.args.text.now in
    let empty = zip-none (IsCursor alphabet text) dics led in
    subst
    (λ (l : List Entry). IsFitting alphabet text (content_at c.args.priority dics) l × All IsSound l)
    (sym c.new-entries.ensures.items) (
      subst
          (λ (l : List (Priority × List Entry)).
          IsFitting alphabet text (content_at c.args.priority l) []) (sym empty) none,
      All-nil IsSound,
    )

pub loop-cursor-preserved : goal.loop-cursor-preserved
loop-cursor-preserved c dics led =
    let alphabet = c.args.alphabet.now in
    let text = c.args.text.now in
    let priority = c.args.priority in
    let cursor = c.cursor-item.result in
    let t = zip-taken (IsCursor alphabet text) dics c.args.cursors.now c.loop-cursor.cursor-index
    cursor (omega arith) c.cursor-item.is led in
    let front = t.0 in
    let dic = t.1 in
    let here = t.4 in
    let all = front ++ dic ∷ [] in
    let old = c.loop-cursor.entries.items in
    let before = c.loop-cursor.invariant front t.3 in
    subst
    (λ (l : List (Priority × List Entry)).
    IsFitting alphabet text (content_at priority l) c.if-is.entries.items
    × All IsSound c.if-is.entries.items) (sym t.2)
    (elim c.if-is.branch [
      | then-is+in_ok-push_ending w ↦
          let same = subst (λ (p : Priority). is_same p priority ≡ true) here.priority
          (sym w.if-is.ensures) in
          subst
          (λ (l : List Entry). IsFitting alphabet text (content_at priority all) l × All IsSound l)
          (sym (ap (λ v. v.items) w.entries-is)) (
            fitting-more priority dic alphabet front text old before.0
                w.push_ending.new.entries.items same
                (w.in_ok-push_ending.ensures.added dic.1 here.leads),
            w.in_ok-push_ending.ensures.sound dic.1 here.leads before.1,
          )
      | else-is w ↦
          let other = subst (λ (p : Priority). is_same p priority ≡ false) here.priority
          (sym w.if-is.ensures) in
          subst
          (λ (l : List Entry). IsFitting alphabet text (content_at priority all) l × All IsSound l)
          (sym (ap (λ v. v.items) w.entries-is))
          (fitting-skip priority dic alphabet front text old before.0 other, before.1)
    ])

pub returns : goal.returns
returns c = record {
  fitting = λ dics led. (c.loop-cursor.invariant dics
      (taken-all c.args.alphabet.now c.args.cursors.now c.loop-cursor.cursor-index c.args.text.now dics (omega arith)
      led.each)).0;
  sound = λ dics led. (c.loop-cursor.invariant dics
      (taken-all c.args.alphabet.now c.args.cursors.now c.loop-cursor.cursor-index c.args.text.now dics (omega arith)
      led.each)).1;
}
