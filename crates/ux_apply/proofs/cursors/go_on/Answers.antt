use Rattle.std.proofs.Common.{◌++◌, arith, refl}
use Rattle.std.proofs.lemmas.Str.{IsUtf8-append}
use Rattle.ux_apply.proofs.CursorLemmas.{gone-more, gone-none, taken-all}
use Rattle.ux_apply.proofs.cursors.go_on.Goals as goal

pub loop-cursor-init : goal.loop-cursor-init
loop-cursor-init c front dics led =
    gone-none c.args.alphabet.now c.args.cursors.now front (front ++ c.args.text.now) dics
    c.new-next.result.items c.new-next.ensures.items led

pub loop-cursor-preserved : goal.loop-cursor-preserved
loop-cursor-preserved c front =
    gone-more c.args.alphabet.now c.args.cursors.now c.loop-cursor.cursor-index
    c.cursor-item.result (omega arith) c.cursor-item.is front (front ++ c.args.text.now)
    c.loop-cursor.next.items c.push.new.self.items _ (c.loop-cursor.invariant front) refl
    (λ content. c.in_ok-reached.ensures content front) c.in_ok-push.ensures.items

pub returns : goal.returns
returns c dics front led = record {
  utf8 = IsUtf8-append front c.args.text.now led.utf8 c.utf8.text;
  each = c.loop-cursor.invariant front dics
      (taken-all c.args.alphabet.now c.args.cursors.now c.loop-cursor.cursor-index front dics
      (omega arith) led.each);
}
