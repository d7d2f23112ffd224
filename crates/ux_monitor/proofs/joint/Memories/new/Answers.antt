use Rattle.std.proofs.Common.{arith, [], ◌∷◌, ap, subst, sym, length, length-append}
use Rattle.std.specs.Prelude.{All}
use Rattle.std.proofs.lemmas.List.Elements.{All-nil, All-push}
use Rattle.ux_monitor.proofs.PartsLemmas.{IsBlank, joined-none}
use Rattle.ux_monitor.proofs.joint.Memories.new.Goals as goal

pub loop-rule-init : goal.loop-rule-init
loop-rule-init c =
    let none = c.in_ok-each.ensures.items in
    record {
      counted = ap length none;
      blank = subst (All IsBlank) (sym none) (All-nil IsBlank);
    }

pub loop-rule-preserved : goal.loop-rule-preserved
loop-rule-preserved c =
    let was = c.loop-rule.each.items in
    let is = c.in_ok-push.ensures.items in
    let len = length-append was (c.new.result ∷ []) in
    let counted = c.loop-rule.invariant.counted in
    let long = ap length is in
    record {
      counted = omega (arith, len, counted, long);
      blank = subst (All IsBlank) (sym is)
          (All-push IsBlank was c.new.result c.loop-rule.invariant.blank c.new.ensures);
    }

pub returns : goal.returns
returns c = λ parts of counted.
    let memories = c.loop-rule.each.items in
    let long = c.loop-rule.invariant.counted in
    let end = c.loop-rule-test.false in
    joined-none parts of memories c.new-2.result.keys c.new-3.result.items
    (omega (arith, long, end, counted)) c.loop-rule.invariant.blank c.new-2.ensures.empty
    c.new-3.ensures.items
