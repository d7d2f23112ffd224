use Rattle.std.proofs.Common.{subst, sym}
use Rattle.std.specs.Prelude.{IfSome, Option}
use Rattle.std.proofs.lemmas.Result.{IfOk-weaker}
use Rattle.ux_monitor.specs.declared.joint.Memories.{Memories}
use Rattle.ux_monitor.specs.Parts.{AreRemembered}
use Rattle.ux_monitor.proofs.product.Product.take_memories.Goals as goal

pub returns-in-Some-clause-kept : goal.returns-in-Some-clause-kept
returns-in-Some-clause-kept c = λ parts product. record {
  kinds = product.kinds;
  memories = subst (λ (o : Option Memories). IfSome o
      (AreRemembered parts c.args.self.now.of.items)) (sym c.take.ensures.after) tt;
}

pub returns-in-Some-clause-right : goal.returns-in-Some-clause-right
returns-in-Some-clause-right c =
    let of = c.args.self.now.of.items in
    IfOk-weaker c.kept_or_new.result _ _ (λ now right parts counted product.
    right parts of counted (subst (λ (o : Option Memories). IfSome o (AreRemembered parts of))
    (sym c.in-Some.ensures.value) product.memories)) c.kept_or_new.ensures

pub returns-in-None-clause-kept : goal.returns-in-None-clause-kept
returns-in-None-clause-kept c = λ parts product. record {
  kinds = product.kinds;
  memories = subst (λ (o : Option Memories). IfSome o
      (AreRemembered parts c.args.self.now.of.items)) (sym c.take.ensures.after) tt;
}

pub returns-in-None-clause-right : goal.returns-in-None-clause-right
returns-in-None-clause-right c =
    let of = c.args.self.now.of.items in
    IfOk-weaker c.new.result _ _ (λ now right parts counted product. right parts of counted)
    c.new.ensures
