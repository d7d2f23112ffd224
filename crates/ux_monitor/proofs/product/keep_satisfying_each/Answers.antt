use Rattle.std.proofs.Common.{List, ℕ, ◌≡◌, ◌∙◌, ap, refl, subst, sym}
use Rattle.std.specs.Prelude.{Vec}
use Rattle.ux_monitor.specs.Parts.{AreRemembered, AreSameKinds}
use Rattle.ux_monitor.proofs.product.keep_satisfying_each.Goals as goal

pub keep_each-requires-clause-right : goal.keep_each-requires-clause-right
keep_each-requires-clause-right c =
    let parts = c.args.parts.now in
    let is : c.as_slice.result.now ≡ c.args.product.now.of.items =
    c.as_slice.ensures.value ∙ ap (λ (of : Vec ℕ _). of.items) c.take_memories.ensures.of in
    subst (λ (of : List ℕ). AreRemembered parts of c.in-Ok.memories) (sym is)
    (c.in-Ok.ensures.right parts refl c.requires.product)

pub keep_each-requires-clause-kinds : goal.keep_each-requires-clause-kinds
keep_each-requires-clause-kinds c =
    subst (λ (of : List ℕ). AreSameKinds c.args.parts.now of)
    (sym (c.as_slice.ensures.value ∙ ap (λ (of : Vec ℕ _). of.items) c.take_memories.ensures.of))
    c.requires.product.kinds

pub returns-in_default-clause-product : goal.returns-in_default-clause-product
returns-in_default-clause-product c =
    c.take_memories.ensures.kept c.args.parts.now c.requires.product

pub returns-in_default-keep_each-clause-product : goal.returns-in_default-keep_each-clause-product
returns-in_default-keep_each-clause-product c =
    c.take_memories.ensures.kept c.args.parts.now c.requires.product

pub returns-clause-product : goal.returns-clause-product
returns-clause-product c =
    let parts = c.args.parts.now in
    let product = c.take_memories.ensures.kept parts c.requires.product in
    record {
      kinds = product.kinds;
      memories = subst (λ (of : List ℕ). AreRemembered parts of c.in-Ok-keep_each.kept.1)
          c.as_slice.ensures.value c.in-Ok-keep_each.ensures.right;
    }
