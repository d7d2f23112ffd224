use Rattle.std.proofs.Common.{List, refl, subst}
use Rattle.ux_dawg.specs.declared.pending.Frame.{Frame}
use Rattle.ux_dawg.specs.Building.{letters, IsShared}
use Rattle.ux_dawg.proofs.AddLemmas.{under, added}
use Rattle.ux_dawg.proofs.BuilderLemmas.{view_added, built_added}
use Rattle.ux_dawg.proofs.builder.Builder.add.Goals as goal

pub grow-requires-clause-under : goal.grow-requires-clause-under
grow-requires-clause-under c =
    under c.self.inside.register c.self.inside.pending.above.items c.self.inside.top
    c.args.letters.now c.shared-depth.result
    (subst (λ (l : List Frame). IsShared (letters l) c.args.letters.now c.shared-depth.result)
    c.as_slice.ensures.value c.shared-depth.ensures)
    _ _ _ c.in_ok-open.ensures

pub invariant_of-result : goal.invariant_of-result
invariant_of-result c =
    built_added c.args.self _ _ _ _ c.self.view_is c.self.invariant c.args.letters.now c.args.code
    c.requires _ _ _
    (added _ _ _ c.args.letters.now c.shared-depth.result
    (subst (λ (l : List Frame). IsShared (letters l) c.args.letters.now c.shared-depth.result)
    c.as_slice.ensures.value c.shared-depth.ensures)
    _ _ _ c.in_ok-open.ensures c.args.code _ _ _ c.in_ok-deepest.ensures refl refl)

pub returns : goal.returns
returns c =
    view_added c.args.self _ _ _ _ c.self.view_is c.self.invariant c.args.letters.now c.args.code
    c.requires _ _ _
    (added _ _ _ c.args.letters.now c.shared-depth.result
    (subst (λ (l : List Frame). IsShared (letters l) c.args.letters.now c.shared-depth.result)
    c.as_slice.ensures.value c.shared-depth.ensures)
    _ _ _ c.in_ok-open.ensures c.args.code _ _ _ c.in_ok-deepest.ensures refl refl)
