use Rattle.std.proofs.Common.{List, ℕ, [], inl, inr, subst, sym}
use Rattle.std.specs.Prelude.{Contains}
use Rattle.std.proofs.lemmas.List.Elements.{Contains-get_or}
use Rattle.ux_walk.specs.Noting.{Includes}
use Rattle.ux_walk.proofs.Collecting.{Among, includes_all, includes_more, includes_none, none_in}
use Rattle.ux_morpho.specs.Putting.{RendersWhole}
use Rattle.ux_morpho.proofs.outputs.rendered.Goals as goal

pub loop-derivation-init : goal.loop-derivation-init
loop-derivation-init c =
    subst (λ (l : List (List ℕ)). Includes (Among (RendersWhole c.args.letters.now) []) [] l)
    (sym c.new-outputs.ensures.items)
    (includes_none (RendersWhole c.args.letters.now) [] c.args.found.now)

pub add_rendered-requires : goal.add_rendered-requires
add_rendered-requires c =
    let item = c.derivation-item.result in
    c.requires item.0 item.1
    (subst (Contains c.args.found.now) (sym c.derivation-item.is)
    (Contains-get_or c.args.found.now c.loop-derivation.derivation-index item
    c.loop-derivation-test.true))

pub loop-derivation-preserved : goal.loop-derivation-preserved
loop-derivation-preserved c =
    let Renders = RendersWhole c.args.letters.now in
    let item = c.derivation-item.result in
    includes_more Renders [] c.loop-derivation.outputs.items c.add_rendered.new.outputs.items
    c.args.found.now c.loop-derivation.derivation-index item (Renders item)
    c.loop-derivation-test.true c.derivation-item.is c.loop-derivation.invariant
    c.in_ok-add_rendered.ensures (λ output r. r) (λ output r. r)

pub returns : goal.returns
returns c output =
    let Renders = RendersWhole c.args.letters.now in
    let all = includes_all Renders [] c.loop-derivation.outputs.items c.args.found.now
    c.loop-derivation.derivation-index c.loop-derivation-test.false c.loop-derivation.invariant in (
      λ here. elim (all.only output here) [ inl old ↦ absurd (none_in output old) | inr f ↦ f ],
      λ f. all.has output f,
    )
