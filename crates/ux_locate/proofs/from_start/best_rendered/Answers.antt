use Rattle.std.proofs.Common.{[], sym, subst, inl, inr}
use Rattle.std.specs.Prelude.{Contains}
use Rattle.std.proofs.lemmas.List.Elements.{Contains-get_or}
use Rattle.ux_walk.proofs.Collecting.{Among, includes_all, includes_more, includes_none, none_in}
use Rattle.ux_locate.specs.Finding.{IsRendered}
use Rattle.ux_locate.specs.Keeping.{AreBest, last_of}
use Rattle.ux_locate.proofs.BestLemmas.{best_none, best_same}
use Rattle.ux_locate.proofs.from_start.best_rendered.Goals as goal

pub loop-derivation-init : goal.loop-derivation-init
loop-derivation-init c =
    let search = c.args.search.now in (
      [],
      includes_none (IsRendered search c.args.start) [] c.args.found.now,
      subst (AreBest c.args.policy last_of (Contains [])) (sym c.new-best.ensures.items)
          (best_none c.args.policy last_of (Contains []) none_in),
    )

pub add_rendered-requires : goal.add_rendered-requires
add_rendered-requires c =
    let item = c.derivation-item.result in
    c.requires item.0 item.1
    (subst (Contains c.args.found.now) (sym c.derivation-item.is)
    (Contains-get_or c.args.found.now c.loop-derivation.derivation-index item
    c.loop-derivation-test.true))

pub loop-derivation-preserved : goal.loop-derivation-preserved
loop-derivation-preserved c =
    let search = c.args.search.now in
    let Hits = IsRendered search c.args.start in
    let item = c.derivation-item.result in
    let so_far = c.loop-derivation.invariant in
    let more = c.in_ok-add_rendered.ensures so_far.0 so_far.2 in (
      more.0,
      includes_more Hits [] so_far.0 more.0 c.args.found.now c.loop-derivation.derivation-index item
          (Hits item) c.loop-derivation-test.true c.derivation-item.is so_far.1 more.1
          (λ hit f. f) (λ hit f. f),
      more.2,
    )

pub returns : goal.returns
returns c =
    let search = c.args.search.now in
    let Hits = IsRendered search c.args.start in
    let found = c.args.found.now in
    let so_far = c.loop-derivation.invariant in
    let all = includes_all Hits [] so_far.0 found c.loop-derivation.derivation-index
    c.loop-derivation-test.false so_far.1 in
    best_same c.args.policy last_of (Contains so_far.0) (Among Hits found) (λ hit. (
      λ c. elim (all.only hit c) [ inl old ↦ absurd (none_in hit old) | inr f ↦ f ],
      λ f. all.has hit f,
    )) c.loop-derivation.best.items so_far.2
