use Rattle.std.proofs.Common.{arith, ◌≡◌, ◌<◌, ◌∙◌, refl, sym, subst}
use Rattle.ux_dawg.specs.Indexed.{held, AreLinked}
use Rattle.ux_dawg.proofs.IndexLemmas.{same_held}
use Rattle.ux_dawg.proofs.index.Index.link_all.Goals as goal

pub loop-item-init : goal.loop-item-init
loop-item-init c = (c.requires.empty, record { hashes = refl; numbers = refl; many = refl })

pub link-requires-clause-within : goal.link-requires-clause-within
link-requires-clause-within c =
    let same = same_held c.args.self.now c.loop-item.self c.loop-item.invariant.1.hashes in
    let test = c.loop-item-test.true in
    let many = c.len-item-end.ensures in
    let all = c.args.self.now.links.ok.0 in
    omega (arith, same, test, many, all)

pub link-requires-clause-some : goal.link-requires-clause-some
link-requires-clause-some c =
    subst (λ k. 0 < k) (sym c.loop-item.invariant.1.many) c.requires.some

pub loop-item-preserved : goal.loop-item-preserved
loop-item-preserved c = (
  c.link.ensures.linked,
  record {
    hashes = c.link.ensures.same.hashes ∙ c.loop-item.invariant.1.hashes;
    numbers = c.link.ensures.same.numbers ∙ c.loop-item.invariant.1.numbers;
    many = c.link.ensures.same.many ∙ c.loop-item.invariant.1.many;
  },
)

pub returns-clause-linked : goal.returns-clause-linked
returns-clause-linked c =
    let same = same_held c.args.self.now c.loop-item.self c.loop-item.invariant.1.hashes in
    let test = c.loop-item-test.false in
    let low = c.loop-item.auto.item-end in
    let many = c.len-item-end.ensures in
    let all = c.args.self.now.links.ok.0 in
    let end : c.loop-item.item ≡ held c.loop-item.self =
    omega (arith, same, test, low, many, all) in
    subst (λ k. AreLinked k c.loop-item.self) end c.loop-item.invariant.0

pub returns-clause-same : goal.returns-clause-same
returns-clause-same c = c.loop-item.invariant.1
