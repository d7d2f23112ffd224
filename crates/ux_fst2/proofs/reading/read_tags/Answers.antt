use Rattle.std.proofs.Common.{◌+◌, ℕ, List, sym, subst, take, inr, refl}
use Rattle.std.specs.List.{AllZip}
use Rattle.ux_fst2.specs.Inner.{IsReadTag}
use Rattle.ux_fst2.specs.Reading.{IsGoodTag, StopsAtTag}
use Rattle.ux_fst2.proofs.ReadingLemmas.{good_more, stops_here}
use Rattle.ux_fst2.proofs.Zips.{zip-more}
use Rattle.ux_fst2.proofs.reading.read_tags.Goals as goal

pub returns-in_default-clause-err : goal.returns-in_default-clause-err
returns-in_default-clause-err c =
    let texts = c.as_slice-texts.result.now in
    let n = c.loop-n.n in
    let bad : IsGoodTag n c.as_str.result.now → ⊥ =
    rw c.in_default.is at c.in_ok-tag.ensures in
    let here : IsGoodTag n c.index-texts-n.result → ⊥ =
    subst (λ (t : List ℕ). IsGoodTag n t → ⊥) c.as_str.ensures bad in
    inr (
      n,
      refl,
      subst (λ (ts : List (List ℕ)). StopsAtTag ts c.args.said.now.is_ended n)
          c.as_slice-texts.ensures
          (stops_here texts _ n c.index-texts-n.result c.loop-n-test.true c.index-texts-n.is
          c.loop-n.invariant.good here),
    )

pub loop-n-preserved : goal.loop-n-preserved
loop-n-preserved c =
    let texts = c.as_slice-texts.result.now in
    let n = c.loop-n.n in
    let text = c.index-texts-n.result in
    let both : IsGoodTag n c.as_str.result.now × IsReadTag c.as_str.result.now c.in-Some.tag =
    rw c.in-Some.is at c.in_ok-tag.ensures in
    record {
      good = good_more texts n text c.index-texts-n.is c.loop-n-test.true c.loop-n.invariant.good
          (subst (IsGoodTag n) c.as_str.ensures both.0);
      read = subst (AllZip IsReadTag (take (n + 1) texts)) (sym c.in_ok-push.ensures.items)
          (zip-more IsReadTag texts c.loop-n.tags.items n text c.in-Some.tag c.loop-n-test.true
          c.index-texts-n.is c.loop-n.invariant.read
          (subst (λ (t : List ℕ). IsReadTag t c.in-Some.tag) c.as_str.ensures both.1));
    }
