use Rattle.std.proofs.Common.{arith, ◌≡◌, ℕ, suc, ◌+◌, ◌<◌, ◌≤◌, List, length, get_or, ap, ◌∙◌, sym, subst}
use Rattle.std.proofs.lemmas.List.{length_push, get_or_default}
use Rattle.ux_boxes.specs.Numbers.{places_before}
use Rattle.ux_boxes.proofs.NumbersLemmas.{before_next, offset_more}
use Rattle.ux_boxes.proofs.offsets.offsets_of.Goals as goal

pub loop-places-preserved : goal.loop-places-preserved
loop-places-preserved c =
    let items = c.in_ok-push-2.ensures.items in
    let total : c.in_ok-total.total ≡ places_before c.args.graphs.now
    (suc (c.loop-places.places-index + 1)) =
    c.in_ok-total.ensures.sum ∙ (ap (λ n. n + length c.as_slice.result.now)
    c.loop-places.invariant.total ∙ sym (before_next c.args.graphs.now
    c.loop-places.places-index c.as_slice.result.now c.loop-places-test.true
    (c.as_slice.ensures ∙ (c.places-item.is ∙ get_or_default c.args.graphs.now
    c.loop-places.places-index c.places-item.result c.as_slice.result.now
    c.loop-places-test.true)))) in
    record {
      len = ap length items ∙ (length_push c.loop-places.offsets.items c.in_ok-total.total
          ∙ ap (λ n. n + 1) c.loop-places.invariant.len);
      total = total;
      few = c.in_ok-total.ensures.few;
      offset = subst (λ (xs : List ℕ). (k : ℕ) → k ≤ c.loop-places.places-index + 1 →
          get_or xs k 0 ≡ places_before c.args.graphs.now (suc k)) (sym items)
          (offset_more c.args.graphs.now c.loop-places.offsets.items c.loop-places.places-index
          c.in_ok-total.total c.loop-places.invariant.len total c.loop-places.invariant.offset);
    }

pub returns : goal.returns
returns c =
    let most = c.loop-places.auto.places-index-end in
    let least = c.loop-places-test.false in
    let all : c.loop-places.places-index ≡ length c.args.graphs.now = omega arith in
    let len = c.loop-places.invariant.len in
    record {
      len = omega arith;
      offset = λ k l. c.loop-places.invariant.offset k (omega arith);
      few = subst (λ n. places_before c.args.graphs.now (suc n) < 18446744073709551616) all
          (subst (λ n. n < 18446744073709551616) c.loop-places.invariant.total
          c.loop-places.invariant.few);
    }
