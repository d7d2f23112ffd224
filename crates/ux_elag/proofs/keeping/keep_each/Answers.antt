use Rattle.std.proofs.Common.{List, ◌≡◌, ◌<◌, ◌∙◌, ap, sym, subst, rules, arith, length, length-set, get_or, set}
use Rattle.std.specs.Prelude.{MatchOption, None}
use Rattle.std.proofs.lemmas.List.{set-get_or}
use Rattle.ux_base.proofs.Lists.{take_whole}
use Rattle.ux_subsets.specs.declared.automaton.Automaton.{Automaton}
use Rattle.ux_elag.specs.declared.prepared_rule.PreparedRule.{PreparedRule}
use Rattle.ux_elag.specs.Numbers.{IsKept}
use Rattle.ux_elag.specs.Prepared.{SatisfiesAll, SatisfiesOne}
use Rattle.ux_elag.proofs.Chained.{first-kept, kept-normal, next-kept}
use Rattle.ux_elag.proofs.keeping.keep_each.Goals as goal

pub loop-index-init : goal.loop-index-init
loop-index-init c =
    let all = c.args.rules.now in
    let rule = c.index-rules-0.result in
    let source = c.args.source in
    let some : 0 < length all = search rules in
    record {
      same = ap (λ (r : PreparedRule). set all 0 r) c.in_ok-kept.ensures.same ∙
          set-get_or all 0 rule;
      kept = first-kept all rule source.last source.links.items c.in_ok-kept.kept some
          c.index-rules-0.is
          (subst (λ (r : PreparedRule). IsKept (SatisfiesOne r) source.last source.links.items
          c.in_ok-kept.kept) (sym c.index-rules-0.is) c.in_ok-kept.ensures.kept);
    }

pub keep_more-requires : goal.keep_more-requires
keep_more-requires c =
    kept-normal _ _ _ c.loop-index.kept c.loop-index.invariant.kept

pub loop-index-preserved : goal.loop-index-preserved
loop-index-preserved c =
    let all = c.args.rules.now in
    let now = c.loop-index.rules in
    let i = c.loop-index.index in
    let rule = c.index-rules-index.result in
    let source = c.args.source in
    let same = c.loop-index.invariant.same in
    let is : rule ≡ get_or all i rule =
    c.index-rules-index.is ∙ ap (λ (rs : List PreparedRule). get_or rs i rule) same in
    let inside : i < length all =
    let lt = c.loop-index-test.true in
    omega (arith, lt, length-set all 0 c.keep_one.new.rule) in
    record {
      same = ap (λ (r : PreparedRule). set now i r) c.in_ok-kept-2.ensures.same
          ∙ (set-get_or now i rule ∙ same);
      kept = next-kept all rule i source.last source.links.items c.loop-index.kept
          c.in_ok-kept-2.kept inside is c.loop-index.invariant.kept
          (subst (λ (r : PreparedRule). MatchOption c.loop-index.kept (c.in_ok-kept-2.kept ≡ None)
          (λ (left : Automaton). IsKept (SatisfiesOne r) left.last left.links.items
          c.in_ok-kept-2.kept)) (sym c.index-rules-index.is) c.in_ok-kept-2.ensures.kept);
    }

pub returns-clause-kept : goal.returns-clause-kept
returns-clause-kept c =
    let all = c.args.rules.now in
    let source = c.args.source in
    subst (λ (rs : List PreparedRule). IsKept (SatisfiesAll rs) source.last source.links.items
    c.loop-index.kept)
    (take_whole all c.loop-index.index (omega (
      arith,
      c.loop-index-test.false,
      length-set all 0
          c.keep_one.new.rule,
    )))
    c.loop-index.invariant.kept
