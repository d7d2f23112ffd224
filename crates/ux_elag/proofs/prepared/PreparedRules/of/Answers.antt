use Rattle.std.proofs.Common.{ℕ, List, ◌≡◌, ◌+◌, ◌≤◌, ◌∙◌, arith, ap, sym, subst, length}
use Rattle.std.specs.Prelude.{All}
use Rattle.std.specs.List.{AllZip}
use Rattle.std.proofs.lemmas.List.Elements.{length_all_zip}
use Rattle.ux_elag.specs.declared.prepared_rule.PreparedRule.{PreparedRule}
use Rattle.ux_monitor.specs.Parts.{IsProductOf, RulePart}
use Rattle.ux_rules.specs.Rules.{RuleSteps}
use Rattle.ux_elag.specs.Codes.{AreUsable}
use Rattle.ux_elag.specs.Prepared.{ArePrepared, IsPreparedFor, Notes, parts_in}
use Rattle.ux_elag.proofs.PreparedLemmas.{fresh-prepared, noted-prepared, parts-long, rules_of, written-back}
use Rattle.ux_elag.proofs.prepared.PreparedRules.of.Goals as goal

pub loop-number-init : goal.loop-number-init
loop-number-init c =
    let found = fresh-prepared c.args.table.now c.args.rules.items c.in_ok-prepared.prepared.items
    c.in_ok-prepared.ensures in
    record { same = found.0; each = found.1 }

pub loop-number-preserved : goal.loop-number-preserved
loop-number-preserved c =
    let texts = c.args.table.now in
    let old = c.loop-number.prepared.items in
    let new = c.note_number.new.rules in
    let noted = c.in_ok-note_number.ensures in
    let all : AllZip (Notes noted.0) old new =
    subst (λ (rs : List PreparedRule). AllZip (Notes noted.0) rs new) c.as_mut_slice.ensures.value
    noted.2 in
    let found = noted-prepared texts c.loop-number.number noted.0 noted.1 old new all
    c.loop-number.invariant.each in
    let len : c.loop-number.prepared.len ≡ length old = c.loop-number.prepared.ok.0 in
    let is = written-back old new c.loop-number.prepared.len len
    (sym (length_all_zip (Notes noted.0) old new all)) in
    record {
      same = subst (λ (rs : List PreparedRule). rules_of rs ≡ c.args.rules.items) (sym is)
          (found.0 ∙ c.loop-number.invariant.same);
      each = subst (All (IsPreparedFor texts (c.loop-number.number + 1))) (sym is) found.1;
    }

pub note_number-requires-clause-prepared : goal.note_number-requires-clause-prepared
note_number-requires-clause-prepared c =
    subst (All (IsPreparedFor c.args.table.now c.loop-number.number))
    (sym c.as_mut_slice.ensures.value) c.loop-number.invariant.each

-- the rules are still those that were looked at
pub note_number-requires-clause-likes : goal.note_number-requires-clause-likes
note_number-requires-clause-likes c =
    let usable = subst (λ (rs : List RuleSteps). AreUsable c.args.table.now rs
    c.usable_likes-likes.result.now) c.as_slice.ensures.value c.usable_likes-likes.ensures in
    subst (λ (rs : List RuleSteps). AreUsable c.args.table.now rs c.usable_likes-likes.result.now)
    (sym (ap rules_of c.as_mut_slice.ensures.value ∙ c.loop-number.invariant.same)) usable

pub product_of-requires : goal.product_of-requires
product_of-requires c =
    let same = c.texts-texts.ensures in
    let all : c.loop-number.number ≡ length c.args.table.now =
    let long = ap length same in omega (arith, long) in
    let len = ap length same in
    subst (λ (rs : List PreparedRule). All (λ (part : RulePart). length c.texts-texts.result.now ≤ length part.of)
    (parts_in rs)) (sym c.as_slice-2.ensures.value)
    (subst (λ (n : ℕ). All (λ (part : RulePart). n ≤ length part.of)
    (parts_in c.loop-number.prepared.items)) (all ∙ sym len)
    (parts-long c.args.table.now c.loop-number.number c.loop-number.prepared.items
    c.loop-number.invariant.each))

pub invariant_of-result : goal.invariant_of-result
invariant_of-result c =
    let rules = c.loop-number.prepared.items in
    let same = c.texts-texts.ensures in
    let all : c.loop-number.number ≡ length c.args.table.now =
    let long = ap length same in omega (arith, long) in (
      subst (λ (ts : List (List ℕ)). ArePrepared ts rules) (sym same) (record {
        are_texts = c.requires;
        each = subst (λ (n : ℕ). All (IsPreparedFor c.args.table.now n) rules) all
            c.loop-number.invariant.each;
      }),
      subst (λ (rs : List PreparedRule). IsProductOf (parts_in rs) c.in_ok-product.product)
          c.as_slice-2.ensures.value c.in_ok-product.ensures,
    )
