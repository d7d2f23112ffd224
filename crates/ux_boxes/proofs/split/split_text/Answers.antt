use Rattle.std.proofs.Common.{arith, ◌≡◌, ◌-◌, ◌++◌, ℕ, List, [], ◌∷◌, ap, sym, subst, take, length, refl, ◌∙◌}
use Rattle.std.proofs.lemmas.Bool.{eqb-true}
use Rattle.std.proofs.lemmas.Grind.{common_steps}
use Rattle.std.proofs.lemmas.List.{drop_all}
use Rattle.ux_tokens.specs.Tokens.{with_single_spaces}
use Rattle.ux_net.specs.declared.label.Label.{Label}
use Rattle.ux_boxes.specs.Splitting.{label_by}
use Rattle.ux_boxes.proofs.SplittingLemmas.{IsCutInto, cut_into_start, cut_into_more, cut_into_end, labels_of}
use Rattle.ux_boxes.proofs.split.split_text.Goals as goal

pub loop-rest-init : goal.loop-rest-init
loop-rest-init c =
    let alphabet = c.args.alphabet.now in
    let text = with_single_spaces c.args.text.now in
    let before = c.args.labels.now.items in (
      c.as_str-rest.utf8,
      subst (λ (rest : List ℕ). IsCutInto alphabet c.args.comparison text before rest before)
          (sym (c.as_str-rest.ensures.value ∙ c.in_ok-text.ensures))
          (cut_into_start alphabet c.args.comparison text before),
    )

pub loop-rest-preserved : goal.loop-rest-preserved
loop-rest-preserved c =
    let alphabet = c.args.alphabet.now in
    let text = with_single_spaces c.args.text.now in
    let before = c.args.labels.now.items in
    let rest = c.loop-rest.rest.now in
    let after = c.range_from-rest.result.now in
    let labels = c.loop-rest.labels.items in
    let kind = c.first_token-kind.result.0 in
    let len = c.first_token-kind.result.1 in
    let whole_len : len - 0 ≡ len = omega arith in
    let token : c.range.result.now ≡ take len rest =
    c.range.ensures.value ∙ ap (λ (n : ℕ). take n rest) whole_len in
    let label : c.in_ok-label_by.field-0 ≡ label_by c.args.comparison kind (take len rest) =
    c.in_ok-label_by.ensures ∙ ap (label_by c.args.comparison kind) token in
    let grown : c.push.new.self.items ≡ labels ++ label_by c.args.comparison kind (take len rest)
    ∷ [] =
    c.in_ok-push.ensures.items ∙ ap (λ (s : Label). labels ++ s ∷ []) label in (
      c.range_from-rest.utf8,
      subst (IsCutInto alphabet c.args.comparison text before after) (sym grown)
          (cut_into_more alphabet c.args.comparison text before rest after labels kind len
          c.first_token-kind.ensures.is c.first_token-kind.ensures.plain
          c.range_from-rest.ensures.value c.loop-rest.invariant.1),
    )

pub returns : goal.returns
returns c =
    let alphabet = c.args.alphabet.now in
    let text = with_single_spaces c.args.text.now in
    let before = c.args.labels.now.items in
    let rest = c.loop-rest.rest.now in
    let empty : length rest ≡ 0 =
    eqb-true (length rest) 0 (sym c.is_empty.ensures ∙ c.loop-rest-test.false) in
    let whole = cut_into_end alphabet c.args.comparison text before c.loop-rest.labels.items
    (subst (λ (rest : List ℕ).
    IsCutInto alphabet c.args.comparison text before rest c.loop-rest.labels.items)
    (drop_all 0 rest (omega arith)) c.loop-rest.invariant.1) in
    (labels_of c.args.comparison whole.0, (whole.0, whole.1, refl), whole.2)

pub returns-in_err-text : goal.returns-in_err-text
returns-in_err-text c = grind (arith, common_steps)

pub is_empty-requires-text-self : goal.is_empty-requires-text-self
is_empty-requires-text-self c κs = grind (arith, common_steps)

pub first_token-kind-requires : goal.first_token-kind-requires
first_token-kind-requires c = grind (arith, common_steps)

pub range-requires-clause-start_le_end : goal.range-requires-clause-start_le_end
range-requires-clause-start_le_end c = grind (arith, common_steps)

pub range-requires-clause-start_boundary : goal.range-requires-clause-start_boundary
range-requires-clause-start_boundary c = grind (arith, common_steps)

pub range-requires-clause-end_boundary : goal.range-requires-clause-end_boundary
range-requires-clause-end_boundary c = grind (arith, common_steps)

pub returns-in_err-label_by : goal.returns-in_err-label_by
returns-in_err-label_by c = grind (arith, common_steps)

pub returns-in_err-push : goal.returns-in_err-push
returns-in_err-push c = grind (arith, common_steps)

pub range_from-rest-requires : goal.range_from-rest-requires
range_from-rest-requires c = grind (arith, common_steps)

pub loop-rest-smaller : goal.loop-rest-smaller
loop-rest-smaller c = grind (arith, common_steps)
