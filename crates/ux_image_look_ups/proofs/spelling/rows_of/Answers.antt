use Rattle.std.proofs.Common.{◌-◌, ◌∷◌, ◌++◌, List, ℕ, [], get_or, length, refl, subst, ap, arith, ◌∙◌}
use Rattle.std.specs.BTreeMap.{BTreeMap}
use Rattle.std.specs.Prelude.{Vec}
use Rattle.std.specs.declared.alloc.Global.{Global}
use Rattle.ux_image_look_ups.specs.declared.spelling.Link.{Link}
use Rattle.std.proofs.lemmas.List.{get_or_default}
use Rattle.ux_image_look_ups.specs.Spelling.{TellsEnds, TellsRow}
use Rattle.ux_image_look_ups.proofs.SpellingLemmas.{tells-more, tells-start}
use Rattle.ux_image_look_ups.proofs.spelling.rows_of.Goals as goal

abbrev Row : Type 0
Row = BTreeMap ℕ (Vec Link Global)

pub loop-left-init : goal.loop-left-init
loop-left-init c =
    let states = c.args.states.now in
    let text = c.args.text.now in
    let levels = c.args.levels.now in
    let many = c.requires.levels.many in (
      omega arith,
      tells-start states c.args.alphabet.now text levels c.requires.automaton.fit
          c.requires.levels c.push.new.self.items c.in_ok-ends_of.field-0 (length text) refl
          (c.in_ok-push.ensures.items
          ∙ ap (λ (l : List Row). l ++ c.in_ok-ends_of.field-0 ∷ []) c.new-rows.ensures.items)
          (subst (λ (l : List ℕ). TellsEnds states l c.in_ok-ends_of.field-0)
          (c.index-levels-left.is
          ∙ get_or_default levels (length text) c.index-levels-left.result [] (omega (arith, many)))
          c.in_ok-ends_of.ensures),
    )

pub loop-left-preserved : goal.loop-left-preserved
loop-left-preserved c =
    let states = c.args.states.now in
    let text = c.args.text.now in
    let levels = c.args.levels.now in
    let left = c.loop-left.left in
    let some = c.loop-left-test.true in
    let within = c.loop-left.invariant.0 in
    let many = c.requires.levels.many in
    let rows = c.loop-left.rows.items in (
      omega (arith, within),
      tells-more states c.args.alphabet.now text levels c.requires.automaton.fit
          c.requires.levels c.of-taken.result rows c.push-in-loop-left.new.self.items
          c.index.result.now c.in_ok-row.row left some within c.of-taken.ensures.alphabet
          (c.of-taken.ensures.c ∙ c.index-text-left.is
          ∙ get_or_default text (left - 1) c.index-text-left.result 0 (omega (arith, some, within)))
          (c.index.ensures ∙ ap (λ n. get_or rows (n - 1) c.index.result.now) (c.len.ensures ∙ c.loop-left.rows.ok.0))
          c.in_ok-push-2.ensures.items c.loop-left.invariant.1
          (subst (λ (l : List ℕ). TellsRow states c.of-taken.result c.index.result.now l
          c.in_ok-row.row)
          (c.index-levels-left-in-loop-left.is ∙ get_or_default levels (left - 1)
          c.index-levels-left-in-loop-left.result [] (omega (arith, many, some, within)))
          c.in_ok-row.ensures),
    )
