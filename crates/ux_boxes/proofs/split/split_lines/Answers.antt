use Rattle.std.proofs.Common.{◌≡◌, List, ◌++◌, ◌∷◌, [], sym, subst, take, ◌+◌, arith}
use Rattle.std.proofs.lemmas.Grind.{common_steps}
use Rattle.ux_grf.specs.declared.item.Item.{Item}
use Rattle.ux_net.specs.declared.label.Label.{Label}
use Rattle.ux_boxes.specs.Boxes.{IsSplitLine}
use Rattle.ux_boxes.specs.Splitting.{AreSplitLines}
use Rattle.ux_boxes.proofs.SplittingLemmas.{split_lines_more}
use Rattle.ux_tokens.specs.Numbers.{texts_in}
use Rattle.ux_boxes.proofs.split.split_lines.Goals as goal

pub loop-line-preserved : goal.loop-line-preserved
loop-line-preserved c =
    let alphabet = c.args.alphabet.now in
    let names = texts_in c.args.names.now in
    let lines = c.args.lines.now in
    let i = c.loop-line.line-index in
    let split : List (List Label) = c.loop-line.all.items in
    let labels : List Label = c.in_ok-split_line.field-0 in
    let grown : c.push.new.self.items ≡ split ++ labels ∷ [] = c.in_ok-push.ensures.items in
    let one : IsSplitLine alphabet names c.line-item.result labels =
    subst (λ (line : List Item). IsSplitLine alphabet names line labels) c.as_slice.ensures
    c.in_ok-split_line.ensures in
    subst (AreSplitLines alphabet names (take (i + 1) lines)) (sym {A = List (List Label)} grown)
    (split_lines_more alphabet names lines i c.line-item.result split labels
    c.loop-line-test.true c.line-item.is c.loop-line.invariant one)

pub returns : goal.returns
returns c = grind (arith, common_steps)
