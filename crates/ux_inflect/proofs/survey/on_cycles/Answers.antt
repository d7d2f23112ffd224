use Rattle.std.proofs.Common.{◌≡◌, ◌∙◌, ◌↔◌, ℕ, ◌+◌, ◌<◌, List, [], Bool, true, get_or, length, subst, sym}
use Rattle.std.proofs.lemmas.List.{get_or_default}
use Rattle.ux_digraph.specs.Paths.{row_of}
use Rattle.ux_digraph.specs.Rules.{is_marked_at}
use Rattle.ux_inflect.specs.Surveys.{IsLevel}
use Rattle.ux_inflect.proofs.ListLemmas.{marked_more}
use Rattle.ux_inflect.proofs.survey.on_cycles.Goals as goal

pub loop-node-preserved : goal.loop-node-preserved
loop-node-preserved c =
    let rows = c.args.rows.now in
    let numbers = c.args.numbers.now in
    let node = c.loop-node.node in
    let P : ℕ → Type 0 = λ u. IsLevel (row_of rows u) numbers (get_or numbers u 0) in
    let row : c.as_slice.result.now ≡ row_of rows node = c.as_slice.ensures
    ∙ (c.index-rows-node.is ∙ sym (get_or_default rows node [] c.index-rows-node.result c.loop-node-test.true)) in
    let level : (c.is_level.result ≡ true) ↔ P node =
    subst (λ (r : List ℕ). (c.is_level.result ≡ true) ↔ IsLevel r numbers (get_or numbers node 0)) row
    (subst (λ n. (c.is_level.result ≡ true) ↔ IsLevel c.as_slice.result.now numbers n)
    c.number_of-number.ensures c.is_level.ensures) in
    subst (λ (marks : List Bool). (length marks ≡ node + 1)
    × ((u : ℕ) → u < node + 1 → (is_marked_at marks u ≡ true) ↔ P u))
    (sym c.in_ok-push.ensures.items)
    (marked_more P c.loop-node.marks.items node c.is_level.result c.loop-node.invariant.0
    c.loop-node.invariant.1 level)
