use Rattle.std.proofs.Common.{ℕ, List, ◌++◌, ◌∷◌, [], map, string_bytes, take, ◌∙◌, ap, String, Global}
use Rattle.std.proofs.lemmas.List.{map-append, take_all}
use Rattle.ux_boxes.specs.Boxes.{names_of}
use Rattle.ux_boxes.specs.Refusing.{drawn}
use Rattle.ux_boxes.proofs.RefusingLemmas.{Given}
use Rattle.ux_compile.proofs.TestedLaw.{names_next}
use Rattle.ux_compile.proofs.grammar.names_given.Goals as goal

pub loop-name-preserved : goal.loop-name-preserved
loop-name-preserved c =
    ap (λ (l : List (String Global)). map string_bytes l) c.in_ok-push.ensures.items
    ∙ (map-append string_bytes c.loop-name.names.items (c.in_ok-from_str.field-0 ∷ [])
    ∙ (ap (λ (l : List (List ℕ)). l ++ string_bytes c.in_ok-from_str.field-0 ∷ [])
    c.loop-name.invariant
    ∙ (ap (λ (n : List ℕ).
    names_of (drawn (take c.loop-name.name-index c.args.graphs.now)) ++ n ∷ [])
    (c.in_ok-from_str.ensures.ok ∙ c.as_str.ensures.value)
    ∙ names_next c.args.graphs.now c.loop-name.name-index c.loop-name-item.result
    c.loop-name-test.true c.loop-name-item.is)))

pub returns : goal.returns
returns c =
    c.loop-name.invariant
    ∙ ap (λ (l : List Given). names_of (drawn l))
    (take_all c.loop-name.name-index c.args.graphs.now c.loop-name-test.false)
