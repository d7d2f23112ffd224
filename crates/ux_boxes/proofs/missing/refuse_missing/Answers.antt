use Rattle.std.proofs.Common.{arith, ℕ, List, subst}
use Rattle.std.proofs.lemmas.List.{length-map}
use Rattle.ux_tokens.specs.Numbers.{texts_in}
use Rattle.ux_boxes.specs.Missing.{AreThere, IsFirstLacking}
use Rattle.ux_boxes.specs.Refusing.{drawn, drawn_of, calls_of}
use Rattle.ux_boxes.proofs.MissingLemmas.{called_more, missing_first, whole_all, told_some, told_none}
use Rattle.ux_boxes.proofs.missing.refuse_missing.Goals as goal

pub returns-in-Some-clause-err : goal.returns-in-Some-clause-err
returns-in-Some-clause-err c =
    missing_first c.args.graphs.now c.loop-graph.graph-index c.loop-graph-item.result
    c.loop-graph-test.true c.loop-graph-item.is c.in-Some.name c.loop-graph.invariant
    (subst (λ (names : List (List ℕ)).
    IsFirstLacking (calls_of (drawn_of c.loop-graph-item.result)) names c.in-Some.name)
    c.requires.names
    (told_some (AreThere (calls_of (drawn_of c.loop-graph-item.result)) (texts_in c.args.names.now))
    (IsFirstLacking (calls_of (drawn_of c.loop-graph-item.result)) (texts_in c.args.names.now))
    c.in_ok-name.field-0 c.in-Some.name c.in-Some.is c.in_ok-name.ensures))

pub loop-graph-preserved : goal.loop-graph-preserved
loop-graph-preserved c =
    called_more c.args.graphs.now c.loop-graph.graph-index c.loop-graph-item.result
    c.loop-graph-test.true c.loop-graph-item.is c.loop-graph.invariant
    (subst (AreThere (calls_of (drawn_of c.loop-graph-item.result)))
    c.requires.names
    (told_none (AreThere (calls_of (drawn_of c.loop-graph-item.result)) (texts_in c.args.names.now))
    (IsFirstLacking (calls_of (drawn_of c.loop-graph-item.result)) (texts_in c.args.names.now))
    c.in_ok-name.field-0 c.in_default.is c.in_ok-name.ensures))

pub returns-clause-ok : goal.returns-clause-ok
returns-clause-ok c =
    whole_all (drawn c.args.graphs.now) c.loop-graph.graph-index
    (let len = length-map c.args.graphs.now drawn_of in
    let past = c.loop-graph-test.false in omega (arith, len, past))
    c.loop-graph.invariant
