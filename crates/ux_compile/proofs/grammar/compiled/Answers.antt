use Rattle.std.proofs.Common.{arith, ◌≡◌, ℕ, List, length, map, string_bytes, ◌∙◌, ap, subst, String, Global}
use Rattle.std.proofs.lemmas.List.{length-map}
use Rattle.std.proofs.lemmas.Result.{IfErr-weaker, IfOk-weaker, on_ok_weaker}
use Rattle.ux_boxes.specs.Boxes.{Drawn, names_of}
use Rattle.ux_compile.specs.Compiling.{AreTested, IsBuiltOf, RefusesNet}
use Rattle.ux_boxes.specs.Refusing.{drawn, drawn_of}
use Rattle.ux_compile.proofs.TestedLaw.{handed, tested_fit, tested_reached, tested_few, tested_are_fit, tested_count, tested_compilable, tested_constructed, tested_same, tested_sound, tested_admitted, tested_refused}
use Rattle.ux_boxes.proofs.RefusingLemmas.{Given}
use Rattle.ux_compile.proofs.grammar.compiled.Goals as goal

pub net_of-requires-clause-count : goal.net_of-requires-clause-count
net_of-requires-clause-count c =
    let tested : AreTested c.args.alphabet.now (drawn c.args.graphs.items) c.deref-4.result.now =
    handed c.args.alphabet.now c.deref.result.now c.args.graphs.items
    c.in_ok-places.places.items c.deref-4.result.now c.deref.ensures.value
    c.deref-4.ensures.value c.in_ok-places.ensures.ok in
    let count = tested_count c.args.alphabet.now c.args.graphs.items c.requires.well_formed
    c.requires.small c.requires.distinct c.deref-4.result.now tested in
    let same = ap (λ (l : List (List ℕ)). length l)
    (ap (λ (l : List (String Global)). map string_bytes l) c.deref-3.ensures.value
    ∙ (c.in_ok-names.ensures
    ∙ ap (λ (l : List Given). names_of (drawn l)) c.deref-2.ensures.value)) in
    let len = length-map c.deref-3.result.now string_bytes in
    let drawn_len = length-map c.args.graphs.items drawn_of in
    let named_len = length-map (drawn c.args.graphs.items) (λ (d : Drawn). d.name) in
    omega (arith, count, same, len, drawn_len, named_len)

pub net_of-requires-clause-few_graphs : goal.net_of-requires-clause-few_graphs
net_of-requires-clause-few_graphs c =
    let same = ap (λ (l : List (List ℕ)). length l)
    (ap (λ (l : List (String Global)). map string_bytes l) c.deref-3.ensures.value
    ∙ (c.in_ok-names.ensures
    ∙ ap (λ (l : List Given). names_of (drawn l)) c.deref-2.ensures.value)) in
    let len = length-map c.deref-3.result.now string_bytes in
    let drawn_len = length-map c.args.graphs.items drawn_of in
    let named_len = length-map (drawn c.args.graphs.items) (λ (d : Drawn). d.name) in
    let few = c.requires.few in
    omega (arith, same, len, drawn_len, named_len, few)

pub net_of-requires-clause-fit : goal.net_of-requires-clause-fit
net_of-requires-clause-fit c =
    let tested : AreTested c.args.alphabet.now (drawn c.args.graphs.items) c.deref-4.result.now =
    handed c.args.alphabet.now c.deref.result.now c.args.graphs.items
    c.in_ok-places.places.items c.deref-4.result.now c.deref.ensures.value
    c.deref-4.ensures.value c.in_ok-places.ensures.ok in
    tested_fit c.args.alphabet.now c.args.graphs.items c.requires.well_formed
    c.requires.small c.requires.distinct c.deref-4.result.now tested

pub net_of-requires-clause-reached : goal.net_of-requires-clause-reached
net_of-requires-clause-reached c =
    let tested : AreTested c.args.alphabet.now (drawn c.args.graphs.items) c.deref-4.result.now =
    handed c.args.alphabet.now c.deref.result.now c.args.graphs.items
    c.in_ok-places.places.items c.deref-4.result.now c.deref.ensures.value
    c.deref-4.ensures.value c.in_ok-places.ensures.ok in
    tested_reached c.args.alphabet.now c.args.graphs.items c.requires.well_formed
    c.requires.small c.requires.distinct c.deref-4.result.now tested

pub net_of-requires-clause-few : goal.net_of-requires-clause-few
net_of-requires-clause-few c =
    let tested : AreTested c.args.alphabet.now (drawn c.args.graphs.items) c.deref-4.result.now =
    handed c.args.alphabet.now c.deref.result.now c.args.graphs.items
    c.in_ok-places.places.items c.deref-4.result.now c.deref.ensures.value
    c.deref-4.ensures.value c.in_ok-places.ensures.ok in
    tested_few c.args.alphabet.now c.args.graphs.items c.requires.well_formed
    c.requires.small c.requires.distinct c.deref-4.result.now tested

pub net_of-requires-clause-are_fit : goal.net_of-requires-clause-are_fit
net_of-requires-clause-are_fit c =
    let tested : AreTested c.args.alphabet.now (drawn c.args.graphs.items) c.deref-4.result.now =
    handed c.args.alphabet.now c.deref.result.now c.args.graphs.items
    c.in_ok-places.places.items c.deref-4.result.now c.deref.ensures.value
    c.deref-4.ensures.value c.in_ok-places.ensures.ok in
    tested_are_fit c.args.alphabet.now c.args.graphs.items c.requires.well_formed
    c.requires.small c.requires.distinct c.deref-4.result.now tested

pub returns-clause-compilable : goal.returns-clause-compilable
returns-clause-compilable c =
    let tested : AreTested c.args.alphabet.now (drawn c.args.graphs.items) c.deref-4.result.now =
    handed c.args.alphabet.now c.deref.result.now c.args.graphs.items
    c.in_ok-places.places.items c.deref-4.result.now c.deref.ensures.value
    c.deref-4.ensures.value c.in_ok-places.ensures.ok in
    on_ok_weaker c.net_of.result (λ sound.
    tested_compilable c.args.alphabet.now c.args.graphs.items c.requires.well_formed
    c.requires.small c.requires.distinct c.deref-4.result.now tested sound)
    c.net_of.ensures.sound

pub returns-clause-built : goal.returns-clause-built
returns-clause-built c =
    let tested : AreTested c.args.alphabet.now (drawn c.args.graphs.items) c.deref-4.result.now =
    handed c.args.alphabet.now c.deref.result.now c.args.graphs.items
    c.in_ok-places.places.items c.deref-4.result.now c.deref.ensures.value
    c.deref-4.ensures.value c.in_ok-places.ensures.ok in
    let names : map string_bytes c.deref-3.result.now ≡ names_of (drawn c.args.graphs.items) =
    ap (λ (l : List (String Global)). map string_bytes l) c.deref-3.ensures.value
    ∙ (c.in_ok-names.ensures
    ∙ ap (λ (l : List Given). names_of (drawn l)) c.deref-2.ensures.value) in
    IfOk-weaker c.net_of.result _ _ (λ net of.
    tested_constructed c.args.alphabet.now c.args.graphs.items c.requires.well_formed
    c.requires.small c.requires.distinct c.deref-4.result.now tested net.items
    (subst (λ (l : List (List ℕ)). IsBuiltOf l c.deref-4.result.now net.items) names of))
    c.net_of.ensures.built

pub returns-clause-words : goal.returns-clause-words
returns-clause-words c =
    let tested : AreTested c.args.alphabet.now (drawn c.args.graphs.items) c.deref-4.result.now =
    handed c.args.alphabet.now c.deref.result.now c.args.graphs.items
    c.in_ok-places.places.items c.deref-4.result.now c.deref.ensures.value
    c.deref-4.ensures.value c.in_ok-places.ensures.ok in
    let names : map string_bytes c.deref-3.result.now ≡ names_of (drawn c.args.graphs.items) =
    ap (λ (l : List (String Global)). map string_bytes l) c.deref-3.ensures.value
    ∙ (c.in_ok-names.ensures
    ∙ ap (λ (l : List Given). names_of (drawn l)) c.deref-2.ensures.value) in
    IfOk-weaker c.net_of.result _ _ (λ net of.
    tested_same c.args.alphabet.now c.args.graphs.items c.requires.well_formed
    c.requires.small c.requires.distinct c.deref-4.result.now tested net.items
    (subst (λ (l : List (List ℕ)). IsBuiltOf l c.deref-4.result.now net.items) names of))
    c.net_of.ensures.built

pub returns-clause-sound : goal.returns-clause-sound
returns-clause-sound c =
    let tested : AreTested c.args.alphabet.now (drawn c.args.graphs.items) c.deref-4.result.now =
    handed c.args.alphabet.now c.deref.result.now c.args.graphs.items
    c.in_ok-places.places.items c.deref-4.result.now c.deref.ensures.value
    c.deref-4.ensures.value c.in_ok-places.ensures.ok in
    let names : map string_bytes c.deref-3.result.now ≡ names_of (drawn c.args.graphs.items) =
    ap (λ (l : List (String Global)). map string_bytes l) c.deref-3.ensures.value
    ∙ (c.in_ok-names.ensures
    ∙ ap (λ (l : List Given). names_of (drawn l)) c.deref-2.ensures.value) in
    IfOk-weaker c.net_of.result _ _ (λ net of.
    tested_sound c.args.alphabet.now c.args.graphs.items c.requires.well_formed
    c.requires.small c.requires.distinct c.deref-4.result.now tested net.items
    (subst (λ (l : List (List ℕ)). IsBuiltOf l c.deref-4.result.now net.items) names of)
    c.requires.some c.requires.few) c.net_of.ensures.built

pub returns-clause-admitted : goal.returns-clause-admitted
returns-clause-admitted c =
    let tested : AreTested c.args.alphabet.now (drawn c.args.graphs.items) c.deref-4.result.now =
    handed c.args.alphabet.now c.deref.result.now c.args.graphs.items
    c.in_ok-places.places.items c.deref-4.result.now c.deref.ensures.value
    c.deref-4.ensures.value c.in_ok-places.ensures.ok in
    let names : map string_bytes c.deref-3.result.now ≡ names_of (drawn c.args.graphs.items) =
    ap (λ (l : List (String Global)). map string_bytes l) c.deref-3.ensures.value
    ∙ (c.in_ok-names.ensures
    ∙ ap (λ (l : List Given). names_of (drawn l)) c.deref-2.ensures.value) in
    IfOk-weaker c.net_of.result _ _ (λ net of.
    tested_admitted c.args.alphabet.now c.args.graphs.items c.requires.well_formed
    c.requires.small c.requires.distinct c.deref-4.result.now tested net.items
    (subst (λ (l : List (List ℕ)). IsBuiltOf l c.deref-4.result.now net.items) names of)
    c.requires.some c.requires.few) c.net_of.ensures.built

pub returns-clause-err : goal.returns-clause-err
returns-clause-err c =
    let tested : AreTested c.args.alphabet.now (drawn c.args.graphs.items) c.deref-4.result.now =
    handed c.args.alphabet.now c.deref.result.now c.args.graphs.items
    c.in_ok-places.places.items c.deref-4.result.now c.deref.ensures.value
    c.deref-4.ensures.value c.in_ok-places.ensures.ok in
    let names : map string_bytes c.deref-3.result.now ≡ names_of (drawn c.args.graphs.items) =
    ap (λ (l : List (String Global)). map string_bytes l) c.deref-3.ensures.value
    ∙ (c.in_ok-names.ensures
    ∙ ap (λ (l : List Given). names_of (drawn l)) c.deref-2.ensures.value) in
    IfErr-weaker c.net_of.result _ _ (λ error refuses.
    tested_refused c.args.alphabet.now c.args.graphs.items c.requires.well_formed
    c.requires.small c.requires.distinct c.deref-4.result.now tested error
    (subst (λ (l : List (List ℕ)). RefusesNet l c.deref-4.result.now error) names refuses))
    c.net_of.ensures.err
