use Rattle.std.proofs.Common.{◌≡◌, ℕ, List, String, Global, map, sym, ◌∙◌, subst, string_bytes}
use Rattle.std.specs.Prelude.{Contains}
use Rattle.ux_base.specs.Distinct.{AreFirsts}
use Rattle.ux_grf.specs.Needs.{calls_of}
use Rattle.ux_tokens.specs.Numbers.{texts_in}
use Rattle.ux_boxes.specs.Missing.{IsFirstLacking}
use Rattle.ux_boxes.proofs.MissingLemmas.{there_more, lacking_first, there_all, there_of_firsts, lacking_of_firsts}
use Rattle.ux_boxes.proofs.missing.first_missing.Goals as goal

-- the names that are gone through are the firsts of the calls
firsts : (calls : List (List ℕ)) (called items : List (String Global)) → items ≡ called →
    AreFirsts calls (map string_bytes called) → AreFirsts calls (map string_bytes items)
firsts calls called items is are =
    subst (λ (l : List (String Global)). AreFirsts calls (map string_bytes l)) (sym is) are

pub returns-then-not-has_name : goal.returns-then-not-has_name
returns-then-not-has_name c =
    let names = texts_in c.args.names.now in
    let calls = calls_of c.args.graph.now in
    let items = c.as_slice-name-items.result.now in
    lacking_of_firsts names calls (map string_bytes items)
    (firsts calls _ items c.as_slice-name-items.ensures.value c.in_ok-called.ensures)
    c.in_ok-from_str.field-0
    (subst (IsFirstLacking (map string_bytes items) names)
    (sym (c.in_ok-from_str.ensures ∙ c.as_str-then-not-has_name.ensures.value))
    (lacking_first names items c.loop-name.name-index
    c.name-item.result c.loop-name-test.true c.name-item.is c.loop-name.invariant
    (λ there. c.has_name.ensures.missing (cc)
    (subst (Contains names) (sym c.as_str.ensures.value) there))))

pub loop-name-preserved : goal.loop-name-preserved
loop-name-preserved c =
    let names = texts_in c.args.names.now in
    there_more names c.as_slice-name-items.result.now c.loop-name.name-index
    c.name-item.result c.loop-name-test.true c.name-item.is c.loop-name.invariant
    (subst (Contains names) c.as_str.ensures.value (c.has_name.ensures.there (cc)))

pub returns : goal.returns
returns c =
    let names = texts_in c.args.names.now in
    let calls = calls_of c.args.graph.now in
    let items = c.as_slice-name-items.result.now in
    there_of_firsts names calls (map string_bytes items)
    (firsts calls _ items c.as_slice-name-items.ensures.value c.in_ok-called.ensures)
    (there_all names items c.loop-name.name-index c.loop-name-test.false c.loop-name.invariant)
