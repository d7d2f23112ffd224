use Rattle.std.proofs.Common.{◌≡◌, ◌∙◌, List, ℕ, [], ◌∷◌, fold, map, string_bytes, ap, sym, subst}
use Rattle.std.proofs.lemmas.Iterator.Consumers.{YieldsList-end}
use Rattle.std.proofs.lemmas.Iterator.Adapters.{YieldsList-from_vec}
use Rattle.std.proofs.lemmas.List.{map-id, map-append}
use Rattle.ux_base.specs.Distinct.{GrowsBy, with_text}
use Rattle.ux_base.proofs.FirstTextsLemmas.{GrowsBy-firsts}
use Rattle.ux_grf.specs.Needs.{calls_of}
use Rattle.ux_grammars.proofs.TableLemmas.{fold_push}
use Rattle.ux_grammars.proofs.graphs.add_needs.Goals as goal

pub loop-name-preserved : goal.loop-name-preserved
loop-name-preserved c =
    let old = c.args.names.now.keys in
    let yielded = c.loop-name.yielded in
    let name = string_bytes c.in-Some.name in
    c.in_ok-add_name.ensures
    ∙ (ap (λ (l : List (List ℕ)). with_text l name) c.loop-name.invariant
    ∙ (sym (fold_push old (map string_bytes yielded) name)
    ∙ ap (λ (l : List (List ℕ)). fold with_text old l)
    (sym (map-append string_bytes yielded (c.in-Some.name ∷ [])))))

pub returns : goal.returns
returns c =
    let items = c.in_ok-name-items.name-items.items in
    let gives = c.into_iter-name-iterator.ensures.into_iter_gives in
    let kept = c.in_ok-name-items.name-items.ok in
    let all =
    YieldsList-end (YieldsList-from_vec items gives.0 (gives.1 ∙ kept.0)) c.loop-name.yielded
    _ c.loop-name.yielded_by c.next.result c.next.new.self c.in-None.is c.next.ensures.steps in
    let same : c.loop-name.yielded ≡ items = sym (map-id c.loop-name.yielded) ∙ all.0 in
    let old = c.args.names.now.keys in
    let calls = calls_of c.args.graph.now in
    subst (GrowsBy calls old)
    (sym (c.loop-name.invariant
    ∙ ap (λ (l : List (List ℕ)). fold with_text old l) (ap (map string_bytes) same)))
    (GrowsBy-firsts calls (map string_bytes items) old c.in_ok-name-items.ensures)
