-- The parts answer the whole.
use Rattle.std.proofs.Common.{◌≡◌, ◌∙◌, ◌+◌, ◌*◌, ℕ, List, Bool, Vec, Global, false, map, subst, sym}
use Rattle.std.specs.Prelude.{Option}
use Rattle.std.proofs.lemmas.Result.{err_from_is_err_and}
use Rattle.ux_digraph.specs.Rules.{is_marked_at}
use Rattle.ux_rules.specs.declared.step.Step.{Step}
use Rattle.ux_rules.specs.Finding.{FindsFirst, IsBadByPhases}
use Rattle.ux_rules.specs.Phases.{FindsPhases}
use Rattle.ux_rules.specs.Refusing.{HasCall}
use Rattle.ux_rules.specs.Rules.{AreInside, AreLeaving}
use Rattle.ux_rules.proofs.OfLemmas.{no_call, no_bad_item, first_bad_box, no_bad_box, has_if_same, draft_inside, same_pairs, stops_refuses}
use Rattle.ux_rules.proofs.rule.Rule.of.Goals as goal

pub returns-in_err-places-clause-err : goal.returns-in_err-places-clause-err
returns-in_err-places-clause-err c =
    let graph = c.args.graph.now in
    let p = err_from_is_err_and c.from_residual.result c.from_residual.ensures.1 in
    rw (p.1, p.2) (stops_refuses graph (no_call graph c.requires.formed
    (subst (λ (o : Option ℕ). FindsFirst graph (HasCall graph) o) c.in_default.is
    c.first_call.ensures)) c.in_err-places.field-0.0 c.in_err-places.ensures.err)

pub phases_of-requires : goal.phases_of-requires
phases_of-requires c =
    let draft = c.in_ok-places.field-0 in
    record {
      inside = subst (λ (ss : List Step). AreInside draft.places ss) (sym c.deref.ensures.value)
          (draft_inside c.args.graph.now c.requires.formed draft c.in_ok-places.ensures.draft);
    }

pub returns-in-Some-first_bad-clause-err : goal.returns-in-Some-first_bad-clause-err
returns-in-Some-first_bad-clause-err c =
    let graph = c.args.graph.now in
    let formed = c.requires.formed in
    let draft = c.in_ok-places.field-0 in
    let drawn = c.in_ok-places.ensures.draft in
    let done = c.in_ok-places.ensures.done in
    let found = c.deref-2.result.now in
    let finds : FindsPhases draft.steps.items found =
    subst (λ (f : List Bool). FindsPhases draft.steps.items f) (sym c.deref-2.ensures.value)
    (subst (λ (ss : List Step). FindsPhases ss c.in_ok-found.found.items) c.deref.ensures.value
    c.in_ok-found.ensures) in (
      no_call graph formed (subst (λ (o : Option ℕ). FindsFirst graph (HasCall graph) o)
          c.in_default.is c.first_call.ensures),
      no_bad_item graph formed draft done,
      first_bad_box graph formed draft drawn done found finds c.in-Some-first_bad.node
          (subst (λ (o : Option ℕ). FindsFirst graph (IsBadByPhases graph found) o)
          c.in-Some-first_bad.is c.first_bad.ensures),
    )

pub returns-then-not-has_if-clause-err : goal.returns-then-not-has_if-clause-err
returns-then-not-has_if-clause-err c =
    let graph = c.args.graph.now in
    let formed = c.requires.formed in
    let draft = c.in_ok-places.field-0 in
    let drawn = c.in_ok-places.ensures.draft in
    let done = c.in_ok-places.ensures.done in
    let found = c.deref-2.result.now in
    let finds : FindsPhases draft.steps.items found =
    subst (λ (f : List Bool). FindsPhases draft.steps.items f) (sym c.deref-2.ensures.value)
    (subst (λ (ss : List Step). FindsPhases ss c.in_ok-found.found.items) c.deref.ensures.value
    c.in_ok-found.ensures) in
    let none = no_bad_box graph formed draft drawn done found finds
    (subst (λ (o : Option ℕ). FindsFirst graph (IsBadByPhases graph found) o)
    c.in_default-first_bad.is c.first_bad.ensures) in
    let off : c.has_if.result ≡ false = c.if-not-has_if.true in
    let same : c.has_if.result ≡ is_marked_at found (1 * 9 + 3) =
    subst (λ (f : List Bool). c.has_if.result ≡ is_marked_at f (1 * 9 + 3))
    (c.deref-3.ensures.value ∙ sym c.deref-2.ensures.value) c.has_if.ensures in (
      no_call graph formed (subst (λ (o : Option ℕ). FindsFirst graph (HasCall graph) o)
          c.in_default.is c.first_call.ensures),
      no_bad_item graph formed draft done,
      none,
      λ h. let there = (has_if_same graph formed draft drawn done found finds none).1 h in cc,
    )

pub leaving_of-requires : goal.leaving_of-requires
leaving_of-requires c =
    let draft = c.in_ok-places.field-0 in
    record {
      inside = subst (λ (ss : List Step). AreInside draft.places ss) (sym c.deref-4.ensures.value)
          (draft_inside c.args.graph.now c.requires.formed draft c.in_ok-places.ensures.draft);
    }

pub invariant_of-result : goal.invariant_of-result
invariant_of-result c =
    let draft = c.in_ok-places.field-0 in (
      draft_inside c.args.graph.now c.requires.formed draft c.in_ok-places.ensures.draft,
      subst (λ (ss : List Step).
          AreLeaving ss (map (λ (row : Vec ℕ Global). row.items) c.in_ok-leaving.leaving.items))
          c.deref-4.ensures.value c.in_ok-leaving.ensures,
    )

pub returns-clause-ok : goal.returns-clause-ok
returns-clause-ok c =
    same_pairs c.args.graph.now c.requires.formed c.in_ok-places.field-0
    c.in_ok-places.ensures.draft c.in_ok-places.ensures.done

pub returns-clause-good : goal.returns-clause-good
returns-clause-good c =
    let graph = c.args.graph.now in
    let formed = c.requires.formed in
    let draft = c.in_ok-places.field-0 in
    let drawn = c.in_ok-places.ensures.draft in
    let done = c.in_ok-places.ensures.done in
    let found = c.deref-2.result.now in
    let finds : FindsPhases draft.steps.items found =
    subst (λ (f : List Bool). FindsPhases draft.steps.items f) (sym c.deref-2.ensures.value)
    (subst (λ (ss : List Step). FindsPhases ss c.in_ok-found.found.items) c.deref.ensures.value
    c.in_ok-found.ensures) in
    let none = no_bad_box graph formed draft drawn done found finds
    (subst (λ (o : Option ℕ). FindsFirst graph (IsBadByPhases graph found) o)
    c.in_default-first_bad.is c.first_bad.ensures) in
    let same : c.has_if.result ≡ is_marked_at found (1 * 9 + 3) =
    subst (λ (f : List Bool). c.has_if.result ≡ is_marked_at f (1 * 9 + 3))
    (c.deref-3.ensures.value ∙ sym c.deref-2.ensures.value) c.has_if.ensures in
    record {
      no_call = no_call graph formed (subst (λ (o : Option ℕ). FindsFirst graph (HasCall graph) o)
          c.in_default.is c.first_call.ensures);
      no_bad_item = no_bad_item graph formed draft done;
      no_bad_box = none;
      has_if = (has_if_same graph formed draft drawn done found finds none).0
          (sym same ∙ c.if-not-has_if.false);
    }
