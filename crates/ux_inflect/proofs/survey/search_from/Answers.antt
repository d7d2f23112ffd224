use Rattle.std.proofs.Common.{◌≡◌, ◌↔◌, ℕ, List, Bool, true, get_or, subst, sym}
use Rattle.ux_digraph.specs.Components.{AreComponents}
use Rattle.ux_digraph.specs.Paths.{row_of, IsInside}
use Rattle.ux_digraph.specs.Rules.{is_marked_at}
use Rattle.ux_inflect.specs.Surveys.{AreKept, IsLevel}
use Rattle.ux_inflect.proofs.SurveyLemmas.{kept_inside, surveyed}
use Rattle.ux_inflect.proofs.survey.search_from.Goals as goal

pub components-requires : goal.components-requires
components-requires c = record {
  inside = subst IsInside (sym c.deref-2.ensures.value)
      (kept_inside c.args.rows.now c.deref.result.now c.in_ok-kept.kept.items
      c.in_ok-kept.ensures c.requires.inside);
}

pub returns : goal.returns
returns c =
    let rows = c.args.rows.now in
    let marks = c.in_ok-reached.reached.items in
    let kept = c.in_ok-kept.kept.items in
    let numbers = c.in_ok-numbers.numbers.items in
    let cycles = c.in_ok-cyclic.cyclic.items in
    let are = subst (λ (m : List Bool). AreKept rows m kept) c.deref.ensures.value
    c.in_ok-kept.ensures in
    let components = subst (λ (k : List (List ℕ)). AreComponents k numbers) c.deref-2.ensures.value
    c.in_ok-numbers.ensures in
    let levels = subst (λ (k : List (List ℕ)). (u : ℕ) → (is_marked_at cycles u ≡ true)
    ↔ IsLevel (row_of k u) numbers (get_or numbers u 0)) c.deref-3.ensures.value
    (subst (λ (n : List ℕ). (u : ℕ) → (is_marked_at cycles u ≡ true)
    ↔ IsLevel (row_of c.deref-3.result.now u) n (get_or n u 0)) c.deref-4.ensures.value
    c.in_ok-cyclic.ensures) in
    surveyed rows marks kept are c.args.start c.in_ok-reached.ensures.marks c.requires.inside
    numbers components cycles levels
