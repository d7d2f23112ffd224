use Rattle.std.proofs.Common.{ℕ, ◌≤◌, ◌<◌, List, ◌↔◌, sym, subst, map, length, get_or, ap, ◌∙◌}
use Rattle.std.specs.Prelude.{Contains}
use Rattle.std.proofs.lemmas.List.Sorted.{Contains-permutation, IsPermutation-sym}
use Rattle.ux_subsets.specs.declared.automaton.Link.{Link}
use Rattle.ux_subsets.specs.Departures.{step_of, AreStarts}
use Rattle.ux_subsets.proofs.DeparturesLemmas.{are_by_start, not_less_link}
use Rattle.ux_subsets.proofs.departures.by_start.Goals as goal

pub returns : goal.returns
returns c = λ up.
    let links = c.args.links.items in
    let sorted = c.in_order-sorted.result.items in
    let moved = c.in_order-sorted.ensures.same in
    let rises = λ (i j : ℕ) (d : Link) (le : i ≤ j) (lt : j < length sorted).
    not_less_link (get_or sorted j d) (get_or sorted i d) (c.in_order-sorted.ensures.in_order i j d le lt) in
    let same : (l : Link) → Contains sorted l ↔ Contains links l = λ l. (
      λ h. Contains-permutation sorted links l (IsPermutation-sym links sorted moved) h,
      λ h. Contains-permutation links sorted l moved h,
    ) in
    let starts = subst (λ (xs : List Link). AreStarts xs c.args.last c.in_ok-starts.starts.items) c.as_slice.ensures.value
    (c.in_ok-starts.ensures (subst (λ (xs : List Link). (i j : ℕ) (d : Link) → i ≤ j → j < length xs → (get_or xs i d).from ≤ (get_or xs j d).from) (sym c.as_slice.ensures.value)
    (λ i j d le lt. (rises i j d le lt).0))) in
    are_by_start links c.args.last up sorted same rises c.in_ok-starts.starts.items starts c.in_ok-steps.steps.items
    (c.in_ok-steps.ensures ∙ ap (map step_of) c.as_slice-2.ensures.value)
