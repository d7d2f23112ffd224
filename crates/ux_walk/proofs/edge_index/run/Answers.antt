use Rattle.std.proofs.Common.{◌≡◌, ◌≤◌, List, true, false, refl, ltb, leb, length, subst, sym, rules}
use Rattle.std.specs.Prelude.{Contains, take}
use Rattle.std.specs.List.Sorted.{IsNonDecreasingBy, IsPartitionPoint}
use Rattle.std.proofs.lemmas.List.Sorted.{IsPartitionPoint-from_clause, IsPartitionedBy-ltb, IsPartitionedBy-leb, IsNonDecreasingBy-drop}
use Rattle.ux_walk.specs.declared.edge_index.Fitting.{Fitting}
use Rattle.ux_walk.specs.EdgeIndexes.{fits_at, number_of}
use Rattle.ux_walk.proofs.EdgeIndexLemmas.{run_has}
use Rattle.ux_walk.proofs.edge_index.run.Goals as goal

pub returns : goal.returns
returns c rises place inside =
    let fittings = c.args.fittings.now in
    let number = c.args.number in
    let start = c.partition_point-start.result in
    let count = c.partition_point-count.result in
    let rest = c.behind-rest.result.now in
    let is = c.behind-rest.ensures in
    let first = IsPartitionPoint-from_clause (λ (f : Fitting). ltb (number_of f) number) fittings
    start c.partition_point-start.ensures.partitioned
    (IsPartitionedBy-ltb number_of fittings number rises) (λ a r q k. search rules) in
    let later = subst (λ (l : List Fitting). IsNonDecreasingBy number_of l) (sym is)
    (IsNonDecreasingBy-drop number_of start fittings rises) in
    let second = IsPartitionPoint-from_clause (λ (f : Fitting). leb (number_of f) number) rest count
    c.partition_point-count.ensures.partitioned
    (IsPartitionedBy-leb number_of rest number later) (λ a r q k. search rules) in
    let point = subst (λ (l : List Fitting). IsPartitionPoint (λ f. leb (number_of f) number ≡ true)
    (λ f. leb (number_of f) number ≡ false) l count) is second in
    let bound = subst (λ (l : List Fitting). count ≤ length l) is
    c.partition_point-count.ensures.bound in
    subst (λ (l : List Fitting). Contains l (fits_at number place)) (sym c.front.ensures)
    (subst (λ (l : List Fitting). Contains (take count l) (fits_at number place)) (sym is)
    (run_has fittings start count number (fits_at number place) refl first point bound inside))
