use Rattle.std.proofs.Common.{◌≡◌, ◌≤◌, true, false, length, arith, ltb, ℕ, List, rules, subst, sym, ◌∙◌}
use Rattle.std.proofs.lemmas.List.{length-take}
use Rattle.std.proofs.lemmas.List.Sorted.{IsPartitionPoint-from_clause, IsPartitionedBy-ltb, IsNonDecreasingBy-drop, IsNonDecreasingBy-take}
use Rattle.std.specs.List.Sorted.{IsNonDecreasingBy, IsPartitionPoint}
use Rattle.ux_dict.specs.Keys.{key_of, key_rank}
use Rattle.ux_dict.proofs.CutLemmas.{filter_run_beside, map-cut, point_in_front, IsNonDecreasingBy-map}
use Rattle.ux_dict.proofs.KeyLemmas.{key_rank-rises}
use Rattle.ux_dict.proofs.parts.between.Goals as goal

pub returns : goal.returns
returns c rises keyed =
    let part = c.args.part.now in
    let n = key_rank c.args.low c.args.high in
    let entries = part.entries.now in
    let keys = part.keys.now in
    let start = c.partition_point-start.result in
    let count = c.partition_point-count.result in
    let is = c.behind-rest.ensures in
    let ranks = IsNonDecreasingBy-map key_of n entries keys keyed
    (key_rank-rises c.args.low c.args.high) rises in
    let first = IsPartitionPoint-from_clause (λ (k : ℕ). ltb (n k) 1) keys start
    c.partition_point-start.ensures.partitioned (IsPartitionedBy-ltb n keys 1 ranks)
    (λ a r q k. search rules) in
    let later = subst (λ (l : List ℕ). IsNonDecreasingBy n l) (sym is)
    (IsNonDecreasingBy-drop n start keys ranks) in
    let rest = c.behind-rest.result.now in
    let few = c.front-few.ensures in
    let near = subst (λ (l : List ℕ). IsNonDecreasingBy n l) (sym few)
    (IsNonDecreasingBy-take n c.reach.result rest later) in
    let point = IsPartitionPoint-from_clause (λ (k : ℕ). ltb (n k) 2) _ count
    c.partition_point-count.ensures.partitioned (IsPartitionedBy-ltb n _ 2 near)
    (λ a r q k. search rules) in
    let cut = subst (λ (l : List ℕ). IsPartitionPoint (λ y. ltb (n y) 2 ≡ true)
    (λ y. ltb (n y) 2 ≡ false) l count) few point in
    let within = subst (λ (l : List ℕ). count ≤ length l) few
    c.partition_point-count.ensures.bound in
    let second = point_in_front n rest c.reach.result count later c.reach.ensures cut within in
    let bound : count ≤ length rest = omega (arith, within, length-take c.reach.result rest) in
    record {
      entries = c.cut.ensures.entries ∙ filter_run_beside key_of n entries keys _ start count keyed
          is c.partition_point-start.ensures.bound first second bound;
      keyed = map-cut key_of entries c.cut.result.entries.now keys c.cut.result.keys.now
          start count keyed c.cut.ensures.entries c.cut.ensures.keys;
      len = c.cut.ensures.len;
    }
