use Rattle.std.proofs.lemmas.List.Sorted.{Contains-permutation, IsPermutation-sym}
use Rattle.ux_subsets.proofs.DeparturesLemmas.{not_less_step}
use Rattle.ux_subsets.proofs.runs.gathered.Goals as goal

pub returns : goal.returns
returns c = λ links start.
    let found = c.in_ok-found.found.items in
    let sorted = c.in_order.result.items in
    let moved = c.in_order.ensures.same in record {
      exact = λ e.
          let told = c.in_ok-found.ensures links start e in (
            λ h. told.0 (Contains-permutation sorted found e (IsPermutation-sym found sorted moved) h),
            λ h. Contains-permutation found sorted e moved (told.1 h),
          );
      ordered = λ i j d le lt. not_less_step _ _ (c.in_order.ensures.in_order i j d le lt);
    }
