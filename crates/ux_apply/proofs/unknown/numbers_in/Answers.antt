-- the set has its numbers in order
use Rattle.std.proofs.Common.{List, ℕ, sym, subst}
use Rattle.std.specs.Ordering.{nat_cmp}
use Rattle.std.specs.BTreeSet.{IsOrdered}
use Rattle.std.specs.List.Sorted.{IsStrictlyIncreasing}
use Rattle.std.proofs.lemmas.Iterator.{items_from_collect}
use Rattle.std.proofs.lemmas.Iterator.Consumers.{YieldsList-from_rest}
use Rattle.std.proofs.lemmas.Map.Keys.{IsStrictlyIncreasing-from_sorted}
use Rattle.std.proofs.lemmas.Result.{IfOk-weaker}
use Rattle.ux_apply.proofs.unknown.numbers_in.Goals as goal

pub returns-clause-ascending : goal.returns-clause-ascending
returns-clause-ascending c =
    let ordered : IsOrdered nat_cmp c.args.set = c.into_iter.ensures.into_iter_gives.4 in
    let rising = IsStrictlyIncreasing-from_sorted c.args.set.keys ordered in
    let made = items_from_collect c.collect.result c.collect.ensures.ran
    (YieldsList-from_rest c.args.set.keys (cc)) in
    IfOk-weaker c.collect.result _ _
    (λ numbers is. subst (λ (l : List ℕ). IsStrictlyIncreasing l) (sym is) rising) made
