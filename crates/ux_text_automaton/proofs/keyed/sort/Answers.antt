use Rattle.std.proofs.Common.{rules}
use Rattle.std.specs.Ordering.{is_lt}
use Rattle.std.proofs.lemmas.Fn.{always_returns_same}
use Rattle.std.proofs.lemmas.List.Sorted.{ranks_by}
use Rattle.ux_text_automaton.specs.declared.keyed.Keyed.{Keyed}
use Rattle.ux_text_automaton.specs.Candidates.{keyed_cmp}
use Rattle.ux_text_automaton.proofs.OrderLemmas.{compared, keyed_total}
use Rattle.ux_text_automaton.proofs.keyed.sort.Goals as goal

pub returns-clause-in_order : goal.returns-clause-in_order
returns-clause-in_order c =
    c.sort_unstable_by.ensures.sorted (λ (a b : Keyed). is_lt (keyed_cmp a b))
    (ranks_by keyed_total (λ (keyed : Keyed). keyed))
    (always_returns_same _ _ _ (λ a r g h. compared a.0.now a.1.0.now r _ (search rules)))
