use Rattle.std.proofs.Common.{rules}
use Rattle.std.specs.Cmp.Lexicographic.{slice_cmp}
use Rattle.std.specs.Ordering.{nat_cmp, is_lt}
use Rattle.std.proofs.lemmas.List.Sorted.{answers_always}
use Rattle.ux_dela.specs.declared.entry.Entry.{Entry}
use Rattle.ux_dict.proofs.RisingLemmas.{rising_tells}
use Rattle.ux_dict.proofs.sorting.ascend.Goals as goal

pub returns : goal.returns
returns c = rising_tells c.args.entries.now c.is_sorted_by.result
    (c.is_sorted_by.ensures.cases
    (λ (x : Entry) (y : Entry). is_lt (slice_cmp nat_cmp x.form y.form))
    (answers_always _ _ _ (λ f a r g h. search rules)))
