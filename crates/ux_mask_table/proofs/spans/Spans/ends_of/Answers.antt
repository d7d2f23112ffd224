use Rattle.std.proofs.Common.{ℕ, ◌+◌, ◌↔◌, List, sym, subst}
use Rattle.std.specs.Prelude.{Contains, slice_range}
use Rattle.std.specs.List.Sorted.{IsNonDecreasing, IsStrictlyIncreasing}
use Rattle.ux_mask_table.specs.Spans.{HasEnd}
use Rattle.ux_mask_table.proofs.SpansLemmas.{IsBetween, numbers_rise, found_exactly, found_rises}
use Rattle.ux_mask_table.proofs.spans.Spans.ends_of.Goals as goal

pub count_below-first-requires : goal.count_below-first-requires
count_below-first-requires c =
    subst (λ (l : List ℕ). IsNonDecreasing (slice_range l c.args.row.from c.args.row.to))
    (sym c.deref.ensures.value) (numbers_rise c.args.self.now c.args.row c.requires)

pub count_up_to-last-requires : goal.count_up_to-last-requires
count_up_to-last-requires c =
    subst (λ (l : List ℕ). IsNonDecreasing (slice_range l c.args.row.from c.args.row.to))
    (sym c.deref.ensures.value) (numbers_rise c.args.self.now c.args.row c.requires)

pub returns-clause-exactly : goal.returns-clause-exactly
returns-clause-exactly c =
    let row = c.args.row in
    let first = c.count_below-first.result in
    let last = c.count_up_to-last.result in
    let between = subst (λ (l : List ℕ). IsBetween l row c.args.number first last)
    c.deref.ensures.value (record {
      few = c.count_below-first.ensures.within;
      some = c.count_up_to-last.ensures.within;
      before = c.count_below-first.ensures.before;
      after = c.count_below-first.ensures.after;
      up_to = c.count_up_to-last.ensures.before;
      past = c.count_up_to-last.ensures.after;
    }) in
    subst (λ (l : List ℕ). (k : ℕ) → Contains (slice_range l (row.from + first) (row.from + last)) k
    ↔ HasEnd c.args.self.now row c.args.number k) (sym c.deref-2.ensures.value)
    (found_exactly c.args.self.now row c.requires c.args.number first last between)

pub returns-clause-ascending : goal.returns-clause-ascending
returns-clause-ascending c =
    let row = c.args.row in
    let first = c.count_below-first.result in
    let last = c.count_up_to-last.result in
    let between = subst (λ (l : List ℕ). IsBetween l row c.args.number first last)
    c.deref.ensures.value (record {
      few = c.count_below-first.ensures.within;
      some = c.count_up_to-last.ensures.within;
      before = c.count_below-first.ensures.before;
      after = c.count_below-first.ensures.after;
      up_to = c.count_up_to-last.ensures.before;
      past = c.count_up_to-last.ensures.after;
    }) in
    subst (λ (l : List ℕ). IsStrictlyIncreasing (slice_range l (row.from + first) (row.from + last)))
    (sym c.deref-2.ensures.value)
    (found_rises c.args.self.now row c.requires c.args.number first last between)
