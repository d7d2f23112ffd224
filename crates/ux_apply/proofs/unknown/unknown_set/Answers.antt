use Rattle.std.proofs.Common.{arith, ℕ, ◌↔◌, ◌⊎◌, List, subst, sym}
use Rattle.std.specs.Prelude.{Contains, Option}
use Rattle.std.proofs.lemmas.List.{take_all}
use Rattle.std.proofs.lemmas.Option.{get_or_from_slice_get}
use Rattle.ux_apply.specs.Unknown.{HasNoRow, IsWithoutRow}
use Rattle.ux_apply.proofs.UnknownLemmas.{unknown-more}
use Rattle.ux_apply.proofs.unknown.unknown_set.Goals as goal

pub loop-place-preserved : goal.loop-place-preserved
loop-place-preserved c =
    let old = c.loop-place.set.keys in
    let all_new = c.put_unknown.new.set.keys in
    let rows = c.args.rows.now in
    let word = c.at.result in record {
      marked = c.in_ok-put_unknown.ensures.marked;
      numbers = unknown-more rows c.args.words.now old all_new c.loop-place.place word
          (omega arith) c.loop-place.invariant.numbers
          (λ n. subst
          (λ (w : Option ℕ). Contains all_new n ↔ (Contains old n ⊎ HasNoRow rows n w))
          (sym (get_or_from_slice_get c.args.words.now c.loop-place.place word word
          c.at.ensures))
          (c.in_ok-put_unknown.ensures.numbers n));
    }

pub returns : goal.returns
returns c n =
    subst
    (λ (l : List (Option ℕ)). Contains c.loop-place.set.keys n ↔ IsWithoutRow l c.args.rows.now n)
    (take_all c.loop-place.place c.args.words.now (omega arith)) (c.loop-place.invariant.numbers n)
