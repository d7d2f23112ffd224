use Rattle.std.proofs.Common.{arith, ◌≡◌, ◌∙◌, List, Bool, false, inl, inr, not, sym, subst}
use Rattle.std.specs.Prelude.{Some, slice_get}
use Rattle.std.proofs.lemmas.Bool.{not-false}
use Rattle.ux_lexical_tables.specs.Accepting.{IsAlone}
use Rattle.ux_walk.proofs.LinksLemmas.{get_pushed}
use Rattle.ux_automaton.proofs.marks.marks_of.Goals as goal

pub loop-place-preserved : goal.loop-place-preserved
loop-place-preserved c =
    let marks = c.loop-place.marks.items in
    let masked = c.args.masked.now in record {
      count = let count = c.loop-place.invariant.count in
          let items = c.in_ok-push.ensures.items in
          grind (arith, count, items);
      marked = λ i at. elim (get_pushed marks (not c.is_alone.result) i false
          (subst (λ (l : List Bool). slice_get l i ≡ Some false) c.in_ok-push.ensures.items at)) [
            | inl before ↦ c.loop-place.invariant.marked i before
            | inr (last, is) ↦ subst (λ n. IsAlone masked.text.now masked.applied.now n)
                (sym (last ∙ c.loop-place.invariant.count))
                (c.is_alone.ensures (not-false c.is_alone.result (sym is)) masked.alphabet.now
                c.requires.table.belongs)
          ];
    }
