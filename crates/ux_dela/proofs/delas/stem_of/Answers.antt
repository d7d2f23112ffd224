use Rattle.std.proofs.Common.{inr, refl, subst, sym, List, ℕ, arith}
use Rattle.std.proofs.lemmas.Grind.{common_steps}
use Rattle.ux_dela.specs.Delas.{IsClass}
use Rattle.ux_dela.proofs.StemLemmas.{bad_class}
use Rattle.ux_dela.proofs.delas.stem_of.Goals as goal

pub returns-in-None-clause-err : goal.returns-in-None-clause-err
returns-in-None-clause-err c =
    inr (
      refl,
      bad_class c.args.line.now c.args.cut.now c.args.codes c.requires.cut
          c.requires.listed
          (λ letters is.
          c.in-None.ensures letters
          (subst (λ (t : List ℕ). IsClass t letters) (sym c.as_str.ensures) is)),
    )

pub overflow_add-result : goal.overflow_add-result
overflow_add-result c = grind (arith, common_steps)

pub from_str-requires-text-text : goal.from_str-requires-text-text
from_str-requires-text-text c κs = grind (arith, common_steps)

pub returns-in_err-gram-clause-ok : goal.returns-in_err-gram-clause-ok
returns-in_err-gram-clause-ok c = grind (arith, common_steps)

pub returns-in_err-gram-clause-err : goal.returns-in_err-gram-clause-err
returns-in_err-gram-clause-err c = grind (arith, common_steps)

pub plain-requires-text-part : goal.plain-requires-text-part
plain-requires-text-part c κs = grind (arith, common_steps)

pub returns-in_err-lemma-clause-ok : goal.returns-in_err-lemma-clause-ok
returns-in_err-lemma-clause-ok c = grind (arith, common_steps)

pub returns-in_err-lemma-clause-err : goal.returns-in_err-lemma-clause-err
returns-in_err-lemma-clause-err c = grind (arith, common_steps)

pub same-gram : goal.same-gram
same-gram c = grind (arith, common_steps)

pub returns-clause-ok : goal.returns-clause-ok
returns-clause-ok c = grind (arith, common_steps)
