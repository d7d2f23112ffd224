use Rattle.std.proofs.Common.{inr, refl, subst, sym, ◌∙◌, List, ℕ}
use Rattle.ux_dela.specs.Delas.{IsClass}
use Rattle.ux_dela.proofs.StemLemmas.{bad_class, stem_there}
use Rattle.ux_dela.proofs.delas.check_stem.Goals as goal

pub returns-in-Some-clause-ok : goal.returns-in-Some-clause-ok
returns-in-Some-clause-ok c =
    stem_there c.args.line.now c.in_ok-cut.cut c.in_ok-class.class c.in-Some.field-0.now
    c.in_ok-cut.ensures.ok c.in_ok-class.ensures.ok
    (subst (λ (t : List ℕ). IsClass t c.in-Some.field-0.now) c.as_str.ensures c.in-Some.ensures)

pub returns-clause-err : goal.returns-clause-err
returns-clause-err c =
    let has = c.in_ok-class.ensures.ok in
    inr (
      refl,
      bad_class c.args.line.now c.in_ok-cut.cut has.0 c.in_ok-cut.ensures.ok has.1
          (λ letters is.
          c.in-None.ensures letters
          (subst (λ (t : List ℕ). IsClass t letters) (has.2 ∙ sym c.as_str.ensures) is)),
    )
