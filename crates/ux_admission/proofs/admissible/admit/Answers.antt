use Rattle.std.proofs.Common.{◌∙◌, ℕ, List, Bool, ap, subst, sym}
use Rattle.ux_boxes.specs.Rows.{cut}
use Rattle.ux_admission.specs.Admission.{ArePlaceRanks}
use Rattle.ux_admission.proofs.AdmissionLemmas.{ranks_are}
use Rattle.ux_admission.proofs.admissible.admit.Goals as goal

pub returns-clause-ranks : goal.returns-clause-ranks
returns-clause-ranks c =
    subst (λ (ranks : List (List ℕ)). ArePlaceRanks c.args.graphs.now ranks
    c.in_ok-admission_of.field-0.free.items)
    (sym (c.in_ok-admission_of.ensures.ranks ∙ ap (λ (items : List ℕ). cut c.args.graphs.now items)
    c.deref-12.ensures.value))
    (subst (λ (free : List (List Bool)). ArePlaceRanks c.args.graphs.now
    (cut c.args.graphs.now c.in_ok-numbers.numbers.items) free)
    (sym (c.in_ok-admission_of.ensures.free ∙ ap (λ (items : List Bool). cut c.args.graphs.now items)
    c.deref-13.ensures.value))
    (ranks_are c.args.graphs.now c.requires.fit c.in_ok-marks.marks.items
    c.in_ok-marks.ensures c.in_ok-numbers.numbers.items c.in_ok-numbers.ensures
    c.requires.met c.in_ok-refuse_loops.ensures.ok
    c.in_ok-refuse_recursion.ensures.ok))
