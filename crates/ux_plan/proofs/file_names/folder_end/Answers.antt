use Rattle.std.proofs.Common.{arith, ◌∙◌, ◌≤◌, ℕ, List, length, subst, ap, refl, inl}
use Rattle.std.proofs.lemmas.List.{take_all}
use Rattle.ux_plan.specs.FileNames.{folder_of}
use Rattle.ux_plan.proofs.FileNameLemmas.{folder_step}
use Rattle.ux_plan.proofs.file_names.folder_end.Goals as goal

pub loop-place-init : goal.loop-place-init
loop-place-init c = record { folder = refl; within = omega arith; slash = inl refl }

pub loop-place-preserved : goal.loop-place-preserved
loop-place-preserved c =
    folder_step c.args.word.now c.as_bytes-byte-items.result.now c.loop-place.place
    c.loop-place.end c.end_after-end.result c.as_bytes-byte-items.ensures.value
    c.loop-place-test.true c.loop-place.invariant c.end_after-end.ensures

pub returns-clause-folder : goal.returns-clause-folder
returns-clause-folder c =
    let past = subst (λ (l : List ℕ). length l ≤ c.loop-place.place)
    c.as_bytes-byte-items.ensures.value c.loop-place-test.false in
    c.loop-place.invariant.folder
    ∙ ap folder_of (take_all c.loop-place.place c.args.word.now past)
