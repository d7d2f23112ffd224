use Rattle.std.proofs.Common.{◌↔◌, sym, subst}
use Rattle.ux_net.specs.declared.label.Label.{Label}
use Rattle.ux_walk.specs.Courses.{TakesPlainly}
use Rattle.ux_walk.specs.LabelMatches.{TakesUpTo}
use Rattle.ux_walk.proofs.MatchingLemmas.{through}
use Rattle.ux_mask_table.proofs.KnownLabels.{known_mask}
use Rattle.ux_walk.proofs.matching.label_match_at.Goals as goal

pub after_mask-requires-clause-mask : goal.after_mask-requires-clause-mask
after_mask-requires-clause-mask c =
    known_mask c.args.masked.now c.args.label.now c.in-Mask.mask c.requires.known c.in-Mask.is

pub returns-in-CaseFolded-clause-takes : goal.returns-in-CaseFolded-clause-takes
returns-in-CaseFolded-clause-takes c = λ k.
    let masked = c.args.masked.now in
    subst (λ (x : Label). TakesUpTo c.taking.result k
    ↔ TakesPlainly masked.alphabet.now masked.text.now masked.applied.now x c.args.position k)
    (sym c.in-CaseFolded.is)
    (through (c.taking.ensures.takes k)
    (through (rw c.as_str.ensures at c.after_fold.ensures k) (λ t. (tt, t), λ t. t.1)))

pub returns-in-CaseExact-clause-takes : goal.returns-in-CaseExact-clause-takes
returns-in-CaseExact-clause-takes c = λ k.
    let masked = c.args.masked.now in
    subst (λ (x : Label). TakesUpTo c.taking-in-CaseExact.result k
    ↔ TakesPlainly masked.alphabet.now masked.text.now masked.applied.now x c.args.position k)
    (sym c.in-CaseExact.is)
    (through (c.taking-in-CaseExact.ensures.takes k)
    (through (rw c.as_str-in-CaseExact.ensures at c.after_exact.ensures k) (λ t. (tt, t), λ t. t.1)))

pub returns-in-Brace-clause-takes : goal.returns-in-Brace-clause-takes
returns-in-Brace-clause-takes c = λ k.
    let masked = c.args.masked.now in
    subst (λ (x : Label). TakesUpTo c.taking-in-Brace.result k
    ↔ TakesPlainly masked.alphabet.now masked.text.now masked.applied.now x c.args.position k)
    (sym c.in-Brace.is)
    (through (c.taking-in-Brace.ensures.takes k)
    (through (rw c.as_str-in-Brace.ensures at c.after_brace.ensures k) (λ t. (tt, t), λ t. t.1)))

pub returns-in-Space-clause-takes : goal.returns-in-Space-clause-takes
returns-in-Space-clause-takes c = λ k.
    let masked = c.args.masked.now in
    subst (λ (x : Label). TakesUpTo c.taking-in-Space.result k
    ↔ TakesPlainly masked.alphabet.now masked.text.now masked.applied.now x c.args.position k)
    (sym c.in-Space.is)
    (through (c.taking-in-Space.ensures.takes k)
    (through (c.after_space.ensures k) (λ t. (tt, t), λ t. t.1)))
