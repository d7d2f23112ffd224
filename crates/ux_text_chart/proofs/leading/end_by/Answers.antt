use Rattle.std.proofs.Common.{◌≡◌, ◌↔◌, Some, sym, subst}
use Rattle.ux_net.specs.declared.label.Label.{Label}
use Rattle.ux_net.specs.declared.label.Label.TheVariants as label
use Rattle.ux_parts.specs.Runs.{Plain}
use Rattle.ux_walk.proofs.MatchingLemmas.{through}
use Rattle.ux_text_chart.specs.Leading.{without_masks}
use Rattle.ux_text_chart.proofs.LeadingLemmas.{plain_taking, plain_glue, plain_begun}
use Rattle.ux_text_chart.proofs.leading.end_by.Goals as goal

pub returns-in-CaseFolded : goal.returns-in-CaseFolded
returns-in-CaseFolded c = λ k.
    let input = without_masks c.args.alphabet.now c.args.text.now in
    let read = rw c.as_str.ensures at c.after_fold.ensures k in
    subst (λ (x : Label). (c.after_fold.result ≡ Some k) ↔ Plain input x c.args.at k)
    (sym c.in-CaseFolded.is)
    (through read (plain_taking input (label.CaseFolded c.in-CaseFolded.entry) tt c.args.at k))

pub returns-in-CaseExact : goal.returns-in-CaseExact
returns-in-CaseExact c = λ k.
    let input = without_masks c.args.alphabet.now c.args.text.now in
    let read = rw c.as_str-in-CaseExact.ensures at c.after_exact.ensures k in
    subst (λ (x : Label). (c.after_exact.result ≡ Some k) ↔ Plain input x c.args.at k)
    (sym c.in-CaseExact.is)
    (through read (plain_taking input (label.CaseExact c.in-CaseExact.exact) tt c.args.at k))

pub returns-in-Brace : goal.returns-in-Brace
returns-in-Brace c = λ k.
    let input = without_masks c.args.alphabet.now c.args.text.now in
    let read = rw c.as_str-in-Brace.ensures at c.after_brace.ensures k in
    subst (λ (x : Label). (c.after_brace.result ≡ Some k) ↔ Plain input x c.args.at k)
    (sym c.in-Brace.is)
    (through read (plain_taking input (label.Brace c.in-Brace.brace) tt c.args.at k))

pub returns-in-Space : goal.returns-in-Space
returns-in-Space c = λ k.
    let input = without_masks c.args.alphabet.now c.args.text.now in
    subst (λ (x : Label). (c.after_space.result ≡ Some k) ↔ Plain input x c.args.at k)
    (sym c.in-Space.is)
    (through (c.after_space.ensures k) (plain_taking input label.Space tt c.args.at k))

pub returns-in-NoSpace : goal.returns-in-NoSpace
returns-in-NoSpace c = λ k.
    let input = without_masks c.args.alphabet.now c.args.text.now in
    subst (λ (x : Label). (c.at_glue.result ≡ Some k) ↔ Plain input x c.args.at k)
    (sym c.in-NoSpace.is)
    (through (c.at_glue.ensures k) (plain_glue c.args.alphabet.now c.args.text.now c.args.at k))

pub returns-in-Begin : goal.returns-in-Begin
returns-in-Begin c =
    plain_begun c.args.alphabet.now c.args.text.now c.args.label.now c.in-Begin.is c.args.at

pub returns-in-Begin-2 : goal.returns-in-Begin-2
returns-in-Begin-2 c =
    plain_begun c.args.alphabet.now c.args.text.now c.args.label.now c.in-Begin.is c.args.at

pub returns-in-Begin-3 : goal.returns-in-Begin-3
returns-in-Begin-3 c =
    plain_begun c.args.alphabet.now c.args.text.now c.args.label.now c.in-Begin.is c.args.at
