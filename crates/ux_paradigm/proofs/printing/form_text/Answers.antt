use Rattle.std.proofs.Common.{arith, ◌≡◌, ◌++◌, ◌-◌, ℕ, ap, codes, length, string_bytes, subst, sym, take, ◌∙◌}
use Rattle.std.specs.String.Boundary.{IsSplitPoint}
use Rattle.ux_dela.specs.Printed.{printed}
use Rattle.ux_paradigm.proofs.PrintingLemmas.{bare_line, cut_line, may_be_cut}
use Rattle.ux_paradigm.specs.Kept.{form_text}
use Rattle.ux_paradigm.proofs.printing.form_text.Goals as goal

-- the cut is before the comma
pub truncate-requires : goal.truncate-requires
truncate-requires c =
    let form = c.args.form.now in
    let line = string_bytes c.in_ok-line.line in
    let is : line ≡ form_text form ++ codes ",." =
    c.in_ok-line.ensures.line ∙ (ap printed c.in_ok-entry.ensures ∙ bare_line form) in
    let long : c.len.result ≡ length line =
    omega (arith, c.len.ensures, c.in_ok-line.line.bytes.ok) in
    λ low. subst (λ (n : ℕ). IsSplitPoint line (n - 2)) (sym long)
    (may_be_cut (form_text form) line is)

pub returns : goal.returns
returns c =
    let form = c.args.form.now in
    let line = string_bytes c.in_ok-line.line in
    let is : line ≡ form_text form ++ codes ",." =
    c.in_ok-line.ensures.line ∙ (ap printed c.in_ok-entry.ensures ∙ bare_line form) in
    let long : c.len.result ≡ length line =
    omega (arith, c.len.ensures, c.in_ok-line.line.bytes.ok) in
    c.truncate.ensures.bytes
    ∙ (ap (λ (n : ℕ). take (n - 2) line) long ∙ cut_line (form_text form) line is)
