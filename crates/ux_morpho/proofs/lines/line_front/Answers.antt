use Rattle.std.proofs.Common.{arith, ◌≡◌, ◌∙◌, ◌∷◌, ◌++◌, ◌-◌, ℕ, [], ap, length, string_bytes, subst, sym, take}
use Rattle.std.specs.String.Boundary.{IsSplitPoint}
use Rattle.ux_dela.specs.Printed.{printed}
use Rattle.ux_dela.specs.Signs.{DOT}
use Rattle.ux_morpho.specs.Putting.{front_of}
use Rattle.ux_morpho.proofs.LineLemmas.{bare_line, cut_line, may_be_cut}
use Rattle.ux_morpho.proofs.lines.line_front.Goals as goal

-- the cut is before the dot
pub truncate-requires : goal.truncate-requires
truncate-requires c =
    let token = c.args.token.now in
    let line = string_bytes c.in_ok-line.line in
    let is : line ≡ front_of token ++ DOT ∷ [] =
    c.in_ok-line.ensures.line ∙ (ap printed c.in_ok-entry.ensures ∙ bare_line token) in
    let long : c.len.result ≡ length line =
    omega (arith, c.len.ensures, c.in_ok-line.line.bytes.ok) in
    λ low. subst (λ (n : ℕ). IsSplitPoint line (n - 1)) (sym long)
    (may_be_cut (front_of token) line is)

pub returns : goal.returns
returns c =
    let token = c.args.token.now in
    let line = string_bytes c.in_ok-line.line in
    let is : line ≡ front_of token ++ DOT ∷ [] =
    c.in_ok-line.ensures.line ∙ (ap printed c.in_ok-entry.ensures ∙ bare_line token) in
    let long : c.len.result ≡ length line =
    omega (arith, c.len.ensures, c.in_ok-line.line.bytes.ok) in
    c.truncate.ensures.bytes
    ∙ (ap (λ (n : ℕ). take (n - 1) line) long ∙ cut_line (front_of token) line is)
