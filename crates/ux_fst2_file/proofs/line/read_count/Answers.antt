use Rattle.std.proofs.Common.{ap, subst, get_or, List, ℕ, []}
use Rattle.ux_fst2_file.specs.Fields.{IsNumber}
use Rattle.ux_fst2_file.proofs.LineLaws.{fields_once}
use Rattle.ux_fst2_file.proofs.line.read_count.Goals as goal

pub returns-in_err-digits : goal.returns-in_err-digits
returns-in_err-digits c =
    rw c.from_residual.ensures (λ count is. c.in_err-digits.ensures is.digits is.fields)

pub returns-in_err-count : goal.returns-in_err-count
returns-in_err-count c = rw c.from_residual-in_err-count.ensures (λ count is.
    let same = ap (λ (f : List (List ℕ)). get_or f 0 [])
    (fields_once c.args.line.now _ _ is.fields c.in_ok-digits.ensures) in
    c.in_err-count.ensures count (subst (λ (t : List ℕ). IsNumber t count) same is.number))
