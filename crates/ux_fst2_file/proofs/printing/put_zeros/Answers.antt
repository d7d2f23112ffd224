use Rattle.std.proofs.Common.{sym, ap, ◌∙◌, ◌++◌, ◌∷◌, [], ◌-◌, ◌+◌, List, ℕ, append_assoc, string_bytes}
use Rattle.ux_fst2_file.specs.Printed.{zeros}
use Rattle.ux_fst2_file.proofs.PrintLemmas.{zeros_more}
use Rattle.ux_fst2_file.proofs.printing.put_zeros.Goals as goal

pub loop-place-preserved : goal.loop-place-preserved
loop-place-preserved c =
    let place = c.loop-place._place in
    let rest = zeros (10 - (place + 1)) in
    let old = string_bytes c.loop-place.text in
    ap (λ (t : List ℕ). t ++ rest) c.in_ok-push_str.ensures.bytes
    ∙ (append_assoc old (48 ∷ []) rest
    ∙ (ap (λ (t : List ℕ). old ++ t) (sym (zeros_more place c.loop-place-test.true))
    ∙ c.loop-place.invariant))
