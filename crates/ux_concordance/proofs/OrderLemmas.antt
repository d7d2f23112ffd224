-- The order of lines is total, so lines can be sorted by it.
use Rattle.std.proofs.Common.{◌≡◌, Ordering, ap}
use Rattle.std.specs.Ordering.{is_lt}
use Rattle.std.specs.Cmp.{IsTotalOrder}
use Rattle.std.proofs.lemmas.Cmp.{nat_cmp_total, nat_list_cmp_total, on_total, then_total}
use Rattle.ux_base.specs.declared.settings.Sort.{Sort}
use Rattle.ux_outputs.specs.declared.hit.Hit.{Hit}
use Rattle.ux_concordance.specs.Concordance.{Line, keys, line_cmp, place_cmp}

place_total : IsTotalOrder place_cmp
place_total = then_total (on_total (λ (hit : Hit). hit.first) nat_cmp_total)
    (then_total (on_total (λ (hit : Hit). hit.last) nat_cmp_total)
    (on_total (λ (hit : Hit). hit.text) nat_list_cmp_total))

pub line_total : (sort : Sort) → IsTotalOrder (line_cmp sort)
line_total sort = then_total (on_total (λ (line : Line). (keys sort line).0) nat_list_cmp_total)
    (then_total (on_total (λ (line : Line). (keys sort line).1) nat_list_cmp_total)
    (on_total (λ (line : Line). line.hit) place_total))

-- what a comparison answers tells which line belongs before the other
pub compared : (sort : Sort) (a b : Line) (answer : Ordering) (Same : Type 0) →
    (answer ≡ line_cmp sort a b) × Same → (is_lt answer ≡ is_lt (line_cmp sort a b)) × Same
compared sort a b answer Same is = (ap is_lt is.0, is.1)
