-- The lines of a trace, one round after another.
use Rattle.std.proofs.Common.{◌≡◌, ℕ, ◌+◌, ◌<◌, List, [], ◌∷◌, ◌++◌, ◌∙◌, ap, append-nil, get_or, length, take}
use Rattle.std.specs.List.{flat_map}
use Rattle.std.proofs.lemmas.Grind.{flat_map-append}
use Rattle.std.proofs.lemmas.List.{take_more}
use Rattle.std.proofs.lemmas.List.Concat.{flat_map-cons}
use Rattle.ux_cascade.specs.declared.outcome.Round.{Round}
use Rattle.ux_cascade.specs.Trace.{trace_line, trace_of}

-- one line more is written
pub trace_more : (rounds : List Round) (i : ℕ) (none : Round) → i < length rounds →
    trace_of (take (i + 1) rounds) ≡ trace_of (take i rounds) ++ trace_line (get_or rounds i none)
trace_more rounds i none within =
    let so_far = take i rounds in
    let round = get_or rounds i none in
    ap (λ (l : List Round). flat_map trace_line l) (take_more rounds i none within)
    ∙ (flat_map-append trace_line so_far (round ∷ [])
    ∙ ap (λ (l : List ℕ). flat_map trace_line so_far ++ l)
    (flat_map-cons trace_line round [] ∙ append-nil (trace_line round)))
