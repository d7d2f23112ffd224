-- The lines of spans, one after another.
use Rattle.std.proofs.Common.{◌≡◌, ℕ, ◌+◌, ◌<◌, List, [], ◌∷◌, ◌++◌, ◌∙◌, ap, append-nil, get_or, length, take}
use Rattle.std.specs.Prelude.{flat_map}
use Rattle.std.proofs.lemmas.Grind.{flat_map-append}
use Rattle.std.proofs.lemmas.List.{take_more}
use Rattle.std.proofs.lemmas.List.Concat.{flat_map-cons}
use Rattle.ux_sentence.specs.Written.{ended}
use Rattle.ux_tfst_locate.specs.declared.span.Span.{Span}
use Rattle.ux_cmd_tfind.specs.Lines.{span_line, span_lines}

abbrev line_with_end : Span → List ℕ
line_with_end span = ended (span_line span)

-- one line more is written
pub spans_more : (spans : List Span) (i : ℕ) (none : Span) → i < length spans →
    span_lines (take (i + 1) spans)
    ≡ span_lines (take i spans) ++ ended (span_line (get_or spans i none))
spans_more spans i none within =
    let so_far = take i spans in
    let span = get_or spans i none in
    ap (λ (l : List Span). flat_map line_with_end l) (take_more spans i none within)
    ∙ (flat_map-append line_with_end so_far (span ∷ [])
    ∙ ap (λ (l : List ℕ). flat_map line_with_end so_far ++ l)
    (flat_map-cons line_with_end span [] ∙ append-nil (line_with_end span)))

-- and the lines of more spans
pub lines_behind : (spans more : List Span) →
    span_lines (spans ++ more) ≡ span_lines spans ++ span_lines more
lines_behind spans more = flat_map-append line_with_end spans more
