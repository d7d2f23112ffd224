-- The longest of hits, one after another.
use Rattle.std.proofs.Common.{arith, ◌≡◌, ◌∙◌, ℕ, ◌+◌, ◌<◌, max, List, [], ◌∷◌, ◌++◌, ap, length, map, take, get_or, sym}
use Rattle.std.specs.Ordering.{nat_cmp, ord_max}
use Rattle.std.proofs.lemmas.Grind.{common_steps}
use Rattle.std.proofs.lemmas.List.{map-append, take_more}
use Rattle.ux_tokens.specs.Tokens.{Token}
use Rattle.ux_outputs.specs.declared.hit.Hit.{Hit}
use Rattle.ux_outputs.specs.declared.span.Span.{Span}
use Rattle.ux_locate.specs.Spans.{hit_at}
use Rattle.ux_cmd_bench.specs.Summaries.{longest_of, summary, tokens_in}

longest_of-push : (hits : List Hit) (hit : Hit) →
    longest_of (hits ++ hit ∷ []) ≡ max (longest_of hits) (tokens_in hit)
longest_of-push [] hit = omega arith
longest_of-push (first ∷ hits) hit =
    let more = longest_of-push hits hit in omega (arith, more)

-- up to a place, and with the hit there
pub hits_more : (hits : List Hit) (i : ℕ) (hit : Hit) → i < length hits → hit ≡ get_or hits i hit →
    longest_of (take (i + 1) hits) ≡ max (longest_of (take i hits)) (tokens_in hit)
hits_more hits i hit within is =
    ap longest_of (take_more hits i hit within)
    ∙ (longest_of-push (take i hits) (get_or hits i hit)
    ∙ ap (λ (h : Hit). max (longest_of (take i hits)) (tokens_in h)) (sym is))

-- the longest of the hits of these spans
abbrev pub longest_at : List Token → List Span → ℕ
longest_at tokens spans = longest_of (map (hit_at tokens) spans)

-- up to a place, and with the span there
pub spans_more : (tokens : List Token) (spans : List Span) (i : ℕ) (none : Span) →
    i < length spans → longest_at tokens (take (i + 1) spans)
    ≡ max (longest_at tokens (take i spans)) (tokens_in (hit_at tokens (get_or spans i none)))
spans_more tokens spans i none within =
    let span : Span = get_or spans i none in
    ap (longest_at tokens) (take_more spans i none within)
    ∙ (ap longest_of (map-append (hit_at tokens) (take i spans) (span ∷ []))
    ∙ longest_of-push (map (hit_at tokens) (take i spans)) (hit_at tokens span))

-- equal counts are told alike
pub same_summary : (n tokens hits longest t h l : ℕ) → tokens ≡ t → hits ≡ h → longest ≡ l →
    summary n tokens hits longest ≡ summary n t h l
same_summary n tokens hits longest t h l one two three =
    ap (λ (x : ℕ). summary n x hits longest) one
    ∙ (ap (λ (x : ℕ). summary n t x longest) two ∙ ap (λ (x : ℕ). summary n t h x) three)

-- the greater of two numbers
pub max_by_order : (a b : ℕ) → ord_max nat_cmp a b ≡ max a b
max_by_order a b = grind (arith, common_steps)
