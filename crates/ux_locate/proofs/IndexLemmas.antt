-- The lines of an index, one hit after another.
use Rattle.std.proofs.Common.{◌≡◌, ℕ, ◌+◌, ◌<◌, List, [], ◌∷◌, ◌++◌, sym, ◌∙◌, ap, append_assoc, length, map, take, get_or}
use Rattle.std.proofs.lemmas.List.{append-nil, map-append, take_more}
use Rattle.ux_base.specs.declared.settings.Mode.{Mode}
use Rattle.ux_base.specs.declared.settings.Mode.TheVariants.{Ignore}
use Rattle.ux_tokens.specs.Tokens.{Token}
use Rattle.ux_outputs.specs.declared.span.Span.{Span}
use Rattle.ux_outputs.specs.declared.hit.Hit.{Hit}
use Rattle.ux_locate.specs.Spans.{hit_at}
use Rattle.ux_locate.specs.Index.{header, index_line, index_lines, index_of}

index_lines-push : (hits : List Hit) (found : Hit) →
    index_lines (hits ++ found ∷ []) ≡ index_lines hits ++ index_line found
index_lines-push [] found = append-nil (index_line found)
index_lines-push (first ∷ hits) found =
    ap (λ (l : List ℕ). index_line first ++ l) (index_lines-push hits found)
    ∙ sym (append_assoc (index_line first) (index_lines hits) (index_line found))

index_of-push : (mode : Mode) (hits : List Hit) (found : Hit) →
    index_of mode (hits ++ found ∷ []) ≡ index_of mode hits ++ index_line found
index_of-push mode hits found =
    ap (λ (l : List ℕ). header mode ++ l) (index_lines-push hits found)
    ∙ sym (append_assoc (header mode) (index_lines hits) (index_line found))

-- the index of the hits up to a place, and the line of the hit there
pub hits_more : (mode : Mode) (hits : List Hit) (i : ℕ) (none : Hit) → i < length hits →
    index_of mode (take (i + 1) hits)
    ≡ index_of mode (take i hits) ++ index_line (get_or hits i none)
hits_more mode hits i none within =
    ap (index_of mode) (take_more hits i none within)
    ∙ index_of-push mode (take i hits) (get_or hits i none)

module _ (tokens : List Token) where
  -- the index of the hits of these spans
  abbrev pub index_at : List Span → List ℕ
  index_at spans = index_of Ignore (map (hit_at tokens) spans)

  -- the same of spans
  pub spans_more : (spans : List Span) (i : ℕ) (none : Span) → i < length spans →
      index_at (take (i + 1) spans)
      ≡ index_at (take i spans) ++ index_line (hit_at tokens (get_or spans i none))
  spans_more spans i none within =
      let span : Span = get_or spans i none in
      ap index_at (take_more spans i none within)
      ∙ (ap (index_of Ignore) (map-append (hit_at tokens) (take i spans) (span ∷ []))
      ∙ index_of-push Ignore (map (hit_at tokens) (take i spans)) (hit_at tokens span))
