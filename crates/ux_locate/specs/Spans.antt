-- Hits by their first and last token, whose text follows from them as long as outputs are ignored.
-- Public: the crate's public contracts speak of it.
use Rattle.std.specs.Prelude.{◌+◌, ◌<◌, ◌≤◌, List, length}
use Rattle.ux_tokens.specs.Tokens.{Token}
use Rattle.ux_outputs.specs.declared.hit.Hit.{Hit}
use Rattle.ux_outputs.specs.declared.span.Span.{Span}
use Rattle.ux_outputs.specs.Rendering.{text_between}

-- the hit of a span
abbrev pub hit_at : List Token → Span → Hit
hit_at tokens span = record {
  first = span.first;
  last = span.last;
  text = text_between tokens span.first (span.last + 1);
}

-- the span is one of tokens of the text
pub record LiesIn (tokens : List Token) (span : Span) : Type 0 where
  pub in_order : span.first ≤ span.last
  pub within : span.last < length tokens
