-- Where outputs are ignored, the index of spans is that of their hits.
use Rattle.std.proofs.Common.{◌≡◌, ◌∙◌, List, ℕ, ap, map, subst, sym}
use Rattle.ux_base.specs.declared.settings.Mode.{Mode}
use Rattle.ux_base.specs.declared.settings.Mode.TheVariants.{Ignore}
use Rattle.ux_base.specs.declared.settings.NoVar.{NoVar}
use Rattle.ux_base.specs.declared.settings.Policy.{Policy}
use Rattle.ux_alphabet.specs.Letters.{Letters}
use Rattle.ux_tokens.specs.Tokens.{Token}
use Rattle.ux_lexical_tables.specs.Tables.{Tables}
use Rattle.ux_net.specs.Words.{Grammar}
use Rattle.ux_outputs.specs.declared.span.Span.{Span}
use Rattle.ux_locate.specs.Hits.{IsHit}
use Rattle.ux_locate.specs.Index.{IsIndex, IsKeptListing, index_of}
use Rattle.ux_locate.specs.Spans.{hit_at}

pub ignored_index : (alphabet : Letters) (tokens : List Token) (tables : Tables)
    (grammar : Grammar) (mode : Mode) (policy : Policy) (novar : NoVar) (spans lent : List Span)
    (text : List ℕ) → mode ≡ Ignore → lent ≡ spans →
    IsKeptListing policy (IsHit alphabet tokens tables grammar Ignore novar)
    (map (hit_at tokens) spans) → text ≡ index_of Ignore (map (hit_at tokens) lent) →
    IsIndex mode policy (IsHit alphabet tokens tables grammar mode novar) text
ignored_index alphabet tokens tables grammar mode policy novar spans lent text is same listing
    written =
    subst (λ (m : Mode). IsIndex m policy (IsHit alphabet tokens tables grammar m novar) text)
    (sym is) (record {
      hits = map (hit_at tokens) spans;
      listing = listing;
      written = written ∙ ap (λ (l : List Span). index_of Ignore (map (hit_at tokens) l)) same;
    })
