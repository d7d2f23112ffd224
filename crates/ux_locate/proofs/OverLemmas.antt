-- What holds of the text with its masks holds of the grammar, the text, the letters and the entries of
-- which it was made.
use Rattle.std.proofs.Common.{List, subst, map}
use Rattle.std.specs.Prelude.{All}
use Rattle.ux_base.specs.declared.settings.Mode.{Mode}
use Rattle.ux_base.specs.declared.settings.Mode.TheVariants.{Ignore}
use Rattle.ux_base.specs.declared.settings.NoVar.{NoVar}
use Rattle.ux_base.specs.declared.settings.Policy.{Policy}
use Rattle.ux_alphabet.specs.Letters.{Letters}
use Rattle.ux_lexical_tables.specs.Tables.{Tables}
use Rattle.ux_mask_table.specs.declared.masked_text.MaskedText.{MaskedText}
use Rattle.ux_mask_table.specs.MaskedTexts.{IsOver}
use Rattle.ux_net.specs.declared.net_graph.NetGraph.{NetGraph}
use Rattle.ux_net.specs.Nets.{net_grammar}
use Rattle.ux_outputs.specs.declared.hit.Hit.{Hit}
use Rattle.ux_outputs.specs.declared.span.Span.{Span}
use Rattle.ux_tokens.specs.Tokens.{Token}
use Rattle.ux_locate.specs.Hits.{IsHit}
use Rattle.ux_locate.specs.Index.{IsKeptListing}
use Rattle.ux_locate.specs.Spans.{LiesIn, hit_at}

module _ (net : List NetGraph) (tokens : List Token) (alphabet : Letters) (tables : Tables)
    (text : MaskedText) (over : IsOver net tokens alphabet tables text) where
  -- the hits
  pub hits_over : (policy : Policy) (mode : Mode) (novar : NoVar) (hits : List Hit) →
      IsKeptListing policy (IsHit text.alphabet.now text.text.now text.applied.now
      (net_grammar text.net.now) mode novar) hits →
      IsKeptListing policy (IsHit alphabet tokens tables (net_grammar net) mode novar) hits
  hits_over policy mode novar hits listing =
      subst (λ (a : Letters). IsKeptListing policy
      (IsHit a tokens tables (net_grammar net) mode novar) hits) over.alphabet_is
      (subst (λ (t : List Token). IsKeptListing policy
      (IsHit text.alphabet.now t tables (net_grammar net) mode novar) hits) over.text_is
      (subst (λ (t : Tables). IsKeptListing policy
      (IsHit text.alphabet.now text.text.now t (net_grammar net) mode novar) hits) over.applied_is
      (subst (λ (n : List NetGraph). IsKeptListing policy (IsHit text.alphabet.now text.text.now
      text.applied.now (net_grammar n) mode novar) hits) over.net_is listing)))

  -- the spans
  pub spans_over : (policy : Policy) (novar : NoVar) (spans : List Span) →
      IsKeptListing policy (IsHit text.alphabet.now text.text.now text.applied.now
      (net_grammar text.net.now) Ignore novar) (map (hit_at text.text.now) spans) →
      IsKeptListing policy (IsHit alphabet tokens tables (net_grammar net) Ignore novar)
      (map (hit_at tokens) spans)
  spans_over policy novar spans listing =
      subst (λ (t : List Token). IsKeptListing policy
      (IsHit alphabet tokens tables (net_grammar net) Ignore novar) (map (hit_at t) spans)) over.text_is
      (hits_over policy Ignore novar (map (hit_at text.text.now) spans) listing)

  pub lie_over : (spans : List Span) → All (LiesIn text.text.now) spans → All (LiesIn tokens) spans
  lie_over spans = subst (λ (t : List Token). All (LiesIn t) spans) over.text_is
