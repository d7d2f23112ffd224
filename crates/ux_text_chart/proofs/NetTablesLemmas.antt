-- Tables by numbers of tokens serve a text.
use Rattle.std.proofs.Common.{◌≡◌, ◌∙◌, ℕ, List, None, Option, Some, ap, refl, subst, sym}
use Rattle.std.specs.Prelude.{IfOk, IsSomeAnd, Result, Ok, Err, slice_get}
use Rattle.ux_alphabet.specs.Letters.{Letters}
use Rattle.ux_net.specs.declared.net_graph.NetGraph.{NetGraph}
use Rattle.ux_outputs.specs.Rendering.{skip}
use Rattle.ux_tokens.specs.Numbers.{different_texts}
use Rattle.ux_tokens.specs.Tokens.{Token}
use Rattle.ux_walk.specs.Literals.{AreReady}
use Rattle.ux_walk.specs.declared.words.Words.{Words}
use Rattle.ux_text_chart.specs.NetTables.{AreTablesBy, AreTablesFor, IsNumbering, IsTokenAt}
use Rattle.ux_text_chart.specs.declared.net_tables.NetTables.{NetTables}
use Rattle.ux_text_chart.specs.declared.net_tables.TokenAt.{TokenAt}
use Rattle.ux_text_chart.specs.declared.net_tables.TokenAt.TheVariants.{Number, Unknown, End}

-- those without words serve the text by whose numbers they are made
pub own_tables : {E : Type 0} (alphabet : Letters) (tokens : List Token) (net : List NetGraph)
    (made : Result NetTables E) →
    IfOk made (AreTablesBy alphabet (different_texts tokens) net) →
    IfOk made (λ (tables : NetTables). tables.words ≡ None) →
    IfOk made (AreTablesFor alphabet tokens net)
own_tables alphabet tokens net (Ok tables) by own = record {
  texts = different_texts tokens;
  by = by;
  numbering = subst (λ (words : Option Words). IsNumbering alphabet (different_texts tokens) tokens words)
      (sym own) refl;
}
own_tables alphabet tokens net (Err error) by own = tt

-- a token stands there
stands : (o : Option Token) (Is : Token → Type 0) → IsSomeAnd o Is →
    (there : Token) × (o ≡ Some there) × Is there
stands None Is so = absurd so
stands (Some token) Is so = (token, refl, so)

-- the number of a token's text among words is one that the token has
pub among_words : (alphabet : Letters) (texts : List (List ℕ)) (tokens : List Token) (words : Words)
    (text : List ℕ) (p : ℕ) (found : TokenAt) →
    ((number : ℕ) → found ≡ Number number → (alphabet : Letters) (texts : List (List ℕ)) →
    AreReady alphabet texts words → slice_get texts number ≡ Some text) → (found ≡ End → ⊥) →
    IsSomeAnd (slice_get tokens (skip tokens p)) (λ token. text ≡ token.text) →
    AreReady alphabet texts words → IsTokenAt texts tokens p found
among_words alphabet texts tokens words text p (Number number) told never so ready =
    let there = stands (slice_get tokens (skip tokens p)) (λ token. text ≡ token.text) so in
    (there.0, there.1, told number refl alphabet texts ready ∙ ap Some there.2)
among_words alphabet texts tokens words text p Unknown told never so ready = tt
among_words alphabet texts tokens words text p End told never so ready = absurd (never refl)

-- so is its number in the text, where the text is that of the numbers
pub own_number : (tokens : List Token) (texts : List (List ℕ)) (p number : ℕ) →
    texts ≡ different_texts tokens → IsSomeAnd (slice_get tokens (skip tokens p))
    (λ token. slice_get (different_texts tokens) number ≡ Some token.text) →
    IsTokenAt texts tokens p (Number number)
own_number tokens texts p number own so =
    let there = stands (slice_get tokens (skip tokens p))
    (λ token. slice_get (different_texts tokens) number ≡ Some token.text) so in
    (there.0, there.1, ap (λ (l : List (List ℕ)). slice_get l number) own ∙ there.2)
