-- A table of the different texts of a text's tokens, as it grows, and what is found in it.
use Rattle.std.proofs.Common.{arith, ◌≡◌, ◌↔◌, ℕ, ◌+◌, ◌<◌, ◌≤◌, List, [], ◌∷◌, ◌++◌, inl, inr, Bor, map, length, get_or, take, drop, refl, sym, ◌∙◌, ap, subst}
use Rattle.std.specs.Prelude.{Option, Some, None, IsSomeAnd, Contains, slice_get, position}
use Rattle.std.specs.List.{list_any}
use Rattle.std.specs.Option.{is_some}
use Rattle.std.specs.Str.{IsUtf8, bytes_eq}
use Rattle.std.proofs.lemmas.List.{map-append, map_more, take-append-drop}
use Rattle.std.proofs.lemmas.Option.{same_Some, slice_get_within, slice_get-get_or, get_or_from_slice_get}
use Rattle.ux_tokens.specs.Tokens.{Token}
use Rattle.ux_base.specs.Distinct.{StandOnce, each_once, with_text}
use Rattle.ux_tokens.specs.Numbers.{different_texts}
use Rattle.ux_base.proofs.DistinctLemmas.{each_once-keeps, each_once-push, length-with_text, with_text-from, with_text-there}
use Rattle.ux_net.proofs.NamesLemmas.{named_at, named_there}
use Rattle.ux_walk.specs.Literals.{AreUtf8}

-- texts that are UTF-8 stay so as one is added that is
utf8_more : (texts : List (List ℕ)) (text : List ℕ) → AreUtf8 texts → IsUtf8 text →
    AreUtf8 (with_text texts text)
utf8_more texts text before this n other at = elim (with_text-from texts text n other at) [
  | inl there ↦ before there.0 other
      (slice_get-get_or texts there.0 other there.1 ∙ ap (λ (t : List ℕ). Some t) there.2)
  | inr is ↦ subst IsUtf8 is this
]

module _ (tokens : List Token) (i : ℕ) where
  -- the different texts of one token more
  one_more : (token : Token) → slice_get tokens i ≡ Some token →
      different_texts (take (i + 1) tokens)
      ≡ with_text (different_texts (take i tokens)) token.text
  one_more token at =
      let last : get_or tokens i token ≡ token = get_or_from_slice_get tokens i token token at in
      ap each_once (map_more (λ (t : Token). t.text) tokens i token
      (slice_get_within tokens i token at)
      ∙ ap (λ (t : Token). map (λ (u : Token). u.text) (take i tokens) ++ t.text ∷ []) last)
      ∙ each_once-push (map (λ (t : Token). t.text) (take i tokens)) token.text

  -- what has a number among the first tokens has it among all
  keeps_number : (n : ℕ) (text : List ℕ) →
      slice_get (different_texts (take i tokens)) n ≡ Some text →
      slice_get (different_texts tokens) n ≡ Some text
  keeps_number n text at =
      let whole : map (λ (t : Token). t.text) (take i tokens)
      ++ map (λ (t : Token). t.text) (drop i tokens) ≡ map (λ (t : Token). t.text) tokens =
      sym (map-append (λ (t : Token). t.text) (take i tokens) (drop i tokens))
      ∙ ap (map (λ (t : Token). t.text)) (take-append-drop i tokens) in
      subst (λ (l : List (List ℕ)). slice_get (each_once l) n ≡ Some text) whole
      (each_once-keeps (map (λ (t : Token). t.text) (take i tokens))
      (map (λ (t : Token). t.text) (drop i tokens)) n text at)

  -- the next token's text is added
  texts_more : (text : List ℕ) → IsSomeAnd (slice_get tokens i) (λ token. text ≡ token.text) →
      different_texts (take (i + 1) tokens) ≡ with_text (different_texts (take i tokens)) text
  texts_more text = go (slice_get tokens i) refl
    where
      go : (o : Option Token) → slice_get tokens i ≡ o → IsSomeAnd o (λ token. text ≡ token.text) →
          different_texts (take (i + 1) tokens) ≡ with_text (different_texts (take i tokens)) text
      go None at is = absurd is
      go (Some token) at is = one_more token at
          ∙ ap (with_text (different_texts (take i tokens))) (sym is)

  -- a token whose number is below the table's length adds none
  texts_same : (n : ℕ) → n < length (different_texts (take i tokens)) →
      IsSomeAnd (slice_get tokens i)
      (λ token. slice_get (different_texts tokens) n ≡ Some token.text) →
      different_texts (take (i + 1) tokens) ≡ different_texts (take i tokens)
  texts_same n below = go (slice_get tokens i) refl
    where
      go : (o : Option Token) → slice_get tokens i ≡ o →
          IsSomeAnd o (λ token. slice_get (different_texts tokens) n ≡ Some token.text) →
          different_texts (take (i + 1) tokens) ≡ different_texts (take i tokens)
      go None at is = absurd is
      go (Some token) at is =
          let known = different_texts (take i tokens) in
          let here : slice_get known n ≡ Some (get_or known n token.text) =
          slice_get-get_or known n token.text below in
          let same : get_or known n token.text ≡ token.text =
          same_Some (get_or known n token.text) token.text
          (sym (keeps_number n (get_or known n token.text) here) ∙ is) in
          one_more token at
          ∙ with_text-there known token.text n (here ∙ ap (λ (t : List ℕ). Some t) same)

-- a table of the different texts of the tokens before the place
pub record IsTable (tokens : List Token) (i : ℕ) (texts : List (List ℕ)) : Type 0 where
  pub texts_are : texts ≡ different_texts (take i tokens)
  pub few : length texts ≤ 4294967296
  pub utf8 : AreUtf8 texts

module _ (tokens : List Token) (i : ℕ) (texts : List (List ℕ)) (table : IsTable tokens i texts)
  where
    -- the next token's text is added to it
    pub table_more : (more : List (List ℕ)) (text : List ℕ) → more ≡ with_text texts text →
        length texts < 4294967296 → IsUtf8 text →
        IsSomeAnd (slice_get tokens i) (λ token. text ≡ token.text) → IsTable tokens (i + 1) more
    table_more more text is room utf8 there =
        let grown : length (with_text texts text) ≤ length texts + 1 =
        length-with_text texts text in
        subst (IsTable tokens (i + 1)) (sym is) (record {
          texts_are = ap (λ (l : List (List ℕ)). with_text l text) table.texts_are
              ∙ sym (texts_more tokens i text there);
          few = omega (arith, grown, room);
          utf8 = utf8_more texts text table.utf8 utf8;
        })

    -- where the next token's number is below its length, it has the text
    pub table_same : (n : ℕ) → n < length texts →
        IsSomeAnd (slice_get tokens i)
        (λ token. slice_get (different_texts tokens) n ≡ Some token.text) →
        IsTable tokens (i + 1) texts
    table_same n below there = record {
      texts_are = table.texts_are ∙ sym (texts_same tokens i n
          (subst (λ (l : List (List ℕ)). n < length l) table.texts_are below) there);
      few = table.few;
      utf8 = table.utf8;
    }

-- a search for a text finds the one number that it has
pub found_by_text : (slices : List (Bor (List ℕ))) (text : Bor (List ℕ)) (found : Option ℕ) →
    found ≡ position (λ (s : Bor (List ℕ)). bytes_eq text.now s.now) slices →
    is_some found ≡ list_any (λ (s : Bor (List ℕ)). bytes_eq text.now s.now) slices →
    StandOnce (map (λ (s : Bor (List ℕ)). s.now) slices) → (n : ℕ) →
    (found ≡ Some n) ↔ (slice_get (map (λ (s : Bor (List ℕ)). s.now) slices) n ≡ Some text.now)
found_by_text slices text None is there once n = (
  λ no. absurd cc,
  λ at.
      let texts = map (λ (s : Bor (List ℕ)). s.now) slices in
      let stands : Contains texts text.now = (
        n,
        slice_get_within texts n text.now at,
        get_or_from_slice_get texts n text.now text.now at,
      ) in
      let both = there ∙ named_there slices text stands in
      absurd cc,
)
found_by_text slices text (Some m) is there once n = (
  λ same. named_at slices text n (sym is ∙ same),
  λ at. ap (λ (k : ℕ). Some k)
      (once m n text.now (named_at slices text m (sym is)) at),
)
