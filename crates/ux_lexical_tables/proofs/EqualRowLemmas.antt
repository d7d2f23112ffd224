-- Rows of a text's tables: each token has its rows, and equal tokens have equal ones.
use Rattle.std.proofs.Common.{arith, ◌≡◌, ◌⊎◌, ℕ, zero, suc, List, [], ◌∷◌, ◌++◌, refl, sym, ◌∙◌, ap, subst, inl, inr}
use Rattle.std.specs.Prelude.{Some, Contains, slice_get}
use Rattle.std.proofs.lemmas.List.{same_from_push}
use Rattle.std.proofs.lemmas.Option.{slice_get_within}
use Rattle.ux_alphabet.specs.Letters.{Letters}
use Rattle.ux_base.proofs.FirstsLemmas.{Contains-none}
use Rattle.ux_dela.specs.Delaf.{entries}
use Rattle.ux_dela.specs.Tag.{IsTagBody}
use Rattle.ux_dela.specs.declared.entry.Entry.{Entry}
use Rattle.ux_dela.proofs.UniqueLaws.{says_once}
use Rattle.ux_tokens.specs.declared.kind.Kind.{Kind}
use Rattle.ux_tokens.specs.declared.kind.Kind.TheVariants.{Word, Space, Other, Sentence, Stop, Tag}
use Rattle.ux_tokens.specs.Tokens.{Token, IsTag, CLOSING_BRACE}
use Rattle.ux_lexical_tables.specs.Belonging.{Belongs, MayHaveSimple}
use Rattle.ux_lexical_tables.specs.Tables.{Tables, IsOwnCompound, IsOwnSimple, IsSimpleForm}
use Rattle.ux_lexical_tables.proofs.LetterLemmas.{IsSettled, simple_settled}
use Rattle.ux_lexical_tables.proofs.TableLemmas.{some-at}

-- a tag has one entry
pub one_tag : (text : List ℕ) (entry other : Entry) → IsTag text entry → IsTag text other →
    entry ≡ other
one_tag text entry other (body, is, tag) (inner, same, another) =
    let braced : body ++ CLOSING_BRACE ∷ [] ≡ inner ++ CLOSING_BRACE ∷ [] =
    let whole = sym is ∙ same in cc in
    let bodies = (same_from_push body inner CLOSING_BRACE CLOSING_BRACE braced).0 in
    let there : IsTagBody body other = subst (λ (t : List ℕ). IsTagBody t other) (sym bodies) another in
    let said = says_once body _ _ (entries body tag.parts tag.line)
    (entries body there.parts there.line) in
    let all : entry ∷ [] ≡ other ∷ [] = sym tag.alone ∙ (said ∙ there.alone) in
    cc

-- rows of equal tags are equal
pub one_own : (alphabet : Letters) (text : List ℕ) (row other : List Entry) →
    IsOwnSimple alphabet text row → IsOwnSimple alphabet text other → row ≡ other
one_own alphabet text row other own same = go (simple_settled alphabet own.entry)
  where
    entries_same : own.entry ≡ same.entry
    entries_same = one_tag text own.entry same.entry own.tag same.tag

    go : IsSettled (IsSimpleForm alphabet own.entry) → row ≡ other
    go (inl simple) =
        own.letters simple
        ∙ (ap (λ (e : Entry). e ∷ []) entries_same
        ∙ sym (same.letters (subst (IsSimpleForm alphabet) entries_same simple)))
    go (inr not) =
        own.others not
        ∙ sym (same.others (λ simple. not (subst (IsSimpleForm alphabet) (sym entries_same) simple)))

-- what a tag's compound row has, that of an equal tag has too
pub own_there : (alphabet : Letters) (text : List ℕ) (i j last : ℕ) (entry : Entry)
    (row other : List (ℕ × Entry)) → IsOwnCompound alphabet text i row →
    IsOwnCompound alphabet text j other → Contains row (last, entry) → Contains other (j, entry)
own_there alphabet text i j last entry row other own same has =
    go (simple_settled alphabet own.entry)
  where
    entries_same : own.entry ≡ same.entry
    entries_same = one_tag text own.entry same.entry own.tag same.tag

    only : Contains {X = ℕ × Entry} ((i, own.entry) ∷ []) (last, entry) → own.entry ≡ entry
    only (zero, lt, is) = ap (λ (m : ℕ × Entry). m.1) is
    only (suc k, lt, is) = absurd (omega (arith, lt))

    go : IsSettled (IsSimpleForm alphabet own.entry) → Contains other (j, entry)
    go (inl simple) =
        absurd (Contains-none (last, entry)
        (subst (λ (l : List (ℕ × Entry)). Contains l (last, entry)) (own.letters simple) has))
    go (inr not) =
        let is = only (subst (λ (l : List (ℕ × Entry)). Contains l (last, entry)) (own.others not) has)
        in
        let there = same.others
        (λ simple. not (subst (IsSimpleForm alphabet) (sym entries_same) simple)) in
        subst (λ (l : List (ℕ × Entry)). Contains l (j, entry)) (sym there)
        (0, omega arith, ap (λ (e : Entry). (j, e)) (sym entries_same ∙ is))

-- no entry is in an empty row
pub empty_has : (row : List Entry) (entry : Entry) → row ≡ [] → Contains row entry → ⊥
empty_has row entry none has =
    Contains-none entry (subst (λ (l : List Entry). Contains l entry) none has)

module _ (alphabet : Letters) (tokens : List Token) (tables : Tables)
    (belongs : Belongs alphabet tokens tables) where
  -- each token has a row of simple entries
  pub simple_row : (i : ℕ) (token : Token) → slice_get tokens i ≡ Some token →
      (row : List Entry) × (slice_get tables.simple i ≡ Some row)
  simple_row i token at =
      let within = slice_get_within tokens i token at in
      some-at tables.simple i (omega (arith, within, belongs.simple_rows))

  -- and one of compound ones
  pub compound_row : (i : ℕ) (token : Token) → slice_get tokens i ≡ Some token →
      (row : List (ℕ × Entry)) × (slice_get tables.compounds i ≡ Some row)
  compound_row i token at =
      let within = slice_get_within tokens i token at in
      some-at tables.compounds i (omega (arith, within, belongs.compound_rows))

  -- equal tokens have equal rows of simple entries
  pub same_simple : (i j : ℕ) (token : Token) (row other : List Entry) →
      slice_get tokens i ≡ Some token → slice_get tokens j ≡ Some token →
      slice_get tables.simple i ≡ Some row → slice_get tables.simple j ≡ Some other → row ≡ other
  same_simple i j token row other here there at same = go token.kind refl
    where
      neither : (MayHaveSimple token.kind → ⊥) → row ≡ other
      neither not =
          nothing (belongs.words i token row here at)
          ∙ sym (nothing (belongs.words j token other there same))
        where
          nothing : {entries : List Entry} → MayHaveSimple token.kind ⊎ (entries ≡ []) → entries ≡ []
          nothing (inl may) = absurd (not may)
          nothing (inr none) = none

      go : (kind : Kind) → token.kind ≡ kind → row ≡ other
      go Word is = belongs.equal i j token row other is here there at same
      go Tag is =
          one_own alphabet token.text row other (belongs.own_simple i token row here is at)
          (belongs.own_simple j token other there is same)
      go Space is = neither (λ may. subst MayHaveSimple is may)
      go Other is = neither (λ may. subst MayHaveSimple is may)
      go Sentence is = neither (λ may. subst MayHaveSimple is may)
      go Stop is = neither (λ may. subst MayHaveSimple is may)
