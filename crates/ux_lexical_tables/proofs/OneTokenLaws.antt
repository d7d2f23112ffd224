-- What masks accept from a token: whole tokens within the text, none from a space, and where no span
-- of several tokens begins, what they accept from any such place with the same token.
use Rattle.std.proofs.Common.{arith, ◌≡◌, ◌⊎◌, ℕ, zero, suc, ◌+◌, ◌<◌, ◌≤◌, List, [], length, refl, sym, ◌∙◌, ap, subst, inl, inr}
use Rattle.std.specs.Prelude.{Option, Some, None, Contains, IsSomeAnd, slice_get}
use Rattle.std.proofs.lemmas.Option.{same_Some, slice_get_within}
use Rattle.ux_alphabet.specs.Letters.{Letters}
use Rattle.ux_base.proofs.FirstsLemmas.{Contains-none}
use Rattle.ux_dela.specs.declared.entry.Entry.{Entry}
use Rattle.ux_masks.specs.Meets.{MeetsParts}
use Rattle.ux_masks.specs.declared.mask.Mask.{Mask}
use Rattle.ux_masks.specs.declared.mask.Mask.TheVariants as mask
use Rattle.ux_tokens.specs.declared.kind.Kind.{Kind}
use Rattle.ux_tokens.specs.declared.kind.Kind.TheVariants.{Word, Space, Other, Sentence, Stop, Tag}
use Rattle.ux_tokens.specs.Tokens.{Token}
use Rattle.ux_lexical_tables.specs.Accepting.{Accepts, AreDigits, HasCompound, HasOwn, HasSimple, IsAlone, IsAny, IsDigit, IsDigitAt, IsOne, IsTokenKind}
use Rattle.ux_lexical_tables.specs.Belonging.{Belongs, MayHaveSimple, StandsOn}
use Rattle.ux_lexical_tables.specs.Spans.{MayBound}
use Rattle.ux_lexical_tables.specs.Tables.{Tables}
use Rattle.ux_lexical_tables.proofs.EqualRowLemmas.{compound_row, empty_has, own_there, same_simple, simple_row}

module _ (alphabet : Letters) (tokens : List Token) (tables : Tables)
    (belongs : Belongs alphabet tokens tables) where
  -- a compound entry ends behind its first token, within the text
  compound_forward : (i k : ℕ) (IsSo : Entry → Type 0) → HasCompound tokens i tables IsSo k →
      (i < k) × (k ≤ length tokens)
  compound_forward i k IsSo (row, at, last, entry, has, so, is) =
      go (belongs.spans i last entry row at has)
    where
      some_within : (place : ℕ) (P : Token → Type 0) (o : Option Token) → slice_get tokens place ≡ o →
          IsSomeAnd o P → place < length tokens
      some_within place P None there p = absurd p
      some_within place P (Some token) there p = slice_get_within tokens place token there

      go : StandsOn tokens i last → (i < k) × (k ≤ length tokens)
      go (inl span) =
          let end = some_within last _ (slice_get tokens last) refl span.1.ends in
          (omega (arith, span.0, is), omega (arith, end, is))
      go (inr (same, tag)) =
          let within = slice_get_within tokens i tag.0 tag.1 in
          (omega (arith, same, is), omega (arith, same, is, within))

  simple_forward : (i k : ℕ) (IsSo : Entry → Type 0) → HasSimple tokens i tables IsSo →
      k ≡ i + 1 → (i < k) × (k ≤ length tokens)
  simple_forward i k IsSo has is =
      let within = slice_get_within tables.simple i has.0 has.1 in
      (omega (arith, is), omega (arith, is, within, belongs.simple_rows))

  one_forward : (i k : ℕ) (IsSo : Token → Type 0) → IsOne tokens i IsSo k →
      (i < k) × (k ≤ length tokens)
  one_forward i k IsSo (token, at, so, is) =
      let within = slice_get_within tokens i token at in
      (omega (arith, is), omega (arith, is, within))

  parts_forward : (i k : ℕ) (IsSo : Entry → Type 0) →
      (HasSimple tokens i tables IsSo × (k ≡ i + 1)) ⊎ HasCompound tokens i tables IsSo k →
      (i < k) × (k ≤ length tokens)
  parts_forward i k IsSo (inl simple) = simple_forward i k IsSo simple.0 simple.1
  parts_forward i k IsSo (inr compound) = compound_forward i k IsSo compound

  digits_forward : (i k : ℕ) → AreDigits tokens i k → (i < k) × (k ≤ length tokens)
  digits_forward i zero digits = absurd (omega (arith, digits.some))
  digits_forward i (suc k) digits =
      let last = digits.each k (omega (arith, digits.some)) (omega arith) in
      let within = slice_get_within tokens k last.0 last.1 in
      (digits.some, omega (arith, within))

  -- what a mask accepts lies behind its first token and within the text
  pub accepts_forward : (mask : Mask) (i k : ℕ) → Accepts alphabet tokens tables mask i k →
      (i < k) × (k ≤ length tokens)
  accepts_forward mask.Word i k is = one_forward i k _ is
  accepts_forward mask.NotWord i k is = one_forward i k _ is
  accepts_forward mask.Lower i k is = one_forward i k _ is
  accepts_forward mask.NotLower i k is = one_forward i k _ is
  accepts_forward mask.Upper i k is = one_forward i k _ is
  accepts_forward mask.NotUpper i k is = one_forward i k _ is
  accepts_forward mask.First i k is = one_forward i k _ is
  accepts_forward mask.NotFirst i k is = one_forward i k _ is
  accepts_forward mask.Dic i k is = parts_forward i k IsAny is
  accepts_forward mask.NotDic i k is = one_forward i k _ is.0
  accepts_forward mask.SDic i k is = simple_forward i k IsAny is.0 is.1
  accepts_forward mask.NotSDic i k is = one_forward i k _ is.0
  accepts_forward mask.CDic i k is = compound_forward i k IsAny is
  accepts_forward mask.TDic i k is = one_forward i k _ is
  accepts_forward mask.Nb i k is = digits_forward i k is
  accepts_forward mask.Token i k is = one_forward i k _ is
  accepts_forward (mask.Lexical parts) i k is = parts_forward i k (MeetsParts parts) is
  accepts_forward (mask.NotLexical parts) i k (inl word) = one_forward i k _ word.0
  accepts_forward (mask.NotLexical parts) i k (inr tag) = one_forward i k _ tag.0

  module _ (i : ℕ) (token : Token) (at : slice_get tokens i ≡ Some token) where
    simple_kind : (kind : Kind) → MayHaveSimple kind → IsTokenKind kind
    simple_kind Word may = tt
    simple_kind Space may = absurd may
    simple_kind Other may = absurd may
    simple_kind Sentence may = absurd may
    simple_kind Stop may = absurd may
    simple_kind Tag may = tt

    bound_kind : (kind : Kind) → MayBound kind → IsTokenKind kind
    bound_kind Word may = tt
    bound_kind Space may = absurd may
    bound_kind Other may = tt
    bound_kind Sentence may = absurd may
    bound_kind Stop may = absurd may
    bound_kind Tag may = absurd may

    of_kind : (kind : Kind) → IsTokenKind kind → token.kind ≡ kind → IsTokenKind token.kind
    of_kind kind may is = subst IsTokenKind (sym is) may

    has_kind : (k : ℕ) (IsSo : Token → Type 0) →
        ((other : Token) → IsSo other → IsTokenKind other.kind) → IsOne tokens i IsSo k →
        IsTokenKind token.kind
    has_kind k IsSo means (other, there, so, is) =
        let one = same_Some other token (sym there ∙ at) in
        subst (λ (t : Token). IsTokenKind t.kind) one (means other so)

    kind_is : (kind : Kind) → IsTokenKind kind → (other : Token) → other.kind ≡ kind →
        IsTokenKind other.kind
    kind_is kind may other is = subst IsTokenKind (sym is) may

    simple_has : (IsSo : Entry → Type 0) → HasSimple tokens i tables IsSo → IsTokenKind token.kind
    simple_has IsSo has = go (belongs.words i token has.0 at has.1)
      where
        go : MayHaveSimple token.kind ⊎ (has.0 ≡ []) → IsTokenKind token.kind
        go (inl may) = simple_kind token.kind may
        go (inr none) = absurd (empty_has has.0 has.2 none has.3)

    compound_has : (k : ℕ) (IsSo : Entry → Type 0) → HasCompound tokens i tables IsSo k →
        IsTokenKind token.kind
    compound_has k IsSo (row, there, last, entry, has, so, is) =
        go (belongs.spans i last entry row there has)
      where
        bound : (o : Option Token) → o ≡ Some token → IsSomeAnd o (λ t. MayBound t.kind) →
            MayBound token.kind
        bound None same may = absurd may
        bound (Some other) same may =
            subst (λ (t : Token). MayBound t.kind) (same_Some other token same) may

        go : StandsOn tokens i last → IsTokenKind token.kind
        go (inl span) = bound_kind token.kind (bound (slice_get tokens i) at span.1.begins)
        go (inr (same, tag)) =
            let one = same_Some tag.0 token (sym tag.1 ∙ at) in
            subst (λ (t : Token). IsTokenKind t.kind) one (kind_is Tag tt tag.0 tag.2)

    parts_has : (k : ℕ) (IsSo : Entry → Type 0) →
        (HasSimple tokens i tables IsSo × (k ≡ i + 1)) ⊎ HasCompound tokens i tables IsSo k →
        IsTokenKind token.kind
    parts_has k IsSo (inl simple) = simple_has IsSo simple.0
    parts_has k IsSo (inr compound) = compound_has k IsSo compound

    digits_has : (k : ℕ) → AreDigits tokens i k → IsTokenKind token.kind
    digits_has k digits =
        let here = digits.each i (omega arith) digits.some in
        let one = same_Some here.0 token (sym here.1 ∙ at) in
        subst (λ (t : Token). IsTokenKind t.kind) one (bound_kind here.0.kind here.2.0)

    -- a token from which a mask accepts is one that `<TOKEN>` accepts
    pub accepts_kind : (mask : Mask) (k : ℕ) → Accepts alphabet tokens tables mask i k →
        IsTokenKind token.kind
    accepts_kind mask.Word k is = has_kind k _ (kind_is Word tt) is
    accepts_kind mask.NotWord k is = has_kind k _ (kind_is Other tt) is
    accepts_kind mask.Lower k is = has_kind k _ (λ other so. kind_is Word tt other so.0) is
    accepts_kind mask.NotLower k is = has_kind k _ (λ other so. kind_is Word tt other so.0) is
    accepts_kind mask.Upper k is = has_kind k _ (λ other so. kind_is Word tt other so.0) is
    accepts_kind mask.NotUpper k is = has_kind k _ (λ other so. kind_is Word tt other so.0) is
    accepts_kind mask.First k is = has_kind k _ (λ other so. kind_is Word tt other so.0) is
    accepts_kind mask.NotFirst k is = has_kind k _ (λ other so. kind_is Word tt other so.0) is
    accepts_kind mask.Dic k is = parts_has k IsAny is
    accepts_kind mask.NotDic k is = has_kind k _ (kind_is Word tt) is.0
    accepts_kind mask.SDic k is = simple_has IsAny is.0
    accepts_kind mask.NotSDic k is = has_kind k _ (kind_is Word tt) is.0
    accepts_kind mask.CDic k is = compound_has k IsAny is
    accepts_kind mask.TDic k is = has_kind k _ (kind_is Tag tt) is
    accepts_kind mask.Nb k is = digits_has k is
    accepts_kind mask.Token k is = has_kind k _ (λ other so. so) is
    accepts_kind (mask.Lexical parts) k is = parts_has k (MeetsParts parts) is
    accepts_kind (mask.NotLexical parts) k (inl word) = has_kind k _ (kind_is Word tt) word.0
    accepts_kind (mask.NotLexical parts) k (inr tag) = has_kind k _ (kind_is Tag tt) tag.0

    -- no mask accepts from a space
    pub accepts_from_space : token.kind ≡ Space → (mask : Mask) (k : ℕ) →
        Accepts alphabet tokens tables mask i k → ⊥
    accepts_from_space space mask k is = subst IsTokenKind space (accepts_kind mask k is)

    -- or from the mark that nothing matches
    pub accepts_from_stop : token.kind ≡ Stop → (mask : Mask) (k : ℕ) →
        Accepts alphabet tokens tables mask i k → ⊥
    accepts_from_stop stop mask k is = subst IsTokenKind stop (accepts_kind mask k is)

  -- no digit stands where a token isn't one
  pub no_digit_at : (i : ℕ) (token : Token) → slice_get tokens i ≡ Some token →
      (IsDigit token → ⊥) → IsDigitAt tokens i → ⊥
  no_digit_at i token at isnt digit =
      isnt (subst IsDigit (same_Some digit.0 token (sym digit.1 ∙ at)) digit.2)

  -- no span begins where no compound entry does
  pub alone_without_row : (i : ℕ) (token : Token) → slice_get tokens i ≡ Some token →
      (IsDigit token → ⊥) → slice_get tables.compounds i ≡ Some [] → IsAlone tokens tables i
  alone_without_row i token at isnt none = record {
    no_span = λ row last entry here has.
        let empty : row ≡ [] = same_Some row [] (sym here ∙ none) in
        absurd (Contains-none (last, entry)
        (subst (λ (l : List (ℕ × Entry)). Contains l (last, entry)) empty has));
    no_digit = no_digit_at i token at isnt;
  }

  -- nor at a tag
  pub alone_tag : (i : ℕ) (token : Token) → slice_get tokens i ≡ Some token → token.kind ≡ Tag →
      IsAlone tokens tables i
  alone_tag i token at tag = record {
    no_span = λ row last entry here has. go last (belongs.spans i last entry row here has);
    no_digit = no_digit_at i token at (λ digit. subst MayBound tag digit.0);
  }
    where
      bound : (o : Option Token) → o ≡ Some token → IsSomeAnd o (λ t. MayBound t.kind) →
          MayBound token.kind
      bound None same may = absurd may
      bound (Some other) same may =
          subst (λ (t : Token). MayBound t.kind) (same_Some other token same) may

      go : (last : ℕ) → StandsOn tokens i last → last ≤ i
      go last (inl span) =
          absurd (subst MayBound tag (bound (slice_get tokens i) at span.1.begins))
      go last (inr (same, there)) = omega (arith, same)

  module _ (i j : ℕ) (token : Token) (alone : IsAlone tokens tables i)
      (other_alone : IsAlone tokens tables j) (at : slice_get tokens i ≡ Some token)
      (there : slice_get tokens j ≡ Some token) where
    one_alike : (k : ℕ) (IsSo : Token → Type 0) → IsOne tokens i IsSo k →
        (k ≡ i + 1) × IsOne tokens j IsSo (j + 1)
    one_alike k IsSo (found, here, so, is) =
        (is, (token, there, subst IsSo (same_Some found token (sym here ∙ at)) so, refl))

    simple_alike : (IsSo : Entry → Type 0) → HasSimple tokens i tables IsSo →
        HasSimple tokens j tables IsSo
    simple_alike IsSo (row, here, entry, has, so) =
        let other = simple_row alphabet tokens tables belongs j token there in
        let same = same_simple alphabet tokens tables belongs i j token row other.0 at there here other.1 in
        (other.0, other.1, entry, subst (λ (l : List Entry). Contains l entry) same has, so)

    compound_alike : (k : ℕ) (IsSo : Entry → Type 0) → HasCompound tokens i tables IsSo k →
        (k ≡ i + 1) × HasCompound tokens j tables IsSo (j + 1)
    compound_alike k IsSo (row, here, last, entry, has, so, is) =
        go (belongs.spans i last entry row here has)
      where
        go : StandsOn tokens i last → (k ≡ i + 1) × HasCompound tokens j tables IsSo (j + 1)
        go (inl span) =
            absurd (omega (arith, span.0, alone.no_span row last entry here has))
        go (inr (same, tag)) =
            let kind : token.kind ≡ Tag =
            sym (ap (λ (t : Token). t.kind) (same_Some tag.0 token (sym tag.1 ∙ at))) ∙ tag.2 in
            let other = compound_row alphabet tokens tables belongs j token there in
            let has_other = own_there alphabet token.text i j last entry row other.0
            (belongs.own_compound i token row at kind here)
            (belongs.own_compound j token other.0 there kind other.1) has in
            (omega (arith, is, same), (other.0, other.1, j, entry, has_other, so, refl))

    parts_alike : (k : ℕ) (IsSo : Entry → Type 0) →
        (HasSimple tokens i tables IsSo × (k ≡ i + 1)) ⊎ HasCompound tokens i tables IsSo k →
        (k ≡ i + 1) × ((HasSimple tokens j tables IsSo × (j + 1 ≡ j + 1))
        ⊎ HasCompound tokens j tables IsSo (j + 1))
    parts_alike k IsSo (inl simple) = (simple.1, inl (simple_alike IsSo simple.0, refl))
    parts_alike k IsSo (inr compound) =
        let alike = compound_alike k IsSo compound in (alike.0, inr alike.1)

  -- where no span of several tokens begins, a mask accepts one token or nothing, and the same at any
  -- place with this token
  pub accepts_alike : (i j : ℕ) (token : Token) → IsAlone tokens tables i → IsAlone tokens tables j →
      slice_get tokens i ≡ Some token → slice_get tokens j ≡ Some token → (mask : Mask) (k : ℕ) →
      Accepts alphabet tokens tables mask i k →
      (k ≡ i + 1) × Accepts alphabet tokens tables mask j (j + 1)
  accepts_alike i j token alone other at there = go
    where
      one : (k : ℕ) (IsSo : Token → Type 0) → IsOne tokens i IsSo k →
          (k ≡ i + 1) × IsOne tokens j IsSo (j + 1)
      one = one_alike i j token alone other at there

      without : (k : ℕ) (IsSo : Token → Type 0) (Found : (i : ℕ) → Type 0) → (Found j → Found i) →
          IsOne tokens i IsSo k × (Found i → ⊥) →
          (k ≡ i + 1) × (IsOne tokens j IsSo (j + 1) × (Found j → ⊥))
      without k IsSo Found back (is, none) =
          let alike = one k IsSo is in (alike.0, (alike.1, λ found. none (back found)))

      simple_back : (IsSo : Entry → Type 0) → HasSimple tokens j tables IsSo →
          HasSimple tokens i tables IsSo
      simple_back = simple_alike j i token other alone there at

      own_back : (IsSo : Entry → Type 0) → HasOwn tokens j tables IsSo → HasOwn tokens i tables IsSo
      own_back IsSo (inl simple) = inl (simple_back IsSo simple)
      own_back IsSo (inr compound) =
          inr (compound_alike j i token other alone there at (j + 1) IsSo compound).1

      parts : (k : ℕ) (IsSo : Entry → Type 0) →
          (HasSimple tokens i tables IsSo × (k ≡ i + 1)) ⊎ HasCompound tokens i tables IsSo k →
          (k ≡ i + 1) × ((HasSimple tokens j tables IsSo × (j + 1 ≡ j + 1))
          ⊎ HasCompound tokens j tables IsSo (j + 1))
      parts = parts_alike i j token alone other at there

      go : (mask : Mask) (k : ℕ) → Accepts alphabet tokens tables mask i k →
          (k ≡ i + 1) × Accepts alphabet tokens tables mask j (j + 1)
      go mask.Word k is = one k _ is
      go mask.NotWord k is = one k _ is
      go mask.Lower k is = one k _ is
      go mask.NotLower k is = one k _ is
      go mask.Upper k is = one k _ is
      go mask.NotUpper k is = one k _ is
      go mask.First k is = one k _ is
      go mask.NotFirst k is = one k _ is
      go mask.Dic k is = parts k IsAny is
      go mask.NotDic k is =
          without k _ (λ place. HasSimple tokens place tables IsAny) (simple_back IsAny) is
      go mask.SDic k is =
          (is.1, (simple_alike i j token alone other at there IsAny is.0, refl))
      go mask.NotSDic k is =
          without k _ (λ place. HasSimple tokens place tables IsAny) (simple_back IsAny) is
      go mask.CDic k is = compound_alike i j token alone other at there k IsAny is
      go mask.TDic k is = one k _ is
      go mask.Nb k is = absurd (alone.no_digit (is.each i (omega arith) is.some))
      go mask.Token k is = one k _ is
      go (mask.Lexical parts_asked) k is = parts k (MeetsParts parts_asked) is
      go (mask.NotLexical parts_asked) k (inl word) =
          let alike = without k _
          (λ place. HasSimple tokens place tables (MeetsParts parts_asked))
          (simple_back (MeetsParts parts_asked)) word in
          (alike.0, inl alike.1)
      go (mask.NotLexical parts_asked) k (inr tag) =
          let alike = without k _ (λ place. HasOwn tokens place tables (MeetsParts parts_asked))
          (own_back (MeetsParts parts_asked)) tag in
          (alike.0, inr alike.1)
