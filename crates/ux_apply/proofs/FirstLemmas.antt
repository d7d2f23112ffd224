-- The places where the different tokens of a text first appear.
use Rattle.std.proofs.Common.{arith, ◌≡◌, ℕ, ◌+◌, ◌<◌, ◌≤◌, false, List, [], ◌∷◌, ◌++◌, map, length, get_or, take, drop, refl, sym, ◌∙◌, ap, subst}
use Rattle.std.specs.Prelude.{Option, Some, None, IsSomeAnd, slice_get}
use Rattle.std.specs.List.{AllZip, list_any}
use Rattle.std.specs.Str.{bytes_eq}
use Rattle.std.proofs.lemmas.Bool.{false_from_ne_true}
use Rattle.std.proofs.lemmas.Slice.Eq.{bytes_eq-Decides}
use Rattle.std.proofs.lemmas.List.{map-append, map_more, take-append-drop, take_all}
use Rattle.std.proofs.lemmas.List.Folds.{Any-from_list_any}
use Rattle.std.proofs.lemmas.Option.{same_Some, slice_get_within, slice_get-get_or, get_or_from_slice_get}
use Rattle.ux_tokens.specs.Tokens.{Token}
use Rattle.ux_base.specs.Distinct.{each_once, with_text}
use Rattle.ux_tokens.specs.Numbers.{different_texts}
use Rattle.ux_tokens.proofs.DistinctLemmas.{different_texts-once}
use Rattle.ux_base.proofs.DistinctLemmas.{each_once-keeps, each_once-push, with_text-there, with_text-new}
use Rattle.ux_apply.specs.Kept.{HasText}
use Rattle.ux_apply.proofs.ZipLemmas.{zip-push, zip-more, zip-length, zip-back}

module _ (tokens : List Token) (i : ℕ) where
  -- the different texts of one token more
  one_more : (token : Token) → slice_get tokens i ≡ Some token →
      different_texts (take (i + 1) tokens)
      ≡ with_text (different_texts (take i tokens)) token.text
  one_more token at =
      let last : get_or tokens i token ≡ token = get_or_from_slice_get tokens i token token at in
      ap each_once (map_more (λ (t : Token). t.text) tokens i token
      (slice_get_within tokens i token at)
      ∙ ap (λ (t : Token). map (λ (u : Token). u.text) (take i tokens) ++ t.text ∷ []) last)
      ∙ each_once-push (map (λ (t : Token). t.text) (take i tokens)) token.text

  -- what has a number among the first tokens has it among all
  keeps_number : (n : ℕ) (text : List ℕ) →
      slice_get (different_texts (take i tokens)) n ≡ Some text →
      slice_get (different_texts tokens) n ≡ Some text
  keeps_number n text at =
      let whole : map (λ (t : Token). t.text) (take i tokens)
      ++ map (λ (t : Token). t.text) (drop i tokens) ≡ map (λ (t : Token). t.text) tokens =
      sym (map-append (λ (t : Token). t.text) (take i tokens) (drop i tokens))
      ∙ ap (map (λ (t : Token). t.text)) (take-append-drop i tokens) in
      subst (λ (l : List (List ℕ)). slice_get (each_once l) n ≡ Some text) whole
      (each_once-keeps (map (λ (t : Token). t.text) (take i tokens))
      (map (λ (t : Token). t.text) (drop i tokens)) n text at)

  -- a token whose number is below the count of the texts so far has one of them
  known_text : (token : Token) (n : ℕ) → n < length (different_texts (take i tokens)) →
      slice_get (different_texts tokens) n ≡ Some token.text →
      slice_get (different_texts (take i tokens)) n ≡ Some token.text
  known_text token n below is =
      let known = different_texts (take i tokens) in
      let here : slice_get known n ≡ Some (get_or known n token.text) =
      slice_get-get_or known n token.text below in
      let same : get_or known n token.text ≡ token.text =
      same_Some (get_or known n token.text) token.text
      (sym (keeps_number n (get_or known n token.text) here) ∙ is) in
      here ∙ ap (λ (t : List ℕ). Some t) same

  -- another token has a new text
  new_text : (token : Token) (n : ℕ) → length (different_texts (take i tokens)) ≤ n →
      slice_get (different_texts tokens) n ≡ Some token.text →
      list_any (bytes_eq token.text) (different_texts (take i tokens)) ≡ false
  new_text token n past is =
      let known = different_texts (take i tokens) in
      false_from_ne_true (list_any (bytes_eq token.text) known)
      (λ there.
      let found = Any-from_list_any (bytes_eq token.text) known there in
      let at : slice_get known found.0 ≡ Some found.1 =
      slice_get-get_or known found.0 found.1 found.2 ∙ ap (λ (t : List ℕ). Some t) found.3 in
      let same : token.text ≡ found.1 = (bytes_eq-Decides token.text found.1).0 found.4 in
      let here : slice_get known found.0 ≡ Some token.text =
      at ∙ ap (λ (t : List ℕ). Some t) (sym same) in
      let one : found.0 ≡ n = different_texts-once tokens found.0 n token.text
      (keeps_number found.0 token.text here) is in
      let below = slice_get_within known found.0 token.text here in
      absurd (omega (arith, one, below, past)))

  module _ (places : List ℕ)
      (before : AllZip (HasText tokens) (different_texts (take i tokens)) places) where
    abbrev known : List (List ℕ)
    known = different_texts (take i tokens)

    -- a token with a new number is put last
    pub first-more : (more : List ℕ) (n : ℕ) → length places ≤ n → more ≡ places ++ i ∷ [] →
        IsSomeAnd (slice_get tokens i)
        (λ token. slice_get (different_texts tokens) n ≡ Some token.text) →
        AllZip (HasText tokens) (different_texts (take (i + 1) tokens)) more
    first-more more n past grown there = go (slice_get tokens i) refl there
      where
        go : (o : Option Token) → slice_get tokens i ≡ o →
            IsSomeAnd o (λ token. slice_get (different_texts tokens) n ≡ Some token.text) →
            AllZip (HasText tokens) (different_texts (take (i + 1) tokens)) more
        go None at is = absurd is
        go (Some token) at is =
            let long = zip-length (HasText tokens) known places before in
            let texts : different_texts (take (i + 1) tokens) ≡ known ++ token.text ∷ [] =
            one_more token at
            ∙ with_text-new known token.text
            (new_text token n (omega (arith, long, past)) is) in
            let here : HasText tokens token.text i =
            subst (λ (o : Option Token). IsSomeAnd o (λ t. token.text ≡ t.text)) (sym at) refl in
            subst (λ (l : List ℕ). AllZip (HasText tokens) (different_texts (take (i + 1) tokens)) l)
            (sym grown)
            (subst (λ (l : List (List ℕ)). AllZip (HasText tokens) l (places ++ i ∷ []))
            (sym texts) (zip-push (HasText tokens) known places token.text i before here))

    -- and another one isn't
    pub first-same : (more : List ℕ) (n : ℕ) → n < length places → more ≡ places →
        IsSomeAnd (slice_get tokens i)
        (λ token. slice_get (different_texts tokens) n ≡ Some token.text) →
        AllZip (HasText tokens) (different_texts (take (i + 1) tokens)) more
    first-same more n below same there = go (slice_get tokens i) refl there
      where
        go : (o : Option Token) → slice_get tokens i ≡ o →
            IsSomeAnd o (λ token. slice_get (different_texts tokens) n ≡ Some token.text) →
            AllZip (HasText tokens) (different_texts (take (i + 1) tokens)) more
        go None at is = absurd is
        go (Some token) at is =
            let long = zip-length (HasText tokens) known places before in
            let texts : different_texts (take (i + 1) tokens) ≡ known =
            one_more token at
            ∙ with_text-there known token.text n
            (known_text token n (omega (arith, long, below)) is) in
            subst (λ (l : List ℕ). AllZip (HasText tokens) (different_texts (take (i + 1) tokens)) l)
            (sym same)
            (subst (λ (l : List (List ℕ)). AllZip (HasText tokens) l places) (sym texts) before)

-- at the end
pub first-end : (tokens : List Token) (i : ℕ) (places : List ℕ) → length tokens ≤ i →
    AllZip (HasText tokens) (different_texts (take i tokens)) places →
    AllZip (HasText tokens) (different_texts tokens) places
first-end tokens i places past before =
    subst (λ (l : List Token). AllZip (HasText tokens) (different_texts l) places)
    (take_all i tokens past) before

some_within : (tokens : List Token) (place : ℕ) (text : List ℕ) (o : Option Token) →
    slice_get tokens place ≡ o → IsSomeAnd o (λ t. text ≡ t.text) → place < length tokens
some_within tokens place text None at is = absurd is
some_within tokens place text (Some token) at is = slice_get_within tokens place token at

-- the place of a text lies in the list of tokens
pub place-within : (tokens : List Token) (texts : List (List ℕ)) (places : List ℕ) →
    AllZip (HasText tokens) texts places → (i : ℕ) → i < length places →
    get_or places i 0 < length tokens
place-within tokens texts places given i lt =
    let place = get_or places i 0 in
    let back = zip-back (HasText tokens) texts places i place given
    (slice_get-get_or places i 0 lt) in
    some_within tokens place back.0 (slice_get tokens place) refl back.2

module _ {Y : Type 0} (R : List ℕ → Y → Type 0) (tokens : List Token) (texts : List (List ℕ))
    (places : List ℕ) (given : AllZip (HasText tokens) texts places) (i : ℕ) where
  -- what is asked of the token there belongs to the text
  pub numbered-more : i < length places → (text : List ℕ) →
      IsSomeAnd (slice_get tokens (get_or places i 0)) (λ t. text ≡ t.text) →
      (rows all_new : List Y) (row : Y) → AllZip R (take i texts) rows → R text row →
      all_new ≡ rows ++ row ∷ [] → AllZip R (take (i + 1) texts) all_new
  numbered-more lt text is rows all_new row before here grown =
      let place = get_or places i 0 in
      let back = zip-back (HasText tokens) texts places i place given
      (slice_get-get_or places i 0 lt) in
      let same : text ≡ back.0 = one_text (slice_get tokens place) back.0 is back.2 in
      subst (AllZip R (take (i + 1) texts)) (sym grown)
      (zip-more R texts rows i back.0 row (slice_get_within texts i back.0 back.1)
      (get_or_from_slice_get texts i back.0 back.0 back.1) before
      (subst (λ (t : List ℕ). R t row) same here))
    where
      one_text : (o : Option Token) (other : List ℕ) → IsSomeAnd o (λ t. text ≡ t.text) →
          IsSomeAnd o (λ t. other ≡ t.text) → text ≡ other
      one_text None other a b = absurd a
      one_text (Some token) other a b = a ∙ sym b

  -- at the end
  pub numbered-end : length places ≤ i → (rows : List Y) → AllZip R (take i texts) rows →
      AllZip R texts rows
  numbered-end past rows before =
      let long = zip-length (HasText tokens) texts places given in
      subst (λ (l : List (List ℕ)). AllZip R l rows)
      (take_all i texts (omega (arith, long, past))) before
