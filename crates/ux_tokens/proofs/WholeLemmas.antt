-- Each text has a list of tokens, so tokens that reach to a rest can go on.
use Rattle.std.proofs.Common.{◌≡◌, ◌≢◌, take, drop, ◌⊎◌, inl, inr, ℕ, zero, suc, ◌+◌, ◌<◌, ◌≤◌, Bool, true, false, ◌&&◌, List, [], ◌∷◌, ◌++◌, All, length, get_or, encode_utf8, refl, sym, ◌∙◌, ap, subst, append_assoc, arith}
use Rattle.std.specs.List.{Any}
use Rattle.std.specs.Char.{IsScalar}
use lib.Utf8.{scalar}
use Rattle.std.specs.Str.{IsUtf8, chars, encode_utf8_all, all_scalars}
use Rattle.std.proofs.lemmas.Bool.{cases_eq, cases_lt, cases_Bool, both_ways}
use Rattle.std.proofs.lemmas.Str.{IsUtf8-take, IsUtf8-drop, IsUtf8-encode, encodes-append, encode_ascii, encodes-chars, scalars-chars, chars-encodes, length-le-encodes, length-encode, len_utf8_bounds}
use Rattle.std.proofs.lemmas.List.{length-append, length-take-le, take-append-drop}
use Rattle.std.proofs.lemmas.List.Elements.{All-nil, All-cons}
use Rattle.ux_alphabet.specs.Letters.{Letters, never_letter, NamesUpper, NamesLower, IsLetter}
use Rattle.ux_alphabet.specs.declared.line.Line.{Line}
use Rattle.ux_alphabet.specs.declared.line.Line.TheVariants.{Single, Pair, Range}
use Rattle.ux_tokens.specs.declared.kind.Kind.{Kind}
use Rattle.ux_tokens.specs.declared.kind.Kind.TheVariants.{Word, Space, Other}
use Rattle.ux_tokens.specs.Tokens.{Token, IsTokenText, AreCutAtMarks, AreTokens, with_single_spaces, SPACE, OPENING_BRACE, SENTENCE, STOP, CLOSING_BRACE, BeginsWithMark, BeginsWithTag}
use Rattle.ux_dela.specs.Reading.{characters}
use Rattle.ux_tokens.specs.Tails.{before_form, is_tail}
use Rattle.ux_tokens.specs.Regions.{IsRegion, Closes, IsTagPlace}
use Rattle.ux_tokens.specs.First.{BeginsWithNoLetter, IsFront}
use Rattle.ux_tokens.specs.Cutting.{ReachTo}
use Rattle.ux_tokens.proofs.CutLemmas.{marked_more, none_at_marks}
use Rattle.ux_tokens.proofs.MarksLemmas.{mark_front, mark_kind, no_mark, tag_begins}
use Rattle.ux_tokens.proofs.SpacedLemmas.{spaced_utf8}
use Rattle.ux_tokens.proofs.RegionLemmas.{region, region_is, tag_place, place_tag}

-- a fact holds or it doesn't
abbrev Settled : Type 0 → Type 0
Settled P = P ⊎ (P → ⊥)

between : (low c high : ℕ) → Settled ((low ≤ c) × (c ≤ high))
between low c high = by (cases_lt c low) (cases_lt high c)
  where
    by : (c < low) ⊎ (low ≤ c) → (high < c) ⊎ (c ≤ high) → Settled ((low ≤ c) × (c ≤ high))
    by (inl less) above = inr (λ both. omega (arith, both.0))
    by (inr from) (inl less) = inr (λ both. omega (arith, both.1))
    by (inr from) (inr to) = inl (from, to)

names_upper : (line : Line) (c : ℕ) → Settled (NamesUpper line c)
names_upper (Single letter) c = cases_eq c letter
names_upper (Pair upper lower) c = cases_eq c upper
names_upper (Range low high) c = between low c high

names_lower : (line : Line) (c : ℕ) → Settled (NamesLower line c)
names_lower (Single letter) c = cases_eq c letter
names_lower (Pair upper lower) c = cases_eq c lower
names_lower (Range low high) c = between low c high

any_settled : (P : Line → Type 0) → ((line : Line) → Settled (P line)) → (lines : List Line) →
    Settled (Any P lines)
any_settled P each [] = inr (λ any. omega (arith, any.2))
any_settled P each (line ∷ lines) = by (each line) (any_settled P each lines)
  where
    none : (P line → ⊥) → (Any P lines → ⊥) → (k : ℕ) (x : Line) → k < length (line ∷ lines) →
        get_or (line ∷ lines) k x ≡ x → P x → ⊥
    none first later zero x within at holds = first (subst P (sym at) holds)
    none first later (suc k) x within at holds = later (k, x, omega arith, at, holds)

    by : Settled (P line) → Settled (Any P lines) → Settled (Any P (line ∷ lines))
    by (inl here) later = inl (0, line, omega arith, refl, here)
    by (inr first) (inl there) =
        inl (suc there.0, there.1, omega (arith, there.2), there.3, there.4)
    by (inr first) (inr later) = inr (λ any. none first later any.0 any.1 any.2 any.3 any.4)

-- a text begins with another or it doesn't
begins_settled : (mark text : List ℕ) → Settled ((rest : List ℕ) × (text ≡ mark ++ rest))
begins_settled [] text = inl (text, refl)
begins_settled (m ∷ mark) [] = inr (λ begins. cc)
begins_settled (m ∷ mark) (b ∷ text) = by (cases_eq b m) (begins_settled mark text)
  where
    by : Settled (b ≡ m) → Settled ((rest : List ℕ) × (text ≡ mark ++ rest)) →
        Settled ((rest : List ℕ) × (b ∷ text ≡ m ∷ (mark ++ rest)))
    by (inl same) (inl later) =
        inl (later.0, ap (λ (x : ℕ). x ∷ text) same ∙ ap (λ (l : List ℕ). m ∷ l) later.1)
    by (inl same) (inr other) = inr (λ begins. other (begins.0, ap (drop 1) begins.1))
    by (inr other) later = inr (λ begins. other (ap (λ (l : List ℕ). get_or l 0 0) begins.1))

-- a tag begins at a brace or it doesn't
tag_behind : (text : List ℕ) → Settled (BeginsWithTag (OPENING_BRACE ∷ text))
tag_behind text = by (drop n text) refl
  where
    n : ℕ
    n = region false text

    is : IsRegion (take n text) (drop n text)
    is = region_is text n refl

    place : BeginsWithTag (OPENING_BRACE ∷ text) →
        Closes (drop n text) × IsTagPlace (OPENING_BRACE ∷ take n text) 0
    place tag =
        tag_place (take n text) (drop n text) is 0 (omega arith)
        (subst (λ (t : List ℕ). BeginsWithTag (OPENING_BRACE ∷ t))
        (sym (take-append-drop n text)) tag)

    tagged : (r : List ℕ) → drop n text ≡ CLOSING_BRACE ∷ r →
        is_tail before_form (characters (take n text)) ≡ true →
        BeginsWithTag (OPENING_BRACE ∷ text)
    tagged r closes tail =
        let tag = place_tag (take n text) r
        (subst (λ (t : List ℕ). IsRegion (take n text) t) closes is) tail in (
          OPENING_BRACE ∷ (take n text ++ CLOSING_BRACE ∷ []),
          r,
          tag.0,
          ap (λ (t : List ℕ). OPENING_BRACE ∷ t)
              (sym (take-append-drop n text)
              ∙ ap (λ (t : List ℕ). take n text ++ t) closes
              ∙ sym (append_assoc (take n text) (CLOSING_BRACE ∷ []) r)),
          tag.1,
        )

    by : (rest : List ℕ) → drop n text ≡ rest → Settled (BeginsWithTag (OPENING_BRACE ∷ text))
    by [] rest_is = inr (λ tag. let closes = (place tag).0.1 in cc)
    by (b ∷ r) rest_is = elim (cases_eq b CLOSING_BRACE) [
      | inl closes ↦ elim (cases_Bool (is_tail before_form (characters (take n text)))) [
        | inl tail ↦ inl (tagged r (rest_is ∙ ap (λ (x : ℕ). x ∷ r) closes) tail)
        | inr none ↦ inr (λ tag. both_ways _ none (place tag).1.1)
      ]
      | inr other ↦ inr (λ tag.
          other (ap (λ (l : List ℕ). get_or l 0 0) (sym rest_is ∙ (place tag).0.1)))
    ]

tag_settled : (text : List ℕ) → Settled (BeginsWithTag text)
tag_settled [] = inr (λ tag. (let byte = tag_begins [] tag in omega (arith, byte)))
tag_settled (b ∷ text) = elim (cases_eq b OPENING_BRACE) [
  | inl brace ↦
      subst (λ (x : ℕ). Settled (BeginsWithTag (x ∷ text))) (sym brace) (tag_behind text)
  | inr other ↦ inr (λ tag. other (tag_begins (b ∷ text) tag))
]

mark_settled : (text : List ℕ) → Settled (BeginsWithMark text)
mark_settled text =
    by (begins_settled SENTENCE text) (begins_settled STOP text) (tag_settled text)
  where
    by : Settled ((rest : List ℕ) × (text ≡ SENTENCE ++ rest)) →
        Settled ((rest : List ℕ) × (text ≡ STOP ++ rest)) → Settled (BeginsWithTag text) →
        Settled (BeginsWithMark text)
    by (inl (rest, is)) stop tag = inl (SENTENCE, rest, is, inl refl)
    by (inr no_sentence) (inl (rest, is)) tag = inl (STOP, rest, is, inr (inl refl))
    by (inr no_sentence) (inr no_stop) (inl (mark, rest, entry, is, tag)) =
        inl (mark, rest, is, inr (inr (entry, tag)))
    by (inr no_sentence) (inr no_stop) (inr no_tag) =
        inr (no_mark text
        (λ sign. elim sign.1 [
          | inl is ↦ no_sentence (sign.0, is)
          | inr is ↦ no_stop (sign.0, is)
        ]) no_tag)

and_parts : (a b : Bool) → (a && b) ≡ true → (a ≡ true) × (b ≡ true)
and_parts true b both = (refl, both)
and_parts false b both = cc

scalars_parts : (xs ys : List ℕ) → all_scalars (xs ++ ys) ≡ true →
    (all_scalars xs ≡ true) × (all_scalars ys ≡ true)
scalars_parts [] ys all = (refl, all)
scalars_parts (x ∷ xs) ys all =
    let here = and_parts (scalar x) (all_scalars (xs ++ ys)) all in
    let later = scalars_parts xs ys here.1 in
    (ap (λ (b : Bool). b && all_scalars xs) here.0 ∙ later.0, later.1)

module _ (alphabet : Letters) where
  letter_settled : (c : ℕ) → Settled (IsLetter alphabet c)
  letter_settled c = by (never_letter c) refl
      (any_settled (λ (line : Line). NamesUpper line c) (λ line. names_upper line c)
      alphabet.lines)
      (any_settled (λ (line : Line). NamesLower line c) (λ line. names_lower line c)
      alphabet.lines)
    where
      by : (never : Bool) → never_letter c ≡ never →
          Settled (Any (λ (line : Line). NamesUpper line c) alphabet.lines) →
          Settled (Any (λ (line : Line). NamesLower line c) alphabet.lines) →
          Settled (IsLetter alphabet c)
      by true is upper lower =
          inr (λ letter. elim letter [
            | inl up ↦ (let no = up.0 in cc)
            | inr low ↦
                (let no = low.0 in cc)
          ])
      by false is (inl upper) lower = inl (inl (is, upper))
      by false is (inr no_upper) (inl lower) = inl (inr (is, lower))
      by false is (inr no_upper) (inr no_lower) =
          inr (λ letter. elim letter [ inl up ↦ no_upper up.1 | inr low ↦ no_lower low.1 ])

  -- the longest run of letters at the front of some characters
  record Run (cs : List ℕ) : Type 0 where
    pub front : List ℕ
    pub back : List ℕ
    pub parts : cs ≡ front ++ back
    pub letters : All (IsLetter alphabet) front
    pub ends : (c : ℕ) (rest : List ℕ) → back ≡ c ∷ rest → IsLetter alphabet c → ⊥

  run : (cs : List ℕ) → Run cs
  run [] = record {
    front = [];
    back = [];
    parts = refl;
    letters = All-nil (IsLetter alphabet);
    ends = λ c rest is. cc;
  }
  run (c ∷ cs) = by (letter_settled c) (run cs)
    where
      by : Settled (IsLetter alphabet c) → Run cs → Run (c ∷ cs)
      by (inl letter) later = record {
        front = c ∷ later.front;
        back = later.back;
        parts = ap (λ (l : List ℕ). c ∷ l) later.parts;
        letters = All-cons (IsLetter alphabet) c later.front letter later.letters;
        ends = later.ends;
      }
      by (inr other) later = record {
        front = [];
        back = c ∷ cs;
        parts = refl;
        letters = All-nil (IsLetter alphabet);
        ends = λ d rest is letter.
            let same : c ≡ d = cc in other (subst (IsLetter alphabet) (sym same) letter);
      }

  -- the word at the front of some characters: a longest run of letters, or one where the alphabet
  -- is single
  record Front (cs : List ℕ) : Type 0 where
    pub front : List ℕ
    pub back : List ℕ
    pub parts : cs ≡ front ++ back
    pub letters : All (IsLetter alphabet) front
    pub one : alphabet.single ≡ true → length front ≤ 1
    pub ends : (alphabet.single ≡ false) ⊎ (front ≡ []) → (c : ℕ) (rest : List ℕ) →
        back ≡ c ∷ rest → IsLetter alphabet c → ⊥

  front_of : (cs : List ℕ) → Front cs
  front_of cs = by (cases_Bool alphabet.single) cs
    where
      alone : alphabet.single ≡ true → (c : ℕ) (cs : List ℕ) → Settled (IsLetter alphabet c) →
          Front (c ∷ cs)
      alone single c cs (inl letter) = record {
        front = c ∷ [];
        back = cs;
        parts = refl;
        letters =
            All-cons (IsLetter alphabet) c [] letter (All-nil (IsLetter alphabet));
        one = λ _. omega arith;
        ends = λ either d rest is. elim either [
          | inl runs ↦ absurd (both_ways alphabet.single runs single)
          | inr none ↦ absurd cc
        ];
      }
      alone single c cs (inr other) = record {
        front = [];
        back = c ∷ cs;
        parts = refl;
        letters = All-nil (IsLetter alphabet);
        one = λ _. omega arith;
        ends = λ either d rest is letter.
            let same : c ≡ d = cc in other (subst (IsLetter alphabet) (sym same) letter);
      }

      by : (alphabet.single ≡ true) ⊎ (alphabet.single ≡ false) → (cs : List ℕ) → Front cs
      by (inl single) [] = record {
        front = [];
        back = [];
        parts = refl;
        letters = All-nil (IsLetter alphabet);
        one = λ _. omega arith;
        ends = λ either c rest is. cc;
      }
      by (inl single) (c ∷ cs) = alone single c cs (letter_settled c)
      by (inr runs) cs =
          let longest = run cs in
          record {
            front = longest.front;
            back = longest.back;
            parts = longest.parts;
            letters = longest.letters;
            one = λ single. absurd (both_ways alphabet.single runs single);
            ends = λ either. longest.ends;
          }

  -- some token stands at the front of a text
  pub record HasFirst (text : List ℕ) : Type 0 where
    pub token : Token
    pub after : List ℕ
    pub parts : text ≡ token.text ++ after
    pub token_utf8 : IsUtf8 token.text
    pub after_utf8 : IsUtf8 after
    pub is : IsTokenText alphabet token.kind token.text
    pub longest : alphabet.single ≡ false → token.kind ≡ Word →
        BeginsWithNoLetter alphabet after
    pub some : 0 < length token.text
    pub mark : BeginsWithMark text → token.text ≢ OPENING_BRACE ∷ []

  -- a first character that is no letter
  char_first : (cs : List ℕ) (c : ℕ) (rest : List ℕ) → cs ≡ c ∷ rest → IsScalar c →
      all_scalars rest ≡ true →
      (IsLetter alphabet c → ⊥) → (BeginsWithMark (encode_utf8_all cs) → ⊥) → Settled (c ≡ SPACE) →
      HasFirst (encode_utf8_all cs)
  char_first cs c rest parts scalar scalars other none (inl space) = record {
    token = record { kind = Space; text = encode_utf8 c };
    after = encode_utf8_all rest;
    parts = ap encode_utf8_all parts;
    token_utf8 = IsUtf8-encode c scalar;
    after_utf8 = (rest, (scalars, refl));
    is = encode_ascii c (omega arith) ∙ ap (λ (d : ℕ). d ∷ []) space;
    longest = λ runs word. cc;
    some = omega (arith, length-encode c, (len_utf8_bounds c).0);
    mark = λ begins. absurd (none begins);
  }
  char_first cs c rest parts scalar scalars other none (inr no_space) = record {
    token = record { kind = Other; text = encode_utf8 c };
    after = encode_utf8_all rest;
    parts = ap encode_utf8_all parts;
    token_utf8 = IsUtf8-encode c scalar;
    after_utf8 = (rest, (scalars, refl));
    is = (c, refl, other, no_space);
    longest = λ runs word. cc;
    some = omega (arith, length-encode c, (len_utf8_bounds c).0);
    mark = λ begins. absurd (none begins);
  }

  -- of characters that are cut after their first word
  of_front : (cs front back : List ℕ) → all_scalars cs ≡ true → cs ≡ front ++ back →
      0 < length cs → All (IsLetter alphabet) front →
      (alphabet.single ≡ true → length front ≤ 1) →
      (BeginsWithMark (encode_utf8_all cs) → ⊥) →
      ((alphabet.single ≡ false) ⊎ (front ≡ []) → (c : ℕ) (rest : List ℕ) → back ≡ c ∷ rest →
      IsLetter alphabet c → ⊥) →
      HasFirst (encode_utf8_all cs)
  of_front cs [] [] scalars parts some letters one none ends =
      let empty : length cs ≡ 0 = ap length parts in absurd (omega arith)
  of_front cs [] (c ∷ rest) scalars parts some letters one none ends =
      let each = and_parts (scalar c) (all_scalars rest) (ap all_scalars (sym parts) ∙ scalars) in
      char_first cs c rest parts each.0 each.1 (ends (inr refl) c rest refl) none
      (cases_eq c SPACE)
  of_front cs (c ∷ front) back scalars parts some letters one none ends =
      let each = scalars_parts (c ∷ front) back (ap all_scalars (sym parts) ∙ scalars) in
      let same : chars (encode_utf8_all (c ∷ front)) ≡ c ∷ front = chars-encodes (c ∷ front) each.0
      in
      record {
        token = record { kind = Word; text = encode_utf8_all (c ∷ front) };
        after = encode_utf8_all back;
        parts = ap encode_utf8_all parts ∙ encodes-append (c ∷ front) back;
        token_utf8 = (c ∷ front, (each.0, refl));
        after_utf8 = (back, (each.1, refl));
        is = record {
          some = λ empty.
              let short : length (encode_utf8_all (c ∷ front)) ≡ 0 = ap length empty in
              let long : length (c ∷ front) ≤ length (encode_utf8_all (c ∷ front)) =
              length-le-encodes (c ∷ front) in
              omega arith;
          utf8 = (c ∷ front, (each.0, refl));
          letters = subst (All (IsLetter alphabet)) (sym same) letters;
          one = λ single.
              let few : length (c ∷ front) ≤ 1 = one single in
              let all : length (chars (encode_utf8_all (c ∷ front))) ≡ length (c ∷ front) =
              ap length same in
              omega arith;
        };
        longest = λ runs word d more is letter.
            ends (inl runs) d more (sym (chars-encodes back each.1) ∙ is) letter;
        some =
            let long : length (c ∷ front) ≤ length (encode_utf8_all (c ∷ front)) =
            length-le-encodes (c ∷ front) in
            omega arith;
        mark = λ begins. absurd (none begins);
      }

  -- where no mark begins
  unmarked_first : (text : List ℕ) → IsUtf8 text → 0 < length text →
      (BeginsWithMark text → ⊥) → HasFirst text
  unmarked_first text utf8 some none =
      let cs : List ℕ = chars text in
      let found = front_of cs in
      let whole : encode_utf8_all cs ≡ text = encodes-chars text utf8 in
      subst HasFirst whole
      (of_front cs found.front found.back (scalars-chars text utf8) found.parts
      (by cs whole) found.letters found.one
      (λ begins. none (subst BeginsWithMark whole begins)) found.ends)
    where
      by : (cs : List ℕ) → encode_utf8_all cs ≡ text → 0 < length cs
      by [] whole = let empty : 0 ≡ length text = ap length whole in absurd (omega arith)
      by (c ∷ cs) whole = omega arith

  -- of a mark at the front
  front_first : (text : List ℕ) (kind : Kind) (len : ℕ) → IsUtf8 text →
      IsFront alphabet text kind len → HasFirst text
  front_first text kind len utf8 front = record {
    token = record { kind = kind; text = take len text };
    after = drop len text;
    parts = sym (take-append-drop len text);
    token_utf8 = IsUtf8-take text len utf8 front.cut;
    after_utf8 = IsUtf8-drop text len utf8 front.cut;
    is = front.first.is;
    longest = front.first.longest;
    some =
        let short = length-take-le len text front.cut.0 in
        let some = front.some in
        omega (arith, short, some);
    mark = front.mark;
  }

  pub first_of : (text : List ℕ) → IsUtf8 text → 0 < length text → HasFirst text
  first_of text utf8 some = by (mark_settled text)
    where
      by : Settled (BeginsWithMark text) → HasFirst text
      by (inl begins) =
          let mark = mark_kind text begins in
          front_first text mark.0 mark.1 utf8 (mark_front alphabet text mark.0 mark.1 utf8 mark.2)
      by (inr none) = unmarked_first text utf8 some none

  -- each text with single spaces is cut into tokens
  tokens_of : (steps : ℕ) (text : List ℕ) → length text ≤ steps → IsUtf8 text →
      (tokens : List Token) × AreCutAtMarks alphabet text tokens
  tokens_of steps [] enough utf8 = ([], none_at_marks alphabet)
  tokens_of zero (b ∷ text) enough utf8 = absurd (omega arith)
  tokens_of (suc steps) (b ∷ text) enough utf8 =
      let first = first_of (b ∷ text) utf8 (omega arith) in
      let longer : length (b ∷ text) ≡ length first.token.text + length first.after =
      ap length first.parts ∙ length-append first.token.text first.after in
      let some : 0 < length first.token.text = first.some in
      let later = tokens_of steps first.after (omega arith) first.after_utf8 in (
        first.token ∷ later.0,
        marked_more alphabet (b ∷ text) first.after first.token first.parts first.is first.longest
            first.mark later.0 later.1,
      )

  -- so each text has tokens
  pub has_tokens : (text : List ℕ) → IsUtf8 text →
      (tokens : List Token) × AreTokens alphabet text tokens
  has_tokens text utf8 =
      let spaced = with_single_spaces text in
      tokens_of (length spaced) spaced (omega arith) (spaced_utf8 text utf8)

  -- where tokens reach to a rest that isn't empty, the text has more of them
  pub has_more : (text rest : List ℕ) (tokens : List Token) → IsUtf8 rest → 0 < length rest →
      ReachTo (AreCutAtMarks alphabet) text rest tokens →
      (all : List Token) × AreCutAtMarks alphabet text all × (length tokens < length all)
  has_more text rest tokens utf8 some reach =
      let later = tokens_of (length rest) rest (omega arith) utf8 in (
        tokens ++ later.0,
        reach later.0 later.1,
        longer later.0 later.1,
      )
    where
      longer : (more : List Token) → AreCutAtMarks alphabet rest more →
          length tokens < length (tokens ++ more)
      longer [] are =
          let none : 0 ≡ length rest = ap length are.cut.whole in absurd (omega arith)
      longer (token ∷ more) are =
          let both : length (tokens ++ token ∷ more) ≡ length tokens + length (token ∷ more) =
          length-append tokens (token ∷ more) in
          omega arith
