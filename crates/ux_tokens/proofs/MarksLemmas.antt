-- Marks: where they stand, and that no other token is cut from a mark.
use Rattle.std.proofs.Common.{◌≡◌, ◌≢◌, inl, inr, ℕ, ◌+◌, ◌<◌, ◌≤◌, List, [], ◌∷◌, ◌++◌, All, get_or, Option, None, Some, length, take, drop, refl, sym, ◌∙◌, ap, subst, append_assoc, arith}
use Rattle.std.specs.Option.{unwrap_or}
use Rattle.std.specs.Prelude.{MatchOption}
use Rattle.std.specs.Str.{IsUtf8, IsCharBoundary, chars}
use Rattle.std.proofs.lemmas.Bool.{false≢true}
use Rattle.std.proofs.lemmas.Str.{IsCharBoundary-after_ascii}
use Rattle.std.proofs.lemmas.List.{length-append, length-take-le, take-append-drop, take_at, get_or_at}
use Rattle.std.proofs.lemmas.List.Elements.{All-head}
use Rattle.ux_alphabet.specs.Letters.{Letters, IsLetter}
use Rattle.ux_tokens.specs.declared.kind.Kind.{Kind}
use Rattle.ux_tokens.specs.declared.kind.Kind.TheVariants.{Word, Space, Other, Sentence, Stop, Tag}
use Rattle.ux_tokens.specs.Tokens.{IsTokenText, IsPlain, IsTag, IsMark, OPENING_BRACE, CLOSING_BRACE, SPACE, SENTENCE, STOP, BeginsWithMark, BeginsWithTag}
use Rattle.ux_tokens.specs.First.{IsFirstToken, IsFront, IsMarkFront, IsTagFront, BeginsWithSign}
use Rattle.ux_tokens.specs.Regions.{IsFree}

mark_byte : (mark rest : List ℕ) → IsMark mark → get_or (mark ++ rest) 0 0 ≡ OPENING_BRACE
mark_byte mark rest (inl sentence) = ap (λ (l : List ℕ). get_or (l ++ rest) 0 0) sentence
mark_byte mark rest (inr (inl stop)) = ap (λ (l : List ℕ). get_or (l ++ rest) 0 0) stop
mark_byte mark rest (inr (inr (entry, (body, is, tag)))) =
    ap (λ (l : List ℕ). get_or (l ++ rest) 0 0) is

-- a mark begins with a brace
pub mark_begins : (text : List ℕ) → BeginsWithMark text → get_or text 0 0 ≡ OPENING_BRACE
mark_begins text (mark, rest, is, marked) =
    ap (λ (l : List ℕ). get_or l 0 0) is ∙ mark_byte mark rest marked

-- and so does a tag
pub tag_begins : (text : List ℕ) → BeginsWithTag text → get_or text 0 0 ≡ OPENING_BRACE
tag_begins text (tag, rest, entry, is, tagged) =
    mark_begins text (tag, rest, is, inr (inr (entry, tagged)))

-- a brace is no letter
pub brace_is_none : (alphabet : Letters) → IsLetter alphabet OPENING_BRACE → ⊥
brace_is_none alphabet (inl upper) = false≢true (sym upper.0)
brace_is_none alphabet (inr lower) = false≢true (sym lower.0)

brace_chars : chars (OPENING_BRACE ∷ []) ≡ OPENING_BRACE ∷ []
unfolding chars
brace_chars = refl

-- a mark is a sign or a tag
pub no_mark : (text : List ℕ) → (BeginsWithSign text → ⊥) → (BeginsWithTag text → ⊥) →
    BeginsWithMark text → ⊥
no_mark text no_sign no_tag (mark, rest, is, inl sentence) =
    no_sign (rest, inl (is ∙ ap (λ (l : List ℕ). l ++ rest) sentence))
no_mark text no_sign no_tag (mark, rest, is, inr (inl stop)) =
    no_sign (rest, inr (is ∙ ap (λ (l : List ℕ). l ++ rest) stop))
no_mark text no_sign no_tag (mark, rest, is, inr (inr (entry, tag))) =
    no_tag (mark, rest, entry, is, tag)

-- what stands at the front is a mark of some kind
pub mark_kind : (text : List ℕ) → BeginsWithMark text →
    (kind : Kind) × (len : ℕ) × IsMarkFront text kind len
mark_kind text (mark, rest, is, inl sentence) =
    (Sentence, 3, (refl, rest, is ∙ ap (λ (l : List ℕ). l ++ rest) sentence))
mark_kind text (mark, rest, is, inr (inl stop)) =
    (Stop, 6, (refl, rest, is ∙ ap (λ (l : List ℕ). l ++ rest) stop))
mark_kind text (mark, rest, is, inr (inr (entry, tag))) =
    let all = length-append mark rest in
    let whole : length text ≡ length (mark ++ rest) = ap length is in
    let part : take (length mark) text ≡ mark =
    ap (take (length mark)) is ∙ take_at mark rest (length mark) refl in (
      Tag,
      length mark,
      (
        omega (arith, all, whole),
        entry,
        subst (λ (l : List ℕ). IsTag l entry) (sym part) tag,
      ),
    )

-- a text that begins with a mark of this kind and length
pub front_mark : (text : List ℕ) (kind : Kind) (len : ℕ) → IsMarkFront text kind len →
    BeginsWithMark text
front_mark text Sentence len (len_is, rest, is) = (SENTENCE, rest, is, inl refl)
front_mark text Stop len (len_is, rest, is) = (STOP, rest, is, inr (inl refl))
front_mark text Tag len (within, entry, tag) =
    (take len text, drop len text, sym (take-append-drop len text), inr (inr (entry, tag)))
front_mark text Word len is = absurd is
front_mark text Space len is = absurd is
front_mark text Other len is = absurd is

-- a tag may be cut from what follows
tag_cut : (text : List ℕ) (len : ℕ) → IsUtf8 text → IsTagFront text len →
    IsCharBoundary text len × (2 ≤ len)
tag_cut text len utf8 (within, entry, (body, is, tag)) =
    let front : List ℕ = OPENING_BRACE ∷ body in
    let rest : List ℕ = drop len text in
    let whole : text ≡ front ++ CLOSING_BRACE ∷ rest =
    sym (take-append-drop len text) ∙ ap (λ (l : List ℕ). l ++ rest) is
    ∙ append_assoc front (CLOSING_BRACE ∷ []) rest in
    let taken : length (take len text) ≡ len = length-take-le len text within in
    let made : length (take len text) ≡ length (front ++ CLOSING_BRACE ∷ []) = ap length is in
    let parts = length-append front (CLOSING_BRACE ∷ []) in
    let long : len ≡ length front + 1 = omega (arith, taken, made, parts) in
    let last : get_or text (length front) 0 ≡ CLOSING_BRACE =
    ap (λ (l : List ℕ). get_or l (length front) 0) whole ∙ get_or_at front CLOSING_BRACE rest 0 (length front) refl in (
      subst (IsCharBoundary text) (sym long)
          (IsCharBoundary-after_ascii text (length front) utf8 (omega (arith, long, within))
          (omega (arith, last))),
      omega (arith, long),
    )

module _ (alphabet : Letters) where
  -- neither a word nor a space is a brace
  pub no_brace : (kind : Kind) (text : List ℕ) → IsPlain kind → kind ≢ Other →
      IsTokenText alphabet kind text → text ≢ OPENING_BRACE ∷ []
  no_brace Word text plain other is = λ brace.
      brace_is_none alphabet
      (All-head (IsLetter alphabet) OPENING_BRACE []
      (subst (All (IsLetter alphabet)) (ap chars brace ∙ brace_chars) is.letters))
  no_brace Space text plain other is = λ brace.
      let same : SPACE ≡ OPENING_BRACE = ap (λ (l : List ℕ). get_or l 0 0) (sym is ∙ brace) in
      omega (arith, same)
  no_brace Other text plain other is = absurd (other refl)
  no_brace Sentence text plain other is = absurd plain
  no_brace Stop text plain other is = absurd plain
  no_brace Tag text plain other is = absurd plain

  sentence_front : (rest : List ℕ) → IsUtf8 (SENTENCE ++ rest) →
      IsFront alphabet (SENTENCE ++ rest) Sentence 3
  sentence_front rest utf8 = record {
    cut = IsCharBoundary-after_ascii (SENTENCE ++ rest) 2 utf8 (omega arith) (omega arith);
    some = omega arith;
    first = record { is = refl; longest = λ runs word. cc };
    mark = λ begins brace. let short = ap length brace in omega (arith, short);
  }

  stop_front : (rest : List ℕ) → IsUtf8 (STOP ++ rest) → IsFront alphabet (STOP ++ rest) Stop 6
  stop_front rest utf8 = record {
    cut = IsCharBoundary-after_ascii (STOP ++ rest) 5 utf8 (omega arith) (omega arith);
    some = omega arith;
    first = record { is = refl; longest = λ runs word. cc };
    mark = λ begins brace. let short = ap length brace in omega (arith, short);
  }

  tag_front : (text : List ℕ) (len : ℕ) → IsUtf8 text → IsTagFront text len →
      IsFront alphabet text Tag len
  tag_front text len utf8 tag =
      let cut = tag_cut text len utf8 tag in
      let long = cut.1 in
      record {
        cut = cut.0;
        some = omega (arith, long);
        first = record { is = (tag.1, tag.2); longest = λ runs word. cc };
        mark = λ begins brace.
            let short : length (take len text) ≡ 1 = ap length brace in
            let taken = length-take-le len text tag.0 in
            omega (arith, short, taken, long);
      }

  -- a mark that stands at the front is the token there
  pub mark_front : (text : List ℕ) (kind : Kind) (len : ℕ) → IsUtf8 text →
      IsMarkFront text kind len → IsFront alphabet text kind len
  mark_front text Sentence len utf8 (len_is, rest, is) =
      rw len_is (subst (λ (l : List ℕ). IsFront alphabet l Sentence 3) (sym is)
      (sentence_front rest (subst IsUtf8 is utf8)))
  mark_front text Stop len utf8 (len_is, rest, is) =
      rw len_is (subst (λ (l : List ℕ). IsFront alphabet l Stop 6) (sym is)
      (stop_front rest (subst IsUtf8 is utf8)))
  mark_front text Tag len utf8 is = tag_front text len utf8 is
  mark_front text Word len utf8 is = absurd is
  mark_front text Space len utf8 is = absurd is
  mark_front text Other len utf8 is = absurd is

  -- a token that the letters tell is the token at the front where it is no brace, or no mark begins
  pub plain_front : (text : List ℕ) (kind : Kind) (len : ℕ) → IsCharBoundary text len → 0 < len →
      IsFirstToken alphabet text kind len → IsPlain kind →
      (kind ≡ Other → BeginsWithMark text → ⊥) → IsFront alphabet text kind len
  plain_front text kind len cut some first plain none = record {
    cut = cut;
    some = some;
    first = first;
    mark = λ begins. no_brace kind (take len text) plain (λ other. none other begins) first.is;
  }

  -- of another character's token and the mark, where there is one, the mark
  pub other_or_mark : (found : Option (Kind × ℕ)) (text : List ℕ) (kind : Kind) (len : ℕ) →
      IsUtf8 text →
      MatchOption found (BeginsWithMark text → ⊥) (λ (kind, len). IsMarkFront text kind len) →
      ((BeginsWithMark text → ⊥) → IsFront alphabet text kind len) →
      IsFront alphabet text (unwrap_or found (kind, len)).0 (unwrap_or found (kind, len)).1
  other_or_mark None text kind len utf8 none front = front none
  other_or_mark (Some (kind, len)) text other_kind other_len utf8 is front =
      mark_front text kind len utf8 is

-- after a place that is free, the rest is free
pub free_later : (text : List ℕ) (from later to : ℕ) → from ≤ later → IsFree text from to →
    IsFree text later to
free_later text from later to in_order free k low high tag = free k (omega (arith, in_order, low))
    high tag
