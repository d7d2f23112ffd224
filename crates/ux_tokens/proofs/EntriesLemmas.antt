-- The entries of tags: each is read once, and found by its number.
use Rattle.std.proofs.Common.{arith, ◌≡◌, ◌≢◌, ◌⊎◌, inl, inr, ℕ, zero, suc, ◌+◌, ◌-◌, ◌<◌, Bool, true, false, cond, List, [], ◌∷◌, ◌++◌, All, length, get_or, take, drop, Option, None, Some, refl, sym, ◌∙◌, ap, subst}
use Rattle.std.specs.Prelude.{Contains, IsSomeAnd, MatchOption, IfSome}
use Rattle.std.specs.List.{slice_get, slice_range}
use Rattle.std.specs.Option.{is_some, option_copied}
use Rattle.std.specs.BTreeMap.{BTreeMap, get, is_at}
use Rattle.std.specs.Map.{lookup}
use Rattle.std.specs.Ordering.{nat_cmp}
use Rattle.std.proofs.lemmas.Bool.{cases_lt, false≢true}
use Rattle.std.proofs.lemmas.Option.{none-some, same_Some, slice_get_within, get_or_from_slice_get}
use Rattle.std.proofs.lemmas.List.{length_push, length-drop, get_or-drop, take_at}
use Rattle.std.specs.Str.{IsUtf8, IsCharBoundary}
use Rattle.std.proofs.lemmas.Str.{IsCharBoundary-after_ascii}
use denote.Ref.{Bor}
use Rattle.ux_dela.specs.Tag.{IsTagBody}
use Rattle.ux_alphabet.specs.Letters.{Letters}
use Rattle.ux_dela.specs.Sound.{IsSound}
use Rattle.ux_dela.specs.declared.entry.Entry.{Entry}
use Rattle.ux_tokens.specs.declared.kind.Kind.{Kind}
use Rattle.ux_tokens.specs.declared.kind.Kind.TheVariants.{Tag}
use Rattle.ux_tokens.specs.declared.piece.Piece.{Piece}
use Rattle.ux_tokens.specs.Tokens.{Token, IsTag, IsTokenText, OPENING_BRACE, CLOSING_BRACE}
use Rattle.ux_tokens.specs.Numbers.{different_texts}
use Rattle.ux_tokens.specs.Pieces.{ArePieces, token_of, tokens_from}
use Rattle.ux_tokens.specs.Entries.{IsEntryOf, HasEntry, AreRight, HaveEntries, AreEntriesOf, IsPutEntry}
use Rattle.ux_tokens.proofs.PiecesLemmas.{slice_get-tokens_from, end_from-take}
use Rattle.ux_tokens.proofs.PlacesLemmas.{start_at, some_and}

is_at-same : (at n : ℕ) → is_at (nat_cmp at) n ≡ true → at ≡ n
is_at-same at n is = grind arith

-- there is one where it is found
pub has_entry : (entries : BTreeMap ℕ Entry) (n : ℕ) → is_some (get nat_cmp entries n) ≡ true →
    HasEntry entries n
has_entry entries n found = by (get nat_cmp entries n) refl found
  where
    by : (o : Option Entry) → get nat_cmp entries n ≡ o → is_some o ≡ true → HasEntry entries n
    by None is found = absurd (false≢true found)
    by (Some entry) is found = (entry, is)

-- where it is there, nothing is put
pub put_none : (entries : BTreeMap ℕ Entry) (number : ℕ) (tag : List ℕ) → HasEntry entries number →
    IsPutEntry entries entries number tag
put_none entries number tag there =
    record { there = there; stay = λ n has. has; each = λ n entry at. inl at }

-- and else it is put there
pub put_one : (old new : BTreeMap ℕ Entry) (number : ℕ) (tag : List ℕ) (entry : Entry) →
    IsEntryOf tag entry → get nat_cmp new number ≡ Some entry →
    ((q : ℕ) → get nat_cmp new q
    ≡ cond (is_at (nat_cmp number) q) (Some entry) (get nat_cmp old q)) →
    IsPutEntry old new number tag
put_one old new number tag entry is there update = record {
  there = (entry, there);
  stay = λ n has. stays n (is_at (nat_cmp number) n) (update n) has;
  each = λ n other at. each n other (is_at (nat_cmp number) n) refl (sym (update n) ∙ at);
}
  where
    stays : (n : ℕ) (b : Bool) → get nat_cmp new n ≡ cond b (Some entry) (get nat_cmp old n) →
        HasEntry old n → HasEntry new n
    stays n true is has = (entry, is)
    stays n false is has = (has.0, is ∙ has.1)

    each : (n : ℕ) (other : Entry) (b : Bool) → is_at (nat_cmp number) n ≡ b →
        cond b (Some entry) (get nat_cmp old n) ≡ Some other →
        (get nat_cmp old n ≡ Some other) ⊎ ((n ≡ number) × IsEntryOf tag other)
    each n other true here at =
        inr (sym (is_at-same number n here), subst (IsEntryOf tag) (same_Some entry other at) is)
    each n other false here at = inl at

-- the body of a tag is what stands between its braces
body_is : (tag body : List ℕ) → tag ≡ OPENING_BRACE ∷ (body ++ CLOSING_BRACE ∷ []) →
    slice_range tag 1 (length tag - 1) ≡ body
body_is tag body is =
    let long : length tag ≡ suc (length (body ++ CLOSING_BRACE ∷ [])) = ap length is in
    let push = length_push body CLOSING_BRACE in
    let inner : length tag - 1 - 1 ≡ length body = omega (arith, long, push) in
    ap (λ (n : ℕ). take n (drop 1 tag)) inner
    ∙ ap (λ (t : List ℕ). take (length body) (drop 1 t)) is
    ∙ take_at body (CLOSING_BRACE ∷ []) (length body) refl

pub inner_body : (tag : List ℕ) → ((entry : Entry) × IsTag tag entry) →
    (inner : List ℕ) → inner ≡ slice_range tag 1 (length tag - 1) →
    (entry : Entry) × IsTagBody inner entry
inner_body tag (entry, (body, is, tagged)) inner inner_is =
    (entry, subst (λ (t : List ℕ). IsTagBody t entry) (sym (inner_is ∙ body_is tag body is)) tagged)

pub inner_tag : (tag : List ℕ) → ((entry : Entry) × IsTag tag entry) →
    (inner : List ℕ) → inner ≡ slice_range tag 1 (length tag - 1) → (found : Entry) →
    IsTagBody inner found → IsTag tag found
inner_tag tag (entry, (body, is, tagged)) inner inner_is found found_is = (
  inner,
  is ∙ ap (λ (t : List ℕ). OPENING_BRACE ∷ (t ++ CLOSING_BRACE ∷ []))
      (sym (inner_is ∙ body_is tag body is)),
  found_is,
)

-- the first byte of a tag is ASCII
pub tag_boundary : (tag : List ℕ) → IsUtf8 tag → ((entry : Entry) × IsTag tag entry) →
    IsCharBoundary tag 1
tag_boundary tag utf8 (entry, (body, is, tagged)) =
    let long : length tag ≡ suc (length (body ++ CLOSING_BRACE ∷ [])) = ap length is in
    let first : get_or tag 0 0 ≡ OPENING_BRACE = ap (λ (t : List ℕ). get_or t 0 0) is in
    IsCharBoundary-after_ascii tag 0 utf8 (omega (arith, long)) (omega (arith, first))

-- the first byte of a slice is one of the text
in_front : (n : ℕ) (bytes rest : List ℕ) (b : ℕ) → take n bytes ≡ b ∷ rest →
    (0 < length bytes) × (get_or bytes 0 b ≡ b)
in_front zero bytes rest b e = let short = ap length e in absurd (omega (arith, short))
in_front (suc n) [] rest b e = let short = ap length e in absurd (omega (arith, short))
in_front (suc n) (x ∷ bytes) rest b e = (omega arith, ap (λ (l : List ℕ). get_or l 0 b) e)

has_byte : (n : ℕ) (text : List ℕ) (start : ℕ) (rest : List ℕ) (b : ℕ) →
    take n (drop start text) ≡ b ∷ rest → Contains text b
has_byte n text start rest b e =
    let first = in_front n (drop start text) rest b e in
    let left = length-drop start text in
    let there : start + 0 ≡ start = omega arith in (
      start,
      omega (arith, first.0, left),
      ap (λ (k : ℕ). get_or text k b) (sym there) ∙ sym (get_or-drop start text 0 b) ∙ first.1,
    )

-- no entry is there at first
pub none_right : (different : List (List ℕ)) (entries : BTreeMap ℕ Entry) → entries.entries ≡ [] →
    AreRight different entries
none_right different entries none number entry text at there =
    absurd (none-some entry (sym nothing ∙ at))
  where
    nothing : get nat_cmp entries number ≡ None
    nothing = ap (λ (es : List (ℕ × Entry)). lookup (is_at (nat_cmp number)) es) none

module _ (text : List ℕ) (pieces : List Piece) where
  -- the text of the token of a piece
  abbrev pub text_at : ℕ → ℕ → List ℕ
  text_at i end = slice_range text (start_at pieces i) end

  -- the bytes of a piece
  pub piece_text : (i : ℕ) (piece : Piece) (bytes : List ℕ) → slice_get pieces i ≡ Some piece →
      bytes ≡ slice_range text (start_at pieces i) (start_at pieces (i + 1)) →
      bytes ≡ text_at i piece.end
  piece_text i piece bytes at is =
      let up : i + 1 ≡ suc i = omega arith in
      is ∙ ap (λ (k : ℕ). slice_range text (start_at pieces i) (start_at pieces k)) up
      ∙ ap (λ (e : ℕ). slice_range text (start_at pieces i) e) (end_from-take 0 pieces i piece at)

  -- the token of a piece that is a tag is a tag
  pub tag_at : (alphabet : Letters) →
      All (λ token. IsTokenText alphabet token.kind token.text) (tokens_from text 0 pieces) →
      (i : ℕ) (piece : Piece) → slice_get pieces i ≡ Some piece → piece.kind ≡ Tag →
      (entry : Entry) × IsTag (text_at i piece.end) entry
  tag_at alphabet each i piece at tag =
      let token : Token = token_of text (start_at pieces i) piece in
      let there : slice_get (tokens_from text 0 pieces) i ≡ Some token =
      slice_get-tokens_from text 0 pieces i piece at in
      let is : IsTokenText alphabet token.kind token.text =
      subst (λ (t : Token). IsTokenText alphabet t.kind t.text)
      (get_or_from_slice_get (tokens_from text 0 pieces) i token token there)
      (each i token (slice_get_within (tokens_from text 0 pieces) i token there)) in
      subst (λ (kind : Kind). IsTokenText alphabet kind token.text) tag is

  -- a text with a tag has a brace, so that one without has no entries
  pub no_tags : (alphabet : Letters) →
      All (λ token. IsTokenText alphabet token.kind token.text) (tokens_from text 0 pieces) →
      (Contains text OPENING_BRACE → ⊥) → (entries : BTreeMap ℕ Entry) → entries.entries ≡ [] →
      AreEntriesOf text pieces entries
  no_tags alphabet each none entries empty = record {
    right = none_right (different_texts (tokens_from text 0 pieces)) entries empty;
    all = λ k piece below at tag.
        let is = tag_at alphabet each k piece at tag in
        absurd (none (has_byte (piece.end - start_at pieces k) text (start_at pieces k)
        (is.1.0 ++ CLOSING_BRACE ∷ []) OPENING_BRACE is.1.1));
  }

  -- the entry of the next tag is put
  pub right_more : ArePieces text pieces (different_texts (tokens_from text 0 pieces)) →
      (i : ℕ) (piece : Piece) (old new : BTreeMap ℕ Entry) → slice_get pieces i ≡ Some piece →
      IsPutEntry old new piece.number (text_at i piece.end) →
      AreRight (different_texts (tokens_from text 0 pieces)) old →
      AreRight (different_texts (tokens_from text 0 pieces)) new
  right_more are i piece old new at put right number entry other found there =
      by (put.each number entry found)
    where
      token : Token
      token = token_of text (start_at pieces i) piece

      numbered : slice_get (different_texts (tokens_from text 0 pieces)) piece.number
          ≡ Some token.text
      numbered =
          are.numbered i piece token at (slice_get-tokens_from text 0 pieces i piece at)

      by : (get nat_cmp old number ≡ Some entry)
          ⊎ ((number ≡ piece.number) × IsEntryOf (text_at i piece.end) entry) →
          IsEntryOf other entry
      by (inl before) = right number entry other before there
      by (inr (same, is)) =
          let one : token.text ≡ other =
          same_Some token.text other
          (sym numbered
          ∙ ap (λ (n : ℕ). slice_get (different_texts (tokens_from text 0 pieces)) n) (sym same)
          ∙ there) in
          subst (λ (l : List ℕ). IsEntryOf l entry) one is

  next : (i k : ℕ) → k < i + 1 → (k < i) ⊎ (k ≡ i)
  next i k below = elim (cases_lt k i) [
    | inl less ↦ inl less
    | inr not_less ↦ inr (omega (arith, below, not_less))
  ]

  pub all_more : (i : ℕ) (piece : Piece) (old new : BTreeMap ℕ Entry) →
      slice_get pieces i ≡ Some piece →
      IsPutEntry old new piece.number (text_at i piece.end) → HaveEntries pieces i old →
      HaveEntries pieces (i + 1) new
  all_more i piece old new at put have k other below there tag = by (next i k below)
    where
      by : (k < i) ⊎ (k ≡ i) → HasEntry new other.number
      by (inl less) = put.stay other.number (have k other less there tag)
      by (inr same) =
          let one : piece ≡ other =
          same_Some piece other (sym at ∙ ap (slice_get pieces) (sym same) ∙ there) in
          subst (λ (p : Piece). HasEntry new p.number) one put.there

  pub all_later : (i : ℕ) (piece : Piece) (entries : BTreeMap ℕ Entry) →
      slice_get pieces i ≡ Some piece → piece.kind ≢ Tag → HaveEntries pieces i entries →
      HaveEntries pieces (i + 1) entries
  all_later i piece entries at other have k found below there tag = by (next i k below)
    where
      by : (k < i) ⊎ (k ≡ i) → HasEntry entries found.number
      by (inl less) = have k found less there tag
      by (inr same) =
          let one : piece ≡ found =
          same_Some piece found (sym at ∙ ap (slice_get pieces) (sym same) ∙ there) in
          absurd (other (ap (λ (p : Piece). p.kind) one ∙ tag))

  -- what the entry at a place is, where the token is no tag
  pub no_entry : (i : ℕ) (piece : Piece) → slice_get pieces i ≡ Some piece → piece.kind ≢ Tag →
      IsSomeAnd (slice_get (tokens_from text 0 pieces) i) (λ (t : Token). t.kind ≢ Tag)
  no_entry i piece at other =
      some_and _ (token_of text (start_at pieces i) piece) (λ (t : Token). t.kind ≢ Tag)
      (slice_get-tokens_from text 0 pieces i piece at) other

  module _ (entries : BTreeMap ℕ Entry) (are : AreEntriesOf text pieces entries)
      (numbered : ArePieces text pieces (different_texts (tokens_from text 0 pieces))) (i : ℕ)
      (piece : Piece) (at : slice_get pieces i ≡ Some piece) (tag : piece.kind ≡ Tag) where
    -- the entry that is found there is that of the tag
    found_right : (found : Option (Bor Entry)) →
        option_copied found ≡ get nat_cmp entries piece.number →
        (entry : Bor Entry) × (found ≡ Some entry) × IsEntryOf (text_at i piece.end) entry.now
    found_right None is =
        let has = are.all i piece (slice_get_within pieces i piece at) at tag in
        absurd (none-some has.0 (is ∙ has.1))
    found_right (Some entry) is = (
      entry,
      refl,
      are.right piece.number entry.now (text_at i piece.end) (sym is)
          (numbered.numbered i piece (token_of text (start_at pieces i) piece) at
          (slice_get-tokens_from text 0 pieces i piece at)),
    )

    pub found_entry : (found : Option (Bor Entry)) →
        option_copied found ≡ get nat_cmp entries piece.number →
        IsSomeAnd (slice_get (tokens_from text 0 pieces) i)
        (λ (t : Token). MatchOption found (t.kind ≢ Tag)
        (λ entry. (t.kind ≡ Tag) × IsTag t.text entry.now))
    found_entry found is =
        let right = found_right found is in
        some_and _ (token_of text (start_at pieces i) piece)
        (λ (t : Token). MatchOption found (t.kind ≢ Tag)
        (λ entry. (t.kind ≡ Tag) × IsTag t.text entry.now))
        (slice_get-tokens_from text 0 pieces i piece at)
        (subst (λ (o : Option (Bor Entry)). MatchOption o (piece.kind ≢ Tag)
        (λ entry. (piece.kind ≡ Tag) × IsTag (text_at i piece.end) entry.now)) (sym right.1)
        (tag, right.2.0))

    pub found_sound : (found : Option (Bor Entry)) →
        option_copied found ≡ get nat_cmp entries piece.number →
        IfSome found (λ entry. IsSound entry.now)
    found_sound found is =
        let right = found_right found is in
        subst (λ (o : Option (Bor Entry)). IfSome o (λ entry. IsSound entry.now)) (sym right.1)
        right.2.1
