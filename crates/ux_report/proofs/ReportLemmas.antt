-- What is collected are the lines of the report.
use Rattle.std.proofs.Common.{arith, ◌≡◌, ◌↔◌, ℕ, List, [], length, sym, ◌∙◌, ap, subst}
use Rattle.std.specs.Prelude.{Contains, Option, None, Some, slice_get}
use Rattle.std.specs.List.Sorted.{IsStrictlySortedBy}
use Rattle.std.specs.Ordering.{nat_cmp}
use Rattle.std.specs.Cmp.Lexicographic.{slice_cmp}
use Rattle.std.proofs.lemmas.Option.{same_Some, slice_get_within, slice_get-get_or, get_or_from_slice_get}
use Rattle.ux_alphabet.specs.Letters.{Letters}
use Rattle.ux_dela.specs.declared.entry.Entry.{Entry}
use Rattle.ux_tokens.specs.declared.kind.Kind.{Kind}
use Rattle.ux_tokens.specs.declared.kind.Kind.TheVariants.{Word}
use Rattle.ux_tokens.specs.Tokens.{Token}
use Rattle.ux_tokens.proofs.DistinctLemmas.{different_texts-once}
use Rattle.ux_apply.specs.declared.priority.Priority.{Priority}
use Rattle.ux_apply.specs.Applying.{AreApplying}
use Rattle.ux_lexical_tables.specs.Tables.{Tables}
use Rattle.ux_apply.specs.Applied.{AreApplied, AreSimpleOf}
use Rattle.ux_apply.proofs.OneTableLaws.{one_applying}
use Rattle.ux_apply.proofs.ZipLemmas.{zip-at, zip-length}
use Rattle.ux_report.specs.Lines.{FromSome, HasMore, IsCompoundBefore, IsSimpleAt, IsText, LieWithin}
use Rattle.ux_report.specs.Report.{AreLinesOf, IsCompoundLine, IsSimpleLine, IsUnknownLine}
use Rattle.ux_report.specs.Words.{AreWordPlaces}
use Rattle.ux_report.proofs.LinesLemmas.{exact-of}

-- lines that are collected are, in order, those of another property that says the same
pub lines-are : (P Q : List ℕ → Type 0) (lines sorted : List (List ℕ)) →
    HasMore [] P lines → IsStrictlySortedBy (slice_cmp nat_cmp) sorted →
    ((line : List ℕ) → Contains sorted line ↔ Contains lines line) →
    ((line : List ℕ) → P line ↔ Q line) → AreLinesOf Q sorted
lines-are P Q lines sorted more ordered all same = record {
  ordered = ordered;
  exact = λ line. (
    λ has. (same line).0 ((exact-of P lines more line).0 ((all line).0 has)),
    λ is. (all line).1 ((exact-of P lines more line).1 ((same line).1 is)),
  );
}

-- what is a member stands somewhere
stands-in : {X : Type 0} (xs : List X) (x : X) (has : Contains xs x) →
    slice_get xs has.0 ≡ Some x
stands-in xs x has = slice_get-get_or xs has.0 x has.1 ∙ ap (λ y. Some y) has.2

-- and the other way round
member-at : {X : Type 0} (xs : List X) (x : X) (i : ℕ) → slice_get xs i ≡ Some x → Contains xs x
member-at xs x i at = (i, slice_get_within xs i x at, get_or_from_slice_get xs i x x at)

module _ (tokens : List Token) (tables : Tables) (places : List (Option ℕ))
    (words : AreWordPlaces tokens places) where
  -- a place lies in the text
  pub places-within : LieWithin places (length tokens)
  places-within number place at =
      let word = words.sound number place at in
      slice_get_within tokens place word.token word.stands

  module _ (alphabet : Letters) (dics : List (Priority × List Entry))
      (applied : AreApplied alphabet dics tokens tables) where
    abbrev Simple : Token → List Entry → Type 0
    Simple token entries = AreSimpleOf alphabet dics token.kind token.text entries

    -- and in the table
    pub places-in_table : LieWithin places (length tables.simple)
    places-in_table number place at =
        let below = places-within number place at in
        let long = zip-length Simple tokens tables.simple applied.simple in
        omega (arith, below, long)

    -- a word has the entries that apply to its text
    row-of : (place : ℕ) (token : Token) → slice_get tokens place ≡ Some token →
        token.kind ≡ Word → (row : List Entry) × (slice_get tables.simple place ≡ Some row)
        × AreApplying alphabet dics token.text row
    row-of place token at word =
        let there = zip-at Simple tokens tables.simple place token applied.simple at in (
          there.0,
          there.1,
          subst (λ (k : Kind). AreSimpleOf alphabet dics k token.text there.0) word
              there.2,
        )

    pub simple-exact : (line : List ℕ) →
        FromSome places (IsSimpleAt tables) line ↔ IsSimpleLine tokens tables line
    simple-exact line = (λ from. told from.0 from.1 from.2, found)
      where
        told : (o : Option ℕ) → Contains places o → IsSimpleAt tables o line →
            IsSimpleLine tokens tables line
        told None has at = absurd at
        told (Some place) has at =
            let word = words.sound has.0 place (stands-in places (Some place) has) in record {
              place = place;
              token = word.token;
              row = at.0;
              entry = at.2.0;
              stands = word.stands;
              word = word.word;
              entries = at.1;
              member = at.2.1;
              line_is = at.2.2;
            }

        found : IsSimpleLine tokens tables line → FromSome places (IsSimpleAt tables) line
        found is =
            let below = slice_get_within tokens is.place is.token is.stands in
            let kept = words.whole is.place is.token below is.stands is.word in
            let word = words.sound kept.0 kept.1 kept.2 in
            let text : is.token.text ≡ word.token.text =
            same_Some is.token.text word.token.text (sym kept.3 ∙ word.numbered) in
            let own = row-of is.place is.token is.stands is.word in
            let other = row-of kept.1 word.token word.stands word.word in
            let same : is.row ≡ own.0 = same_Some is.row own.0 (sym is.entries ∙ own.1) in
            let one : own.0 ≡ other.0 =
            one_applying alphabet dics word.token.text
            (subst (λ (t : List ℕ). AreApplying alphabet dics t own.0) text own.2) other.2 in
            let member : Contains other.0 is.entry =
            subst (λ (l : List Entry). Contains l is.entry) (same ∙ one) is.member in (
              Some kept.1,
              member-at places (Some kept.1) kept.0 kept.2,
              (other.0, other.1, (is.entry, member, is.line_is)),
            )

    pub compound-exact : (count : ℕ) → count ≡ length tokens → (line : List ℕ) →
        IsCompoundBefore tables count line ↔ IsCompoundLine tokens tables line
    compound-exact count all line = (
      λ from. record {
        first = from.0;
        last = from.2.2.0.0;
        row = from.2.0;
        entry = from.2.2.0.1;
        entries = from.2.1;
        member = from.2.2.1;
        longer = from.2.2.2.0;
        line_is = from.2.2.2.1;
      },
      λ is.
          let below = slice_get_within tables.compounds is.first is.row is.entries in
          let long = applied.compounds.each_token in (
            is.first,
            omega (arith, all, below, long),
            (is.row, is.entries, ((is.last, is.entry), is.member, (is.longer, is.line_is))),
          ),
    )

    pub unknown-exact : (line : List ℕ) →
        FromSome tables.unknown (IsText tokens places) line ↔ IsUnknownLine tokens tables line
    unknown-exact line = (told, found)
      where
        told : FromSome tables.unknown (IsText tokens places) line →
            IsUnknownLine tokens tables line
        told from =
            let at = from.2 in
            let word = words.sound from.0 at.0 at.1 in
            let token : word.token ≡ at.2 = same_Some word.token at.2 (sym word.stands ∙ at.3) in
            let text : word.token.text ≡ line = ap (λ (t : Token). t.text) token ∙ sym at.4 in
            record {
              number = from.0;
              unknown = from.1;
              text = word.numbered ∙ ap (λ (t : List ℕ). Some t) text;
            }

        found : IsUnknownLine tokens tables line →
            FromSome tables.unknown (IsText tokens places) line
        found is =
            let known = (applied.unknown.exact is.number).0 is.unknown in
            let below = slice_get_within tokens known.place known.token known.stands in
            let kept = words.whole known.place known.token below known.stands known.word in
            let one : kept.0 ≡ is.number = different_texts-once tokens kept.0 is.number
            known.token.text kept.3 known.numbered in
            let word = words.sound kept.0 kept.1 kept.2 in
            let text : line ≡ word.token.text =
            same_Some line known.token.text (sym is.text ∙ known.numbered)
            ∙ same_Some known.token.text word.token.text (sym kept.3 ∙ word.numbered) in (
              is.number,
              is.unknown,
              (
                kept.1,
                ap (slice_get places) (sym one) ∙ kept.2,
                word.token,
                word.stands,
                text,
              ),
            )
