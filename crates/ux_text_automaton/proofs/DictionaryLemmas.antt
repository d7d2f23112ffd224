-- What the tables of dictionaries have for tokens is what applies to them.
use Rattle.std.proofs.Common.{arith, ◌≡◌, ◌⊎◌, ◌↔◌, ℕ, zero, suc, ◌+◌, ◌-◌, ◌<◌, ◌≤◌, List, [], ◌∷◌, ◌++◌, map, length, refl, sym, ◌∙◌, ap, subst, inl, inr}
use Rattle.std.specs.Prelude.{Option, None, Some, Contains, IsSomeAnd, slice_get}
use Rattle.std.specs.List.{AllZip}
use Rattle.std.proofs.lemmas.List.Elements.{Contains-append_cases, Contains-append_left, Contains-append_right}
use Rattle.std.proofs.lemmas.Option.{none-some, same_Some, slice_get_cases, slice_get_within}
use Rattle.ux_alphabet.specs.Letters.{Letters}
use Rattle.ux_base.proofs.FirstsLemmas.{Contains-none}
use Rattle.ux_base.proofs.JoinedLists.{contained_mapped, contains_mapped}
use Rattle.ux_base.proofs.OrderedLists.{Contains-cons_cases}
use Rattle.ux_dela.specs.declared.entry.Entry.{Entry}
use Rattle.ux_tokens.specs.declared.kind.Kind.{Kind}
use Rattle.ux_tokens.specs.declared.kind.Kind.TheVariants as kind
use Rattle.ux_tokens.specs.Tokens.{Token, IsTag}
use Rattle.ux_lexical_tables.specs.Spans.{IsSpan, text_of}
use Rattle.ux_lexical_tables.specs.Tables.{Tables, AreOwnCompound, IsOwnCompound, IsOwnSimple, IsSimpleForm, with_lasts}
use Rattle.ux_lexical_tables.proofs.EqualRowLemmas.{one_tag}
use Rattle.ux_lexical_tables.proofs.LetterLemmas.{simple_settled}
use Rattle.ux_apply.specs.declared.priority.Priority.{Priority}
use Rattle.ux_apply.specs.Applied.{AreApplied, AreCompoundUpTo, AreOfSpan, AreSimpleOf, IsCompoundRow}
use Rattle.ux_apply.specs.Applying.{AreApplying}
use Rattle.ux_apply.proofs.BelongingLemmas.{span_settled}
use Rattle.ux_apply.proofs.OneTableLaws.{one_applying}
use Rattle.ux_sentence.specs.declared.sentence.Reading.{Reading}
use Rattle.ux_sentence.specs.declared.sentence.Reading.TheVariants.{Word, Raw}
use Rattle.ux_text_automaton.specs.Built.{HasCompound, HasSimple, IsUnread, MayBeRaw, StandsOn}
use Rattle.ux_text_automaton.specs.DictionaryPaths.{Applies, IsEntryOf, IsEntryOfSpan, IsRawOf, IsReadingOf}
use Rattle.ux_text_automaton.proofs.KindLemmas.{on_token, the_token, within}

-- LISTS BESIDE EACH OTHER

key_at : {A B : Type 0} (R : A → B → Type 0) (keys : List A) (xs : List B) → AllZip R keys xs →
    (i : ℕ) (x : B) → slice_get xs i ≡ Some x → (key : A) × (slice_get keys i ≡ Some key) × R key x
key_at R [] [] zip i x at = absurd (none-some x at)
key_at R [] (y ∷ xs) zip i x at = absurd zip
key_at R (key ∷ keys) [] zip i x at = absurd zip
key_at R (key ∷ keys) (y ∷ xs) zip zero x at = (key, refl, subst (R key) (same_Some y x at) zip.0)
key_at R (key ∷ keys) (y ∷ xs) zip (suc i) x at = key_at R keys xs zip.1 i x at

value_at : {A B : Type 0} (R : A → B → Type 0) (keys : List A) (xs : List B) → AllZip R keys xs →
    (i : ℕ) (key : A) → slice_get keys i ≡ Some key → (x : B) × (slice_get xs i ≡ Some x) × R key x
value_at R [] [] zip i key at = absurd (none-some key at)
value_at R [] (y ∷ xs) zip i key at = absurd zip
value_at R (k ∷ keys) [] zip i key at = absurd zip
value_at R (k ∷ keys) (y ∷ xs) zip zero key at =
    (y, refl, subst (λ (k : _). R k y) (same_Some k key at) zip.0)
value_at R (k ∷ keys) (y ∷ xs) zip (suc i) key at = value_at R keys xs zip.1 i key at

-- an entry of a row of spans belongs to one of them
member_of : (base : ℕ) (spans : List (List Entry)) (last : ℕ) (entry : Entry) →
    Contains (with_lasts base spans) (last, entry) →
    (i : ℕ) × (entries : List Entry) × (slice_get spans i ≡ Some entries) × (last ≡ base + i)
    × Contains entries entry
member_of base [] last entry member = absurd (Contains-none (last, entry) member)
member_of base (entries ∷ spans) last entry member =
    elim (Contains-append_cases (map (λ (e : Entry). (base, e)) entries) (with_lasts (base + 1) spans)
    (last, entry) member) [
      | inl here ↦ (
          let found = contained_mapped (λ (e : Entry). (base, e)) entries (last, entry) here in
          let last_is : last ≡ base + 0 =
          omega (arith, ap (λ (m : ℕ × Entry). m.0) found.2) in (
            0,
            entries,
            refl,
            last_is,
            subst (Contains entries) (ap (λ (m : ℕ × Entry). m.1) found.2) found.1,
          ))
      | inr later ↦ (
          let found = member_of (base + 1) spans last entry later in
          let is = found.3 in
          (suc found.0, found.1, found.2, omega (arith, is), found.4))
    ]

member_in : (base : ℕ) (spans : List (List Entry)) (i : ℕ) (entries : List Entry) (entry : Entry)
    (last : ℕ) → slice_get spans i ≡ Some entries → last ≡ base + i → Contains entries entry →
    Contains (with_lasts base spans) (last, entry)
member_in base [] i entries entry last at is member = absurd (none-some entries at)
member_in base (here ∷ spans) zero entries entry last at is member =
    let base_is : base ≡ last = omega (arith, is) in
    let there = subst (λ (l : List Entry). Contains l entry) (sym (same_Some here entries at)) member in
    Contains-append_left (map (λ (e : Entry). (base, e)) here) (with_lasts (base + 1) spans)
    (last, entry)
    (subst (λ (n : ℕ). Contains {X = ℕ × Entry} (map (λ (e : Entry). (base, e)) here) (n, entry))
    base_is
    (contains_mapped (λ (e : Entry). (base, e)) here entry there))
member_in base (here ∷ spans) (suc i) entries entry last at is member =
    Contains-append_right (map (λ (e : Entry). (base, e)) here) (with_lasts (base + 1) spans)
    (last, entry)
    (member_in (base + 1) spans i entries entry last at (omega (arith, is)) member)

only : {X : Type 0} (x y : X) → Contains (x ∷ []) y → x ≡ y
only x y member = elim (Contains-cons_cases x y [] member) [
  | inl same ↦ same
  | inr nothing ↦ absurd (Contains-none y nothing)
]

no_member : {X : Type 0} (xs : List X) (x : X) → xs ≡ [] → Contains xs x → ⊥
no_member xs x none member = Contains-none x (subst (λ (l : List _). Contains l x) none member)

module _ (alphabet : Letters) (dics : List (Priority × List Entry)) where
  -- ENTRIES OF ONE TOKEN

  simple_entry : (k : Kind) (text : List ℕ) (row : List Entry) (entry : Entry) →
      AreSimpleOf alphabet dics k text row → Contains row entry →
      ((k ≡ kind.Word) × Applies alphabet dics text entry) ⊎ ((k ≡ kind.Tag) × IsTag text entry)
  simple_entry kind.Word text row entry are member = inl (refl, (row, are, member))
  simple_entry kind.Space text row entry are member = absurd (no_member row entry are member)
  simple_entry kind.Other text row entry are member = absurd (no_member row entry are member)
  simple_entry kind.Sentence text row entry are member = absurd (no_member row entry are member)
  simple_entry kind.Stop text row entry are member = absurd (no_member row entry are member)
  simple_entry kind.Tag text row entry are member = elim (simple_settled alphabet are.entry) [
    | inl letters ↦ (
        let same = only are.entry entry
        (subst (λ (l : List Entry). Contains l entry) (are.letters letters) member) in
        inr (refl, subst (IsTag text) same are.tag))
    | inr signs ↦ absurd (no_member row entry (are.others signs) member)
  ]

  own_entry : (k : Kind) (text : List ℕ) (place : ℕ) (row : List (ℕ × Entry)) (last : ℕ)
      (entry : Entry) → AreOwnCompound alphabet k text place row → Contains row (last, entry) →
      (last ≡ place) × (k ≡ kind.Tag) × IsTag text entry
  own_entry kind.Word text place row last entry are member =
      absurd (no_member row (last, entry) are member)
  own_entry kind.Space text place row last entry are member =
      absurd (no_member row (last, entry) are member)
  own_entry kind.Other text place row last entry are member =
      absurd (no_member row (last, entry) are member)
  own_entry kind.Sentence text place row last entry are member =
      absurd (no_member row (last, entry) are member)
  own_entry kind.Stop text place row last entry are member =
      absurd (no_member row (last, entry) are member)
  own_entry kind.Tag text place row last entry are member =
      elim (simple_settled alphabet are.entry) [
        | inl letters ↦ absurd (no_member row (last, entry) (are.letters letters) member)
        | inr signs ↦ (
            let same = only (place, are.entry) (last, entry)
            (subst (λ (l : List (ℕ × Entry)). Contains l (last, entry)) (are.others signs) member) in (
              sym (ap (λ (m : ℕ × Entry). m.0) same),
              refl,
              subst (IsTag text) (ap (λ (m : ℕ × Entry). m.1) same) are.tag,
            ))
      ]

  raw_of : (token : Token) (text : List ℕ) → MayBeRaw token.kind →
      AreSimpleOf alphabet dics token.kind token.text [] → text ≡ token.text →
      IsRawOf alphabet dics token text
  raw_of token text may are is = (is, by token.kind refl may are)
    where
      by : (k : Kind) → token.kind ≡ k → MayBeRaw k → AreSimpleOf alphabet dics k token.text [] →
          (token.kind ≡ kind.Other)
          ⊎ ((token.kind ≡ kind.Word) × AreApplying alphabet dics token.text [])
      by kind.Word same may are = inr (same, are)
      by kind.Space same may are = absurd may
      by kind.Other same may are = inl same
      by kind.Sentence same may are = absurd may
      by kind.Stop same may are = absurd may
      by kind.Tag same may are = absurd may

  module _ (tokens : List Token) (tables : Tables)
      (applied : AreApplied alphabet dics tokens tables) where
    -- FROM TABLES TO DICTIONARIES

    token_of_row : (place : ℕ) (row : List Entry) → slice_get tables.simple place ≡ Some row →
        (token : Token) × (slice_get tokens place ≡ Some token)
        × AreSimpleOf alphabet dics token.kind token.text row
    token_of_row place row at =
        key_at (λ (token : Token) (row : List Entry).
        AreSimpleOf alphabet dics token.kind token.text row) tokens tables.simple applied.simple place
        row at

    compound_reading : (first last : ℕ) (entry : Entry) (row : List (ℕ × Entry)) →
        IsCompoundRow alphabet dics tokens first row → Contains row (last, entry) →
        IsReadingOf alphabet dics tokens first last (Word entry)
    compound_reading first last entry row are member =
        elim (Contains-append_cases are.own (with_lasts (first + 1) are.spans) (last, entry)
        (subst (λ (l : List (ℕ × Entry)). Contains l (last, entry)) are.row_is member)) [
          | inl own ↦ (
              let found = the_token
              (λ token. AreOwnCompound alphabet token.kind token.text first are.own)
              (slice_get tokens first) are.of_token in
              let token = found.0 in
              let is = own_entry token.kind token.text first are.own last entry found.2 own in
              inl (
                is.0,
                on_token (λ token. IsEntryOf alphabet dics token entry)
                    (slice_get tokens first) token found.1 (inr (is.1, is.2)),
              ))
          | inr span ↦ (
              let found = member_of (first + 1) are.spans last entry span in
              let of = are.of_spans found.0 found.1 found.2 in
              let last_is = found.3 in
              let spanned = span_of found.0 found.1 entry of found.4
              (span_settled tokens first (first + 1 + found.0)) in
              inr (subst (λ (n : ℕ). IsEntryOfSpan alphabet dics tokens first n entry) (sym last_is)
              spanned))
        ]
      where
        span_of : (i : ℕ) (entries : List Entry) (entry : Entry) →
            AreOfSpan alphabet dics tokens first (first + 1 + i) entries → Contains entries entry →
            IsSpan tokens first (first + 1 + i) ⊎ (IsSpan tokens first (first + 1 + i) → ⊥) →
            IsEntryOfSpan alphabet dics tokens first (first + 1 + i) entry
        span_of i entries entry of member (inl is) = record {
          longer = omega arith;
          span = is;
          applies = (entries, of.applying is, member);
        }
        span_of i entries entry of member (inr isnt) =
            absurd (no_member entries entry (of.none isnt) member)

    pub to_dictionaries : (first last : ℕ) (reading : Reading) →
        StandsOn tokens tables first last reading → IsReadingOf alphabet dics tokens first last reading
    to_dictionaries first last (Word entry) (inl (same, has)) =
        let found = token_of_row first has.row has.entries in
        inl (
          same,
          on_token (λ token. IsEntryOf alphabet dics token entry) (slice_get tokens first)
              found.0 found.1 (simple_entry found.0.kind found.0.text has.row entry found.2 has.member),
        )
    to_dictionaries first last (Word entry) (inr has) =
        compound_reading first last entry has.row (applied.compounds.each first has.row has.entries)
        has.member
    to_dictionaries first last (Raw text) (same, unread) =
        let found = token_of_row first [] unread.none in
        let token_is : found.0 ≡ unread.token =
        same_Some found.0 unread.token (sym found.1 ∙ unread.stands) in
        let are = subst (λ (t : Token). AreSimpleOf alphabet dics t.kind t.text []) token_is found.2 in (
          same,
          on_token (λ token. IsRawOf alphabet dics token text) (slice_get tokens first)
              unread.token unread.stands (raw_of unread.token text unread.kind are unread.text_is),
        )

    -- FROM DICTIONARIES TO TABLES

    row_of_token : (place : ℕ) (token : Token) → slice_get tokens place ≡ Some token →
        (row : List Entry) × (slice_get tables.simple place ≡ Some row)
        × AreSimpleOf alphabet dics token.kind token.text row
    row_of_token place token at =
        value_at (λ (token : Token) (row : List Entry).
        AreSimpleOf alphabet dics token.kind token.text row) tokens tables.simple applied.simple place
        token at

    compound_of_token : (place : ℕ) → place < length tokens →
        (row : List (ℕ × Entry)) × (slice_get tables.compounds place ≡ Some row)
        × IsCompoundRow alphabet dics tokens place row
    compound_of_token place lt = elim (slice_get_cases tables.compounds place).1 [
      | inl found ↦ (found.0, found.2, applied.compounds.each place found.0 found.2)
      | inr past ↦ absurd (omega (arith, past.0, lt, applied.compounds.each_token))
    ]

    word_entry : (place : ℕ) (token : Token) (entry : Entry) → slice_get tokens place ≡ Some token →
        token.kind ≡ kind.Word → Applies alphabet dics token.text entry →
        HasSimple tokens tables place entry
    word_entry place token entry at is (entries, applying, member) =
        let found = row_of_token place token at in
        let are : AreApplying alphabet dics token.text found.0 =
        subst (λ (k : Kind). AreSimpleOf alphabet dics k token.text found.0) is found.2 in
        let same : entries ≡ found.0 = one_applying alphabet dics token.text applying are in
        record {
          row = found.0;
          entries = found.1;
          member = subst (λ (l : List Entry). Contains l entry) same member;
        }

    tag_entry : (place : ℕ) (token : Token) (entry : Entry) → slice_get tokens place ≡ Some token →
        token.kind ≡ kind.Tag → IsTag token.text entry →
        HasSimple tokens tables place entry ⊎ HasCompound tokens tables place place entry
    tag_entry place token entry at is tag =
        let found = row_of_token place token at in
        let own : IsOwnSimple alphabet token.text found.0 =
        subst (λ (k : Kind). AreSimpleOf alphabet dics k token.text found.0) is found.2 in
        let same = one_tag token.text own.entry entry own.tag tag in
        elim (simple_settled alphabet entry) [
          | inl letters ↦ (
              let row_is : entry ∷ [] ≡ found.0 =
              sym (own.letters (subst (IsSimpleForm alphabet) (sym same) letters)
              ∙ ap (λ (e : Entry). e ∷ []) same) in
              inl (record {
                row = found.0;
                entries = found.1;
                member = subst (λ (l : List Entry). Contains l entry) row_is (0, omega arith, refl);
              }))
          | inr signs ↦ (
              let row = compound_of_token place (slice_get_within tokens place token at) in
              let there = the_token
              (λ token. AreOwnCompound alphabet token.kind token.text place row.2.own)
              (slice_get tokens place) row.2.of_token in
              let token_is : there.0 ≡ token =
              same_Some there.0 token (sym there.1 ∙ at) in
              let are = subst
              (λ (t : Token). AreOwnCompound alphabet t.kind t.text place row.2.own) token_is there.2 in
              let mine : IsOwnCompound alphabet token.text place row.2.own =
              subst (λ (k : Kind). AreOwnCompound alphabet k token.text place row.2.own) is are in
              let same' = one_tag token.text mine.entry entry mine.tag tag in
              let own_is : (place, entry) ∷ [] ≡ row.2.own =
              sym (mine.others
              (λ letters. signs (subst (IsSimpleForm alphabet) same' letters))
              ∙ ap (λ (e : Entry). (place, e) ∷ []) same') in
              inr (record {
                row = row.0;
                entries = row.1;
                member = subst (λ (l : List (ℕ × Entry)). Contains l (place, entry))
                    (sym row.2.row_is)
                    (Contains-append_left row.2.own (with_lasts (place + 1) row.2.spans)
                    (place, entry)
                    (subst (λ (l : List (ℕ × Entry)). Contains l (place, entry)) own_is
                    (0, omega arith, refl)));
              }))
        ]

    span_entry : (first last : ℕ) (entry : Entry) →
        IsEntryOfSpan alphabet dics tokens first last entry →
        HasCompound tokens tables first last entry
    span_entry first last entry is =
        let high = within _ tokens last is.span.ends in
        let longer = is.longer in
        let row = compound_of_token first (omega (arith, longer, high)) in
        let i = last - (first + 1) in
        let up_to = row.2.up_to in
        let lt : i < length row.2.spans = omega (arith, up_to, high, longer) in
        let place : first + 1 + i ≡ last = omega (arith, longer) in
        elim (slice_get_cases row.2.spans i).1 [
          | inl found ↦ (
              let of = row.2.of_spans i found.0 found.2 in
              let of_last = subst
              (λ (n : ℕ). AreOfSpan alphabet dics tokens first n found.0) place of in
              let same : is.applies.0 ≡ found.0 =
              one_applying alphabet dics (text_of tokens first last) is.applies.1
              (of_last.applying is.span) in
              record {
                row = row.0;
                entries = row.1;
                member = subst (λ (l : List (ℕ × Entry)). Contains l (last, entry))
                    (sym row.2.row_is)
                    (Contains-append_right row.2.own (with_lasts (first + 1) row.2.spans) (last, entry)
                    (member_in (first + 1) row.2.spans i found.0 entry last found.2 (sym place)
                    (subst (λ (l : List Entry). Contains l entry) same is.applies.2)));
              })
          | inr past ↦ absurd (omega (arith, past.0, lt))
        ]

    raw_row : (k : Kind) (text : List ℕ) (row : List Entry) → AreSimpleOf alphabet dics k text row →
        (k ≡ kind.Other) ⊎ ((k ≡ kind.Word) × AreApplying alphabet dics text []) →
        MayBeRaw k × (row ≡ [])
    raw_row k text row are (inl is) = (
      subst MayBeRaw (sym is) tt,
      subst (λ (k : Kind). AreSimpleOf alphabet dics k text row) is are,
    )
    raw_row k text row are (inr (is, none)) =
        let applying : AreApplying alphabet dics text row =
        subst (λ (k : Kind). AreSimpleOf alphabet dics k text row) is are in
        (subst MayBeRaw (sym is) tt, one_applying alphabet dics text applying none)

    pub of_dictionaries : (first last : ℕ) (reading : Reading) →
        IsReadingOf alphabet dics tokens first last reading → StandsOn tokens tables first last reading
    of_dictionaries first last (Word entry) (inl (same, holds)) =
        let found = the_token (λ token. IsEntryOf alphabet dics token entry) (slice_get tokens first)
        holds in
        elim found.2 [
          | inl word ↦ inl (same, word_entry first found.0 entry found.1 word.0 word.1)
          | inr tag ↦ elim (tag_entry first found.0 entry found.1 tag.0 tag.1) [
            | inl simple ↦ inl (same, simple)
            | inr own ↦ inr (subst (λ (n : ℕ). HasCompound tokens tables first n entry) (sym same) own)
          ]
        ]
    of_dictionaries first last (Word entry) (inr span) = inr (span_entry first last entry span)
    of_dictionaries first last (Raw text) (same, holds) =
        let found = the_token (λ token. IsRawOf alphabet dics token text) (slice_get tokens first)
        holds in
        let row = row_of_token first found.0 found.1 in
        let is = raw_row found.0.kind found.0.text row.0 row.2 found.2.1 in (
          same,
          record {
            token = found.0;
            stands = found.1;
            kind = is.0;
            none = row.1 ∙ ap Some is.1;
            text_is = found.2.0;
          },
        )
