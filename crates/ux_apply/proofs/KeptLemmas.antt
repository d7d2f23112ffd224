-- Equal words have equal rows, and all entries of the tables are sound.
use Rattle.std.proofs.Common.{arith, ◌≡◌, ℕ, ◌<◌, List, [], length, refl, sym, ◌∙◌, ap, subst, inl, inr}
use Rattle.std.specs.Prelude.{Option, Some, None, All, IsSomeAnd, Vec, slice_get}
use Rattle.std.specs.BTreeMap.{BTreeMap}
use Rattle.std.specs.List.{AllZip}
use Rattle.std.proofs.lemmas.List.Elements.{All-cons, All-contains, All-nil}
use Rattle.std.proofs.lemmas.Option.{slice_get_within, get_or_from_slice_get}
use Rattle.ux_alphabet.specs.Letters.{Letters}
use Rattle.ux_dela.specs.Sound.{IsSound}
use Rattle.ux_dela.specs.declared.entry.Entry.{Entry}
use Rattle.ux_dela.proofs.TagLemmas.{tag_sound}
use Rattle.ux_tokens.specs.declared.kind.Kind.{Kind}
use Rattle.ux_tokens.specs.declared.kind.Kind.TheVariants.{Word, Space, Other, Sentence, Stop, Tag}
use Rattle.ux_tokens.specs.Tokens.{Token}
use Rattle.ux_tokens.specs.Numbers.{different_texts}
use Rattle.ux_tokens.proofs.DistinctLemmas.{different_texts-once}
use Rattle.ux_lexical_tables.proofs.LetterLemmas.{IsSettled, simple_settled}
use Rattle.ux_lexical_tables.proofs.TableLemmas.{table-row}
use Rattle.ux_lexical_tables.specs.Kept.{items_in, row_at, row_by, row_of, simple_at, table_of}
use Rattle.ux_lexical_tables.specs.Tables.{AreOwnSimple, IsOwnSimple, IsSimpleForm}
use Rattle.ux_apply.specs.Kept.{AreRowsUpTo, AreSoundMembers, IsOwnRow, IsWordNumber}
use Rattle.ux_apply.proofs.BelongingLemmas.{AreKeptWell}
use Rattle.ux_apply.proofs.ZipLemmas.{zip-at, zip-length}

-- own entries are sound
own_sound : (alphabet : Letters) (kind : Kind) (text : List ℕ) (row : List Entry) →
    AreOwnSimple alphabet kind text row → All IsSound row
own_sound alphabet kind text row own = go kind own
  where
    nothing : row ≡ [] → All IsSound row
    nothing none = subst (All IsSound) (sym none) (All-nil IsSound)

    tag : (own : IsOwnSimple alphabet text row) → IsSettled (IsSimpleForm alphabet own.entry) →
        All IsSound row
    tag own (inl simple) =
        subst (All IsSound) (sym (own.letters simple))
        (All-cons IsSound own.entry [] (tag_sound own.tag.0 own.entry own.tag.2) (All-nil IsSound))
    tag own (inr not) = nothing (own.others not)

    go : (kind : Kind) → AreOwnSimple alphabet kind text row → All IsSound row
    go Word none = nothing none
    go Space none = nothing none
    go Other none = nothing none
    go Sentence none = nothing none
    go Stop none = nothing none
    go Tag own = tag own (simple_settled alphabet own.entry)

module _ {Z : Type 0} (tokens : List Token) (rows : List (Vec Entry Z))
    (tags : BTreeMap ℕ (Vec Entry Z)) (words : List (Option ℕ))
    (numbered : AllZip (IsWordNumber tokens) tokens words) where
  -- the row of a word is that of its text's number
  word_row : (i : ℕ) (token : Token) → slice_get tokens i ≡ Some token → token.kind ≡ Word →
      (n : ℕ) × (slice_get (different_texts tokens) n ≡ Some token.text)
      × (simple_at words rows tags i ≡ row_at rows (Some n))
  word_row i token at word =
      let found = zip-at (IsWordNumber tokens) tokens words i token numbered at in
      go found.0 found.1 found.2
    where
      go : (w : Option ℕ) → slice_get words i ≡ Some w → IsWordNumber tokens token w →
          (n : ℕ) × (slice_get (different_texts tokens) n ≡ Some token.text)
          × (simple_at words rows tags i ≡ row_at rows (Some n))
      go None there isnt = absurd (isnt word)
      go (Some n) there has = (n, has.1, ap (row_by rows tags i) there)

  same_rows : (i j : ℕ) (token : Token) → slice_get tokens i ≡ Some token →
      slice_get tokens j ≡ Some token → token.kind ≡ Word →
      simple_at words rows tags i ≡ simple_at words rows tags j
  same_rows i j token at there word =
      let first = word_row i token at word in
      let second = word_row j token there word in
      let one : first.0 ≡ second.0 =
      different_texts-once tokens first.0 second.0 token.text first.1 second.1 in
      first.2 ∙ (ap (λ (n : ℕ). row_at rows (Some n)) one ∙ sym second.2)

  module _ (alphabet : Letters) (own : AreRowsUpTo (IsOwnRow alphabet tokens) (length tokens) tags)
      (sound : All (λ (row : Vec Entry Z). All IsSound row.items) rows) where
    kept_sound : (n : ℕ) → All IsSound (row_at rows (Some n))
    kept_sound n = go (slice_get rows n) refl
      where
        go : (o : Option (Vec Entry Z)) → slice_get rows n ≡ o → All IsSound (items_in o)
        go None at = All-nil IsSound
        go (Some row) at =
            All-contains (λ (r : Vec Entry Z). All IsSound r.items) rows row sound
            (n, slice_get_within rows n row at, get_or_from_slice_get rows n row row at)

    row_sound : (i : ℕ) → i < length words → All IsSound (simple_at words rows tags i)
    row_sound i lt = go (slice_get words i)
      where
        tag : (o : Option Token) → IsSomeAnd o (λ t. AreOwnSimple alphabet t.kind t.text (row_of tags i)) →
            All IsSound (row_of tags i)
        tag None is = absurd is
        tag (Some token) is = own_sound alphabet token.kind token.text (row_of tags i) is

        go : (o : Option (Option ℕ)) → All IsSound (row_by rows tags i o)
        go None = All-nil IsSound
        go (Some None) =
            let long = zip-length (IsWordNumber tokens) tokens words numbered in
            tag (slice_get tokens i) (own.each i (omega (arith, lt, long)))
        go (Some (Some n)) = kept_sound n

    -- so it is with all tables of a text
    pub kept_well : (compounds : BTreeMap ℕ (Vec (ℕ × Entry) Z)) (unknown : List ℕ) →
        AreRowsUpTo (λ _. AreSoundMembers) (length tokens) compounds →
        AreKeptWell tokens (record {
          simple = table_of (simple_at words rows tags) (length words);
          compounds = table_of (row_of compounds) (length words);
          unknown = unknown;
        })
    kept_well compounds unknown members =
        let at = simple_at words rows tags in
        let long = zip-length (IsWordNumber tokens) tokens words numbered in record {
          equal = λ i j token row other word here there first second.
              (table-row at (length words) i row first).1
              ∙ (same_rows i j token here there word
              ∙ sym (table-row at (length words) j other second).1);
          sound_simple = λ i row there.
              let is = table-row at (length words) i row there in
              subst (All IsSound) (sym is.1) (row_sound i is.0);
          sound_compounds = λ i row there.
              let is = table-row (row_of compounds) (length words) i row there in
              subst AreSoundMembers (sym is.1)
              (members.each i (omega (arith, is.0, long)));
        }
