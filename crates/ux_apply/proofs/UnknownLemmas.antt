-- Words without a simple entry, as their numbers are collected, and as the tables tell them.
use Rattle.std.proofs.Common.{arith, rules, ◌≡◌, ◌↔◌, ◌⊎◌, ℕ, ◌+◌, ◌<◌, ◌≤◌, Bool, true, false, cond, List, [], ◌∷◌, ◌++◌, length, get_or, map, set, take, refl, sym, ◌∙◌, ap, subst, inl, inr}
use Rattle.std.specs.Prelude.{Option, Some, None, IfSome, IsSomeAnd, Contains, Vec, slice_get}
use Rattle.std.specs.List.{AllZip}
use Rattle.std.specs.List.Sorted.{IsStrictlyIncreasing}
use Rattle.std.specs.Ordering.{nat_cmp}
use Rattle.std.specs.Cmp.{nat_cmp_total}
use Rattle.std.specs.BTreeMap.{BTreeMap, is_at}
use Rattle.std.specs.BTreeSet.{BTreeSet, contains, Updates}
use Rattle.std.proofs.lemmas.Bool.Decides.{eqb_tells}
use Rattle.std.proofs.lemmas.Map.Lookups.{exact_unsigned}
use Rattle.std.proofs.lemmas.Map.Views.{btree_set_contains_iff}
use Rattle.std.proofs.lemmas.List.{get_or-set_other, length-map, take_more, take_all}
use Rattle.std.proofs.lemmas.List.Elements.{Contains-append_left, Contains-push, Contains-push_cases}
use Rattle.std.proofs.lemmas.Option.{slice_get_within, slice_get-get_or, get_or_from_slice_get}
use Rattle.ux_alphabet.specs.Letters.{Letters}
use Rattle.ux_dela.specs.declared.entry.Entry.{Entry}
use Rattle.ux_tokens.specs.declared.kind.Kind.{Kind}
use Rattle.ux_tokens.specs.declared.kind.Kind.TheVariants.{Word}
use Rattle.ux_tokens.specs.Tokens.{Token}
use Rattle.ux_tokens.specs.Numbers.{different_texts}
use Rattle.ux_tokens.proofs.DistinctLemmas.{different_texts-once}
use Rattle.ux_base.proofs.DistinctLemmas.{length-each_once}
use Rattle.ux_lexical_tables.proofs.TableLemmas.{table-at, table-row}
use Rattle.ux_lexical_tables.specs.Kept.{items_in, row_at, row_by, row_of, simple_at, table_of}
use Rattle.ux_lexical_tables.specs.Tables.{AreOwnSimple, AreUnknown, IsUnknown}
use Rattle.ux_apply.specs.declared.priority.Priority.{Priority}
use Rattle.ux_apply.specs.Applying.{AreApplying}
use Rattle.ux_apply.specs.Applied.{AreSimpleOf, AreSimple}
use Rattle.ux_apply.specs.Kept.{AreRowsUpTo, IsOwnRow, IsWordNumber}
use Rattle.ux_apply.specs.Unknown.{AreMarkedIn, HasNoRow, IsWithoutRow}
use Rattle.ux_apply.proofs.OwnLemmas.{simple-own}
use Rattle.ux_apply.proofs.RowLemmas.{zip-table}
use Rattle.ux_apply.proofs.ZipLemmas.{zip-at, zip-back, zip-length, zip-more}

reads : (s : BTreeSet ℕ) (q : ℕ) → (contains nat_cmp s q ≡ true) ↔ Contains s.keys q
reads s q = let h = btree_set_contains_iff nat_cmp_total exact_unsigned s q in h

is_at-self : (n : ℕ) → is_at (nat_cmp n) n ≡ true
is_at-self n = search rules

is_at-same : (at n : ℕ) → is_at (nat_cmp at) n ≡ true → at ≡ n
is_at-same at n is = grind arith

-- a set with one number more
pub Contains-insert : (s n : BTreeSet ℕ) (at number : ℕ) → Updates nat_cmp s n at true →
    Contains n.keys number ↔ (Contains s.keys number ⊎ (at ≡ number))
Contains-insert s n at number update = (
  λ has. from (is_at (nat_cmp at) number) refl ((reads n number).1 has),
  λ has. elim has [
    | inl old ↦ (reads n number).0 (update.0 number ∙ kept (is_at (nat_cmp at) number)
        ((reads s number).1 old))
    | inr is ↦ subst (Contains n.keys) is ((reads n at).0 update.1)
  ],
)
  where
    kept : (b : Bool) → contains nat_cmp s number ≡ true →
        cond b true (contains nat_cmp s number) ≡ true
    kept true old = refl
    kept false old = old

    from : (b : Bool) → is_at (nat_cmp at) number ≡ b → contains nat_cmp n number ≡ true →
        Contains s.keys number ⊎ (at ≡ number)
    from true is has = inr (is_at-same at number is)
    from false is has =
        let old : contains nat_cmp s number ≡ true =
        sym (ap (λ (b : Bool). cond b true (contains nat_cmp s number)) is)
        ∙ (sym (update.0 number) ∙ has) in
        inl ((reads s number).0 old)

-- the number that was put last may be marked too
pub one_marked : (marks : List Bool) (s n : BTreeSet ℕ) (at : ℕ) → Updates nat_cmp s n at true →
    AreMarkedIn marks s.keys → AreMarkedIn (set marks at true) n.keys
one_marked marks s n at update marked number is = elim (eqb_tells number at) [
  | inl same ↦ (Contains-insert s n at number update).1 (inr (sym same.1))
  | inr differ ↦ (Contains-insert s n at number update).1
      (inl (marked number (sym (get_or-set_other marks at number true false differ.1) ∙ is)))
]

module _ {Z : Type 0} (rows : List (Vec Entry Z)) (words : List (Option ℕ)) where
  -- the set has the numbers of one word more
  pub unknown-more : (old new : List ℕ) (i : ℕ) (d : Option ℕ) → i < length words →
      ((n : ℕ) → Contains old n ↔ IsWithoutRow (take i words) rows n) →
      ((n : ℕ) → Contains new n ↔ (Contains old n ⊎ HasNoRow rows n (get_or words i d))) →
      (n : ℕ) → Contains new n ↔ IsWithoutRow (take (i + 1) words) rows n
  unknown-more old new i d lt before grown n =
      let word = get_or words i d in
      let front : take (i + 1) words ≡ take i words ++ word ∷ [] = take_more words i d lt in (
        λ has. subst (λ (l : List (Option ℕ)). IsWithoutRow l rows n) (sym front)
            (elim ((grown n).0 has) [
              | inl there ↦ let was = (before n).0 there in
                  (Contains-append_left (take i words) (word ∷ []) (Some n) was.0, was.1)
              | inr here ↦ (
                subst (λ (w : Option ℕ). Contains (take i words ++ word ∷ []) w) here.0
                    (Contains-push (take i words) word),
                ap (row_at rows) (sym here.0) ∙ here.1,
              )
            ]),
        λ is. let given = subst (λ (l : List (Option ℕ)). IsWithoutRow l rows n) front is in
            elim (Contains-push_cases (take i words) word (Some n) given.0) [
              | inl there ↦ (grown n).1 (inl ((before n).1 (there, given.1)))
              | inr here ↦ (grown n).1 (inr (here, ap (row_at rows) here ∙ given.1))
            ],
      )

-- a word has its number
pub word_has : (texts : List (List ℕ)) (number : ℕ) (o : Option Token) →
    IsSomeAnd o (λ t. Word ≡ t.kind) → IsSomeAnd o (λ t. slice_get texts number ≡ Some t.text) →
    IsSomeAnd o (λ t. (t.kind ≡ Word) × (slice_get texts number ≡ Some t.text))
word_has texts number None kind at = absurd kind
word_has texts number (Some token) kind at = (sym kind, at)

-- the number of a word is below that of none
pub few_words : (tokens : List Token) → length tokens ≤ 67108864 → (word : Option ℕ) →
    IfSome word (λ number. number < length (different_texts tokens)) →
    IfSome word (λ number. number < 4294967295)
few_words tokens few None below = below
few_words tokens few (Some number) below =
    let texts = map (λ (t : Token). t.text) tokens in
    let once = length-each_once texts in
    let long = length-map tokens (λ (t : Token). t.text) in
    omega (arith, below, once, long, few)

-- the numbers of one token more
pub words-more : (tokens : List Token) (i : ℕ) (numbers all_new : List (Option ℕ))
    (word : Option ℕ) → IsSomeAnd (slice_get tokens i) (λ t. IsWordNumber tokens t word) →
    AllZip (IsWordNumber tokens) (take i tokens) numbers → all_new ≡ numbers ++ word ∷ [] →
    AllZip (IsWordNumber tokens) (take (i + 1) tokens) all_new
words-more tokens i numbers all_new word there before grown =
    subst (AllZip (IsWordNumber tokens) (take (i + 1) tokens)) (sym grown)
    (go (slice_get tokens i) refl there)
  where
    go : (o : Option Token) → slice_get tokens i ≡ o →
        IsSomeAnd o (λ t. IsWordNumber tokens t word) →
        AllZip (IsWordNumber tokens) (take (i + 1) tokens) (numbers ++ word ∷ [])
    go None at is = absurd is
    go (Some token) at is =
        zip-more (IsWordNumber tokens) tokens numbers i token word
        (slice_get_within tokens i token at) (get_or_from_slice_get tokens i token token at) before
        is

module _ {Z : Type 0} (tokens : List Token) (rows : List (Vec Entry Z))
    (tags : BTreeMap ℕ (Vec Entry Z)) (words : List (Option ℕ))
    (numbered : AllZip (IsWordNumber tokens) tokens words) where
  -- the simple entries of each token
  abbrev pub table : List (List Entry)
  table = table_of (simple_at words rows tags) (length words)

  -- the tables tell the same
  pub unknown-whole : (numbers : List ℕ) → IsStrictlyIncreasing numbers →
      ((n : ℕ) → Contains numbers n ↔ IsWithoutRow words rows n) →
      AreUnknown tokens table numbers
  unknown-whole numbers rising are = record {
    ascending = rising;
    exact = λ n. (λ has. told n ((are n).0 has), λ is. (are n).1 (found n is));
  }
    where
      told : (n : ℕ) → IsWithoutRow words rows n →
          IsUnknown tokens table n
      told n without =
          let k = without.0.0 in
          let at : slice_get words k ≡ Some (Some n) =
          slice_get-get_or words k (Some n) without.0.1
          ∙ ap (λ (w : Option ℕ). Some w) without.0.2 in
          let back = zip-back (IsWordNumber tokens) tokens words k (Some n) numbered at in record {
            place = k;
            token = back.0;
            stands = back.1;
            word = back.2.0;
            numbered = back.2.1;
            none = table-at (simple_at words rows tags) (length words) k
                (slice_get_within words k (Some n) at)
                ∙ ap (λ (l : List Entry). Some l) (ap (row_by rows tags k) at ∙ without.1);
          }

      by : (n : ℕ) (is : IsUnknown tokens table n) (w : Option ℕ) →
          slice_get words is.place ≡ Some w → IsWordNumber tokens is.token w →
          IsWithoutRow words rows n
      by n is None at isnt = absurd (isnt is.word)
      by n is (Some m) at has =
          let one : m ≡ n =
          different_texts-once tokens m n is.token.text has.1 is.numbered in
          let here : slice_get words is.place ≡ Some (Some n) =
          at ∙ ap (λ (k : ℕ). Some (Some k)) one in
          let kept = table-row (simple_at words rows tags) (length words) is.place [] is.none in
          let row : row_at rows (Some n) ≡ [] =
          sym (kept.1 ∙ ap (row_by rows tags is.place) here) in (
            (
              is.place,
              slice_get_within words is.place (Some n) here,
              get_or_from_slice_get words is.place (Some n) (Some n) here,
            ),
            row,
          )

      found : (n : ℕ) → IsUnknown tokens table n → IsWithoutRow words rows n
      found n is =
          let at = zip-at (IsWordNumber tokens) tokens words is.place is.token numbered is.stands in
          by n is at.0 at.1 at.2

  module _ (alphabet : Letters) (dics : List (Priority × List Entry))
      (are : AllZip (λ (text : List ℕ) (row : Vec Entry Z). AreApplying alphabet dics text row.items)
      (different_texts tokens) rows) where
    -- a word has the row of its number
    simple-of : (token : Token) (n : ℕ) → IsWordNumber tokens token (Some n) →
        AreSimpleOf alphabet dics token.kind token.text (row_at rows (Some n))
    simple-of token n has =
        let at = zip-at (λ (text : List ℕ) (row : Vec Entry Z). AreApplying alphabet dics text row.items)
        (different_texts tokens) rows n token.text are has.1 in
        subst (λ (kind : Kind). AreSimpleOf alphabet dics kind token.text (row_at rows (Some n)))
        (sym has.0)
        (subst (λ (o : Option (Vec Entry Z)). AreApplying alphabet dics token.text (items_in o))
        (sym at.1) at.2)

    module _ (own : AreRowsUpTo (IsOwnRow alphabet tokens) (length tokens) tags) where
      simple-there : (i : ℕ) (token : Token) → slice_get tokens i ≡ Some token →
          AreSimpleOf alphabet dics token.kind token.text (simple_at words rows tags i)
      simple-there i token at =
          let word = zip-at (IsWordNumber tokens) tokens words i token numbered at in
          subst (AreSimpleOf alphabet dics token.kind token.text)
          (sym (ap (row_by rows tags i) word.1)) (by word.0 word.2)
        where
          by : (w : Option ℕ) → IsWordNumber tokens token w →
              AreSimpleOf alphabet dics token.kind token.text (row_by rows tags i (Some w))
          by None isnt =
              simple-own alphabet dics token.kind token.text (row_of tags i) isnt
              (subst
              (λ (o : Option Token).
              IsSomeAnd o (λ t. AreOwnSimple alphabet t.kind t.text (row_of tags i))) at
              (own.each i (slice_get_within tokens i token at)))
          by (Some n) has = simple-of token n has

      -- so each token has its simple entries
      pub simple-whole : AreSimple alphabet dics tokens table
      simple-whole =
          let long = zip-length (IsWordNumber tokens) tokens words numbered in
          subst
          (λ (l : List Token).
          AllZip (λ (t : Token) (row : List Entry). AreSimpleOf alphabet dics t.kind t.text row) l table)
          (take_all (length words) tokens (omega (arith, long)))
          (zip-table
          (λ (t : Token) (row : List Entry). AreSimpleOf alphabet dics t.kind t.text row) tokens
          (simple_at words rows tags) (length words) (omega (arith, long)) simple-there)
