-- A text and dictionaries have one table of applied entries. Public: crates above may cite it.
use Rattle.std.proofs.Common.{arith, ◌≡◌, ℕ, suc, ◌+◌, ◌<◌, List, [], ◌∷◌, ◌++◌, length, refl, sym, ◌∙◌, ap, subst, inl, inr}
use Rattle.std.specs.Prelude.{Option, None, Some, Contains, IsSomeAnd, slice_get}
use Rattle.std.specs.List.{AllZip}
use Rattle.std.proofs.lemmas.List.Kept.{AllPairs-from_increasing}
use Rattle.ux_alphabet.specs.Letters.{Letters}
use Rattle.ux_dela.specs.declared.entry.Entry.{Entry}
use Rattle.ux_dict.specs.Content.{AreDifferent, IsEarlier}
use Rattle.ux_dict.specs.Forms.{IsChosen, none, kept, left}
use Rattle.ux_dict.proofs.ContentLemmas.{first_place}
use Rattle.ux_base.proofs.OrderedLists.{place_of, same_members}
use Rattle.ux_tokens.specs.declared.kind.Kind.{Kind}
use Rattle.ux_tokens.specs.declared.kind.Kind.TheVariants.{Word, Space, Other, Sentence, Stop, Tag}
use Rattle.ux_tokens.specs.Tokens.{Token}
use Rattle.ux_lexical_tables.proofs.EqualRowLemmas.{one_own, one_tag}
use Rattle.ux_lexical_tables.proofs.LetterLemmas.{IsSettled, simple_settled}
use Rattle.ux_lexical_tables.specs.Spans.{text_of}
use Rattle.ux_lexical_tables.specs.Tables.{Tables, AreOwnCompound, AreUnknown, IsOwnCompound, IsSimpleForm, with_lasts}
use Rattle.ux_apply.specs.declared.priority.Priority.{Priority}
use Rattle.ux_apply.specs.Applying.{AreApplying, AreFound, AreOfFirst, priorities}
use Rattle.ux_apply.specs.Applied.{AreApplied, AreCompoundUpTo, AreCompounds, AreOfSpan, AreSimpleOf}
use Rattle.ux_apply.proofs.BelongingLemmas.{span_settled}

-- LISTS

-- what is chosen of a list is one list
pub one_chosen : {X : Type 0} {P : X → Type 0} {all x y : List X} → IsChosen P all x →
    IsChosen P all y → x ≡ y
one_chosen none none = refl
one_chosen (kept {x = x} p a) (kept q b) = ap (λ l. x ∷ l) (one_chosen a b)
one_chosen (kept p a) (left not b) = absurd (not p)
one_chosen (left not a) (kept p b) = absurd (not p)
one_chosen (left not a) (left also b) = one_chosen a b

-- no two entries of a list are each earlier than the other
earlier_strict : (listed : List Entry) (x y : Entry) → Contains listed x → Contains listed y →
    IsEarlier listed x y → IsEarlier listed y x → ⊥
earlier_strict listed x y mx my up down =
    let px = place_of listed x mx in
    let py = place_of listed y my in
    let fx = first_place listed x px.0 px.1 in
    let fy = first_place listed y py.0 py.1 in
    let lower = up fx.0 fy.0 fx.1 fy.1 in
    let higher = down fy.0 fx.0 fy.1 fx.1 in
    omega (arith, lower, higher)

-- so the different entries of a list are one list
one_different : (listed x y : List Entry) → AreDifferent listed x → AreDifferent listed y → x ≡ y
one_different listed x y are also =
    same_members (IsEarlier listed) (Contains listed) (earlier_strict listed) x y
    (λ e. (
      λ member. (also.members e).1 ((are.members e).0 member),
      λ member. (are.members e).1 ((also.members e).0 member),
    ))
    (λ e member. (are.members e).0 member) are.ordered also.ordered

-- where a list decides each element of another, it decides that
one_zip : {A B : Type 0} (R : A → B → Type 0) →
    ((a : A) (x y : B) → R a x → R a y → x ≡ y) → (keys : List A) (xs ys : List B) →
    AllZip R keys xs → AllZip R keys ys → xs ≡ ys
one_zip R one [] [] [] h k = refl
one_zip R one [] [] (y ∷ ys) h k = absurd k
one_zip R one [] (x ∷ xs) ys h k = absurd h
one_zip R one (a ∷ keys) [] ys h k = absurd h
one_zip R one (a ∷ keys) (x ∷ xs) [] h k = absurd k
one_zip R one (a ∷ keys) (x ∷ xs) (y ∷ ys) h k =
    ap (λ e. e ∷ xs) (one a x y h.0 k.0) ∙ ap (λ l. y ∷ l) (one_zip R one keys xs ys h.1 k.1)

-- lists of one length with equal elements are equal
by_places : {X : Type 0} (xs ys : List X) → length xs ≡ length ys →
    ((i : ℕ) (x y : X) → slice_get xs i ≡ Some x → slice_get ys i ≡ Some y → x ≡ y) → xs ≡ ys
by_places [] [] len same = refl
by_places [] (y ∷ ys) len same = absurd (omega (arith, len))
by_places (x ∷ xs) [] len same = absurd (omega (arith, len))
by_places (x ∷ xs) (y ∷ ys) len same =
    ap (λ e. e ∷ xs) (same 0 x y refl refl)
    ∙ ap (λ l. y ∷ l) (by_places xs ys (omega (arith, len))
    (λ i a b at also. same (suc i) a b at also))

-- ENTRIES OF A TEXT

module _ (alphabet : Letters) (dics : List (Priority × List Entry)) (text : List ℕ) where
  one_found : (priority : Priority) (x y : List Entry) → AreFound alphabet dics text priority x →
      AreFound alphabet dics text priority y → x ≡ y
  one_found priority x y a b = one_different a.fitting x y a.once
      (subst (λ (l : List Entry). AreDifferent l y) (one_chosen b.fit a.fit) b.once)

  one_of_first : (priorities : List Priority) (x y : List Entry) →
      AreOfFirst alphabet dics text priorities x → AreOfFirst alphabet dics text priorities y → x ≡ y
  one_of_first [] x y a b = a ∙ sym b
  one_of_first (priority ∷ lower) x y (inl a) (inl b) = one_found priority x y a.0 b.0
  one_of_first (priority ∷ lower) x y (inl a) (inr b) =
      absurd (a.1 (one_found priority x [] a.0 b.0))
  one_of_first (priority ∷ lower) x y (inr a) (inl b) =
      absurd (b.1 (one_found priority y [] b.0 a.0))
  one_of_first (priority ∷ lower) x y (inr a) (inr b) = one_of_first lower x y a.1 b.1

  -- a text has one list of entries that apply to it
  pub one_applying : {x y : List Entry} → AreApplying alphabet dics text x →
      AreApplying alphabet dics text y → x ≡ y
  one_applying {x = x} {y = y} a b = one_of_first priorities x y a b

-- ROWS

-- a tag has one row of compound entries
one_own_compound : (alphabet : Letters) (text : List ℕ) (place : ℕ) (x y : List (ℕ × Entry)) →
    IsOwnCompound alphabet text place x → IsOwnCompound alphabet text place y → x ≡ y
one_own_compound alphabet text place x y own same = go (simple_settled alphabet own.entry)
  where
    entries_same : own.entry ≡ same.entry
    entries_same = one_tag text own.entry same.entry own.tag same.tag

    go : IsSettled (IsSimpleForm alphabet own.entry) → x ≡ y
    go (inl simple) = own.letters simple
        ∙ sym (same.letters (subst (IsSimpleForm alphabet) entries_same simple))
    go (inr not) =
        own.others not
        ∙ (ap (λ (e : Entry). (place, e) ∷ []) entries_same
        ∙ sym (same.others
        (λ simple. not (subst (IsSimpleForm alphabet) (sym entries_same) simple))))

-- and another token has none
one_compound : (alphabet : Letters) (kind : Kind) (text : List ℕ) (place : ℕ)
    (x y : List (ℕ × Entry)) → AreOwnCompound alphabet kind text place x →
    AreOwnCompound alphabet kind text place y → x ≡ y
one_compound alphabet Word text place x y a b = a ∙ sym b
one_compound alphabet Space text place x y a b = a ∙ sym b
one_compound alphabet Other text place x y a b = a ∙ sym b
one_compound alphabet Sentence text place x y a b = a ∙ sym b
one_compound alphabet Stop text place x y a b = a ∙ sym b
one_compound alphabet Tag text place x y a b = one_own_compound alphabet text place x y a b

one_of_token : (alphabet : Letters) (place : ℕ) (token : Option Token)
    (x y : List (ℕ × Entry)) →
    IsSomeAnd token (λ token. AreOwnCompound alphabet token.kind token.text place x) →
    IsSomeAnd token (λ token. AreOwnCompound alphabet token.kind token.text place y) → x ≡ y
one_of_token alphabet place None x y a b = absurd a
one_of_token alphabet place (Some token) x y a b =
    one_compound alphabet token.kind token.text place x y a b

module _ (alphabet : Letters) (dics : List (Priority × List Entry)) where
  one_simple : (kind : Kind) (text : List ℕ) (x y : List Entry) →
      AreSimpleOf alphabet dics kind text x → AreSimpleOf alphabet dics kind text y → x ≡ y
  one_simple Word text x y a b = one_applying alphabet dics text a b
  one_simple Space text x y a b = a ∙ sym b
  one_simple Other text x y a b = a ∙ sym b
  one_simple Sentence text x y a b = a ∙ sym b
  one_simple Stop text x y a b = a ∙ sym b
  one_simple Tag text x y a b = one_own alphabet text x y a b

  module _ (tokens : List Token) (first : ℕ) where
    one_of_span : (last : ℕ) (x y : List Entry) → AreOfSpan alphabet dics tokens first last x →
        AreOfSpan alphabet dics tokens first last y → x ≡ y
    one_of_span last x y a b = elim (span_settled tokens first last) [
      | inl is ↦ one_applying alphabet dics (text_of tokens first last) (a.applying is)
          (b.applying is)
      | inr isnt ↦ a.none isnt ∙ sym (b.none isnt)
    ]

    -- a token has one row of compound entries up to a place
    one_row : {end : ℕ} {x y : List (ℕ × Entry)} →
        AreCompoundUpTo alphabet dics tokens first end x →
        AreCompoundUpTo alphabet dics tokens first end y → x ≡ y
    one_row a b =
        let own : a.own ≡ b.own =
        one_of_token alphabet first (slice_get tokens first) a.own b.own a.of_token b.of_token in
        let spans : a.spans ≡ b.spans =
        by_places a.spans b.spans (omega (arith, a.up_to, b.up_to))
        (λ i x y at also. one_of_span (first + 1 + i) x y (a.of_spans i x at) (b.of_spans i y also)) in
        a.row_is ∙ ((λ i. own i ++ with_lasts (first + 1) (spans i)) ∙ sym b.row_is)

  module _ (tokens : List Token) where
    one_compounds : (x y : List (List (ℕ × Entry))) → AreCompounds alphabet dics tokens x →
        AreCompounds alphabet dics tokens y → x ≡ y
    one_compounds x y a b = by_places x y (a.each_token ∙ sym b.each_token)
        (λ i row other at also. one_row tokens i (a.each i row at) (b.each i other also))

    one_unknown : (simple : List (List Entry)) (x y : List ℕ) → AreUnknown tokens simple x →
        AreUnknown tokens simple y → x ≡ y
    one_unknown simple x y a b =
        same_members (λ (m n : ℕ). m < n) (λ (n : ℕ). Unit {0})
        (λ m n _ _ up down. omega (arith, up, down)) x y
        (λ n. (
          λ member. (b.exact n).1 ((a.exact n).0 member),
          λ member. (a.exact n).1 ((b.exact n).0 member),
        ))
        (λ n member. tt) (AllPairs-from_increasing x a.ascending)
        (AllPairs-from_increasing y b.ascending)

    -- a text and dictionaries have one table
    pub one_table : (x y : Tables) → AreApplied alphabet dics tokens x →
        AreApplied alphabet dics tokens y → x ≡ y
    one_table x y a b =
        let simple : x.simple ≡ y.simple =
        one_zip (λ (token : Token) (row : List Entry).
        AreSimpleOf alphabet dics token.kind token.text row)
        (λ token row other h k. one_simple token.kind token.text row other h k) tokens x.simple
        y.simple a.simple b.simple in
        let compounds : x.compounds ≡ y.compounds =
        one_compounds x.compounds y.compounds a.compounds b.compounds in
        let unknown : x.unknown ≡ y.unknown =
        one_unknown y.simple x.unknown y.unknown
        (subst (λ (l : List (List Entry)). AreUnknown tokens l x.unknown) simple a.unknown)
        b.unknown in
        λ i. record { simple = simple i; compounds = compounds i; unknown = unknown i }
