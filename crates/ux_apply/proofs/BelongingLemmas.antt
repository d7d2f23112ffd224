-- The tables that the dictionaries give for a text belong to it.
use Rattle.std.proofs.Common.{arith, ◌≡◌, ◌⊎◌, ℕ, zero, suc, ◌+◌, ◌<◌, ◌≤◌, List, [], ◌∷◌, ◌++◌, append-nil, append_assoc, length, map, refl, sym, ◌∙◌, ap, subst, inl, inr}
use Rattle.std.specs.Prelude.{Option, Some, None, All, AllPairs, IsSomeAnd, slice_get}
use Rattle.std.proofs.lemmas.List.Elements.{All-append, All-contains, All-map, All-weaker}
use Rattle.std.proofs.lemmas.Option.{same_Some}
use Rattle.ux_alphabet.specs.Letters.{Letters}
use Rattle.ux_dela.specs.Sound.{IsSound}
use Rattle.ux_dela.specs.declared.entry.Entry.{Entry}
use Rattle.ux_tokens.specs.declared.kind.Kind.{Kind}
use Rattle.ux_tokens.specs.declared.kind.Kind.TheVariants.{Word, Space, Other, Sentence, Stop, Tag}
use Rattle.ux_tokens.specs.Tokens.{Token}
use Rattle.ux_lexical_tables.proofs.LetterLemmas.{IsSettled, settled_below, settled_implies, settled_le, simple_settled}
use Rattle.ux_lexical_tables.specs.Belonging.{Belongs, MayHaveSimple, StandsOn}
use Rattle.ux_lexical_tables.specs.Spans.{IsSpan, MayBound, MayStand}
use Rattle.ux_lexical_tables.specs.Tables.{Tables, AreOwnCompound, IsOwnCompound, IsOwnSimple, IsSimpleForm, with_lasts}
use Rattle.ux_apply.specs.declared.priority.Priority.{Priority}
use Rattle.ux_apply.specs.Applying.{AreApplying, AreOfFirst, priorities}
use Rattle.ux_apply.specs.Applied.{AreApplied, AreCompoundUpTo, AreOfSpan, AreSimpleOf}
use Rattle.ux_apply.proofs.CompoundLemmas.{marked, with_lasts-none}
use Rattle.ux_apply.proofs.PairsLemmas.{pairs_append, pairs_map, pairs_short}
use Rattle.ux_apply.proofs.ZipLemmas.{zip-at, zip-back, zip-length}

-- whether tokens are a span can be told
settled_some : (P : Kind → Type 0) → ((kind : Kind) → IsSettled (P kind)) → (o : Option Token) →
    IsSettled (IsSomeAnd o (λ token. P token.kind))
settled_some P settled None = inr (λ is. is)
settled_some P settled (Some token) = settled token.kind

bound_settled : (kind : Kind) → IsSettled (MayBound kind)
bound_settled Word = inl tt
bound_settled Space = inr (λ may. may)
bound_settled Other = inl tt
bound_settled Sentence = inr (λ may. may)
bound_settled Stop = inr (λ may. may)
bound_settled Tag = inr (λ may. may)

stand_settled : (kind : Kind) → IsSettled (MayStand kind)
stand_settled Word = inl tt
stand_settled Space = inl tt
stand_settled Other = inl tt
stand_settled Sentence = inr (λ may. may)
stand_settled Stop = inr (λ may. may)
stand_settled Tag = inr (λ may. may)

module _ (tokens : List Token) (first last : ℕ) where
  abbrev Bounds : ℕ → Type 0
  Bounds place = IsSomeAnd (slice_get tokens place) (λ token. MayBound token.kind)

  abbrev Inside : ℕ → Type 0
  Inside i = first ≤ i → IsSomeAnd (slice_get tokens i) (λ token. MayStand token.kind)

  pub span_settled : IsSettled (IsSpan tokens first last)
  span_settled =
      go (settled_le first last) (settled_some MayBound bound_settled (slice_get tokens first))
      (settled_some MayBound bound_settled (slice_get tokens last))
      (settled_below Inside
      (λ i. settled_implies (first ≤ i)
      (IsSomeAnd (slice_get tokens i) (λ token. MayStand token.kind)) (settled_le first i)
      (settled_some MayStand stand_settled (slice_get tokens i))) (last + 1))
    where
      go : IsSettled (first ≤ last) → IsSettled (Bounds first) → IsSettled (Bounds last) →
          IsSettled ((i : ℕ) → i < last + 1 → Inside i) → IsSettled (IsSpan tokens first last)
      go (inr isnt) b e i = inr (λ span. isnt span.in_order)
      go (inl le) (inr isnt) e i = inr (λ span. isnt span.begins)
      go (inl le) (inl b) (inr isnt) i = inr (λ span. isnt span.ends)
      go (inl le) (inl b) (inl e) (inr isnt) =
          inr (λ span. isnt (λ i lt from. span.inside i from (omega (arith, lt))))
      go (inl le) (inl b) (inl e) (inl all) =
          inl (record {
            in_order = le;
            begins = b;
            ends = e;
            inside = λ i from to. all i (omega (arith, to)) from;
          })

-- entries that apply stand once
applying_once : (alphabet : Letters) (dics : List (Priority × List Entry)) (text : List ℕ)
    (row : List Entry) → AreApplying alphabet dics text row → AllPairs (λ a b. a ≡ b → ⊥) row
applying_once alphabet dics text row are = go priorities are
  where
    go : (priorities : List Priority) → AreOfFirst alphabet dics text priorities row →
        AllPairs (λ a b. a ≡ b → ⊥) row
    go [] none =
        pairs_short (λ a b. a ≡ b → ⊥) row (omega (arith, ap (λ (l : List Entry). length l) none))
    go (priority ∷ lower) (inl found) = found.0.once.once
    go (priority ∷ lower) (inr neither) = go lower neither.1

-- an own entry stands alone
own_short : (alphabet : Letters) (text : List ℕ) (row : List Entry) →
    IsOwnSimple alphabet text row → length row < 2
own_short alphabet text row own = go (simple_settled alphabet own.entry)
  where
    go : IsSettled (IsSimpleForm alphabet own.entry) → length row < 2
    go (inl simple) = omega (arith, ap (λ (l : List Entry). length l) (own.letters simple))
    go (inr not) = omega (arith, ap (λ (l : List Entry). length l) (own.others not))

-- each simple entry of a token stands once
simple_once : (alphabet : Letters) (dics : List (Priority × List Entry)) (kind : Kind)
    (text : List ℕ) (row : List Entry) → AreSimpleOf alphabet dics kind text row →
    AllPairs (λ a b. a ≡ b → ⊥) row
simple_once alphabet dics kind text row are = go kind are
  where
    nothing : row ≡ [] → AllPairs (λ a b. a ≡ b → ⊥) row
    nothing none =
        pairs_short (λ a b. a ≡ b → ⊥) row (omega (arith, ap (λ (l : List Entry). length l) none))

    go : (kind : Kind) → AreSimpleOf alphabet dics kind text row → AllPairs (λ a b. a ≡ b → ⊥) row
    go Word are = applying_once alphabet dics text row are
    go Space none = nothing none
    go Other none = nothing none
    go Sentence none = nothing none
    go Stop none = nothing none
    go Tag own = pairs_short (λ a b. a ≡ b → ⊥) row (own_short alphabet text row own)

-- only words and tags have simple entries
simple_words : (alphabet : Letters) (dics : List (Priority × List Entry)) (kind : Kind)
    (text : List ℕ) (row : List Entry) → AreSimpleOf alphabet dics kind text row →
    MayHaveSimple kind ⊎ (row ≡ [])
simple_words alphabet dics Word text row are = inl tt
simple_words alphabet dics Space text row are = inr are
simple_words alphabet dics Other text row are = inr are
simple_words alphabet dics Sentence text row are = inr are
simple_words alphabet dics Stop text row are = inr are
simple_words alphabet dics Tag text row are = inl tt

abbrev Differs : (a b : ℕ × Entry) → Type 0
Differs a b = a ≡ b → ⊥

abbrev NotBefore : (a b : ℕ × Entry) → Type 0
NotBefore a b = b.0 < a.0 → ⊥

-- the members of a row up to a place: where they stand, each once, by last token
record AreMembers (tokens : List Token) (first end : ℕ) (row : List (ℕ × Entry)) : Type 0 where
  above : first < end
  each : All (λ member. (member.0 < end) × StandsOn tokens first member.0) row
  once : AllPairs Differs row
  ordered : AllPairs NotBefore row

module _ (alphabet : Letters) (dics : List (Priority × List Entry)) (tokens : List Token)
    (first : ℕ) where
  no_members : (row : List (ℕ × Entry)) → row ≡ [] → AreMembers tokens first (first + 1) row
  no_members row none =
      let short = ap (λ (l : List (ℕ × Entry)). length l) none in record {
        above = omega arith;
        each = λ k d within. absurd (omega (arith, short, within));
        once = pairs_short Differs row (omega (arith, short));
        ordered = pairs_short NotBefore row (omega (arith, short));
      }

  own_members : (row : List (ℕ × Entry)) (token : Token) → slice_get tokens first ≡ Some token →
      token.kind ≡ Tag → IsOwnCompound alphabet token.text first row →
      AreMembers tokens first (first + 1) row
  own_members row token at tag own = go (simple_settled alphabet own.entry)
    where
      go : IsSettled (IsSimpleForm alphabet own.entry) → AreMembers tokens first (first + 1) row
      go (inl simple) = no_members row (own.letters simple)
      go (inr not) =
          let is = own.others not in
          let short = ap (λ (l : List (ℕ × Entry)). length l) is in record {
            above = omega arith;
            each = subst
                (λ (l : List (ℕ × Entry)).
                All (λ member. (member.0 < first + 1) × StandsOn tokens first member.0) l) (sym is)
                (one (omega arith) (inr (refl, (token, at, tag))));
            once = pairs_short Differs row (omega (arith, short));
            ordered = pairs_short NotBefore row (omega (arith, short));
          }
        where
          one : first < first + 1 → StandsOn tokens first first →
              All (λ (member : ℕ × Entry). (member.0 < first + 1) × StandsOn tokens first member.0)
              ((first, own.entry) ∷ [])
          one lt stands zero d within = (lt, stands)
          one lt stands (suc k) d within = absurd (omega (arith, within))

  start_members : (row : List (ℕ × Entry)) (o : Option Token) → slice_get tokens first ≡ o →
      IsSomeAnd o (λ token. AreOwnCompound alphabet token.kind token.text first row) →
      AreMembers tokens first (first + 1) row
  start_members row None at own = absurd own
  start_members row (Some token) at own = go token.kind refl own
    where
      go : (kind : Kind) → token.kind ≡ kind → AreOwnCompound alphabet kind token.text first row →
          AreMembers tokens first (first + 1) row
      go Word is none = no_members row none
      go Space is none = no_members row none
      go Other is none = no_members row none
      go Sentence is none = no_members row none
      go Stop is none = no_members row none
      go Tag is own = own_members row token at is own

  more_members : (last : ℕ) (row : List (ℕ × Entry)) (found : List Entry) →
      AreMembers tokens first last row → AreOfSpan alphabet dics tokens first last found →
      AreMembers tokens first (last + 1) (row ++ map (λ entry. (last, entry)) found)
  more_members last row found before of = go (span_settled tokens first last)
    where
      longer : All (λ member. (member.0 < last + 1) × StandsOn tokens first member.0) row
      longer =
          All-weaker (λ (m : ℕ × Entry). (m.0 < last) × StandsOn tokens first m.0)
          (λ (m : ℕ × Entry). (m.0 < last + 1) × StandsOn tokens first m.0)
          (λ m is. (omega (arith, is.0), is.1)) row before.each

      go : IsSettled (IsSpan tokens first last) →
          AreMembers tokens first (last + 1) (row ++ map (λ entry. (last, entry)) found)
      go (inr isnt) =
          let none = of.none isnt in
          let same : row ++ map (λ (entry : Entry). (last, entry)) found ≡ row =
          ap (λ (l : List Entry). row ++ map (λ entry. (last, entry)) l) none ∙ append-nil row in
          subst (AreMembers tokens first (last + 1)) (sym same) (record {
            above = omega (arith, before.above);
            each = longer;
            once = before.once;
            ordered = before.ordered;
          })
      go (inl span) =
          let mark : Entry → ℕ × Entry = λ entry. (last, entry) in
          let IsLast : ℕ × Entry → Type 0 = λ m. m.0 ≡ last in
          let lasts : All IsLast (map mark found) =
          All-map IsLast mark found (λ k d within. refl) in
          let apart : AllPairs (λ a b. a ≡ b → ⊥) found =
          applying_once alphabet dics _ found (of.applying span) in
          let across : (R : (a b : ℕ × Entry) → Type 0) →
          ((a b : ℕ × Entry) → a.0 < last → b.0 ≡ last → R a b) →
          All (λ a. All (R a) (map mark found)) row =
          λ R means. All-weaker (λ (m : ℕ × Entry). (m.0 < last) × StandsOn tokens first m.0)
          (λ a. All (R a) (map mark found))
          (λ a is. All-weaker IsLast (R a) (λ b same. means a b is.0 same) (map mark found) lasts)
          row before.each in record {
            above = omega (arith, before.above);
            each = All-append (λ (m : ℕ × Entry). (m.0 < last + 1) × StandsOn tokens first m.0) row
                (map mark found) longer
                (All-weaker IsLast
                (λ (m : ℕ × Entry). (m.0 < last + 1) × StandsOn tokens first m.0)
                (λ m same. (
                  omega (arith, same),
                  subst (λ (k : ℕ). StandsOn tokens first k) (sym same)
                      (inl (before.above, span)),
                )) (map mark found) lasts);
            once = pairs_append Differs row (map mark found) before.once
                (pairs_map (λ a b. a ≡ b → ⊥) Differs mark
                (λ x y differ same. differ (ap (λ (m : ℕ × Entry). m.1) same)) found apart)
                (across Differs (λ a b below is same.
                let one = ap (λ (m : ℕ × Entry). m.0) same in omega (arith, below, is, one)));
            ordered = pairs_append NotBefore row (map mark found) before.ordered
                (pairs_map (λ a b. a ≡ b → ⊥) NotBefore mark
                (λ x y differ less. omega (arith, less)) found apart)
                (across NotBefore (λ a b below is less. omega (arith, below, is, less)));
          }

  -- the members of the spans with these last tokens stand behind
  spans_members : (spans : List (List Entry)) (last : ℕ) (row : List (ℕ × Entry)) →
      AreMembers tokens first last row →
      ((i : ℕ) (found : List Entry) → slice_get spans i ≡ Some found →
      AreOfSpan alphabet dics tokens first (last + i) found) →
      AreMembers tokens first (last + length spans) (row ++ with_lasts last spans)
  spans_members [] last row before of =
      let end : last ≡ last + 0 = omega arith in
      subst (λ (n : ℕ). AreMembers tokens first n (row ++ [])) end
      (subst (AreMembers tokens first last) (sym (append-nil row)) before)
  spans_members (found ∷ spans) last row before of =
      let at : last + 0 ≡ last = omega arith in
      let end : last + 1 + length spans ≡ last + length (found ∷ spans) = omega arith in
      let here = more_members last row found before
      (subst (λ (n : ℕ). AreOfSpan alphabet dics tokens first n found) at (of 0 found refl)) in
      let all = spans_members spans (last + 1) (row ++ marked last found) here
      (λ i later there.
      let place : last + suc i ≡ last + 1 + i = omega arith in
      subst (λ (n : ℕ). AreOfSpan alphabet dics tokens first n later) place
      (of (suc i) later there)) in
      subst (λ (n : ℕ). AreMembers tokens first n
      (row ++ (marked last found ++ with_lasts (last + 1) spans))) end
      (subst (AreMembers tokens first (last + 1 + length spans))
      (append_assoc row (marked last found) (with_lasts (last + 1) spans)) all)

  -- the members of a row
  members : {end : ℕ} {row : List (ℕ × Entry)} →
      AreCompoundUpTo alphabet dics tokens first end row → AreMembers tokens first end row
  members {row = row} are =
      subst (λ (n : ℕ). AreMembers tokens first n row) are.up_to
      (subst (AreMembers tokens first (first + 1 + length are.spans)) (sym are.row_is)
      (spans_members are.spans (first + 1) are.own
      (start_members are.own (slice_get tokens first) refl are.of_token) are.of_spans))

  -- a tag's row has its own entry alone
  own_row_of : {end : ℕ} {row : List (ℕ × Entry)} (token : Token) →
      slice_get tokens first ≡ Some token → token.kind ≡ Tag →
      AreCompoundUpTo alphabet dics tokens first end row →
      IsOwnCompound alphabet token.text first row
  own_row_of {row = row} token at tag are =
      let own : IsOwnCompound alphabet token.text first are.own =
      subst (λ (kind : Kind). AreOwnCompound alphabet kind token.text first are.own) tag
      (subst
      (λ (o : Option Token). IsSomeAnd o (λ t. AreOwnCompound alphabet t.kind t.text first are.own))
      at are.of_token) in
      let none = with_lasts-none (first + 1) are.spans
      (λ i found there. (are.of_spans i found there).none (λ span. no_bound span.begins)) in
      let same : are.own ≡ row =
      sym (append-nil are.own)
      ∙ (ap (λ (l : List (ℕ × Entry)). are.own ++ l) (sym none) ∙ sym are.row_is) in
      subst (IsOwnCompound alphabet token.text first) same own
    where
      no_bound : IsSomeAnd (slice_get tokens first) (λ t. MayBound t.kind) → ⊥
      no_bound may =
          subst MayBound tag
          (subst (λ (o : Option Token). IsSomeAnd o (λ t. MayBound t.kind)) at may)

-- what is known besides of the tables of a text: equal words have equal rows, and all entries are
-- sound
pub record AreKeptWell (tokens : List Token) (tables : Tables) : Type 0 where
  pub equal : (i j : ℕ) (token : Token) (row other : List Entry) → token.kind ≡ Word →
      slice_get tokens i ≡ Some token → slice_get tokens j ≡ Some token →
      slice_get tables.simple i ≡ Some row → slice_get tables.simple j ≡ Some other → row ≡ other
  pub sound_simple : (i : ℕ) (row : List Entry) → slice_get tables.simple i ≡ Some row →
      All IsSound row
  pub sound_compounds : (i : ℕ) (row : List (ℕ × Entry)) →
      slice_get tables.compounds i ≡ Some row → All (λ member. IsSound member.1) row

-- so the tables belong to the text
pub applied_belongs : (alphabet : Letters) (dics : List (Priority × List Entry))
    (tokens : List Token) (tables : Tables) → AreApplied alphabet dics tokens tables →
    AreKeptWell tokens tables → Belongs alphabet tokens tables
applied_belongs alphabet dics tokens tables are well = record {
  simple_rows = sym (zip-length _ tokens tables.simple are.simple);
  compound_rows = are.compounds.each_token;
  equal = well.equal;
  words = λ i token row at there.
      simple_words alphabet dics token.kind token.text row (of_token i token row at there);
  sound_simple = well.sound_simple;
  sound_compounds = well.sound_compounds;
  once_simple = λ i row there.
      let token = zip-back _ tokens tables.simple i row are.simple there in
      simple_once alphabet dics token.0.kind token.0.text row token.2;
  once_compounds = λ i row there. (row_members i row there).once;
  spans = λ i last entry row there has.
      (All-contains (λ (m : ℕ × Entry). (m.0 < length tokens) × StandsOn tokens i m.0) row
      (last, entry) (row_members i row there).each has).1;
  in_order = λ i row there. (row_members i row there).ordered;
  own_simple = λ i token row at tag there.
      subst (λ (kind : Kind). AreSimpleOf alphabet dics kind token.text row) tag
      (of_token i token row at there);
  own_compound = λ i token row at tag there.
      own_row_of alphabet dics tokens i token at tag (are.compounds.each i row there);
}
  where
    row_members : (i : ℕ) (row : List (ℕ × Entry)) → slice_get tables.compounds i ≡ Some row →
        AreMembers tokens i (length tokens) row
    row_members i row there = members alphabet dics tokens i (are.compounds.each i row there)

    of_token : (i : ℕ) (token : Token) (row : List Entry) → slice_get tokens i ≡ Some token →
        slice_get tables.simple i ≡ Some row → AreSimpleOf alphabet dics token.kind token.text row
    of_token i token row at there =
        let found = zip-at _ tokens tables.simple i token are.simple at in
        subst (AreSimpleOf alphabet dics token.kind token.text)
        (same_Some found.0 row (sym found.1 ∙ there)) found.2
