-- Sentences that are searched some at a time.
use Rattle.std.proofs.Common.{arith, ◌≡◌, inl, inr, ℕ, zero, suc, ◌+◌, ◌-◌, ◌<◌, ◌≤◌, List, [], ◌∷◌, ◌++◌, length, refl, sym, ap, ◌∙◌, subst, append_assoc, drop, get_or, codes, take}
use Rattle.std.specs.Prelude.{All, AllPairs, Contains}
use Rattle.std.specs.List.{AllZip, slice_range}
use Rattle.std.proofs.lemmas.List.{take_all}
use Rattle.std.proofs.lemmas.List.Elements.{All-append, All-drop, All-head, All-tail, All-take, Contains-append_left, Contains-append_right, Contains-append_cases}
use Rattle.ux_alphabet.specs.Letters.{Letters}
use Rattle.ux_base.proofs.Lists.{first_or_later, nothing_in}
use Rattle.ux_net.specs.Words.{Grammar}
use Rattle.ux_reading_table.specs.Numbered.{IsNumberedBy}
use Rattle.ux_reading_table.specs.declared.numbered.NumberedSentence.{NumberedSentence}
use Rattle.ux_sentence.specs.Valid.{AreNumbered, AreValid, IsWritable}
use Rattle.ux_sentence.specs.Written.{ended}
use Rattle.ux_sentence.specs.declared.sentence.Sentence.{Sentence}
use Rattle.ux_tfst_locate.specs.Sought.{AreTold}
use Rattle.ux_tfst_locate.specs.Spans.{AreSpans, IsSpanIn, Precedes}
use Rattle.ux_tfst_locate.specs.declared.span.Span.{Span}
use Rattle.ux_cmd_tfind.specs.Lines.{HasSpans, found_text, span_lines}
use Rattle.ux_cmd_tfind.proofs.PrintingLemmas.{lines_behind}

-- sentences behind others follow each other by number
numbers_behind : (done pending : List Sentence) (first next : ℕ) → next ≡ first + length done →
    AreNumbered first (done ++ pending) → AreNumbered next pending
numbers_behind [] pending first next is are =
    let same : first ≡ next = omega (arith, is) in
    subst (λ n. AreNumbered n pending) same are
numbers_behind (sentence ∷ done) pending first next is (here, are) =
    numbers_behind done pending (first + 1) next (omega (arith, is)) are

-- the numbers of sentences lie where they are counted
number_low : (sentences : List Sentence) (first : ℕ) → AreNumbered first sentences →
    (one : Sentence) → Contains sentences one → first ≤ one.number
number_low [] first are one has = absurd (nothing_in has)
number_low (sentence ∷ sentences) first (here, are) one has = elim (first_or_later sentence sentences one has) [
  | inl same ↦ let is = ap (λ (s : Sentence). s.number) same in omega (arith, is, here)
  | inr later ↦ let low = number_low sentences (first + 1) are one later in omega (arith, low)
]

number_high : (sentences : List Sentence) (first next : ℕ) → next ≡ first + length sentences →
    AreNumbered first sentences → (one : Sentence) → Contains sentences one → one.number < next
number_high [] first next is are one has = absurd (nothing_in has)
number_high (sentence ∷ sentences) first next is (here, are) one has = elim (first_or_later sentence sentences one has) [
  | inl same ↦ let at = ap (λ (s : Sentence). s.number) same in omega (arith, is, at, here)
  | inr later ↦ number_high sentences (first + 1) next (omega (arith, is)) are one later
]

numbers_before : (done pending : List Sentence) (first : ℕ) → AreNumbered first (done ++ pending) →
    AreNumbered first done
numbers_before [] pending first are = tt
numbers_before (sentence ∷ done) pending first (here, are) =
    (here, numbers_before done pending (first + 1) are)

-- the first ones of two lists, and the others
zip_take : {A B : Type 0} (R : A → B → Type 0) (n : ℕ) (xs : List A) (ys : List B) → AllZip R xs ys →
    AllZip R (take n xs) (take n ys)
zip_take R zero xs ys all = tt
zip_take R (suc n) [] [] all = tt
zip_take R (suc n) [] (y ∷ ys) all = absurd all
zip_take R (suc n) (x ∷ xs) [] all = absurd all
zip_take R (suc n) (x ∷ xs) (y ∷ ys) (one, all) = (one, zip_take R n xs ys all)

zip_drop : {A B : Type 0} (R : A → B → Type 0) (n : ℕ) (xs : List A) (ys : List B) → AllZip R xs ys →
    AllZip R (drop n xs) (drop n ys)
zip_drop R zero xs ys all = all
zip_drop R (suc n) [] [] all = tt
zip_drop R (suc n) [] (y ∷ ys) all = absurd all
zip_drop R (suc n) (x ∷ xs) [] all = absurd all
zip_drop R (suc n) (x ∷ xs) (y ∷ ys) (one, all) = zip_drop R n xs ys all

-- the first ones of a list, and then some of the others
take_split : {A : Type 0} (a b k : ℕ) → k ≡ a + b → (xs : List A) →
    take k xs ≡ take a xs ++ take b (drop a xs)
take_split zero b k is xs =
    let same : k ≡ b = omega (arith, is) in
    ap (λ n. take n xs) same
take_split (suc a) zero k is [] =
    let same : k ≡ suc a = omega (arith, is) in
    ap (λ n. take n []) same
take_split (suc a) (suc b) k is [] =
    let same : k ≡ suc (a + suc b) = omega (arith, is) in
    ap (λ n. take n []) same
take_split (suc a) b k is (x ∷ xs) =
    let same : k ≡ suc (a + b) = omega (arith, is) in
    ap (λ n. take n (x ∷ xs)) same ∙ ap (λ l. x ∷ l) (take_split a b (a + b) refl xs)

-- the first ones follow each other by number, too
numbers_taken : (n first : ℕ) (sentences : List Sentence) → AreNumbered first sentences →
    AreNumbered first (take n sentences)
numbers_taken zero first sentences are = tt
numbers_taken (suc n) first [] are = tt
numbers_taken (suc n) first (sentence ∷ sentences) (here, are) =
    (here, numbers_taken n (first + 1) sentences are)

-- two lists, one behind the other
module _ {X : Type 0} (R : X → X → Type 0) where
  pairs_cons : (x : X) (xs : List X) → All (R x) xs → AllPairs R xs → AllPairs R (x ∷ xs)
  pairs_cons x xs first rest zero zero d before within = absurd (omega (arith, before))
  pairs_cons x xs first rest (suc i) zero d before within = absurd (omega (arith, before))
  pairs_cons x xs first rest zero (suc j) d before within = first j d (omega (arith, within))
  pairs_cons x xs first rest (suc i) (suc j) d before within =
      rest i j d (omega (arith, before)) (omega (arith, within))

  pairs_append : (xs ys : List X) → AllPairs R xs → AllPairs R ys →
      All (λ x. All (R x) ys) xs → AllPairs R (xs ++ ys)
  pairs_append [] ys front back across = back
  pairs_append (x ∷ xs) ys front back across =
      pairs_cons x (xs ++ ys)
      (All-append (R x) xs ys
      (λ k d within. front zero (suc k) d (omega arith) (omega (arith, within)))
      (All-head (λ y. All (R y) ys) x xs across))
      (pairs_append xs ys
      (λ i j d before within. front (suc i) (suc j) d (omega (arith, before)) (omega (arith, within)))
      back (All-tail (λ y. All (R y) ys) x xs across))

module _ (letters : Letters) (grammar : Grammar) where
  -- the spans of sentences that follow others by number come behind theirs
  spans_behind : (done pending : List Sentence) (spans more : List Span) (first : ℕ) →
      AreNumbered first (done ++ pending) → AreSpans letters grammar done spans →
      AreSpans letters grammar pending more →
      AreSpans letters grammar (done ++ pending) (spans ++ more)
  spans_behind done pending spans more first numbered are also = record {
    ascend = pairs_append Precedes spans more are.ascend also.ascend
        (λ i d within j e inside. across (get_or spans i d) (get_or more j e)
        ((are.exact (get_or spans i d)).0 (i, within, again spans i d (get_or spans i d) within))
        ((also.exact (get_or more j e)).0 (j, inside, again more j e (get_or more j e) inside)));
    exact = λ span. (
      λ has. elim (Contains-append_cases spans more span has) [
        | inl here ↦
            let in_done = (are.exact span).0 here in
            (in_done.0, Contains-append_left done pending in_done.0 in_done.1, in_done.2, in_done.3)
        | inr here ↦
            let in_pending = (also.exact span).0 here in
            (in_pending.0, Contains-append_right done pending in_pending.0 in_pending.1, in_pending.2, in_pending.3)
      ],
      λ is. elim (Contains-append_cases done pending is.0 is.1) [
        | inl here ↦
            Contains-append_left spans more span ((are.exact span).1 (is.0, here, is.2, is.3))
        | inr here ↦
            Contains-append_right spans more span ((also.exact span).1 (is.0, here, is.2, is.3))
      ],
    );
  }
    where
      -- an element is the same whatever stands for none
      again : (xs : List Span) (i : ℕ) (d e : Span) → i < length xs → get_or xs i e ≡ get_or xs i d
      again [] i d e within = absurd (omega (arith, within))
      again (x ∷ xs) zero d e within = refl
      again (x ∷ xs) (suc i) d e within = again xs i d e (omega (arith, within))

      across : (one other : Span) → IsSpanIn letters grammar done one →
          IsSpanIn letters grammar pending other → Precedes one other
      across one other (s, in_done, number, rest) (t, in_pending, also_number, also_rest) =
          let high = number_high done first (first + length done) refl
          (numbers_before done pending first numbered) s in_done in
          let low = number_low pending (first + length done)
          (numbers_behind done pending first (first + length done) refl numbered) t in_pending in
          inl (omega (arith, high, low, number, also_number))

  -- none has spans
  none_found : AreSpans letters grammar [] []
  none_found = record {
    ascend = λ i j d before within. absurd (omega (arith, within));
    exact = λ span. (λ has. absurd (nothing_in has), λ is. absurd (nothing_in is.1));
  }

  module _ (sentences : List Sentence) where
    -- the spans of the first sentences are written
    pub record AreFoundTo (first : ℕ) (answer : List ℕ) : Type 0 where
      pub spans : List Span
      pub are : AreSpans letters grammar (take first sentences) spans
      pub is : answer ≡ found_text spans

    pub found_none : (answer : List ℕ) → answer ≡ found_text [] → AreFoundTo 0 answer
    found_none answer is = record { spans = []; are = none_found; is = is }

    -- all are, behind the last one
    pub found_all : (first : ℕ) (answer : List ℕ) → length sentences ≤ first →
        AreFoundTo first answer → HasSpans letters grammar sentences answer
    found_all first answer past found = record {
      spans = found.spans;
      are = subst (λ (l : List Sentence). AreSpans letters grammar l found.spans)
          (take_all first sentences past) found.are;
      is = found.is;
    }

    -- those from a place up to another one stand for their numbered ones
    pub told_between : (valid : AreValid sentences) (texts : List (List ℕ))
        (numbered : List NumberedSentence) → AllZip (IsNumberedBy texts) sentences numbered →
        (first next : ℕ) → first ≤ next →
        AreTold texts (slice_range sentences first next) (slice_range numbered first next)
    told_between valid texts numbered told first next up =
        let front = take first sentences in
        let pending = slice_range sentences first next in
        let e : next ≡ first + (next - first) = omega (arith, up) in
        let whole : take next sentences ≡ front ++ pending =
        take_split first (next - first) next e sentences in
        record {
          first = 1 + length front;
          in_order = numbers_behind front pending 1 (1 + length front) refl
              (subst (AreNumbered 1) whole (numbers_taken next 1 sentences valid.numbered));
          writable = All-take IsWritable (next - first) (drop first sentences)
              (All-drop IsWritable first sentences valid.writable);
          told = zip_take (IsNumberedBy texts) (next - first) (drop first sentences)
              (drop first numbered) (zip_drop (IsNumberedBy texts) first sentences numbered told);
        }

    -- their spans are written, too
    pub found_more : AreValid sentences → (first next : ℕ) → first ≤ next → (old new : List ℕ) →
        AreFoundTo first old → (more : List Span) →
        AreSpans letters grammar (slice_range sentences first next) more →
        new ≡ old ++ span_lines more → AreFoundTo next new
    found_more valid first next up old new found more are is =
        let front = take first sentences in
        let pending = slice_range sentences first next in
        let e : next ≡ first + (next - first) = omega (arith, up) in
        let whole : take next sentences ≡ front ++ pending =
        take_split first (next - first) next e sentences in
        record {
          spans = found.spans ++ more;
          are = subst (λ (l : List Sentence). AreSpans letters grammar l (found.spans ++ more))
              (sym whole) (spans_behind front pending found.spans more 1
              (subst (AreNumbered 1) whole (numbers_taken next 1 sentences valid.numbered))
              found.are are);
          is = is ∙ (ap (λ (l : List ℕ). l ++ span_lines more) found.is
              ∙ (append_assoc (ended (codes "#T")) (span_lines found.spans) (span_lines more)
              ∙ ap (λ (l : List ℕ). ended (codes "#T") ++ l)
              (sym (lines_behind found.spans more))));
        }
