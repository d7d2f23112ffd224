-- The index of states: more buckets, and one more state.
use Rattle.std.proofs.Common.{arith, ◌≡◌, ◌↔◌, ◌⊎◌, inl, inr, ℕ, ◌+◌, ◌<◌, ◌∙◌, List, [], ◌∷◌, ◌++◌, refl, sym, ap, subst, length, get_or}
use Rattle.std.proofs.lemmas.Bool.{cases_lt}
use Rattle.std.proofs.lemmas.List.{get_or_append_left, get_or_at, length-append, map_push}
use Rattle.ux_dawg.specs.declared.state.State.{State}
use Rattle.ux_dawg.specs.declared.index.Index.{Index}
use Rattle.ux_dawg.specs.declared.index.Link.{Link}
use Rattle.ux_dawg.specs.Building.{bare}
use Rattle.ux_dawg.specs.Hash.{hash_of}
use Rattle.ux_dawg.specs.Indexed.{hashes_of, held, link_of, number_at, numbers_of, state_at, AreIndexed, AreLinked, AreMarks, HasSameItems, Holds, IsAdded, IsBegun, IsEmpty, IsSameIndex, IsStored, IsWidened}
use Rattle.ux_dawg.proofs.MarksLemmas.{length-hashes, length-numbers, marks-push}

-- an index without an item is one of any states
pub indexed_empty : (states : List State) (index : Index) → IsEmpty index →
    AreIndexed states index
indexed_empty states index empty =
    let none = empty.none in
    record {
      linked = empty.linked;
      hashes = λ item below. absurd (omega (arith, none, below));
    }

-- there are as many items, where the hashes are the same
pub same_held : (old new : Index) → hashes_of new.links.items ≡ hashes_of old.links.items →
    held new ≡ held old
same_held old new same =
    sym (length-hashes new.links.items) ∙ ap (length {A = ℕ}) same
    ∙ length-hashes old.links.items

module _ (old new : Index) (wide : IsWidened old new) where
  -- an index with the same items in more buckets holds the same numbers
  pub holds_widened : (n : ℕ) → Holds new n ↔ Holds old n
  holds_widened n =
      let many = same_held old new wide.hashes in (
        λ (item, below, is). (
          item,
          subst (λ k. item < k) many below,
          sym (ap (λ l. get_or l item 0) wide.numbers) ∙ is,
        ),
        λ (item, below, is). (
          item,
          subst (λ k. item < k) (sym many) below,
          ap (λ l. get_or l item 0) wide.numbers ∙ is,
        ),
      )

  -- and the same states
  pub indexed_widened : (states : List State) → AreIndexed states old → AreIndexed states new
  indexed_widened states are = record {
    linked = wide.linked;
    hashes = λ item below.
        ap (λ h. get_or h item 0) wide.hashes
        ∙ are.hashes item (subst (λ k. item < k) (same_held old new wide.hashes) below)
        ∙ ap (λ l. hash_of (get_or states (get_or l item 0) bare)) (sym wide.numbers);
  }

module _ (old new : Index) (same : IsSameIndex old new) where
  -- an index with the same marks and items holds the same numbers
  pub holds_same : (n : ℕ) → Holds new n ↔ Holds old n
  holds_same n = (
    subst (λ (l : List Link). (i : ℕ) × (i < length l) × (number_at l i ≡ n)) same.links,
    subst (λ (l : List Link). (i : ℕ) × (i < length l) × (number_at l i ≡ n)) (sym same.links),
  )

  -- and the same states
  pub indexed_same : (states : List State) → AreIndexed states old → AreIndexed states new
  indexed_same states are = record {
    linked = subst (λ l. AreMarks (length l) new.newest.items l) (sym same.links)
        (subst (λ l. AreMarks (held old) l old.links.items) (sym same.newest) are.linked);
    hashes = subst (λ (l : List Link). (item : ℕ) → item < length l →
        get_or (hashes_of l) item 0 ≡ hash_of (state_at states l item)) (sym same.links)
        are.hashes;
  }

-- states behind those of an index change nothing
pub indexed_append : (states more : List State) (index : Index) → AreIndexed states index →
    ((n : ℕ) → Holds index n → n < length states) → AreIndexed (states ++ more) index
indexed_append states more index are within = record {
  linked = are.linked;
  hashes = λ item below.
      let n = number_at index.links.items item in
      are.hashes item below
      ∙ ap hash_of (sym (get_or_append_left states more bare n (within n (item, below, refl))));
}

-- a link that was put last can be put into its bucket next
pub begun_linked : (hash number item : ℕ) (old new : Index) → IsBegun hash number item old new →
    AreLinked (held old) old → AreLinked item new
begun_linked hash number item old new begun are =
    let few = begun.few in
    let long = ap (length {A = Link}) begun.links in
    subst (λ l. AreMarks item l new.links.items) (sym begun.newest)
    (subst (λ l. AreMarks item old.newest.items l) (sym begun.links)
    (subst (λ k. AreMarks k old.newest.items
    (old.links.items ++ link_of hash number ∷ [])) (sym begun.last)
    (marks-push old.newest.items old.links.items (held old) are
    (link_of hash number) (omega arith) (omega (arith, few, long)))))

-- it is the last one
pub begun_last : (hash number item : ℕ) (old new : Index) → IsBegun hash number item old new →
    held new ≡ item + 1
begun_last hash number item old new begun =
    let long = ap (length {A = Link}) begun.links in
    let more = length-append old.links.items (link_of hash number ∷ []) in
    let last = begun.last in
    omega (arith, long, more, last)

-- and then its state was added
pub added : (hash number item : ℕ) (old between new : Index) →
    IsBegun hash number item old between → AreLinked (item + 1) new → HasSameItems between new →
    IsAdded hash number old new
added hash number item old between new begun linked same =
    let each = same_held between new same.hashes ∙ begun_last hash number item old between begun in
    record {
      hashes = same.hashes ∙ ap hashes_of begun.links
          ∙ map_push (λ (l : Link). l.hash) old.links.items (link_of hash number);
      numbers = same.numbers ∙ ap numbers_of begun.links
          ∙ map_push (λ (l : Link). l.number) old.links.items (link_of hash number);
      many = same.many ∙ ap (length {A = ℕ}) begun.newest;
      linked = subst (λ k. AreLinked k new) (sym each) linked;
    }

module _ (hash number : ℕ) (old new : Index) (add : IsAdded hash number old new) where
  -- one more item
  added_held : held new ≡ held old + 1
  added_held =
      let known = length-hashes old.links.items in
      let all = sym (length-hashes new.links.items) ∙ ap (length {A = ℕ}) add.hashes in
      let more = length-append (hashes_of old.links.items) (hash ∷ []) in
      omega (arith, known, all, more)

  -- behind those of before
  added_before : (item : ℕ) → item < held old →
      number_at new.links.items item ≡ number_at old.links.items item
  added_before item below =
      let known = length-numbers old.links.items in
      ap (λ l. get_or l item 0) add.numbers
      ∙ get_or_append_left (numbers_of old.links.items) (number ∷ []) 0 item
      (omega (arith, below, known))

  -- of this number
  added_last : (item : ℕ) → item ≡ held old → number_at new.links.items item ≡ number
  added_last item last =
      ap (λ l. get_or l item 0) add.numbers
      ∙ get_or_at (numbers_of old.links.items) number [] 0 item
      (length-numbers old.links.items ∙ sym last)

  -- so the index holds this number too
  pub holds_added : (n : ℕ) → Holds new n ↔ (Holds old n ⊎ (n ≡ number))
  holds_added n =
      let more = added_held in (
        λ (item, below, is). elim (cases_lt item (held old)) [
          | inl less ↦ inl (item, less, sym (added_before item less) ∙ is)
          | inr past ↦ inr (sym is ∙ added_last item (omega (arith, more, below, past)))
        ],
        λ either. elim either [
          | inl (item, below, is) ↦
              (item, omega (arith, more, below), added_before item below ∙ is)
          | inr is ↦ (held old, omega (arith, more), added_last (held old) refl ∙ sym is)
        ],
      )

  -- and has its state, if those of before are the same
  pub indexed_added : (states states' : List State) → AreIndexed states old →
      hash ≡ hash_of (get_or states' number bare) →
      ((n : ℕ) → Holds old n → get_or states' n bare ≡ get_or states n bare) →
      AreIndexed states' new
  indexed_added states states' are is same = record {
    linked = add.linked;
    hashes = λ item below.
        let known = length-hashes old.links.items in
        let more = added_held in
        ap (λ h. get_or h item 0) add.hashes
        ∙ elim (cases_lt item (held old)) [
          | inl less ↦
              get_or_append_left (hashes_of old.links.items) (hash ∷ []) 0 item
              (omega (arith, less, known))
              ∙ are.hashes item less
              ∙ ap hash_of (sym (same (number_at old.links.items item) (item, less, refl)))
              ∙ ap (λ k. hash_of (get_or states' k bare)) (sym (added_before item less))
          | inr past ↦
              let last : item ≡ held old = omega (arith, more, below, past) in
              get_or_at (hashes_of old.links.items) hash [] 0 item
              (known ∙ sym last)
              ∙ is ∙ ap (λ k. hash_of (get_or states' k bare)) (sym (added_last item last))
        ];
  }

-- a state that was put last, and added to the index
pub stored : (states : List State) (state : State) (hash number : ℕ) (old new : Index)
    (states' : List State) → AreIndexed states old →
    ((n : ℕ) → Holds old n → n < length states) → hash ≡ hash_of state →
    number ≡ length states → IsAdded hash number old new → states' ≡ states ++ state ∷ [] →
    IsStored state number states states' old new
stored states state hash number old new states' are within is last add put =
    let here = get_or_at states state [] bare number (sym last) in
    record {
      put = put;
      indexed = subst (λ (l : List State). AreIndexed l new) (sym put)
          (indexed_added hash number old new add states (states ++ state ∷ []) are
          (is ∙ ap hash_of (sym here))
          (λ n held. get_or_append_left states (state ∷ []) bare n (within n held)));
      last = last;
      holds = holds_added hash number old new add;
    }
