-- An index of parts is made part by part, and the next part is looked up in it.
use Rattle.std.proofs.Common.{arith, ◌≡◌, ℕ, ◌+◌, ◌-◌, ◌*◌, ◌<◌, ◌≤◌, List, [], ◌∷◌, ◌++◌, inl, inr, sym, ap, subst, ◌∙◌, true, false, ltb, length, get_or}
use Rattle.std.specs.Prelude.{Contains, IfNone, IfSome, None, Option, Some, slice_get}
use Rattle.std.specs.List.Sorted.{IsNonDecreasing, IsNonDecreasingBy, IsPartitionPoint, IsPermutation}
use Rattle.std.proofs.lemmas.Bool.{false≢true, ltb-true, ltb-false}
use Rattle.std.proofs.lemmas.List.{get_or_default}
use Rattle.std.proofs.lemmas.List.Elements.{Contains-append_left, Contains-get_or, Contains-push, Contains-push_cases}
use Rattle.std.proofs.lemmas.List.Sorted.{Contains-permutation, IsNonDecreasingBy-push}
use Rattle.std.proofs.lemmas.Option.{slice_get_within}
use Rattle.ux_alphabet.specs.Letters.{Letters}
use Rattle.ux_net.specs.declared.net_graph.NetGraph.{NetGraph}
use Rattle.ux_net.specs.declared.state.Edge.{Edge}
use Rattle.ux_net.specs.declared.state.State.{State}
use Rattle.ux_net.specs.Nets.{states_of}
use Rattle.ux_base.proofs.Lists.{less_or}
use Rattle.ux_parts.specs.declared.part.Part.{Part}
use Rattle.ux_parts.specs.declared.parts.Parts.{Parts}
use Rattle.ux_walk.specs.Literals.{IsLiteral}
use Rattle.ux_text_chart.specs.PartIndexes.{AreIndexed, AreListed, IsIndexed, IsLiteralState, IsNoLater, IsPartIndex, begins_at, order_of}
use Rattle.ux_text_chart.specs.declared.part_index.Beginning.{Beginning}
use Rattle.ux_text_chart.specs.declared.part_index.PartIndex.{PartIndex}

module _ (alphabet : Letters) (texts : List (List ℕ)) where
  -- what is indexed stays so where the lists grow
  indexed_kept : (old new : List Beginning) (before after : List ℕ) (number : ℕ) (state : State) →
      ((b : Beginning) → Contains old b → Contains new b) →
      ((n : ℕ) → Contains before n → Contains after n) →
      IsIndexed alphabet texts old before number state →
      IsIndexed alphabet texts new after number state
  indexed_kept old new before after number state kept more (inl e) = inl (more number e)
  indexed_kept old new before after number state kept more (inr (literals, listed)) =
      inr (literals, λ edge inside token fits. kept _ (listed edge inside token fits))

  module _ (net : List NetGraph) (parts : Parts) where
    pub indexed_none : (beginnings : List Beginning) (everywhere : List ℕ) → everywhere ≡ [] →
        AreIndexed alphabet texts net parts 0 beginnings everywhere
    indexed_none beginnings everywhere none =
        subst (λ (l : List ℕ). AreIndexed alphabet texts net parts 0 beginnings l) (sym none)
        (record {
          few = omega arith;
          rises = λ i j d le inside. absurd (omega (arith, inside));
          below = λ number h. absurd (let inside = h.1 in omega (arith, inside));
          each = λ number part state low. absurd (omega (arith, low));
        })

    -- one part more
    one_more : (bound : ℕ) → bound < 4294967296 → (old new : List Beginning) (before after : List ℕ) →
        IsNonDecreasing after → ((number : ℕ) → Contains after number → number < bound + 1) →
        ((b : Beginning) → Contains old b → Contains new b) →
        ((n : ℕ) → Contains before n → Contains after n) →
        ((part : Part) (state : State) → slice_get parts.list bound ≡ Some part →
        slice_get (states_of net part.graph) part.first ≡ Some state →
        IsIndexed alphabet texts new after bound state) →
        AreIndexed alphabet texts net parts bound old before →
        AreIndexed alphabet texts net parts (bound + 1) new after
    one_more bound small old new before after rises below kept more this are = record {
      few = omega (arith, small);
      rises = rises;
      below = below;
      each = λ number part state low found there. elim (less_or number bound) [
        | inl l ↦ indexed_kept old new before after number state kept more
            (are.each number part state l found there)
        | inr m ↦
            let e : number ≡ bound = omega (arith, m, low) in
            subst (λ n. IsIndexed alphabet texts new after n state) (sym e)
            (this part state (ap (λ n. slice_get parts.list n) (sym e) ∙ found) there)
      ];
    }

    -- a part that is tried everywhere
    pub indexed_everywhere : (bound : ℕ) → bound < 4294967296 → (beginnings : List Beginning) (before after : List ℕ) →
        after ≡ before ++ bound ∷ [] →
        AreIndexed alphabet texts net parts bound beginnings before →
        AreIndexed alphabet texts net parts (bound + 1) beginnings after
    indexed_everywhere bound small beginnings before after is are =
        subst (λ (l : List ℕ). AreIndexed alphabet texts net parts (bound + 1) beginnings l)
        (sym is)
        (one_more bound small beginnings beginnings before (before ++ bound ∷ [])
        (IsNonDecreasingBy-push (λ x. x) before bound are.rises
        (λ d some.
        let here = Contains-get_or before (length before - 1) d (omega (arith, some)) in
        let low = are.below _ here in omega (arith, low)))
        (λ number h. elim (Contains-push_cases before bound number h) [
          | inl o ↦ let low = are.below number o in omega (arith, low)
          | inr e ↦ omega (arith, e)
        ])
        (λ b h. h) (λ n h. Contains-append_left before (bound ∷ []) n h)
        (λ part state found there. inl (Contains-push before bound)) are)

    -- a part that is listed by its literals
    pub indexed_listed : (bound : ℕ) → bound < 4294967296 → (old new : List Beginning) (everywhere : List ℕ)
        (edges : List Edge) →
        ((b : Beginning) → Contains old b → Contains new b) →
        ((edge : Edge) → Contains edges edge → AreListed alphabet texts new bound edge) →
        ((part : Part) (state : State) → slice_get parts.list bound ≡ Some part →
        slice_get (states_of net part.graph) part.first ≡ Some state →
        IsLiteralState state × (state.edges ≡ edges)) →
        AreIndexed alphabet texts net parts bound old everywhere →
        AreIndexed alphabet texts net parts (bound + 1) new everywhere
    indexed_listed bound small old new everywhere edges kept listed literals are =
        one_more bound small old new everywhere everywhere are.rises
        (λ number h. let low = are.below number h in omega (arith, low)) kept (λ n h. h)
        (λ part state found there.
        let (literal, same) = literals part state found there in
        inr (
          literal,
          λ edge inside. listed edge
              (subst (λ (l : List Edge). Contains l edge) same inside),
        )) are

    -- all parts, with what was found in order
    pub indexed_all : (index : PartIndex) (old : List Beginning) →
        index.count ≡ length parts.list → IsPermutation old index.beginnings.items →
        IsNonDecreasingBy (λ (b : Beginning). b.token * 4294967296 + b.part)
        index.beginnings.items →
        AreIndexed alphabet texts net parts (length parts.list) old index.everywhere.items →
        IsPartIndex alphabet texts net parts index
    indexed_all index old count moved ordered are = record {
      few = are.few;
      count = count;
      ordered = ordered;
      rises = are.rises;
      each = λ number part state found there.
          indexed_kept old index.beginnings.items index.everywhere.items index.everywhere.items
          number state
          (λ b h. Contains-permutation old index.beginnings.items b moved h) (λ n h. h)
          (are.each number part state (slice_get_within parts.list number part found) found
          there);
    }

-- a state that isn't final, all of whose edges are literals
pub is_literal_state : (state same : State) (edges shown : List Edge) → state ≡ same →
    edges ≡ same.edges → shown ≡ same.edges → same.is_final ≡ false →
    ((edge : Edge) → Contains edges edge → IsLiteral edge.label) →
    IsLiteralState state × (state.edges ≡ shown)
is_literal_state state same edges shown is listed out final literals = (
  record {
    not_final = λ yes.
        let e = ap (λ (s : State). s.is_final) is in
        false≢true (sym final ∙ (sym e ∙ yes));
    literals = λ edge inside. literals edge (subst (λ (l : List Edge). Contains l edge)
        (ap (λ (s : State). s.edges) is ∙ sym listed) inside);
  },
  ap (λ (s : State). s.edges) is ∙ sym out,
)

-- the first that is behind a number, by token and then by part
module _ (beginnings : List Beginning) (rises : IsNonDecreasingBy order_of beginnings)
    (token from first place : ℕ) (first_is : first ≡ token * 4294967296 + from)
    (point : IsPartitionPoint (λ b. ltb (order_of b) first ≡ true)
    (λ b. ltb (order_of b) first ≡ false) beginnings place) where
  pub none_past : length beginnings ≤ place → (part : ℕ) → from ≤ part →
      Contains beginnings (begins_at token part) → ⊥
  none_past past part le (k, inside, at) =
      let less = ltb-true _ _ (point.0 k (begins_at token part) (omega arith)
      (omega (arith, inside, past))) in
      let here = ap order_of at in
      omega (arith, less, here, le, first_is)

  module _ (inside : place < length beginnings) (b d : Beginning)
      (is : b ≡ get_or beginnings place d) where
    behind : token * 4294967296 + from ≤ order_of b
    behind =
        let more = ltb-false _ _ (point.1 place d (omega arith) inside) in
        let same = ap order_of is in
        omega (arith, more, same, first_is)

    pub next_from : b.token ≡ token → from ≤ b.part
    next_from same = let more = behind in omega (arith, more, same)

    pub next_least : b.part < 4294967296 → (part : ℕ) → from ≤ part → part < 4294967296 →
        Contains beginnings (begins_at token part) → (b.token ≡ token) × (b.part ≤ part)
    next_least small part le low (k, within, at) = elim (less_or k place) [
      | inl before ↦
          let less = ltb-true _ _ (point.0 k (begins_at token part) (omega arith) before) in
          let here = ap order_of at in
          absurd (omega (arith, less, here, le, first_is))
      | inr after ↦
          let up = rises place k (begins_at token part) after within in
          let here = ap order_of at in
          let same = ap order_of (is ∙ get_or_default beginnings place d (begins_at token part)
          inside) in
          let more = behind in
          let token_is : b.token ≡ token = omega (arith, up, here, same, more, small, low) in
          (token_is, omega (arith, up, here, same, token_is))
    ]

pub least_of : (o : Option ℕ) (b : Beginning) (token part : ℕ) →
    IfSome o (λ p. (p ≡ b.part) × (b.token ≡ token)) → IfNone o (b.token ≡ token → ⊥) →
    (b.token ≡ token) × (b.part ≤ part) → IsNoLater o part
least_of (Some p) b token part some none (same, le) =
    let is = some.0 in omega (arith, is, le)
least_of None b token part some none (same, le) = absurd (none same)

pub from_of : (o : Option ℕ) (b : Beginning) (token from : ℕ) →
    IfSome o (λ p. (p ≡ b.part) × (b.token ≡ token)) → (b.token ≡ token → from ≤ b.part) →
    IfSome o (λ p. from ≤ p)
from_of (Some p) b token from some le =
    let is = some.0 in let low = le some.1 in omega (arith, is, low)
from_of None b token from some le = tt

-- the first of the numbers that is no less
module _ (numbers : List ℕ) (rises : IsNonDecreasing numbers) (from place : ℕ)
    (point : IsPartitionPoint (λ n. ltb n from ≡ true) (λ n. ltb n from ≡ false) numbers place)
  where
    pub none_behind : length numbers ≤ place → (number : ℕ) → from ≤ number →
        Contains numbers number → ⊥
    none_behind past number le (k, inside, at) =
        let less = ltb-true _ _ (point.0 k number (omega arith) (omega (arith, inside, past))) in
        omega (arith, less, at, le)

    pub number_from : place < length numbers → from ≤ get_or numbers place 0
    number_from inside = ltb-false _ _ (point.1 place 0 (omega arith) inside)

    pub number_least : place < length numbers → (number : ℕ) → from ≤ number →
        Contains numbers number → get_or numbers place 0 ≤ number
    number_least inside number le (k, within, at) = elim (less_or k place) [
      | inl before ↦
          let less = ltb-true _ _ (point.0 k number (omega arith) before) in
          absurd (omega (arith, less, at, le))
      | inr after ↦
          let up = rises place k number after within in
          let same = get_or_default numbers place 0 number inside in
          omega (arith, up, at, same)
    ]
