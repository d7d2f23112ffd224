-- The next state, which is none of those in front of it, is not repeated.
use Rattle.std.proofs.Common.{arith, ◌≡◌, ◌≢◌, ◌↔◌, inl, inr, ℕ, ◌+◌, ◌<◌, ◌∙◌, List, true, false, sym, ap, subst, length, get_or, true≢false}
use Rattle.std.specs.Prelude.{Option, None, Some}
use Rattle.std.specs.Option.{is_some}
use Rattle.std.proofs.lemmas.Bool.{cases_lt}
use Rattle.std.proofs.lemmas.Option.{same_Some, slice_get-get_or}
use Rattle.ux_dawg.specs.declared.state.State.{State}
use Rattle.ux_dawg.specs.declared.index.Index.{Index}
use Rattle.ux_dawg.specs.Building.{bare}
use Rattle.ux_dawg.specs.Indexed.{Holds, IsAdded, IsEmpty, IsPlace}
use Rattle.ux_dawg.specs.Repeated.{IsRepeated}
use Rattle.ux_dawg.proofs.IndexLemmas.{holds_added}

-- a state without a place is none of the first n, where the index holds their numbers
pub not_placed : (states : List State) (n : ℕ) (index : Index) (state : State)
    (place : Option ℕ) → ((m : ℕ) → Holds index m ↔ (m < n)) →
    IsPlace states index state place → false ≡ is_some place →
    (i : ℕ) → i < n → get_or states i bare ≢ state
not_placed states n index state None all place none = λ i below. place i ((all i).1 below)
not_placed states n index state (Some number) all place none = absurd (true≢false (sym none))

-- a state with a place among the states before it is repeated
pub placed_repeated : (states : List State) (n : ℕ) (index : Index) (state : State)
    (place : Option ℕ) → ((m : ℕ) → Holds index m ↔ (m < n)) → n < length states →
    state ≡ get_or states n bare → IsPlace states index state place → true ≡ is_some place →
    IsRepeated states n
placed_repeated states n index state None all within here place some =
    absurd (true≢false some)
placed_repeated states n index state (Some number) all within here place some =
    let before = (all number).0 place.0 in
    record {
      within = within;
      earlier = number;
      before = before;
      same = slice_get-get_or states number bare (omega (arith, before, within))
          ∙ ap Some (place.1 ∙ here) ∙ sym (slice_get-get_or states n bare within);
    }

-- an index without an item holds the numbers below 0
pub holds_none : (index : Index) → IsEmpty index → (m : ℕ) → Holds index m ↔ (m < 0)
holds_none index empty m =
    let none = empty.none in (
      λ held. let below = held.1 in absurd (omega (arith, below, none)),
      λ low. absurd (omega (arith, low)),
    )

-- and one that holds those below n, to which n was added, those below the next one
pub holds_next : (hash n : ℕ) (old new : Index) → IsAdded hash n old new →
    ((m : ℕ) → Holds old m ↔ (m < n)) → (m : ℕ) → Holds new m ↔ (m < n + 1)
holds_next hash n old new add all m = (
  λ held. elim ((holds_added hash n old new add m).0 held) [
    | inl before ↦ let low = (all m).0 before in omega (arith, low)
    | inr is ↦ omega (arith, is)
  ],
  λ low. (holds_added hash n old new add m).1 (elim (cases_lt m n) [
    | inl less ↦ inl ((all m).1 less)
    | inr past ↦ inr (omega (arith, low, past))
  ]),
)

-- a state that is repeated is the same as an earlier one
repeated_same : (states : List State) (n : ℕ) (other : IsRepeated states n) →
    get_or states other.earlier bare ≡ get_or states n bare
repeated_same states n other =
    let within = other.within in
    let before = other.before in
    same_Some (get_or states other.earlier bare) (get_or states n bare)
    (sym (slice_get-get_or states other.earlier bare (omega (arith, within, before)))
    ∙ other.same ∙ slice_get-get_or states n bare within)

-- so none is repeated up to a state that is none of those in front of it
pub none_next : (states : List State) (n : ℕ) (state : State) → state ≡ get_or states n bare →
    ((i : ℕ) → i < n → get_or states i bare ≢ state) →
    ((m : ℕ) → m < n → IsRepeated states m → ⊥) →
    (m : ℕ) → m < n + 1 → IsRepeated states m → ⊥
none_next states n state here new none m less other = elim (cases_lt m n) [
  | inl low ↦ none m low other
  | inr high ↦
      let last : m ≡ n = omega (arith, less, high) in
      let again = subst (IsRepeated states) last other in
      new again.earlier again.before (repeated_same states n again ∙ sym here)
]
