-- Equality of states, and a register into which one is put.
use Rattle.std.proofs.Common.{arith, ◌≡◌, ◌≢◌, ◌↔◌, ◌⊎◌, ℕ, ◌-◌, ◌<◌, ◌≤◌, ◌∙◌, List, [], ◌∷◌, ◌++◌, inl, inr, refl, sym, ap, subst, length, get_or, Bool, ◌&&◌, Result, Ok, Err}
use Rattle.std.specs.Prelude.{Option, Some, None, Contains, IfOk, IsTrue, OnErr, slice_get, nat_eq}
use Rattle.std.specs.Bool.{Decides}
use Rattle.std.specs.Option.{option_eq}
use Rattle.std.proofs.lemmas.Bool.{cases_lt}
use Rattle.std.proofs.lemmas.Bool.Decides.{Decides-and, Decides-eqb}
use Rattle.std.proofs.lemmas.List.{get_or_append_left, get_or_at, get_or_past, length-append}
use Rattle.std.proofs.lemmas.Option.{get_or_from_slice_get, none-some, same_Some, slice_get-get_or, slice_get_within}
use lib.Pointwise.{pointwise, pointwise_decides}
use Rattle.ux_dawg.specs.declared.state.State.{State}
use Rattle.ux_dawg.specs.declared.state.Edge.{Edge}
use Rattle.ux_dawg.specs.declared.index.Index.{Index}
use Rattle.ux_dawg.specs.Building.{bare}
use Rattle.ux_dawg.specs.Flat.{state_of}
use Rattle.ux_dawg.specs.Indexed.{AreIndexed, Follows, Holds, IsPlace, IsRegister, IsSameIndex, IsStored, IsWidened}
use Rattle.ux_dawg.specs.Paths.{AreStates}
use Rattle.ux_dawg.specs.Register.{follower_of, number_after, AreOnceStates, IsKeptState}
use Rattle.ux_dawg.proofs.IndexLemmas.{holds_same, holds_widened, indexed_append, indexed_same, indexed_widened}
use Rattle.ux_dawg.proofs.PathLemmas.{contains_at}

pub options_decide : (a b : Option ℕ) → Decides (option_eq nat_eq a b) (a ≡ b)
options_decide None None = (λ h. refl, λ h. refl)
options_decide None (Some y) = (λ h. cc, λ h. absurd (none-some y h))
options_decide (Some x) None = (λ h. cc, λ h. absurd (none-some x (sym h)))
options_decide (Some x) (Some y) =
    let d = Decides-eqb x y in (λ h. ap Some (d.0 h), λ h. d.1 (same_Some x y h))

pub edges_decide : (a b : Edge) → Decides (nat_eq a.letter b.letter && nat_eq a.target b.target) (a ≡ b)
edges_decide a b =
    let d = Decides-and (nat_eq a.letter b.letter) (nat_eq a.target b.target) (Decides-eqb a.letter b.letter) (Decides-eqb a.target b.target) in (
      λ h. let e = d.0 h in λ j. record { letter = e.0 j; target = e.1 j },
      λ h. d.1 (ap (λ (e : Edge). e.letter) h, ap (λ (e : Edge). e.target) h),
    )

-- a state with this number of a list is the one with these edges, where its edges are these
pub edges_tell : (E : Edge → Edge → Bool) → ((a b : Edge) → Decides (E a b) (a ≡ b)) →
    (s : State) (code : Option ℕ) (edges shown : List Edge) (answer : Bool) → s.code ≡ code →
    shown ≡ s.edges → answer ≡ pointwise E shown edges →
    IsTrue answer ↔ (s ≡ state_of code edges)
edges_tell E decide s code edges shown answer code_is shown_is is =
    let d = pointwise_decides decide shown edges in (
      λ yes.
          let same = sym shown_is ∙ d.0 (sym is ∙ yes) in
          λ j. record { code = code_is j; edges = same j },
      λ same. is ∙ d.1 (shown_is ∙ ap (λ (t : State). t.edges) same),
    )

module _ (states : List State) (state : State) where
  abbrev more : List State
  more = states ++ state ∷ []

  at_left : (i : ℕ) (s : State) → i < length states → slice_get more i ≡ Some s →
      slice_get states i ≡ Some s
  at_left i s less at =
      slice_get-get_or states i bare less
      ∙ ap Some (sym (get_or_append_left states (state ∷ []) bare i less)
      ∙ get_or_from_slice_get more i s bare at)

  at_last : (i : ℕ) (s : State) → length states ≤ i → slice_get more i ≡ Some s →
      i ≡ length states
  at_last i s past at =
      let within = slice_get_within more i s at in
      let long = length-append states (state ∷ []) in
      omega (arith, within, long, past)

  last_is : (i : ℕ) (s : State) → length states ≤ i → slice_get more i ≡ Some s → state ≡ s
  last_is i s past at =
      sym (get_or_at states state [] bare i (sym (at_last i s past at)))
      ∙ get_or_from_slice_get more i s bare at

  module _ (once : AreOnceStates states)
      (new : (i : ℕ) → i < length states → get_or states i bare ≢ state) where
    no_pair : (i j : ℕ) (s : State) → i < length states → length states ≤ j →
        slice_get more i ≡ Some s → slice_get more j ≡ Some s → ⊥
    no_pair i j s less past at there =
        new i less (get_or_from_slice_get states i s bare (at_left i s less at)
        ∙ sym (last_is j s past there))

    -- a new state behind states that stand once
    pub once-push : AreOnceStates more
    once-push i j s at there = elim (cases_lt i (length states)) [
      | inl less ↦ elim (cases_lt j (length states)) [
        | inl below ↦ once i j s (at_left i s less at) (at_left j s below there)
        | inr behind ↦ absurd (no_pair i j s less behind at there)
      ]
      | inr past ↦ elim (cases_lt j (length states)) [
        | inl below ↦ absurd (no_pair j i s below past there at)
        | inr behind ↦ at_last i s past at ∙ sym (at_last j s behind there)
      ]
    ]

-- the number after the target of the last edge is 0, or the target of an edge is below it
follower_above : (last : Option Edge) (edges : List Edge) (n : ℕ) →
    ((e : Edge) → last ≡ Some e → Contains edges e) →
    ((e : Edge) → Contains edges e → e.target < n) → number_after last ≤ n
follower_above None edges n has low = omega arith
follower_above (Some e) edges n has low =
    let below = low e (has e refl) in omega (arith, below)

-- so a state that leads to the newest of these is none of them, since edges lead to lower numbers
pub newest-new : (states : List State) (state : State) → AreStates states →
    follower_of state.edges ≡ length states → (i : ℕ) → i < length states →
    get_or states i bare ≢ state
newest-new states state fit newest i within same =
    let at : slice_get states i ≡ Some state =
    slice_get-get_or states i bare within ∙ ap Some same in
    let last = length state.edges - 1 in
    let low = follower_above (slice_get state.edges last) state.edges i
    (λ e. contains_at state.edges last e) (fit i state at).within in
    absurd (omega (arith, low, newest, within))

-- a state that stands at that number, which is another than that of the next one, is one of these
pub follower_within : (states : List State) (state : State) (n : ℕ) →
    n ≡ follower_of state.edges → n ≢ length states → get_or states n bare ≡ state →
    n < length states
follower_within states state n is differ at = elim (cases_lt n (length states)) [
  | inl less ↦ less
  | inr past ↦
      let none = sym at ∙ get_or_past states n bare past in
      let first = is ∙ ap (λ (s : State). follower_of s.edges) none in
      absurd (differ (omega (arith, first, past)))
]

-- a state that stands there is kept as it is
pub kept_there : (old new : List State) (state : State) (i : ℕ) → new ≡ old → i < length new →
    get_or new i bare ≡ state → IsKeptState old new state i
kept_there old new state i same within is = record {
  stored = slice_get-get_or new i bare within ∙ ap Some is;
  grown = inl same;
}

-- and one that was put last is kept as the last one
pub kept_last : (old new : List State) (state : State) (i : ℕ) → new ≡ old ++ state ∷ [] →
    i ≡ length old → IsKeptState old new state i
kept_last old new state i put last =
    let long = length-append old (state ∷ []) in
    let within : i < length (old ++ state ∷ []) = omega (arith, long, last) in
    record {
      stored = ap (λ (l : List State). slice_get l i) put
          ∙ slice_get-get_or (old ++ state ∷ []) i bare within
          ∙ ap Some (get_or_at old state [] bare i (sym last));
      grown = inr (put, last);
    }

-- a state that follows none and isn't in the index is none of the register's
pub nowhere : (states : List State) (index wide : Index) (state : State) →
    IsRegister states index → IsWidened index wide →
    get_or states (follower_of state.edges) bare ≢ state →
    IsPlace states wide state None → (i : ℕ) → i < length states → get_or states i bare ≢ state
nowhere states index wide state are widened apart none i within =
    elim (are.covered i within) [
      | inl follows ↦ λ same.
          let here = sym (ap (λ (s : State). follower_of s.edges) same) ∙ follows in
          apart (ap (λ k. get_or states k bare) here ∙ same)
      | inr holds ↦ none i ((holds_widened index wide widened i).1 holds)
    ]

-- a register whose index has other buckets is one
pub register_widened : (states : List State) (index wide : Index) → IsRegister states index →
    IsWidened index wide → IsRegister states wide
register_widened states index wide are widened = record {
  indexed = indexed_widened index wide widened states are.indexed;
  once = are.once;
  within = λ n held. are.within n ((holds_widened index wide widened n).0 held);
  covered = λ n below. elim (are.covered n below) [
    | inl follows ↦ inl follows
    | inr holds ↦ inr ((holds_widened index wide widened n).1 holds)
  ];
}

-- and so is one with the same states and the same index
pub register_same : (old new : List State) (index index' : Index) → IsRegister old index →
    new ≡ old → IsSameIndex index index' → IsRegister new index'
register_same old new index index' are same kept =
    subst (λ (l : List State). IsRegister l index') (sym same) (record {
      indexed = indexed_same index index' kept old are.indexed;
      once = are.once;
      within = λ n held. are.within n ((holds_same index index' kept n).0 held);
      covered = λ n below. elim (are.covered n below) [
        | inl follows ↦ inl follows
        | inr holds ↦ inr ((holds_same index index' kept n).1 holds)
      ];
    })

module _ (states : List State) (state : State) (index : Index) (are : IsRegister states index)
    (new : (i : ℕ) → i < length states → get_or states i bare ≢ state) where
  abbrev put : List State
  put = states ++ state ∷ []

  -- one behind the states of a register follows, or is in the index
  covered_put : (index' : Index) → ((n : ℕ) → Holds index n → Holds index' n) →
      (follower_of state.edges ≡ length states) ⊎ Holds index' (length states) →
      (n : ℕ) → n < length put → Follows put n ⊎ Holds index' n
  covered_put index' keeps last n below = elim (cases_lt n (length states)) [
    | inl less ↦ elim (are.covered n less) [
      | inl follows ↦ inl (ap (λ (s : State). follower_of s.edges)
          (get_or_append_left states (state ∷ []) bare n less) ∙ follows)
      | inr holds ↦ inr (keeps n holds)
    ]
    | inr past ↦
        let long = length-append states (state ∷ []) in
        let is : n ≡ length states = omega (arith, long, below, past) in
        elim last [
          | inl follows ↦ inl (ap (λ (s : State). follower_of s.edges)
              (get_or_at states state [] bare n (sym is)) ∙ follows ∙ sym is)
          | inr holds ↦ inr (subst (Holds index') (sym is) holds)
        ]
  ]

  -- a new one that follows is put behind the states of a register
  pub register_put : (states' : List State) → states' ≡ states ++ state ∷ [] →
      follower_of state.edges ≡ length states → IsRegister states' index
  register_put states' is follows =
      let long = length-append states (state ∷ []) in
      subst (λ (l : List State). IsRegister l index) (sym is) (record {
        indexed = indexed_append states (state ∷ []) index are.indexed are.within;
        once = once-push states state are.once new;
        within = λ n held. let low = are.within n held in omega (arith, low, long);
        covered = covered_put index (λ n held. held) (inl follows);
      })

  -- and a new one is, with an item in the index
  pub register_stored : (states' : List State) (index' : Index) (number : ℕ) →
      IsStored state number states states' index index' → IsRegister states' index'
  register_stored states' index' number store =
      let long = length-append states (state ∷ []) in
      let last = store.last in
      subst (λ (l : List State). IsRegister l index') (sym store.put) (record {
        indexed = subst (λ (l : List State). AreIndexed l index') store.put store.indexed;
        once = once-push states state are.once new;
        within = λ n held. elim ((store.holds n).0 held) [
          | inl before ↦ let low = are.within n before in omega (arith, low, long)
          | inr is ↦ omega (arith, is, last, long)
        ];
        covered = covered_put index' (λ n held. (store.holds n).1 (inl held))
            (inr ((store.holds (length states)).1 (inr (sym last))));
      })

module _ {E : Type 0} (old new : List State) (state : State) (index index' : Index) where
  -- a state that was stored is kept
  pub kept_after : (result : Result ℕ E) (seen : List State) → old ≡ seen →
      IfOk result (λ i. IsStored state i old new index index') →
      IfOk result (λ i. IsKeptState seen new state i)
  kept_after (Ok i) seen is store =
      subst (λ (l : List State). IsKeptState l new state i) is
      (kept_last old new state i store.put store.last)
  kept_after (Err error) seen is store = tt

  -- a register is one again, whether a new state was stored or not
  pub register_after : (result : Result ℕ E) → IsRegister old index →
      ((i : ℕ) → i < length old → get_or old i bare ≢ state) →
      IfOk result (λ i. IsStored state i old new index index') → OnErr result (new ≡ old) →
      OnErr result (IsSameIndex index index') → IsRegister new index'
  register_after (Ok i) are nowhere store same kept =
      register_stored old state index are nowhere new index' i store
  register_after (Err error) are nowhere store same kept =
      register_same old new index index' are same kept
