-- Which graphs have a word is told in one way, so a flat graph is too big by one telling or by none.
use Rattle.std.proofs.Common.{arith, ◌≡◌, ◌⊎◌, ◌+◌, ◌<◌, ◌≤◌, ℕ, inl, inr, List, [], ◌∷◌, Bool, true, false, refl, sym, subst, ap, ◌∙◌, length, get_or, Any, None}
use Rattle.std.specs.Prelude.{IsSomeAnd}
use Rattle.std.proofs.lemmas.List.{get_or_default}
use Rattle.ux_net.specs.declared.net_graph.NetGraph.{NetGraph}
use Rattle.ux_net.specs.declared.state.State.{State}
use Rattle.ux_net.specs.declared.state_graph.StateGraph.{StateGraph}
use Rattle.ux_flatten.specs.declared.error.FlattenError.{FlattenError}
use Rattle.ux_flatten.specs.declared.error.FlattenError.TheVariants.{TooBig, NegativeCut, NoMemory}
use Rattle.ux_net.specs.Nets.{graph_at}
use Rattle.ux_net.specs.StateGraphs.{told_at}
use Rattle.ux_flatten.specs.Copies.{copy, name_in, size}
use Rattle.ux_flatten.specs.Flattening.{IsTooBig, MOST_EDGES, MOST_STATES, RefusesFlat, TellsWords, told}
use Rattle.ux_flatten.specs.Making.{capped, MANY, RefusesCut, RefusesSize}
use Rattle.ux_base.proofs.Lists.{less_or}
use Rattle.ux_flatten.proofs.MakingLaw.{small_capped}
use Rattle.ux_flatten.proofs.SizesLaw.{large_capped}

one_answer : (a b : Bool) → (a ≡ true → b ≡ true) → (b ≡ true → a ≡ true) → a ≡ b
one_answer true b f g = sym (f refl)
one_answer false true f g = g refl
one_answer false false f g = refl

one_telling : (a b : ℕ → Bool) → ((h : ℕ) → a h ≡ b h) → a ≡ b
one_telling a b same = λ i h. same h i

module _ (graphs : List StateGraph) (words : ℕ → Bool) (tells : TellsWords graphs words) (depth : ℕ)
  where
    abbrev IsBigBy : (ℕ → Bool) → Type 0
    IsBigBy has_word = (MOST_STATES < size graphs has_word depth 1)
        ⊎ Any (λ (state : State). MOST_EDGES < length state.edges) (copy graphs has_word depth 1 0 None)

    pub big_told : IsTooBig graphs depth → IsBigBy words
    big_told big =
        let same = one_telling big.has_word words (λ h. one_answer (big.has_word h) (words h)
        (λ t. (tells h).1 ((big.tells h).0 t)) (λ t. (big.tells h).1 ((tells h).0 t))) in
        subst IsBigBy same big.big

    -- the size is told as too big where it is
    pub many_states : (told : ℕ) → told ≡ capped (size graphs words depth 1) → MANY ≤ told →
        IsTooBig graphs depth
    many_states told is many = record { has_word = words; tells = tells; big = inl (above (less_or (size graphs words depth 1) MANY)) }
      where
        above : (size graphs words depth 1 < MANY) ⊎ (MANY ≤ size graphs words depth 1) →
            MOST_STATES < size graphs words depth 1
        above (inl lt) = absurd (let small = small_capped (size graphs words depth 1) lt in omega (arith, is, many, lt, small))
        above (inr le) = omega (arith, le)

    pub few_states : (told : ℕ) → told ≡ capped (size graphs words depth 1) → told < MANY →
        size graphs words depth 1 < MANY
    few_states told is few = below (less_or (size graphs words depth 1) MANY)
      where
        below : (size graphs words depth 1 < MANY) ⊎ (MANY ≤ size graphs words depth 1) →
            size graphs words depth 1 < MANY
        below (inl lt) = lt
        below (inr le) = absurd (let large = large_capped (size graphs words depth 1) le in omega (arith, is, few, large))

    pub small : size graphs words depth 1 < MANY →
        (Any (λ (state : State). MOST_EDGES < length state.edges) (copy graphs words depth 1 0 None) → ⊥) →
        IsTooBig graphs depth → ⊥
    small few narrow big = by (big_told big)
      where
        by : IsBigBy words → ⊥
        by (inl many) = omega (arith, few, many)
        by (inr wide) = narrow wide

-- what refuses the states or a cut refuses the net
pub size_refuses : (graphs : List StateGraph) (depth : ℕ) (error : FlattenError) →
    RefusesSize graphs depth error → RefusesFlat graphs depth error
size_refuses graphs depth TooBig r = r
size_refuses graphs depth (NegativeCut name node) r = absurd r
size_refuses graphs depth NoMemory r = r

pub cut_refuses : (graphs : List StateGraph) (depth : ℕ) → (IsTooBig graphs depth → ⊥) →
    (error : FlattenError) → RefusesCut graphs depth error → RefusesFlat graphs depth error
cut_refuses graphs depth small TooBig r = absurd r
cut_refuses graphs depth small (NegativeCut name node) r = (small, r)
cut_refuses graphs depth small NoMemory r = r

-- one state more that hasn't too many edges
pub none_wide : (states : List State) (i : ℕ) (state : State) → i < length states →
    state ≡ get_or states i state → (MOST_EDGES < length state.edges → ⊥) →
    ((k : ℕ) (x : State) → k < i → get_or states k x ≡ x → MOST_EDGES < length x.edges → ⊥) →
    (k : ℕ) (x : State) → k < i + 1 → get_or states k x ≡ x → MOST_EDGES < length x.edges → ⊥
none_wide states i state below at narrow before k x lt here wide = elim (less_or k i) [
  | inl small ↦ before k x small here wide
  | inr le ↦
      let same : k ≡ i = omega (arith, lt, le) in
      let found : x ≡ state =
      sym here ∙ (ap (λ n. get_or states n x) same
      ∙ (get_or_default states i x state below ∙ sym at)) in
      narrow (subst (λ (s : State). MOST_EDGES < length s.edges) found wide)
]

-- the main graph's name, as a file tells it
pub main_name : (net : List NetGraph) (name : List ℕ) →
    IsSomeAnd (graph_at net 1) (λ graph. name ≡ graph.name) → name ≡ name_in (told_at (told net) 1)
main_name [] name is = absurd is
main_name (graph ∷ net) name is = is
