-- The states to which a character leads, edge by edge and state by state.
use Rattle.std.proofs.Common.{◌≡◌, ◌↔◌, ◌⊎◌, ℕ, zero, suc, ◌+◌, ◌<◌, List, [], ◌∷◌, ◌++◌, length, take, get_or, refl, sym, ◌∙◌, ap, subst, inl, inr, arith}
use Rattle.std.specs.Prelude.{Contains, Option, Some, slice_get}
use Rattle.std.proofs.lemmas.List.{take_more}
use Rattle.std.proofs.lemmas.List.Elements.{Contains-append_cases, Contains-append_left, Contains-append_right}
use Rattle.std.proofs.lemmas.Option.{get_or_from_slice_get}
use Rattle.ux_alphabet.specs.Letters.{Fits, FitsAlone}
use Rattle.ux_dawg.specs.Building.{bare}
use Rattle.ux_dawg.specs.Paths.{edge as edge_to, IsStep}
use Rattle.ux_dawg.specs.declared.state.Edge.{Edge}
use Rattle.ux_dawg.specs.declared.state.State.{State}
use Rattle.ux_base.proofs.OrderedLists.{Contains-cons_cases, Contains-nil}
use Rattle.ux_image_look_ups.specs.Steps.{GoesTo, Puts, PutsEdge, StepsTo}
use Rattle.ux_image_look_ups.specs.declared.steps.Taken.{Taken}

-- one of the edges leads to the state, and fits the character
abbrev pub GoesBy : Taken → List Edge → (target : ℕ) → Type 0
GoesBy taken edges target = (e : Edge) × Contains edges e
    × (Fits taken.alphabet.now e.letter taken.c × (target ≡ e.target))

-- what stands in one list more
has_more : {X : Type 0} (xs : List X) (i : ℕ) (x y : X) → i < length xs → x ≡ get_or xs i x →
    Contains (take (i + 1) xs) y ↔ (Contains (take i xs) y ⊎ (x ≡ y))
has_more xs i x y less is =
    let front = take_more xs i x less ∙ ap (λ z. take i xs ++ z ∷ []) (sym is) in (
      λ has. elim (Contains-append_cases (take i xs) (x ∷ []) y
          (subst (λ l. Contains l y) front has)) [
            | inl before ↦ inl before
            | inr here ↦ elim (Contains-cons_cases x y [] here) [
              | inl same ↦ inr same
              | inr later ↦ absurd (Contains-nil y later)
            ]
          ],
      λ has. subst (λ l. Contains l y) (sym front) (elim has [
        | inl before ↦ Contains-append_left (take i xs) (x ∷ []) y before
        | inr same ↦ Contains-append_right (take i xs) (x ∷ []) y (0, omega arith, same)
      ]),
    )

-- with one edge more
pub edges-more : (taken : Taken) (edges : List Edge) (i : ℕ) (edge : Edge)
    (old mid new : List ℕ) → i < length edges → edge ≡ get_or edges i edge →
    ((t : ℕ) → Contains mid t ↔ (Contains old t ⊎ GoesBy taken (take i edges) t)) →
    PutsEdge taken edge mid new →
    (t : ℕ) → Contains new t ↔ (Contains old t ⊎ GoesBy taken (take (i + 1) edges) t)
edges-more taken edges i edge old mid new less is before puts t = (
  λ has. elim ((puts t).0 has) [
    | inl there ↦ elim ((before t).0 there) [
      | inl first ↦ inl first
      | inr (e, stands, goes) ↦
          inr (e, (has_more edges i edge e less is).1 (inl stands), goes)
    ]
    | inr goes ↦ inr (edge, (has_more edges i edge edge less is).1 (inr refl), goes)
  ],
  λ has. (puts t).1 (elim has [
    | inl first ↦ inl ((before t).1 (inl first))
    | inr (e, stands, goes) ↦ elim ((has_more edges i edge e less is).0 stands) [
      | inl earlier ↦ inl ((before t).1 (inr (e, earlier, goes)))
      | inr same ↦ inr (subst (λ (x : Edge). Fits taken.alphabet.now x.letter taken.c
          × (t ≡ x.target)) (sym same) goes)
    ]
  ]),
)

-- with one state more
pub states-more : (states : List State) (taken : Taken) (sources : List ℕ) (i source : ℕ)
    (old mid new : List ℕ) → i < length sources → source ≡ get_or sources i source →
    Puts states taken (take i sources) old mid →
    ((t : ℕ) → Contains new t
    ↔ (Contains mid t ⊎ GoesTo states taken.alphabet.now taken.c source t)) →
    Puts states taken (take (i + 1) sources) old new
states-more states taken sources i source old mid new less is before puts t = (
  λ has. elim ((puts t).0 has) [
    | inl there ↦ elim ((before t).0 there) [
      | inl first ↦ inl first
      | inr (s, stands, goes) ↦
          inr (s, (has_more sources i source s less is).1 (inl stands), goes)
    ]
    | inr goes ↦ inr (source, (has_more sources i source source less is).1 (inr refl), goes)
  ],
  λ has. (puts t).1 (elim has [
    | inl first ↦ inl ((before t).1 (inl first))
    | inr (s, stands, goes) ↦ elim ((has_more sources i source s less is).0 stands) [
      | inl earlier ↦ inl ((before t).1 (inr (s, earlier, goes)))
      | inr same ↦ inr (subst (λ k. GoesTo states taken.alphabet.now taken.c k t) (sym same) goes)
    ]
  ]),
)

-- the edges of a state tell where the character leads
pub by_edges_goes : (states : List State) (taken : Taken) (state : ℕ) (edges : List Edge) →
    edges ≡ (get_or states state bare).edges → (t : ℕ) →
    GoesBy taken edges t ↔ GoesTo states taken.alphabet.now taken.c state t
by_edges_goes states taken state edges same t = (
  λ (e, has, (fits, is)).
      let there = subst (λ (l : List Edge). Contains l e) same has in (
        e.letter,
        (
          get_or states state bare,
          stands states state e there,
          subst (λ k. Contains (get_or states state bare).edges (edge_to e.letter k)) (sym is) there,
        ),
        fits,
      ),
  λ (a, (s, at, has), fits). (
    edge_to a t,
    subst (λ (l : List Edge). Contains l (edge_to a t)) (sym same)
        (subst (λ (x : State). Contains x.edges (edge_to a t))
        (sym (get_or_from_slice_get states state s bare at)) has),
    (fits, refl),
  ),
)
  where
    -- a state with an edge stands among them
    stands : (xs : List State) (i : ℕ) (e : Edge) → Contains (get_or xs i bare).edges e →
        slice_get xs i ≡ Some (get_or xs i bare)
    stands [] i e has = absurd (Contains-nil e has)
    stands (x ∷ xs) zero e has = refl
    stands (x ∷ xs) (suc i) e has = stands xs i e has

-- where no other letter fits the character, it leads by its own step
pub own_step : (states : List State) (taken : Taken) (state : ℕ) →
    FitsAlone taken.alphabet.now taken.c → (t : ℕ) →
    IsStep states state taken.c t ↔ GoesTo states taken.alphabet.now taken.c state t
own_step states taken state alone t = (
  λ step. (taken.c, step, inl refl),
  λ (a, step, fits). subst (λ k. IsStep states state k t) (alone a fits) step,
)

-- so it is of a state, if there is one
pub own-steps : (states : List State) (taken : Taken) (state r step : Option ℕ) (s : ℕ) →
    state ≡ Some s → FitsAlone taken.alphabet.now taken.c → r ≡ step →
    ((t : ℕ) → (step ≡ Some t) ↔ IsStep states s taken.c t) → (t : ℕ) →
    (r ≡ Some t) ↔ StepsTo states taken state t
own-steps states taken state r step s is alone same tells t =
    let own = own_step states taken s alone t in
    subst (λ (o : Option ℕ). (r ≡ Some t) ↔ StepsTo states taken o t) (sym is) (
      λ leads. own.0 ((tells t).0 (sym same ∙ leads)),
      λ goes. same ∙ (tells t).1 (own.1 goes),
    )
