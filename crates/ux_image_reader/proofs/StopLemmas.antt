-- Where the states that pass end: no file has two such places.
use Rattle.std.proofs.Common.{arith, ◌≡◌, ℕ, ◌<◌, ◌≤◌, List, [], ◌∷◌, ◌++◌, refl, sym, ◌∙◌, ap, subst, length, length-append}
use Rattle.std.specs.Prelude.{Option, Some, None, slice_get}
use Rattle.std.proofs.lemmas.List.{append_assoc, append-nil, take_at}
use Rattle.ux_dawg.specs.declared.state.Edge.{Edge}
use Rattle.ux_dawg.specs.declared.state.State.{State}
use Rattle.ux_image_reader.specs.declared.limits.Limits.{Limits}
use Rattle.ux_image_reader.specs.Layout.{final_number, written, written_all, written_edges}
use Rattle.ux_image_reader.specs.Tests.{limits_behind, AllPass, IsWhole, Pass, PassAsEdges}
use Rattle.ux_image_reader.proofs.EdgesLemmas.{edges_back, length-written_edges, passed_before}

-- the parts of a list
pub same_parts : (a b : ℕ) (xs ys : List ℕ) → a ∷ xs ≡ b ∷ ys → (a ≡ b) × (xs ≡ ys)
same_parts a b xs ys same = (cc, cc)

edges_same : (es fs : List Edge) (xs ys : List ℕ) → length es ≡ length fs →
    written_edges es ++ xs ≡ written_edges fs ++ ys → (es ≡ fs) × (xs ≡ ys)
edges_same [] [] xs ys long same = (refl, same)
edges_same [] (f ∷ fs) xs ys long same = absurd (omega (arith, long))
edges_same (e ∷ es) [] xs ys long same = absurd (omega (arith, long))
edges_same (e ∷ es) (f ∷ fs) xs ys long same =
    let one = same_parts e.letter f.letter _ _ same in
    let two = same_parts e.target f.target _ _ one.1 in
    let rest = edges_same es fs xs ys (omega (arith, long)) two.1 in
    let edge : e ≡ f = λ j. record { letter = one.0 j; target = two.0 j } in
    (ap (λ (d : Edge). d ∷ es) edge ∙ ap (λ (l : List Edge). f ∷ l) rest.0, rest.1)

codes_same : (a b : Option ℕ) → final_number a ≡ final_number b → a ≡ b
codes_same None None same = refl
codes_same None (Some b) same = absurd (omega (arith, same))
codes_same (Some a) None same = absurd (omega (arith, same))
codes_same (Some a) (Some b) same = ap Some (let e : a ≡ b = omega (arith, same) in e)

-- numbers begin with those of one state only
pub states_same : (s t : State) (xs ys : List ℕ) → written s ++ xs ≡ written t ++ ys →
    (s ≡ t) × (xs ≡ ys)
states_same s t xs ys same =
    let code = same_parts (final_number s.code) (final_number t.code) _ _ same in
    let many = same_parts (length s.edges) (length t.edges) _ _ code.1 in
    let edges = edges_same s.edges t.edges xs ys many.0 many.1 in
    let codes = codes_same s.code t.code code.0 in
    (λ j. record { code = codes j; edges = edges.0 j }, edges.1)

-- no state that passes stands behind them
pub record Ends (count lists : ℕ) (states : List State) (rest : List ℕ) : Type 0 where
  pub most : length states ≤ count
  pub none : length states < count → (s : State) (more : List ℕ) → rest ≡ written s ++ more →
      Pass (limits_behind count lists states) (written s) → ⊥

module _ (count lists : ℕ) where
  -- the state behind the first ones passes behind them
  next_passes : (before : List State) (s : State) (later : List State) →
      AllPass count lists (before ++ s ∷ later) →
      Pass (limits_behind count lists before) (written s)
  next_passes before s later all =
      subst (λ (l : List State). Pass (limits_behind count lists l) (written s))
      (take_at before (s ∷ later) (length before) refl)
      (all (length before) s (stands before))
    where
      stands : (front : List State) → slice_get (front ++ s ∷ later) (length front) ≡ Some s
      stands [] = refl
      stands (x ∷ front) = stands front

  no_more : (before : List State) (s : State) (later : List State) (rest rest' : List ℕ) →
      Ends count lists before rest → rest ≡ written_all (s ∷ later) ++ rest' →
      AllPass count lists (before ++ s ∷ later) → length (before ++ s ∷ later) ≤ count → ⊥
  no_more before s later rest rest' ends is all most =
      let long = length-append before (s ∷ later) in
      ends.none (omega (arith, most, long)) s (written_all later ++ rest')
      (is ∙ append_assoc (written s) (written_all later) rest') (next_passes before s later all)

  -- the states that pass, up to where they end, are the same
  stops_behind : (before xs ys : List State) (r t : List ℕ) →
      written_all xs ++ r ≡ written_all ys ++ t →
      AllPass count lists (before ++ xs) → AllPass count lists (before ++ ys) →
      Ends count lists (before ++ xs) r → Ends count lists (before ++ ys) t → (xs ≡ ys) × (r ≡ t)
  stops_behind before [] [] r t same px py ex ey = (refl, same)
  stops_behind before [] (y ∷ ys) r t same px py ex ey =
      absurd (no_more before y ys r t
      (subst (λ (l : List State). Ends count lists l r) (append-nil before) ex) same py ey.most)
  stops_behind before (x ∷ xs) [] r t same px py ex ey =
      absurd (no_more before x xs t r
      (subst (λ (l : List State). Ends count lists l t) (append-nil before) ey) (sym same) px ex.most)
  stops_behind before (x ∷ xs) (y ∷ ys) r t same px py ex ey =
      let one = states_same x y (written_all xs ++ r) (written_all ys ++ t)
      (sym (append_assoc (written x) (written_all xs) r) ∙ same
      ∙ append_assoc (written y) (written_all ys) t) in
      let front = λ (s : State) (l : List State). sym (append_assoc before (s ∷ []) l) in
      let both = ap (λ (s : State). before ++ s ∷ ys) (sym one.0) ∙ front x ys in
      let rest = stops_behind (before ++ x ∷ []) xs ys r t one.1
      (subst (AllPass count lists) (front x xs) px)
      (subst (AllPass count lists) both py)
      (subst (λ (l : List State). Ends count lists l r) (front x xs) ex)
      (subst (λ (l : List State). Ends count lists l t) both ey) in
      (ap (λ (s : State). s ∷ xs) one.0 ∙ ap (λ (l : List State). y ∷ l) rest.0, rest.1)

  pub one_stop : (xs ys : List State) (r t : List ℕ) → written_all xs ++ r ≡ written_all ys ++ t →
      AllPass count lists xs → AllPass count lists ys →
      Ends count lists xs r → Ends count lists ys t → (xs ≡ ys) × (r ≡ t)
  one_stop xs ys r t same px py ex ey = stops_behind [] xs ys r t same px py ex ey

-- a state that stands there is whole
whole_state : (s : State) (more : List ℕ) → IsWhole (written s ++ more)
whole_state s more =
    let long = length-append (written_edges s.edges) more in
    let twice = length-written_edges s.edges in
    omega (arith, long, twice)

-- and passes there where it passes
state_there : (limits : Limits) (s : State) (more : List ℕ) → Pass limits (written s) →
    Pass limits (written s ++ more)
state_there limits s more pass = (
  pass.0,
  pass.1,
  passed_before limits.number s.edges more
      (edges_back limits.number s.edges []
      (subst (λ (l : List ℕ). PassAsEdges limits.number (length s.edges) l)
      (sym (append-nil (written_edges s.edges))) pass.2)),
)

-- so states end where the next one isn't whole, or doesn't pass
pub ends_short : (count lists : ℕ) (states : List State) (rest : List ℕ) →
    length states ≤ count → (IsWhole rest → ⊥) → Ends count lists states rest
ends_short count lists states rest most part = record {
  most = most;
  none = λ less s more is pass. part (subst IsWhole (sym is) (whole_state s more));
}

pub ends_failing : (count lists : ℕ) (states : List State) (rest : List ℕ) →
    length states ≤ count → (Pass (limits_behind count lists states) rest → ⊥) →
    Ends count lists states rest
ends_failing count lists states rest most fails = record {
  most = most;
  none = λ less s more is pass.
      fails (subst (Pass (limits_behind count lists states)) (sym is)
      (state_there (limits_behind count lists states) s more pass));
}

-- and where they are as many as there are to be
pub ends_whole : (count lists : ℕ) (states : List State) (rest : List ℕ) →
    length states ≡ count → Ends count lists states rest
ends_whole count lists states rest all = record {
  most = omega (arith, all);
  none = λ less s more is pass. omega (arith, all, less);
}
