-- The visit, an edge at a time: an edge to a state that was left changes nothing, and one to another
-- state leaves what its edges lead to, and then itself. The depth doesn't matter, since targets are
-- below.
use Rattle.std.proofs.Common.{arith, ◌≡◌, ℕ, zero, suc, ◌+◌, ◌-◌, ◌<◌, ◌≤◌, List, [], ◌∷◌, ◌++◌, Bool, true, false, cond, ◌||◌, not, inl, inr, refl, sym, ◌∙◌, ap, subst, length, take, drop, get_or}
use Rattle.std.specs.Prelude.{All, Contains, Option, None, Some, fold, nat_eq, nat_le, nat_lt, position, slice_get}
use Rattle.std.specs.List.{list_any, position_or_len, range_with_len}
use Rattle.std.proofs.lemmas.Bool.{cases_eq, leb-false, leb-true}
use Rattle.std.proofs.lemmas.Bool.Decides.{Decides-eqb}
use Rattle.std.proofs.lemmas.List.{get_or-drop, get_or_default, get_or-take, length-drop, length-take, drop-drop, drop_more, take-append-drop, take_rest}
use Rattle.std.proofs.lemmas.List.Elements.{All-head, All-tail, Contains-get_or}
use Rattle.std.proofs.lemmas.List.Sums.{fold-append, prefix_len_passes}
use Rattle.std.proofs.lemmas.List.Quantifiers.{position-Some}
use Rattle.std.proofs.lemmas.Option.{none-some}
use Rattle.ux_dawg.specs.Building.{bare}
use Rattle.ux_dawg.specs.declared.state.Edge.{Edge}
use Rattle.ux_dawg.specs.declared.state.State.{State}
use Rattle.ux_dawg.specs.Paths.{AreStates}
use Rattle.ux_dawg.proofs.PathLemmas.{behind, in_front, is_some_of}
use Rattle.ux_image_reader.specs.declared.visit.Frame.{Frame}
use Rattle.ux_image_reader.specs.Visit.{edges_at, left_after}
use Rattle.ux_image_reader.specs.Visiting.{below, edges_left, left_behind, GoesTo, IsFrame}

-- an edge at a state is an edge of it
edge_of : (states : List State) (i : ℕ) (e : Edge) → Contains (edges_at states i) e →
    (s : State) × (slice_get states i ≡ Some s) × Contains s.edges e
edge_of [] i e has = absurd (none-some e (is_some_of [] e has).1)
edge_of (s ∷ states) zero e has = (s, refl, has)
edge_of (s ∷ states) (suc i) e has = edge_of states i e has

pub edges_at-bare : (states : List State) (i : ℕ) →
    edges_at states i ≡ (get_or states i bare).edges
edges_at-bare [] i = refl
edges_at-bare (t ∷ states) zero = refl
edges_at-bare (t ∷ states) (suc i) = edges_at-bare states i

pub edges_at-is : (states : List State) (i : ℕ) (s : State) → i < length states →
    s ≡ get_or states i s → edges_at states i ≡ s.edges
edges_at-is states i s less is =
    edges_at-bare states i
    ∙ ap (λ (u : State). u.edges) (get_or_default states i bare s less ∙ sym is)

pub edge_below : (states : List State) → AreStates states → (i : ℕ) (e : Edge) →
    Contains (edges_at states i) e → e.target < i
edge_below states fit i e has =
    let h = edge_of states i e has in (fit i h.0 h.1).within e h.2

-- what two ways to go on make of edges is the same where they agree on each
folds_same : (f g : List ℕ → Edge → List ℕ) (edges : List Edge) →
    ((e : Edge) (left : List ℕ) → Contains edges e → f left e ≡ g left e) → (left : List ℕ) →
    fold f left edges ≡ fold g left edges
folds_same f g [] same left = refl
folds_same f g (e ∷ edges) same left =
    ap (λ (l : List ℕ). fold f l edges) (same e left (in_front e edges))
    ∙ folds_same f g edges (λ d l has. same d l (behind e edges d has)) (g left e)

module _ (states : List State) (fit : AreStates states) where
  -- a state is visited the same way at any depth below which it stands
  pub left_after-depth : (n m i : ℕ) (left : List ℕ) → i < n → i < m →
      left_after n states left i ≡ left_after m states left i
  unfolding left_after
  left_after-depth zero m i left low high = absurd (omega (arith, low))
  left_after-depth (suc n) zero i left low high = absurd (omega (arith, high))
  left_after-depth (suc n) (suc m) i left low high =
      ap (λ (l : List ℕ). cond (list_any (nat_eq i) left) left (l ++ i ∷ []))
      (folds_same (λ l e. left_after n states l e.target) (λ l e. left_after m states l e.target)
      (edges_at states i)
      (λ e l has. let under = edge_below states fit i e has in
      left_after-depth n m e.target l (omega (arith, under, low)) (omega (arith, under, high)))
      left)

  -- a state that wasn't left is left behind what its edges lead to
  pub left_after-new : (i : ℕ) (left : List ℕ) → i < length states →
      list_any (nat_eq i) left ≡ false →
      left_after (length states) states left i ≡ left_behind states (edges_at states i) left ++ i ∷ []
  unfolding left_after
  left_after-new i left less new =
      left_after-depth (length states) (suc (length states)) i left less (omega (arith, less))
      ∙ ap (λ b. cond b left (left_behind states (edges_at states i) left ++ i ∷ [])) new

-- a state that was left isn't visited
pub left_after-known : (depth : ℕ) (states : List State) (i : ℕ) (left : List ℕ) →
    list_any (nat_eq i) left ≡ true → left_after depth states left i ≡ left
unfolding left_after
left_after-known zero states i left known = refl
left_after-known (suc depth) states i left known =
    ap (λ b. cond b left (fold (λ l (e : Edge). left_after depth states l e.target) left
    (edges_at states i) ++ i ∷ [])) known

-- the numbers below n are those that are lower
known_from : (a n i : ℕ) → a ≤ i → i < a + n → list_any (nat_eq i) (range_with_len a n) ≡ true
known_from a zero i low high = absurd (omega (arith, low, high))
known_from a (suc n) i low high = elim (cases_eq i a) [
  | inl same ↦ ap (λ b. b || list_any (nat_eq i) (range_with_len (a + 1) n))
      ((Decides-eqb i a).1 same)
  | inr other ↦ either (nat_eq i a) (known_from (a + 1) n i (omega (arith, low, other))
      (omega (arith, high)))
]
  where
    either : (b : Bool) → list_any (nat_eq i) (range_with_len (a + 1) n) ≡ true →
        (b || list_any (nat_eq i) (range_with_len (a + 1) n)) ≡ true
    either true h = refl
    either false h = h

is_false : (b : Bool) → (b ≡ true → ⊥) → b ≡ false
is_false true h = absurd (h refl)
is_false false h = refl

new_from : (a n i : ℕ) → a + n ≤ i → list_any (nat_eq i) (range_with_len a n) ≡ false
new_from a zero i high = refl
new_from a (suc n) i high =
    ap (λ b. b || list_any (nat_eq i) (range_with_len (a + 1) n))
    (is_false (nat_eq i a) (λ same. let is = (Decides-eqb i a).0 same in
    absurd (omega (arith, is, high))))
    ∙ new_from (a + 1) n i (omega (arith, high))

pub below_known : (n i : ℕ) → i < n → list_any (nat_eq i) (below n) ≡ true
below_known n i less = known_from 0 n i (omega arith) (omega (arith, less))

pub below_new : (n i : ℕ) → n ≤ i → list_any (nat_eq i) (below n) ≡ false
below_new n i high = new_from 0 n i (omega (arith, high))

range-push : (a n : ℕ) → range_with_len a (suc n) ≡ range_with_len a n ++ (a + n) ∷ []
range-push a zero = ap (λ k. k ∷ []) (let e : a ≡ a + 0 = omega arith in e)
range-push a (suc n) =
    ap (λ (l : List ℕ). a ∷ l) (range-push (a + 1) n
    ∙ ap (λ k. range_with_len (a + 1) n ++ k ∷ []) (let e : a + 1 + n ≡ a + suc n = omega arith in e))

pub below-push : (n : ℕ) → below (n + 1) ≡ below n ++ n ∷ []
below-push n =
    ap below (let e : n + 1 ≡ suc n = omega arith in e) ∙ range-push 0 n
    ∙ ap (λ k. below n ++ k ∷ []) (let e : 0 + n ≡ n = omega arith in e)

-- edges to states that were left change nothing
pub left_behind-known : (states : List State) (n : ℕ) (edges : List Edge) →
    All (λ (e : Edge). e.target < n) edges → left_behind states edges (below n) ≡ below n
left_behind-known states n [] known = refl
left_behind-known states n (e ∷ edges) known =
    ap (λ (l : List ℕ). left_behind states edges l)
    (left_after-known (length states) states e.target (below n)
    (below_known n e.target (All-head (λ (d : Edge). d.target < n) e edges known)))
    ∙ left_behind-known states n edges (All-tail (λ (d : Edge). d.target < n) e edges known)

-- the test of an edge to a state that wasn't left
abbrev pub is_new : ℕ → Edge → Bool
is_new n e = nat_le n e.target

-- what is found in the rest of the edges
pub found_left : (n place : ℕ) (edges all : List Edge) (found : Option ℕ) → edges ≡ all →
    found ≡ position (is_new n) (take (length edges - place) (drop place edges)) →
    position (is_new n) (drop place all) ≡ found
found_left n place edges all found is at =
    ap (λ (l : List Edge). position (is_new n) (drop place l)) (sym is)
    ∙ ap (λ (l : List Edge). position (is_new n) l) (sym (take_rest edges place)) ∙ sym at

-- no edge passes where no place is found
pub none_new : (n : ℕ) (edges : List Edge) → position (is_new n) edges ≡ None →
    All (λ (e : Edge). e.target < n) edges
none_new n edges none k d less =
    leb-false n (get_or edges k d).target (is_not (is_new n (get_or edges k d))
    (prefix_len_passes (λ e. not (is_new n e)) edges k d (by_test _ refl none)))
  where
    is_not : (b : Bool) → not b ≡ true → b ≡ false
    is_not true h = sym h
    is_not false h = refl

    by_test : (b : Bool) → nat_lt (position_or_len (is_new n) edges) (length edges) ≡ b →
        position (is_new n) edges ≡ None → k < position_or_len (is_new n) edges
    by_test true is none =
        absurd (none-some _ (sym none ∙ ap (λ c. cond c (Some (position_or_len (is_new n) edges)) None) is))
    by_test false is none =
        let long = leb-false (suc (position_or_len (is_new n) edges)) (length edges) is in
        omega (arith, long, less)

-- the edges before the place that is found don't pass
pub front_known : (n : ℕ) (edges : List Edge) (k : ℕ) →
    position (is_new n) edges ≡ Some k → All (λ (e : Edge). e.target < n) (take k edges)
front_known n edges k found j d less =
    let short : j < k = (let l = length-take k edges in omega (arith, l, less)) in
    let fails = (position-Some (is_new n) edges k d found).2 j short in
    subst (λ (e : Edge). e.target < n) (sym (get_or-take k edges j d short))
    (leb-false n (get_or edges j d).target fails)

module _ (states : List State) (fit : AreStates states) (n : ℕ) (frame : Frame) (k : ℕ) (d : Edge)
    (is_frame : IsFrame states frame)
    (found : position (is_new n) (edges_left states frame) ≡ Some k) where
  edges : List Edge
  edges = edges_at states frame.state

  rest : List Edge
  rest = edges_left states frame

  e : Edge
  e = get_or edges (frame.place + k) d

  inside : k < length rest
  unfolding rest
  inside = (position-Some (is_new n) rest k d found).0

  within : frame.place + k < length edges
  unfolding rest edges
  within = let l = length-drop frame.place edges in let i = inside in omega (arith, l, i)

  same : get_or rest k d ≡ e
  unfolding rest edges e
  same = get_or-drop frame.place edges k d

  new : n ≤ e.target
  unfolding rest
  new = subst (λ (x : Edge). n ≤ x.target) same
      (leb-true n (get_or rest k d).target (position-Some (is_new n) rest k d found).1)

  low : e.target < frame.state
  unfolding edges e
  low = edge_below states fit frame.state e (Contains-get_or edges (frame.place + k) d within)

  into : Frame
  into = record { state = e.target; place = 0 }

  past : Frame
  past = record { state = frame.state; place = frame.place + k + 1 }

  -- the edges behind the one that is found
  behind_rest : drop k rest ≡ e ∷ edges_left states past
  unfolding rest past edges
  behind_rest =
      drop_more rest k d inside
      ∙ ap (λ (x : Edge). x ∷ drop (k + 1) rest) same
      ∙ ap (λ (l : List Edge). e ∷ l) (drop-drop (k + 1) frame.place edges
      ∙ ap (λ i. drop i edges) (let a : frame.place + (k + 1) ≡ frame.place + k + 1 = omega arith in a))

  taken : left_behind states rest (below n) ≡ left_behind states (edges_left states past)
      (left_after (length states) states (below n) e.target)
  unfolding rest
  taken =
      ap (λ (l : List Edge). left_behind states l (below n)) (sym (take-append-drop k rest))
      ∙ fold-append (λ (l : List ℕ) (x : Edge). left_after (length states) states l x.target)
      (below n) (take k rest) (drop k rest)
      ∙ ap (λ (l : List ℕ). left_behind states (drop k rest) l)
      (left_behind-known states n (take k rest) (front_known n rest k found))
      ∙ ap (λ (l : List Edge). left_behind states l (below n)) behind_rest

  -- the visit goes on with the state to which it leads
  pub goes_to : GoesTo states n frame (record { state = frame.state; place = frame.place + k + 1 })
      (record { state = (get_or (edges_at states frame.state) (frame.place + k) d).target; place = 0 })
  unfolding rest edges e into past
  goes_to = record {
    on = taken ∙ ap (λ (l : List ℕ). left_behind states (edges_left states past) l)
        (left_after-new states fit e.target (below n) (let s = is_frame.state in let l = low in omega (arith, s, l))
        (below_new n e.target new));
    same = refl;
    less = low;
    behind_frame = record { state = is_frame.state; place = let w = within in omega (arith, w) };
    into_frame = record { state = let s = is_frame.state in let l = low in omega (arith, s, l); place = omega arith };
  }
