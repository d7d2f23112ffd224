-- Lists that grow by one member, for loops.
use Rattle.std.proofs.Common.{arith, ◌≡◌, ℕ, zero, suc, ◌+◌, ◌-◌, ◌<◌, ◌≤◌, List, [], ◌∷◌, ◌++◌, refl, sym, ◌∙◌, ap, subst, map, length, get_or, take, append-nil, Some, None, filter, Bool, true, false, cond, ◌↔◌, inl, inr, length-append, reverse}
use Rattle.std.specs.Prelude.{Contains, Option, option_to_list, slice_get, IsSomeAnd}
use Rattle.std.specs.List.{flat_map, list_any}
use Rattle.std.proofs.lemmas.Bool.{false≢true}
use Rattle.std.proofs.lemmas.List.Elements.{Contains-push_cases}
use Rattle.std.proofs.lemmas.List.{reverse-append}
use Rattle.ux_base.proofs.Lists.{less_or}
use Rattle.ux_digraph.specs.Rules.{is_marked_at}
use Rattle.ux_base.proofs.Lists.{take_more}
use Rattle.ux_base.proofs.JoinedLists.{joined_push}
use Rattle.ux_net.specs.declared.state.State.{State}
use Rattle.ux_net.specs.declared.state.Edge.{Edge}
use Rattle.ux_net.specs.declared.net_graph.NetGraph.{NetGraph}
use Rattle.ux_net.specs.Nets.{states_in, states_of}
use Rattle.ux_inflect.specs.declared.codes.CodeState.{CodeState}
use Rattle.ux_inflect.specs.declared.stroke.Stroke.{Stroke}
use Rattle.ux_inflect.specs.Cyclic.{targets_of, called_on, calls_of_state, calls_of}
use Rattle.ux_grf.specs.declared.item.Piece.{Piece}
use Rattle.ux_inflect.specs.Places.{after_byte, after_text, put_of}
use Rattle.ux_inflect.specs.Strokes.{Cursor, all_stroked, also}
use Rattle.ux_inflect.proofs.PlacesLemmas.{all_stroked-append, after_text-append}

pub map_push : {A B : Type 0} (f : A → B) (xs : List A) (x : A) →
    map f (xs ++ x ∷ []) ≡ map f xs ++ f x ∷ []
map_push f [] x = refl
map_push f (y ∷ xs) x = ap (λ (l : _). f y ∷ l) (map_push f xs x)

pub map_more : {A B : Type 0} (f : A → B) (xs : List A) (i : ℕ) (d : A) → i < length xs →
    map f (take (i + 1) xs) ≡ map f (take i xs) ++ f (get_or xs i d) ∷ []
map_more f xs i d h = ap (map f) (take_more xs i d h) ∙ map_push f (take i xs) (get_or xs i d)

pub joined_next : {A B : Type 0} (f : A → List B) (xs : List A) (i : ℕ) (d : A) → i < length xs →
    flat_map f (take (i + 1) xs) ≡ flat_map f (take i xs) ++ f (get_or xs i d)
joined_next f xs i d h = ap (flat_map f) (take_more xs i d h) ∙ joined_push f (take i xs) (get_or xs i d)

filter_one : {A : Type 0} (b : Bool) (x : A) (l m n : List A) → l ≡ m ++ n →
    cond b (x ∷ l) l ≡ cond b (x ∷ m) m ++ n
filter_one true x l m n e = ap (λ (k : _). x ∷ k) e
filter_one false x l m n e = e

pub filter_append : {A : Type 0} (p : A → Bool) (xs ys : List A) →
    filter p (xs ++ ys) ≡ filter p xs ++ filter p ys
filter_append p [] ys = refl
filter_append p (x ∷ xs) ys = filter_one (p x) x (filter p (xs ++ ys)) (filter p xs) (filter p ys)
    (filter_append p xs ys)

-- how codes are read on
pub after_text_more : (codes : CodeState) (text : List ℕ) (i d : ℕ) → i < length text →
    after_text codes (take (i + 1) text)
    ≡ after_byte (after_text codes (take i text)) (get_or text i d)
after_text_more codes text i d h = ap (after_text codes) (take_more text i d h)
    ∙ after_text-append codes (take i text) (get_or text i d ∷ [])

pub strokes_more : (f : ℕ → Stroke) (cs : List ℕ) (c : ℕ) (start : Option Cursor) →
    all_stroked (map f (cs ++ c ∷ [])) start ≡ also (f c) (all_stroked (map f cs) start)
strokes_more f cs c start = ap (λ (l : List Stroke). all_stroked l start) (map_push f cs c)
    ∙ all_stroked-append (map f cs) (f c ∷ []) start

-- a state that is there
pub some_and : {A : Type 0} (o : Option A) (P : A → Type 0) → IsSomeAnd o P →
    (x : A) × (o ≡ Some x) × P x
some_and None P h = absurd h
some_and (Some x) P h = (x, refl, h)

-- one more state, of those of a graph
pub taken_more : {A : Type 0} (xs : List A) (i : ℕ) (x : A) → slice_get xs i ≡ Some x →
    take (i + 1) xs ≡ take i xs ++ x ∷ []
taken_more [] i x h = cc
taken_more (y ∷ ys) zero x h = let e : y ≡ x = cc in ap (λ (z : _). z ∷ []) e
taken_more (y ∷ ys) (suc i) x h =
    let n : suc i + 1 ≡ suc (i + 1) = omega arith in
    rw n (ap (λ (l : _). y ∷ l) (taken_more ys i x h))

pub filter_next : {A : Type 0} (p : ℕ → Bool) (f : A → List ℕ) (xs : List A) (i : ℕ) (d : A) →
    i < length xs → filter p (flat_map f (take (i + 1) xs))
    ≡ filter p (flat_map f (take i xs)) ++ filter p (f (get_or xs i d))
filter_next p f xs i d h = ap (filter p) (joined_next f xs i d h)
    ∙ filter_append p (flat_map f (take i xs)) (f (get_or xs i d))

pub filter_ends : {A : Type 0} (p : ℕ → Bool) (f : A → ℕ) (xs : List A) (i : ℕ) (d : A) →
    i < length xs → filter p (map f (take (i + 1) xs))
    ≡ filter p (map f (take i xs)) ++ filter p (f (get_or xs i d) ∷ [])
filter_ends p f xs i d h = ap (filter p) (map_more f xs i d h)
    ∙ filter_append p (map f (take i xs)) (f (get_or xs i d) ∷ [])

pub pieces_more : (codes : CodeState) (pieces : List Piece) (i : ℕ) (d : Piece) → i < length pieces →
    after_text codes (flat_map put_of (take (i + 1) pieces))
    ≡ after_text (after_text codes (flat_map put_of (take i pieces))) (put_of (get_or pieces i d))
pieces_more codes pieces i d h = ap (after_text codes) (joined_next put_of pieces i d h)
    ∙ after_text-append codes (flat_map put_of (take i pieces)) (put_of (get_or pieces i d))

-- one more state's calls, and its row
pub calls_next : (p : ℕ → Bool) (states : List State) (i : ℕ) (edges : List Edge) →
    IsSomeAnd (slice_get states i) (λ (s : State). edges ≡ s.edges) →
    filter p (flat_map calls_of_state (take (i + 1) states))
    ≡ filter p (flat_map calls_of_state (take i states))
    ++ filter p (flat_map (λ (e : Edge). called_on e.label) edges)
calls_next p states i edges h =
    let s = some_and (slice_get states i) (λ (s : State). edges ≡ s.edges) h in
    ap (λ (l : List State). filter p (flat_map calls_of_state l)) (taken_more states i s.0 s.1)
    ∙ (ap (filter p) (joined_push calls_of_state (take i states) s.0)
    ∙ (filter_append p (flat_map calls_of_state (take i states)) (calls_of_state s.0)
    ∙ ap (λ (l : List Edge). filter p (flat_map calls_of_state (take i states))
    ++ filter p (flat_map (λ (e : Edge). called_on e.label) l)) (sym s.2)))

pub states_next : (p : ℕ → Bool) (states : List State) (i : ℕ) (edges : List Edge) →
    IsSomeAnd (slice_get states i) (λ (s : State). edges ≡ s.edges) →
    map (filter p) (map targets_of (take (i + 1) states))
    ≡ map (filter p) (map targets_of (take i states))
    ++ filter p (map (λ (e : Edge). e.target) edges) ∷ []
states_next p states i edges h =
    let s = some_and (slice_get states i) (λ (s : State). edges ≡ s.edges) h in
    ap (λ (l : List State). map (filter p) (map targets_of l)) (taken_more states i s.0 s.1)
    ∙ (ap (map (filter p)) (map_push targets_of (take i states) s.0)
    ∙ (map_push (filter p) (map targets_of (take i states)) (targets_of s.0)
    ∙ ap (λ (l : List Edge). map (filter p) (map targets_of (take i states))
    ++ filter p (map (λ (e : Edge). e.target) l) ∷ []) (sym s.2)))

-- one more mark
pub marked_more : (P : ℕ → Type 0) (marks : List Bool) (n : ℕ) (b : Bool) → length marks ≡ n →
    ((u : ℕ) → u < n → (is_marked_at marks u ≡ true) ↔ P u) → (b ≡ true) ↔ P n →
    (length (marks ++ b ∷ []) ≡ n + 1)
    × ((u : ℕ) → u < n + 1 → (is_marked_at (marks ++ b ∷ []) u ≡ true) ↔ P u)
marked_more P marks n b len known new = (
  (let l = length-append marks (b ∷ []) in omega (arith, l, len)),
  λ u less. elim (less_or u n) [
    | inl before ↦ subst (λ (c : Bool). (c ≡ true) ↔ P u)
        (sym (get_or-append_left marks u (omega (arith, before, len)))) (known u before)
    | inr after ↦
        let e : n ≡ u = omega arith in
        subst (λ v. (is_marked_at (marks ++ b ∷ []) v ≡ true) ↔ P v) e
        (subst (λ (c : Bool). (c ≡ true) ↔ P n) (sym (at_end_is marks n b len)) new)
  ],
)
  where
    get_or-append_left : (marks : List Bool) (u : ℕ) → u < length marks →
        is_marked_at (marks ++ b ∷ []) u ≡ is_marked_at marks u
    get_or-append_left [] u h = absurd (omega arith)
    get_or-append_left (m ∷ marks) zero h = refl
    get_or-append_left (m ∷ marks) (suc u) h = get_or-append_left marks u (omega arith)

    at_end_is : (marks : List Bool) (n : ℕ) (b : Bool) → length marks ≡ n →
        is_marked_at (marks ++ b ∷ []) n ≡ b
    at_end_is [] zero b h = refl
    at_end_is [] (suc n) b h = absurd (omega arith)
    at_end_is (m ∷ marks) zero b h = absurd (omega arith)
    at_end_is (m ∷ marks) (suc n) b h = at_end_is marks n b (omega arith)

-- a mark that none of them is
pub no_mark : (marks : List Bool) → list_any (λ mark. mark) marks ≡ false → (u : ℕ) →
    is_marked_at marks u ≡ true → ⊥
no_mark [] none u h = absurd (false≢true h)
no_mark (true ∷ marks) none u h = absurd (false≢true (sym none))
no_mark (false ∷ marks) none zero h = absurd (false≢true h)
no_mark (false ∷ marks) none (suc u) h = no_mark marks none u h

pub some_mark : (marks : List Bool) → list_any (λ mark. mark) marks ≡ true →
    (u : ℕ) × (is_marked_at marks u ≡ true)
some_mark [] some = absurd (false≢true some)
some_mark (true ∷ marks) some = (0, refl)
some_mark (false ∷ marks) some = let r = some_mark marks some in (suc r.0, r.1)

-- nothing so far, and not the next one
pub none_more : {A : Type 0} (P : A → Type 0) (xs : List A) (i : ℕ) (x : A) → i < length xs →
    x ≡ get_or xs i x → ((y : A) → Contains (take i xs) y → P y → ⊥) → (P x → ⊥) →
    (y : A) → Contains (take (i + 1) xs) y → P y → ⊥
none_more P xs i x h is known new y c p =
    let more = take_more xs i x h ∙ ap (λ (z : _). take i xs ++ z ∷ []) (sym is) in
    elim (Contains-push_cases (take i xs) x y (subst (λ (l : List _). Contains l y) more c)) [
      | inl before ↦ known y before p
      | inr e ↦ new (subst P (sym e) p)
    ]

pub there : {A : Type 0} (xs : List A) (n : ℕ) → n < length xs → (x : A) × (slice_get xs n ≡ Some x)
there [] n less = absurd (omega arith)
there (x ∷ xs) zero less = (x, refl)
there (x ∷ xs) (suc n) less = there xs n (omega arith)

-- one more graph's calls
pub graph_more : (p : ℕ → Bool) (net : List NetGraph) (n : ℕ) → n < length net →
    map (filter p) (map calls_of (take (n + 1) net)) ≡ map (filter p) (map calls_of (take n net))
    ++ filter p (flat_map calls_of_state (states_of net (n + 1))) ∷ []
graph_more p net n less =
    let g = there net n less in
    let next : n + 1 ≡ suc n = omega arith in
    let same : states_of net (n + 1) ≡ g.0.states =
    ap (λ m. states_of net m) next ∙ ap states_in g.1 in
    ap (λ (l : List NetGraph). map (filter p) (map calls_of l)) (taken_more net n g.0 g.1)
    ∙ (ap (map (filter p)) (map_push calls_of (take n net) g.0)
    ∙ (map_push (filter p) (map calls_of (take n net)) (calls_of g.0)
    ∙ ap (λ (states : List State). map (filter p) (map calls_of (take n net))
    ++ filter p (flat_map calls_of_state states) ∷ []) (sym same)))

-- a list from which nothing could be popped
pub popped_none : {A : Type 0} (xs now : List A) (o : Option A) → xs ≡ now ++ option_to_list o →
    now ≡ take (length xs - 1) xs → ((x : A) → o ≡ Some x → ⊥) → xs ≡ []
popped_none [] now o all rest none = refl
popped_none (x ∷ xs) now (Some y) all rest none = absurd (none y refl)
popped_none (x ∷ xs) now None all rest none =
    let whole : (x ∷ xs) ≡ now = all ∙ append-nil now in
    let short = ap length (whole ∙ rest) in
    let few = take_short (length (x ∷ xs) - 1) (x ∷ xs) in
    absurd (omega (arith, short, few))
  where
    take_short : {B : Type 0} (n : ℕ) (ys : List B) → length (take n ys) ≤ n
    take_short zero ys = omega arith
    take_short (suc n) [] = omega arith
    take_short (suc n) (y ∷ ys) = let r = take_short n ys in omega (arith, r)

-- the last member of a list is the first one of it read backwards
split_end : {A : Type 0} (xs : List A) (x : A) → slice_get xs (length xs - 1) ≡ Some x →
    (front : List A) × (xs ≡ front ++ x ∷ [])
split_end [] x h = cc
split_end (y ∷ []) x h = ([], (let e : y ≡ x = cc in ap (λ (z : _). z ∷ []) e))
split_end (y ∷ z ∷ xs) x h =
    let n : suc (suc (length xs)) - 1 ≡ suc (length xs) = omega arith in
    let m : suc (length xs) - 1 ≡ length xs = omega arith in
    let h1 : slice_get (y ∷ z ∷ xs) (suc (length xs)) ≡ Some x =
    ap (λ k. slice_get (y ∷ z ∷ xs) k) (sym n) ∙ h in
    let r = split_end (z ∷ xs) x (ap (λ k. slice_get (z ∷ xs) k) m ∙ h1) in
    (y ∷ r.0, ap (λ (l : _). y ∷ l) r.1)

pub last_reversed : {A : Type 0} (xs : List A) (x : A) → slice_get xs (length xs - 1) ≡ Some x →
    (below : List A) × (reverse xs ≡ x ∷ below)
last_reversed xs x h =
    let s = split_end xs x h in
    (reverse s.0, ap (λ (l : _). reverse l) s.1 ∙ reverse-append s.0 (x ∷ []))
