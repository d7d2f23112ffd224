-- How the lists of a copy grow, edge by edge and state by state.
use Rattle.std.proofs.Common.{arith, ◌≡◌, ℕ, suc, ◌+◌, ◌<◌, List, [], ◌∷◌, ◌++◌, refl, sym, subst, ap, ◌∙◌, append_assoc, append-nil, add-one, length, get_or, drop, sum_by}
use Rattle.std.specs.Prelude.{reverse}
use Rattle.std.proofs.Math.Seq.{drop-cons}
use Rattle.std.proofs.lemmas.List.{reverse-append}
use Rattle.std.proofs.lemmas.List.Sums.{sum_by-cons}
use Rattle.ux_net.specs.declared.state.Edge.{Edge}
use Rattle.ux_net.specs.declared.state.State.{State}
use Rattle.ux_flatten.specs.declared.pending.Pending.{Pending}
use Rattle.ux_flatten.specs.declared.source.Source.{Source}
use Rattle.ux_flatten.specs.Copies.{copied_by, edges_of, copy}
use Rattle.ux_flatten.specs.Making.{edge_in, edges_in, has_word, pending_if, pending_in, room_in, state_in, states_in, states_inner, states_left}

-- what is left of a list begins with the next element
pub dropped : {A : Type 0} (xs : List A) (i : ℕ) (x : A) → i < length xs → x ≡ get_or xs i x →
    drop i xs ≡ x ∷ drop (i + 1) xs
dropped xs i x lt at = subst (λ n. drop i xs ≡ x ∷ drop n xs) (sym (add-one i))
    (drop-cons xs i x lt ∙ ap (λ y. y ∷ drop (suc i) xs) (sym at))

-- one element more is made, or several
pub one_more : {A : Type 0} (made now later whole : List A) (x : A) → now ≡ made ++ x ∷ [] →
    made ++ (x ∷ later) ≡ whole → now ++ later ≡ whole
one_more made now later whole x grown so_far =
    ap (λ l. l ++ later) grown ∙ (append_assoc made (x ∷ []) later ∙ so_far)

pub some_more : {A : Type 0} (made now some later whole : List A) → now ≡ made ++ some →
    made ++ (some ++ later) ≡ whole → now ++ later ≡ whole
some_more made now some later whole grown so_far =
    ap (λ l. l ++ later) grown ∙ (append_assoc made some later ∙ so_far)

module _ (source : Source) (made : Pending) where
  abbrev room_of : Edge → ℕ
  room_of = room_in source made

  pub edges_more : (edges : List Edge) (i next now_next : ℕ) (edge x : Edge) (list now whole : List Edge) →
      i < length edges → edge ≡ get_or edges i edge →
      list ++ edges_in source made next (drop i edges) ≡ whole → x ≡ edge_in source made next edge →
      now ≡ list ++ x ∷ [] → now_next ≡ next + room_of edge →
      now ++ edges_in source made now_next (drop (i + 1) edges) ≡ whole
  edges_more edges i next now_next edge x list now whole lt at so_far is grown on =
      subst (λ n. now ++ edges_in source made n (drop (i + 1) edges) ≡ whole) (sym on)
      (one_more list now (edges_in source made (next + room_of edge) (drop (i + 1) edges)) whole
      (edge_in source made next edge) (grown ∙ ap (λ y. list ++ y ∷ []) is)
      (subst (λ l. list ++ edges_in source made next l ≡ whole) (dropped edges i edge lt at) so_far))

  pub next_more : (edges : List Edge) (i next now whole : ℕ) (edge : Edge) → i < length edges →
      edge ≡ get_or edges i edge → next + sum_by room_of (drop i edges) ≡ whole →
      now ≡ next + room_of edge → now + sum_by room_of (drop (i + 1) edges) ≡ whole
  next_more edges i next now whole edge lt at so_far on =
      let split : sum_by room_of (drop i edges) ≡ room_of edge + sum_by room_of (drop (i + 1) edges) =
      ap (sum_by room_of) (dropped edges i edge lt at)
      ∙ sum_by-cons room_of edge (drop (i + 1) edges) in
      omega (arith, so_far, on, split)

  pub pending_more : (edges : List Edge) (i next now_next : ℕ) (edge : Edge)
      (list now whole : List Pending) → i < length edges → edge ≡ get_or edges i edge →
      list ++ pending_in source made next (drop i edges) ≡ whole →
      now ≡ list ++ pending_if source made
      (copied_by source.graphs.items (has_word source) made.depth edge) next edge →
      now_next ≡ next + room_of edge →
      now ++ pending_in source made now_next (drop (i + 1) edges) ≡ whole
  pending_more edges i next now_next edge list now whole lt at so_far grown on =
      subst (λ n. now ++ pending_in source made n (drop (i + 1) edges) ≡ whole) (sym on)
      (some_more list now (pending_if source made
      (copied_by source.graphs.items (has_word source) made.depth edge) next edge)
      (pending_in source made (next + room_of edge) (drop (i + 1) edges)) whole grown
      (subst (λ l. list ++ pending_in source made next l ≡ whole) (dropped edges i edge lt at) so_far))

  -- the copies in place of edges that stand behind others
  pub pending_joined : (xs ys : List Edge) (next : ℕ) →
      pending_in source made next (xs ++ ys)
      ≡ pending_in source made next xs ++ pending_in source made (next + sum_by room_of xs) ys
  pending_joined [] ys next = ap (λ n. pending_in source made n ys) (omega arith)
  pending_joined (x ∷ xs) ys next =
      let here = pending_if source made
      (copied_by source.graphs.items (has_word source) made.depth x) next x in
      let on : next + room_of x + sum_by room_of xs ≡ next + sum_by room_of (x ∷ xs) =
      omega (arith, sum_by-cons room_of x xs) in
      ap (λ l. here ++ l) (pending_joined xs ys (next + room_of x)
      ∙ ap (λ n. pending_in source made (next + room_of x) xs ++ pending_in source made n ys) on)
      ∙ sym (append_assoc here (pending_in source made (next + room_of x) xs)
      (pending_in source made (next + sum_by room_of (x ∷ xs)) ys))

  pub states_more : (states : List State) (i next now_next : ℕ) (state x : State)
      (list now whole : List State) → i < length states → state ≡ get_or states i state →
      list ++ states_in source made next (drop i states) ≡ whole →
      x ≡ state_in source made next state → now ≡ list ++ x ∷ [] →
      now_next ≡ next + sum_by room_of state.edges →
      now ++ states_in source made now_next (drop (i + 1) states) ≡ whole
  states_more states i next now_next state x list now whole lt at so_far is grown on =
      subst (λ n. now ++ states_in source made n (drop (i + 1) states) ≡ whole) (sym on)
      (one_more list now
      (states_in source made (next + sum_by room_of state.edges) (drop (i + 1) states)) whole
      (state_in source made next state) (grown ∙ ap (λ y. list ++ y ∷ []) is)
      (subst (λ l. list ++ states_in source made next l ≡ whole) (dropped states i state lt at) so_far))

  pub inner_more : (states : List State) (i next now_next : ℕ) (state : State)
      (list now whole : List Pending) → i < length states → state ≡ get_or states i state →
      list ++ pending_in source made next (edges_of (drop i states)) ≡ whole →
      now ≡ list ++ pending_in source made next state.edges →
      now_next ≡ next + sum_by room_of state.edges →
      now ++ pending_in source made now_next (edges_of (drop (i + 1) states)) ≡ whole
  inner_more states i next now_next state list now whole lt at so_far grown on =
      let left = dropped states i state lt at in
      let later = edges_of (drop (i + 1) states) in
      subst (λ n. now ++ pending_in source made n later ≡ whole) (sym on)
      (some_more list now (pending_in source made next state.edges)
      (pending_in source made (next + sum_by room_of state.edges) later) whole grown
      (ap (λ l. list ++ l) (sym (pending_joined state.edges later next))
      ∙ subst (λ l. list ++ pending_in source made next (edges_of l) ≡ whole) left so_far))

module _ (source : Source) where
  -- a stack of two parts: what stands on top is made first
  pub left_joined : (xs ys : List Pending) →
      states_left source (xs ++ ys) ≡ states_left source ys ++ states_left source xs
  left_joined [] ys = sym (append-nil (states_left source ys))
  left_joined (x ∷ xs) ys =
      let own = copy source.graphs.items (has_word source) x.depth x.graph x.first x.back in
      ap (λ l. l ++ own) (left_joined xs ys)
      ∙ append_assoc (states_left source ys) (states_left source xs) own

  pub left_reverse : (xs : List Pending) → states_left source (reverse xs) ≡ states_inner source xs
  left_reverse [] = refl
  left_reverse (x ∷ xs) =
      let own = copy source.graphs.items (has_word source) x.depth x.graph x.first x.back in
      ap (states_left source) (reverse-append (x ∷ []) xs)
      ∙ left_joined (reverse xs) (reverse (x ∷ []))
      ∙ ap (λ l. own ++ l) (left_reverse xs)

-- a copy goes from the one list to the stack
pub stack_more : (copy : Pending) (pending now rest old whole : List Pending) →
    old ≡ rest ++ copy ∷ [] → pending ++ reverse old ≡ whole → now ≡ pending ++ copy ∷ [] →
    now ++ reverse rest ≡ whole
stack_more copy pending now rest old whole split so_far grown =
    one_more pending now (reverse rest) whole copy grown
    (ap (λ l. pending ++ l) (sym (ap reverse split ∙ reverse-append rest (copy ∷ []))) ∙ so_far)
