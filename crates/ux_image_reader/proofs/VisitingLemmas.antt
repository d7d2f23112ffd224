-- A visit in progress: what the deepest state leaves, the others go on with; and what was left stays
-- at the front.
use Rattle.std.proofs.Common.{arith, ◌≡◌, ℕ, zero, suc, ◌+◌, ◌-◌, ◌<◌, ◌≤◌, List, [], ◌∷◌, ◌++◌, Bool, true, false, cond, refl, sym, ◌∙◌, ap, subst, length}
use Rattle.std.specs.Prelude.{All, Some, fold, nat_eq, slice_get}
use Rattle.std.specs.List.{list_any}
use Rattle.std.proofs.lemmas.List.{append_assoc, append-nil}
use Rattle.std.proofs.lemmas.List.Elements.{All-nil, All-push}
use Rattle.std.proofs.lemmas.List.FromFn.{length-range_with_len, get_or-range_with_len}
use Rattle.std.proofs.lemmas.Option.{none-some, same_Some, slice_get-get_or}
use Rattle.ux_dawg.specs.declared.state.Edge.{Edge}
use Rattle.ux_dawg.specs.declared.state.State.{State}
use Rattle.ux_dawg.specs.Paths.{AreStates}
use Rattle.ux_dawg.proofs.PathLemmas.{get_extended}
use Rattle.ux_image_reader.specs.declared.visit.Frame.{Frame}
use Rattle.ux_image_reader.specs.Fronts.{IsNumberedElse}
use Rattle.ux_image_reader.specs.Reading.{IsFirst}
use Rattle.ux_image_reader.specs.Visit.{edges_at, left_after, visit_of}
use Rattle.ux_image_reader.specs.Visiting.{below, edges_left, left_at_end, left_behind, GoesTo, IsFrame, Leaves}
use Rattle.ux_image_reader.proofs.VisitLemmas.{below-push, left_after-new}

left_at_end-push : (states : List State) (stack : List Frame) (f : Frame) (left : List ℕ) →
    left_at_end states (stack ++ f ∷ []) left
    ≡ left_at_end states stack (left_behind states (edges_left states f) left ++ f.state ∷ [])
unfolding left_at_end
left_at_end-push states [] f left = refl
left_at_end-push states (g ∷ stack) f left =
    ap (λ (l : List ℕ). left_behind states (edges_left states g) l ++ g.state ∷ [])
    (left_at_end-push states stack f left)

-- a step down leaves the same states in the end
pub goes_down : (states : List State) (n : ℕ) (stack : List Frame) (frame behind into : Frame) →
    GoesTo states n frame behind into →
    left_at_end states (stack ++ frame ∷ []) (below n)
    ≡ left_at_end states ((stack ++ behind ∷ []) ++ into ∷ []) (below n)
goes_down states n stack frame behind into to =
    left_at_end-push states stack frame (below n)
    ∙ ap (λ (l : List ℕ). left_at_end states stack (l ++ frame.state ∷ [])) to.on
    ∙ ap (λ i. left_at_end states stack (left_behind states (edges_left states behind)
    (left_behind states (edges_left states into) (below n) ++ into.state ∷ []) ++ i ∷ []))
    (sym to.same)
    ∙ sym (left_at_end-push states stack behind
    (left_behind states (edges_left states into) (below n) ++ into.state ∷ []))
    ∙ sym (left_at_end-push states (stack ++ behind ∷ []) into (below n))

-- a state with no edge to another one is left
pub is_left : (states : List State) (n : ℕ) (stack : List Frame) (frame : Frame) →
    left_behind states (edges_left states frame) (below n) ≡ below n →
    left_at_end states (stack ++ frame ∷ []) (below n)
    ≡ left_at_end states stack (below n ++ frame.state ∷ [])
is_left states n stack frame none =
    left_at_end-push states stack frame (below n)
    ∙ ap (λ (l : List ℕ). left_at_end states stack (l ++ frame.state ∷ [])) none

-- the list begins with another one
abbrev Extends : List ℕ → List ℕ → Type 0
Extends left long = (more : List ℕ) × (long ≡ left ++ more)

extends_itself : (left : List ℕ) → Extends left left
extends_itself left = ([], sym (append-nil left))

extends_on : (left mid long : List ℕ) → Extends left mid → Extends mid long → Extends left long
extends_on left mid long one two =
    (one.0 ++ two.0, two.1 ∙ ap (λ (l : List ℕ). l ++ two.0) one.1 ∙ append_assoc left one.0 two.0)

folds_extend : (f : List ℕ → Edge → List ℕ) → ((e : Edge) (l : List ℕ) → Extends l (f l e)) →
    (edges : List Edge) (left : List ℕ) → Extends left (fold f left edges)
folds_extend f each [] left = extends_itself left
folds_extend f each (e ∷ edges) left =
    extends_on left (f left e) _ (each e left) (folds_extend f each edges (f left e))

left_after-extends : (depth : ℕ) (states : List State) (i : ℕ) (left : List ℕ) →
    Extends left (left_after depth states left i)
unfolding left_after
left_after-extends zero states i left = extends_itself left
left_after-extends (suc depth) states i left =
    by (λ e l. left_after-extends depth states e.target l) (list_any (nat_eq i) left)
  where
    by : ((e : Edge) (l : List ℕ) → Extends l (left_after depth states l e.target)) → (b : Bool) →
        Extends left (cond b left
        (fold (λ l (e : Edge). left_after depth states l e.target) left (edges_at states i) ++ i ∷ []))
    by each true = extends_itself left
    by each false = extends_on left
        (fold (λ l (e : Edge). left_after depth states l e.target) left (edges_at states i)) _
        (folds_extend (λ l e. left_after depth states l e.target) each (edges_at states i) left)
        (i ∷ [], refl)

left_at_end-extends : (states : List State) (stack : List Frame) (left : List ℕ) →
    Extends left (left_at_end states stack left)
unfolding left_at_end
left_at_end-extends states [] left = extends_itself left
left_at_end-extends states (f ∷ stack) left =
    extends_on left (left_at_end states stack left) _ (left_at_end-extends states stack left)
    (extends_on _ (left_behind states (edges_left states f) (left_at_end states stack left)) _
    (folds_extend (λ l e. left_after (length states) states l e.target)
    (λ e l. left_after-extends (length states) states e.target l) (edges_left states f)
    (left_at_end states stack left)) (f.state ∷ [], refl))

-- the root, of which no edge was taken
abbrev pub root_frame : List State → Frame
root_frame states = record { state = length states - 1; place = 0 }

-- the root alone leaves what the visit does
pub begins_visit : (states : List State) → AreStates states → 0 < length states →
    (stack : List Frame) → stack ≡ root_frame states ∷ [] →
    All (IsFrame states) stack × (left_at_end states stack (below 0) ≡ visit_of states)
unfolding left_at_end
begins_visit states fit some stack is =
    subst (λ (l : List Frame). All (IsFrame states) l
    × (left_at_end states l (below 0) ≡ visit_of states)) (sym is) (
      All-push (IsFrame states) [] (root_frame states) (All-nil (IsFrame states))
          (record { state = omega (arith, some); place = omega arith }),
      sym (left_after-new states fit (length states - 1) [] (omega (arith, some)) refl),
    )

stands_below : (n m : ℕ) → m < n → slice_get (below n) m ≡ Some m
stands_below n m less =
    slice_get-get_or (below n) m 0 (let l = length-range_with_len 0 n in omega (arith, l, less))
    ∙ ap Some (get_or-range_with_len 0 n m 0 less ∙ (let e : 0 + m ≡ m = omega arith in e))

module _ (states : List State) (n : ℕ) where
  -- the numbers below n are in order where the visit leaves them first
  in_order : (more : List ℕ) → visit_of states ≡ below n ++ more → (m : ℕ) → m < n →
      IsNumberedElse states m → ⊥
  in_order more is m less other =
      other.else_left (ap (λ (l : List ℕ). slice_get l m) is
      ∙ get_extended (below n) more m m (stands_below n m less))

  -- and none is out of order where these are all
  pub all_in_order : (stack : List Frame) → length states ≤ n →
      left_at_end states stack (below n) ≡ visit_of states →
      (m : ℕ) → IsNumberedElse states m → ⊥
  all_in_order stack all on m other =
      let h = left_at_end-extends states stack (below n) in
      let within = other.within in
      in_order h.0 (sym on ∙ h.1) m (omega (arith, within, all)) other

  at_n : (rest : List ℕ) → slice_get (below n ++ rest) n ≡ slice_get rest 0
  at_n rest = behind_front (below n) n (length-range_with_len 0 n)
    where
      behind_front : (front : List ℕ) (k : ℕ) → length front ≡ k →
          slice_get (front ++ rest) k ≡ slice_get rest 0
      behind_front [] zero long = refl
      behind_front [] (suc k) long = absurd (omega (arith, long))
      behind_front (x ∷ front) zero long = absurd (omega (arith, long))
      behind_front (x ∷ front) (suc k) long = behind_front front k (omega (arith, long))

  -- no other state is left
  pub ends_early : n < length states → left_at_end states [] (below n) ≡ visit_of states →
      IsFirst (IsNumberedElse states) (Some n)
  unfolding left_at_end
  ends_early less on =
      let is : visit_of states ≡ below n ++ [] = sym on ∙ sym (append-nil (below n)) in (
        record {
          within = less;
          else_left = λ at. none-some n (sym (ap (λ (l : List ℕ). slice_get l n) is ∙ at_n []) ∙ at);
        },
        λ m lower other. in_order [] is m lower other,
      )

  module _ (old new : List Frame) (state : ℕ) (leaves : Leaves states n old new state)
      (on : left_at_end states old (below n) ≡ visit_of states) where
    -- another state is left
    pub leaves_else : n < length states → (state ≡ n → ⊥) → IsFirst (IsNumberedElse states) (Some n)
    leaves_else less other =
        let h = left_at_end-extends states new (below n ++ state ∷ []) in
        let is : visit_of states ≡ below n ++ state ∷ h.0 =
        sym on ∙ leaves.on ∙ h.1 ∙ append_assoc (below n) (state ∷ []) h.0 in (
          record {
            within = less;
            else_left = λ at. other (same_Some state n
                (sym (ap (λ (l : List ℕ). slice_get l n) is ∙ at_n (state ∷ h.0)) ∙ at));
          },
          λ m lower else. in_order (state ∷ h.0) is m lower else,
        )

    -- the state of this number is left
    pub leaves_on : state ≡ n → left_at_end states new (below (n + 1)) ≡ visit_of states
    leaves_on same =
        ap (λ (l : List ℕ). left_at_end states new l) (below-push n
        ∙ ap (λ k. below n ++ k ∷ []) (sym same)) ∙ sym leaves.on ∙ on
