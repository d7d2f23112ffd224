-- Sets that are due get their places one after the other.
use Rattle.std.proofs.Common.{arith, ◌≡◌, ℕ, ◌+◌, ◌<◌, inl, inr, get_or, List, [], ◌∷◌, ◌++◌, refl, sym, ap, subst, ◌∙◌, length, length-append, append_assoc, Bool}
use Rattle.std.specs.Prelude.{All, Contains}
use Rattle.std.proofs.lemmas.List.{append-nil}
use Rattle.std.proofs.lemmas.List.Elements.{Contains-append_left, Contains-push}
use Rattle.ux_subsets.specs.declared.automaton.Link.{Link}
use Rattle.ux_subsets.specs.declared.sets.Set.{Set}
use Rattle.ux_subsets.specs.declared.sets.Over.{Over}
use Rattle.ux_subsets.specs.declared.sets.Waiting.{Waiting}
use Rattle.ux_subsets.specs.Paths.{IsAscending}
use Rattle.ux_subsets.specs.Building.{states_at, seen_at, ArePlaced, HasNumber, IsPlaced, IsSame, IsStage}
use Rattle.ux_subsets.proofs.PlacingLemmas.{stage_placed, states_at_get, seen_at_get, states_at_push, seen_at_push}

-- one that is placed before all others
pub placed_first : (base : ℕ) (old mid new : List Set) (links between links' : List Link) (front : List Waiting) (one : Waiting) →
    IsPlaced base old mid links between one → ArePlaced base mid new between links' front → ArePlaced base old new links links' (front ++ one ∷ [])
placed_first base old mid new links between links' [] one p (same, linked) =
    let first : IsPlaced base old new links links' one = subst (λ (xs : List Set). IsPlaced base old xs links links' one) (sym same) (subst (λ (ls : List Link). IsPlaced base old mid links ls one) (sym linked) p) in
    (old, links, (refl, refl), first)
placed_first base old mid new links between links' (x ∷ front) one p (sets, then, rest, last) =
    (sets, then, placed_first base old mid sets links between then front one p rest, last)

-- what was there has its number
pub found_number : (sets : List Set) (set : Set) (place : ℕ) → place < length sets → IsSame (get_or sets place set) set → HasNumber sets sets set place
found_number sets set place lt same = record {
  there = lt;
  same = states_at_get sets place set lt ∙ same.0;
  same_seen = seen_at_get sets place set lt ∙ same.1;
  either = inl refl;
}

-- what wasn't there gets the last one
pub pushed_number : (sets new : List Set) (set : Set) → new ≡ sets ++ set ∷ [] → All (λ other. IsSame other set → ⊥) sets → HasNumber sets new set (length sets)
pushed_number sets new set is none =
    let len = length-append sets (set ∷ []) in
    let long : length new ≡ length sets + 1 = ap length is ∙ len in record {
      there = omega (arith, long);
      same = ap (λ (xs : List Set). states_at xs (length sets)) is ∙ states_at_push sets set;
      same_seen = ap (λ (xs : List Set). seen_at xs (length sets)) is ∙ seen_at_push sets set;
      either = inr (is, refl, λ n lt e f. all_at sets n lt none (sym (states_at_get sets n set lt) ∙ e, sym (seen_at_get sets n set lt) ∙ f));
    }
  where
    all_at : (xs : List Set) (n : ℕ) → n < length xs → All (λ other. IsSame other set → ⊥) xs → IsSame (get_or xs n set) set → ⊥
    all_at xs n lt all same = all n set lt same

module _ {Stands : ℕ → List ℕ → Type 0} {Satisfies : List ℕ → Type 0} (last : ℕ) (source : List Link) (up : IsAscending last source) (before : List Set) (overs : List Over) (filed : ℕ → List Waiting) (state : ℕ) (all : Bool) where
  -- all that is due behind the front has its place, and the front is due still
  pub all_placed : (front due : List Waiting) (old new : List Set) (links links' : List Link) →
      ((w : Waiting) → Contains (front ++ due) w → w.set.first ≡ state) → ArePlaced (length before) old new links links' due →
      IsStage Stands Satisfies last source (before ++ old) links overs (front ++ due) filed (length before) (length before) state all →
      IsStage Stands Satisfies last source (before ++ new) links' overs front filed (length before) (length before) state all
  all_placed front [] old new links links' here (same, linked) s =
      subst (λ (xs : List Set). IsStage Stands Satisfies last source (before ++ xs) links' overs front filed (length before) (length before) state all) (sym same)
      (subst (λ (ls : List Link). IsStage Stands Satisfies last source (before ++ old) ls overs front filed (length before) (length before) state all) (sym linked)
      (subst (λ (ws : List Waiting). IsStage Stands Satisfies last source (before ++ old) links overs ws filed (length before) (length before) state all) (append-nil front) s))
  all_placed front (one ∷ due) old new links links' here (sets, between, rest, p) s =
      let apart : (front ++ one ∷ []) ++ due ≡ front ++ one ∷ due = append_assoc front (one ∷ []) due in
      let here' = subst (λ (ws : List Waiting). (w : Waiting) → Contains ws w → w.set.first ≡ state) (sym apart) here in
      let later = all_placed (front ++ one ∷ []) due old sets links between here' rest
      (subst (λ (ws : List Waiting). IsStage Stands Satisfies last source (before ++ old) links overs ws filed (length before) (length before) state all) (sym apart) s) in
      stage_placed last source up before sets new between links' overs front one filed state all (here' one (Contains-append_left (front ++ one ∷ []) due one (Contains-push front one))) p later
