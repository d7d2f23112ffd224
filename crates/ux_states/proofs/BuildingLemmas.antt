-- Graphs of a net are built one after another.
use Rattle.std.proofs.Common.{arith, ◌≡◌, ℕ, zero, suc, ◌+◌, ◌<◌, List, [], ◌∷◌, ◌++◌, refl, sym, ◌∙◌, ap, subst, inl, inr, length, length-append, append_assoc, append-nil, get_or, Bool, Some}
use Rattle.std.specs.Prelude.{slice_get}
use Rattle.ux_tokens.proofs.CutLemmas.{slice_get-push_cases}
use Rattle.ux_net.specs.declared.net_graph.NetGraph.{NetGraph}
use Rattle.ux_net.specs.declared.state_graph.StateGraph.{StateGraph}
use Rattle.ux_net.specs.Nets.{graph_at}
use Rattle.ux_net.specs.StateGraphs.{told_at}
use Rattle.ux_boxes.specs.declared.place.Place.{Place}
use Rattle.ux_boxes.specs.Numbers.{places_before}
use Rattle.ux_boxes.specs.Places.{places_of}
use Rattle.ux_boxes.proofs.NumbersLemmas.{places_at}
use Rattle.ux_admission.specs.Admission.{row_at}
use Rattle.ux_states.specs.Building.{closers_at, IsBuiltOf, AreBuilt}

module _ (graphs : List StateGraph) (places : List (List Place)) (stands hubs rows : List (List ℕ))
    (ranks : List (List ℕ)) (free : List (List Bool)) where
  abbrev pub Of : ℕ → StateGraph → NetGraph → Type 0
  Of g graph built = IsBuiltOf graph (places_of places g) (row_at stands g) (row_at hubs g)
      (closers_at places rows g) (row_at ranks g) (row_at free g) built

  -- so many graphs are built, and these are left
  pub record AreBuiltTo (net : List NetGraph) (left : List StateGraph) : Type 0 where
    pub done : List StateGraph
    pub split : graphs ≡ done ++ left
    pub count : length net ≡ length done
    pub each : (n : ℕ) (graph : StateGraph) (built : NetGraph) → slice_get done n ≡ Some graph →
        slice_get net n ≡ Some built → Of (suc n) graph built

  -- at first none is built, and all are left
  pub none_built : AreBuiltTo [] graphs
  none_built = record {
    done = [];
    split = refl;
    count = refl;
    each = λ n graph built found there. absurd (none n graph found);
  }
    where
      none : (n : ℕ) (graph : StateGraph) → slice_get [] n ≡ Some graph → ⊥
      none n graph found = cc

  -- how many are built
  pub built_below : (net : List NetGraph) (graph : StateGraph) (left : List StateGraph) →
      AreBuiltTo net (graph ∷ left) → length net < length graphs
  built_below net graph left so_far =
      let all = ap (λ (l : List StateGraph). length l) so_far.split in
      let len = length-append so_far.done (graph ∷ left) in
      let count = so_far.count in
      omega (arith, all, len, count)

  -- one graph more
  pub built_next : (net : List NetGraph) (graph : StateGraph) (left : List StateGraph)
      (one : NetGraph) → AreBuiltTo net (graph ∷ left) → Of (suc (length net)) graph one →
      AreBuiltTo (net ++ one ∷ []) left
  built_next net graph left one so_far here = record {
    done = so_far.done ++ graph ∷ [];
    split = so_far.split ∙ sym (append_assoc so_far.done (graph ∷ []) left);
    count =
        length-append net (one ∷ [])
        ∙ (ap (λ n. n + 1) so_far.count ∙ sym (length-append so_far.done (graph ∷ [])));
    each = λ n other built found there. elim (slice_get-push_cases so_far.done graph n other found) [
      | inl old ↦ elim (slice_get-push_cases net one n built there) [
        | inl there ↦ so_far.each n other built old.1 there.1
        | inr new ↦
            absurd (let lt = old.0 in let e = new.0 in let c = so_far.count in
            omega (arith, lt, e, c))
      ]
      | inr new ↦ elim (slice_get-push_cases net one n built there) [
        | inl there ↦
            absurd (let lt = there.0 in let e = new.0 in let c = so_far.count in
            omega (arith, lt, e, c))
        | inr there ↦
            subst (λ (k : ℕ). Of (suc k) other built) (sym there.0)
            (subst (λ (x : StateGraph). Of (suc (length net)) x built) new.1
            (subst (λ (x : NetGraph). Of (suc (length net)) graph x) there.1 here))
      ]
    ];
  }

  -- all graphs
  pub built_all : (net : List NetGraph) → AreBuiltTo net [] →
      AreBuilt graphs places stands hubs rows ranks free net
  built_all net so_far = record {
    count = so_far.count ∙ ap (λ (l : List StateGraph). length l) whole;
    each = each;
  }
    where
      whole : so_far.done ≡ graphs
      whole = sym (so_far.split ∙ append-nil so_far.done)

      each : (g : ℕ) (graph : StateGraph) (built : NetGraph) → told_at graphs g ≡ Some graph →
          graph_at net g ≡ Some built → Of g graph built
      each zero graph built found there = cc
      each (suc n) graph built found there =
          so_far.each n graph built (ap (λ (l : List StateGraph). slice_get l n) whole ∙ found) there

  -- what is built of the rows of this number
  pub built_here : (n before : ℕ) (graph : StateGraph) (built : NetGraph) → n < length places →
      before ≡ places_before places (suc n) →
      IsBuiltOf graph (get_or places n []) (get_or stands n []) (get_or hubs n [])
      (λ p. get_or rows (before + p) []) (get_or ranks n []) (get_or free n []) built →
      Of (suc n) graph built
  built_here n before graph built within offset of =
      subst (λ (l : List Place). IsBuiltOf graph l (get_or stands n []) (get_or hubs n [])
      (closers_at places rows (suc n)) (get_or ranks n []) (get_or free n []) built)
      (sym (places_at places n [] within))
      (subst (λ (k : ℕ). IsBuiltOf graph (get_or places n []) (get_or stands n []) (get_or hubs n [])
      (λ p. get_or rows (k + p) []) (get_or ranks n []) (get_or free n []) built) offset of)
