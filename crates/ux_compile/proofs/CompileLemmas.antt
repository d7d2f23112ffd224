-- The parts of compiling fit together: what each gives is what the next one asks for.
use Rattle.std.proofs.Common.{arith, ◌≡◌, ℕ, zero, suc, ◌+◌, ◌<◌, List, [], ◌∷◌, ◌++◌, sym, ◌∙◌, ap, subst, Bool, inl, inr, length, length-append, get_or, map, take, Some, String, Global}
use Rattle.std.specs.Prelude.{slice_get, string_bytes}
use Rattle.std.proofs.lemmas.List.{map-append}
use Rattle.ux_tokens.proofs.CutLemmas.{slice_get-push_cases}
use Rattle.ux_net.specs.declared.net_graph.NetGraph.{NetGraph}
use Rattle.ux_boxes.specs.declared.place.Place.{Place}
use Rattle.ux_net.specs.Nets.{graph_at}
use Rattle.ux_boxes.specs.Places.{places_of}
use Rattle.ux_boxes.specs.Numbers.{places_before}
use Rattle.ux_compile.specs.Ranks.{row_of, IsBuilt, AreBuilt}
use Rattle.ux_boxes.proofs.NumbersLemmas.{places_at}
use Rattle.ux_boxes.proofs.SplittingLemmas.{take-next}
use Rattle.ux_boxes.proofs.SplitGraphs.{bytes_of}

-- so many graphs are built, and have their names
pub record AreBuiltTo (names : List (String Global)) (places : List (List Place))
    (rows ranks : List (List ℕ)) (free : List (List Bool)) (net : List NetGraph) (i : ℕ) : Type 0 where
  pub count : length net ≡ i
  pub each : (n : ℕ) (graph : NetGraph) → slice_get net n ≡ Some graph →
      IsBuilt ranks free (suc n) (row_of places rows (suc n)) (places_of places (suc n)) graph
  pub named : map (λ (graph : NetGraph). graph.name) net ≡ bytes_of (take i names)

module _ (names : List (String Global)) (places : List (List Place)) (rows ranks : List (List ℕ))
    (free : List (List Bool)) where
  -- one graph more
  pub built_more : (net : List NetGraph) (i : ℕ) (name : String Global) (one : NetGraph) →
      i < length names → name ≡ get_or names i name →
      AreBuiltTo names places rows ranks free net i →
      IsBuilt ranks free (suc i) (row_of places rows (suc i)) (places_of places (suc i)) one →
      one.name ≡ string_bytes name →
      AreBuiltTo names places rows ranks free (net ++ one ∷ []) (i + 1)
  built_more net i name one within is so_far here same = record {
    count = let len = length-append net (one ∷ []) in let c = so_far.count in omega (arith, len, c);
    each = λ n other found. elim (slice_get-push_cases net one n other found) [
      | inl h ↦ so_far.each n other h.1
      | inr h ↦
          let at : i ≡ n = sym so_far.count ∙ sym h.0 in
          subst (λ (k : ℕ). IsBuilt ranks free (suc k) (row_of places rows (suc k))
          (places_of places (suc k)) other) at
          (subst (IsBuilt ranks free (suc i) (row_of places rows (suc i)) (places_of places (suc i)))
          h.1 here)
    ];
    named =
        map-append (λ (g : NetGraph). g.name) net (one ∷ [])
        ∙ (ap (λ (l : List (List ℕ)). l ++ one.name ∷ []) so_far.named
        ∙ (ap (λ (n : List ℕ). bytes_of (take i names) ++ n ∷ []) same
        ∙ (sym (map-append string_bytes (take i names) (name ∷ []))
        ∙ ap bytes_of (take-next names i name within is))));
  }

  pub built_all : (net : List NetGraph) (i : ℕ) → i ≡ length names →
      length places ≡ length names →
      AreBuiltTo names places rows ranks free net i → AreBuilt places rows ranks free net
  built_all net i is same so_far = record {
    count = so_far.count ∙ (is ∙ sym same);
    each = each;
  }
    where
      each : (g : ℕ) (graph : NetGraph) → graph_at net g ≡ Some graph →
          IsBuilt ranks free g (row_of places rows g) (places_of places g) graph
      each zero graph found = cc
      each (suc n) graph found = so_far.each n graph found

-- a graph that is built of the places that stand in the list
pub built_at : (places : List (List Place)) (rows ranks : List (List ℕ)) (free : List (List Bool))
    (i before : ℕ) (p here : List Place) (one : NetGraph) → i < length places →
    here ≡ get_or places i here → p ≡ here → before ≡ places_before places (suc i) →
    IsBuilt ranks free (i + 1) (λ b. get_or rows (before + b) []) p one →
    IsBuilt ranks free (suc i) (row_of places rows (suc i)) (places_of places (suc i)) one
built_at places rows ranks free i before p here one within at same offset built =
    let next : i + 1 ≡ suc i = omega arith in
    subst (λ (l : List Place). IsBuilt ranks free (suc i) (row_of places rows (suc i)) l one)
    (same ∙ (at ∙ sym (places_at places i here within)))
    (subst (λ (n : ℕ). IsBuilt ranks free (suc i) (λ b. get_or rows (n + b) []) p one) offset
    (subst (λ (g : ℕ). IsBuilt ranks free g (λ b. get_or rows (before + b) []) p one) next built))
