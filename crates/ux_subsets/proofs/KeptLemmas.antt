-- Where each path that is over was wanted, all lists satisfy, and the automaton is what is left.
use Rattle.std.proofs.Common.{arith, ◌≡◌, ℕ, ◌<◌, inl, inr, List, [], ◌∷◌, ◌++◌, sym, subst, length, append_assoc}
use Rattle.std.specs.Prelude.{Contains, Bool, IsTrue}
use Rattle.std.proofs.lemmas.List.{nil_from_length}
use Rattle.ux_base.proofs.Lists.{same_or}
use Rattle.ux_subsets.specs.declared.automaton.Link.{Link}
use Rattle.ux_subsets.specs.declared.sets.Set.{Set}
use Rattle.ux_subsets.specs.declared.sets.Over.{Over}
use Rattle.ux_subsets.specs.Paths.{link, Spells, IsAscending, IsLeft, IsNormal}
use Rattle.ux_subsets.specs.Building.{states_at, seen_at, IsReached}
use Rattle.ux_subsets.proofs.ElementsLemmas.{contains_first}
use Rattle.ux_subsets.proofs.SpellingLemmas.{Reads, spells_iff, climbs}

module _ {Stands : ℕ → List ℕ → Type 0} {Satisfies : List ℕ → Type 0} (last : ℕ) (links : List Link) (up : IsAscending last links) (sets : List Set) (links' : List Link) (overs : List Over) (count : ℕ) (all : Bool)
    (s : IsReached Stands Satisfies last links sets links' overs count all) (is : IsTrue all) where
  -- what a state of the set spells to the last one satisfies, behind what came before
  keeps : (readings before : List ℕ) (n state : ℕ) → n < length sets → Stands (seen_at sets n) before → Contains (states_at sets n) state →
      Reads links state last readings → Satisfies (before ++ readings)
  keeps [] before n state lt stands at h = let low = s.built.inside n state lt at in absurd (omega (arith, low, h))
  keeps (r ∷ readings) before n state lt stands at h = elim (same_or h.0 last) [
    | inl e ↦
        let len = climbs links last up readings h.0 last h.2 in
        let none : readings ≡ [] = nil_from_length readings (omega (arith, len, e)) in
        let over = s.kept is n r lt (state, at, subst (λ (t : ℕ). Contains links (link state t r)) e h.1) in
        subst (λ (rest : List ℕ). Satisfies (before ++ r ∷ rest)) (sym none) ((s.built.over n r lt before stands).0 over).1
    | inr other ↦ elim (s.built.going n r h.0 lt (other, (state, at, h.1))) [
      | inl k ↦
          let b = s.built.linked (link n k.0 r) k.1 in
          let there = (s.built.linked_set (link n k.0 r) k.1 h.0).1 (other, (state, at, h.1)) in
          let rest = keeps readings (before ++ r ∷ []) k.0 h.0 b.1 (s.built.linked_seen (link n k.0 r) k.1 before stands) there h.2 in
          subst Satisfies (append_assoc before (r ∷ []) readings) rest
      | inr w ↦ absurd w.1
    ]
  ]

  pub all_satisfy : (readings : List ℕ) → Spells links 0 last readings → Satisfies readings
  all_satisfy readings h =
      keeps readings [] 0 0 s.built.some s.built.fresh (subst (λ (xs : List ℕ). Contains xs 0) (sym s.built.first) (contains_first 0 []))
      ((spells_iff links readings 0 last).0 h)

-- where all lists satisfy, a normal automaton is what is left of it
pub normal_left : {Satisfies : List ℕ → Type 0} (last : ℕ) (links : List Link) → IsNormal last links →
    ((readings : List ℕ) → Spells links 0 last readings → Satisfies readings) → IsLeft Satisfies last links last links
normal_left last links n all = record {
  some = n.some;
  exact = λ readings. (λ h. (h, all readings h), λ h. h.0);
  once = n.once;
  apart = n.apart;
  apart_before = n.apart_before;
  on_path = n.on_path;
  ascending = n.ascending;
}

-- what is left is normal
pub left_normal : {Satisfies : List ℕ → Type 0} (last : ℕ) (links : List Link) (last' : ℕ) (links' : List Link) →
    IsLeft Satisfies last links last' links' → IsNormal last' links'
left_normal last links last' links' left = record {
  some = left.some;
  once = left.once;
  apart = left.apart;
  apart_before = left.apart_before;
  on_path = left.on_path;
  ascending = left.ascending;
}
