-- How much frames may still do.
use Rattle.std.proofs.Common.{arith, ◌≡◌, ℕ, zero, suc, ◌+◌, ◌-◌, ◌*◌, ◌^◌, ◌≤◌, List, [], ◌∷◌, refl, ◌∙◌, ap}
use Rattle.std.specs.Prelude.{Option, Some, None}
use Rattle.std.proofs.lemmas.Option.{none-some}
use Rattle.ux_net.specs.declared.net_graph.NetGraph.{NetGraph}
use Rattle.ux_net.specs.Measured.{rank_of, bound_of, must}
use Rattle.ux_walk.specs.declared.lists.Link.{Link}
use Rattle.ux_walk.specs.declared.config.Frame.{Frame}
use Rattle.ux_walk.specs.Links.{link_at, Names, AreBelow}

-- the head of a first link, and what its tail gives
abbrev pub headed : {A : Type 0} → Option (Link A) → (ℕ → List A) → List A
headed None rest = []
headed (Some link) rest = link.head ∷ rest link.tail

-- the list that a number spells, up to so many elements
abbrev pub spelled : {A : Type 0} → List (Link A) → ℕ → ℕ → List A
spelled links zero n = []
spelled links (suc most) n = headed (link_at links n) (λ tail. spelled links most tail)

module _ {A : Type 0} (links : List (Link A)) (below : AreBelow links) where
  -- a number spells the list that it names
  pub spells_named : (xs : List A) (n most : ℕ) → Names links n xs → n ≤ most →
      spelled links most n ≡ xs
  spells_named [] n zero named within = refl
  spells_named [] n (suc most) named within =
      ap (λ m. spelled links (suc most) m) named
  spells_named (x ∷ xs) zero most named within = absurd (none-some _ named.1)
  spells_named (x ∷ xs) (suc n) zero named within = absurd (omega (arith, within))
  spells_named (x ∷ xs) (suc n) (suc most) named within =
      let tail = below n (record { head = x; tail = named.0 }) named.1 in
      ap (λ (o : Option (Link A)). headed o (λ tail. spelled links most tail)) named.1
      ∙ ap (λ (l : List A). x ∷ l)
      (spells_named xs named.0 most named.2 (omega (arith, tail, within)))

module _ (graphs : List NetGraph) where
  -- the weight of one frame where m - 1 tokens are left
  abbrev pub cost : ℕ → Frame → ℕ
  cost m f = 3 ^ (m * (bound_of graphs + 1) + rank_of graphs f.graph f.state)

  -- a frame under one that takes a token is weighed with one token less
  abbrev pub weight_of : ℕ → List Frame → ℕ
  weight_of m [] = 0
  weight_of m (f ∷ fs) = cost m f + weight_of (m - must graphs f.graph f.state) fs
