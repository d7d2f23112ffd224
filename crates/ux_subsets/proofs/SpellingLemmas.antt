-- Reading lists spelled, reading by reading.
use Rattle.std.proofs.Common.{arith, ◌≡◌, ℕ, ◌+◌, ◌≤◌, ◌↔◌, List, [], ◌∷◌, ◌++◌, refl, sym, ap, subst, length}
use Rattle.std.specs.Prelude.{Contains}
use Rattle.ux_subsets.specs.declared.automaton.Link.{Link}
use Rattle.ux_subsets.specs.Paths.{link, IsPath, readings_of, Spells, IsAscending}

-- the reading list is spelled from a to b, reading by reading
abbrev pub Reads : (links : List Link) → (a b : ℕ) → (readings : List ℕ) → Type 0
Reads links a b [] = a ≡ b
Reads links a b (r ∷ readings) = (t : ℕ) × Contains links (link a t r) × Reads links t b readings

pub same_link : (a a' b b' r r' : ℕ) → a ≡ a' → b ≡ b' → r ≡ r' → link a b r ≡ link a' b' r'
same_link a a' b b' r r' e f g = cc

module _ (links : List Link) where
  pub reads_path : (path : List Link) (a b : ℕ) → IsPath links a b path → Reads links a b (readings_of path)
  reads_path [] a b p = p
  reads_path (l ∷ path) a b p =
      (l.to, subst (λ (s : ℕ). Contains links (link s l.to l.reading)) p.1 p.0, reads_path path l.to b p.2)

  pub spells_readings : (readings : List ℕ) (a b : ℕ) → Reads links a b readings → Spells links a b readings
  spells_readings [] a b h = ([], h, refl)
  spells_readings (r ∷ readings) a b h =
      let s = spells_readings readings h.0 b h.2 in
      (link a h.0 r ∷ s.0, (h.1, refl, s.1), ap (λ (rs : List ℕ). r ∷ rs) s.2)

  pub spells_iff : (readings : List ℕ) (a b : ℕ) → Spells links a b readings ↔ Reads links a b readings
  spells_iff readings a b = (
    λ s. subst (λ (rs : List ℕ). Reads links a b rs) s.2 (reads_path s.0 a b s.1),
    spells_readings readings a b,
  )

  pub reads_append : (u v : List ℕ) (a b c : ℕ) → Reads links a b u → Reads links b c v → Reads links a c (u ++ v)
  reads_append [] v a b c h k = subst (λ (s : ℕ). Reads links s c v) (sym h) k
  reads_append (r ∷ u) v a b c h k = (h.0, h.1, reads_append u v h.0 b c h.2 k)

  pub reads_split : (u v : List ℕ) (a c : ℕ) → Reads links a c (u ++ v) → (b : ℕ) × Reads links a b u × Reads links b c v
  reads_split [] v a c h = (a, refl, h)
  reads_split (r ∷ u) v a c h = let s = reads_split u v h.0 c h.2 in (s.0, (h.0, h.1, s.1), s.2)

  module _ (last : ℕ) (ascending : IsAscending last links) where
    -- a list spelled is no longer than the states that it goes up
    pub climbs : (readings : List ℕ) (a b : ℕ) → Reads links a b readings → length readings + a ≤ b
    climbs [] a b h = omega arith
    climbs (r ∷ readings) a b h =
        let up = ascending.ascends (link a h.0 r) h.1 in
        let rest = climbs readings h.0 b h.2 in
        omega (arith, up, rest)

    pub stays_within : (readings : List ℕ) (a b : ℕ) → a ≤ last → Reads links a b readings → b ≤ last
    stays_within [] a b le h = omega arith
    stays_within (r ∷ readings) a b le h = stays_within readings h.0 b (ascending.within (link a h.0 r) h.1) h.2
