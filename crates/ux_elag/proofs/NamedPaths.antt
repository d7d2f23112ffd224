-- Paths between numbers are the paths of the sentence for which they stand.
use Rattle.std.proofs.Common.{◌≡◌, ℕ, ◌<◌, List, [], ◌∷◌, inl, inr, refl, sym, ◌∙◌, ap, subst, length}
use Rattle.std.specs.Prelude.{Contains, map}
use Rattle.ux_base.proofs.Lists.{nothing_in, first_or_later, contains_first, contains_later}
use Rattle.ux_base.proofs.JoinedLists.{contains_mapped, contained_mapped}
use Rattle.ux_sentence.specs.declared.sentence.Reading.{Reading}
use Rattle.ux_sentence.specs.declared.sentence.Link.{Link}
use Rattle.ux_sentence.specs.Paths.{IsPath, Spells}
use Rattle.ux_subsets.specs.declared.automaton.Link as placed
use Rattle.ux_subsets.specs.Paths as numbers
use Rattle.ux_elag.specs.Left.{readings_of}
use Rattle.ux_elag.specs.Numbers.{reading_at}
use Rattle.ux_elag.proofs.Named.{named}

-- each of the numbers is below the bound
abbrev pub AreSmall : (bound : ℕ) → List ℕ → Type 0
AreSmall bound word = (r : ℕ) → Contains word r → r < bound

-- the numbers of a path's readings are those of links
pub path-below : (bound : ℕ) (links path : List placed.Link) (a b : ℕ) →
    ((link : placed.Link) → Contains links link → link.reading < bound) →
    numbers.IsPath links a b path → AreSmall bound (numbers.readings_of path)
path-below bound links [] a b each p r h = absurd (nothing_in h)
path-below bound links (link ∷ path) a b each p r h =
    elim (first_or_later link.reading (numbers.readings_of path) r h) [
      | inl is ↦ subst (λ (n : ℕ). n < bound) is (each link p.0)
      | inr later ↦ path-below bound links path link.to b each p.2 r later
    ]

pub spelled-below : (bound : ℕ) (links : List placed.Link) (a b : ℕ) (word : List ℕ) →
    ((link : placed.Link) → Contains links link → link.reading < bound) →
    numbers.Spells links a b word → AreSmall bound word
spelled-below bound links a b word each s =
    subst (AreSmall bound) s.2 (path-below bound links s.0 a b each s.1)

module _ (name : ℕ → ℕ) (readings : List Reading) where
  -- what a path spells
  pub readings-named : (path : List placed.Link) →
      readings_of (map (named name readings) path)
      ≡ map (reading_at readings) (numbers.readings_of path)
  readings-named [] = refl
  readings-named (link ∷ path) =
      ap (λ rest. reading_at readings link.reading ∷ rest) (readings-named path)

  -- a path between numbers leads between the states
  pub path-named : (links path : List placed.Link) (a b : ℕ) → numbers.IsPath links a b path →
      IsPath (map (named name readings) links) (name a) (name b) (map (named name readings) path)
  path-named links [] a b p = ap name p
  path-named links (link ∷ path) a b p = (
    contains_mapped (named name readings) links link p.0,
    ap name p.1,
    path-named links path link.to b p.2,
  )

  pub spells-named : (links : List placed.Link) (a b : ℕ) (word : List ℕ) →
      numbers.Spells links a b word →
      Spells (map (named name readings) links) (name a) (name b) (map (reading_at readings) word)
  spells-named links a b word s = (
    map (named name readings) s.0,
    path-named links s.0 a b s.1,
    readings-named s.0 ∙ ap (map (reading_at readings)) s.2,
  )

  module _ (bound : ℕ)
      (alone : (a b : ℕ) → a < bound → b < bound → name a ≡ name b → a ≡ b)
      (links : List placed.Link)
      (from_within : (link : placed.Link) → Contains links link → link.from < bound)
      (to_within : (link : placed.Link) → Contains links link → link.to < bound) where
    -- a path between the states leads between the numbers
    pub path-numbered : (path : List Link) (a b : ℕ) → a < bound → b < bound →
        IsPath (map (named name readings) links) (name a) (name b) path →
        (way : List placed.Link) × (map (named name readings) way ≡ path)
        × numbers.IsPath links a b way
    path-numbered [] a b la lb p = ([], refl, alone a b la lb p)
    path-numbered (link ∷ path) a b la lb p =
        let found = contained_mapped (named name readings) links link p.0 in
        let first = found.0 in
        let from : first.from ≡ a =
        alone first.from a (from_within first found.1) la (ap (λ (l : Link). l.from) found.2 ∙ p.1) in
        let rest = path-numbered path first.to b (to_within first found.1) lb
        (subst (λ (s : ℕ). IsPath (map (named name readings) links) s (name b) path)
        (sym (ap (λ (l : Link). l.to) found.2)) p.2) in (
          first ∷ rest.0,
          (ap (λ (l : Link). l ∷ map (named name readings) rest.0) found.2
              ∙ ap (λ (ls : List Link). link ∷ ls) rest.1),
          (found.1, from, rest.2),
        )

    pub spells-numbered : (a b : ℕ) (list : List Reading) → a < bound → b < bound →
        Spells (map (named name readings) links) (name a) (name b) list →
        (word : List ℕ) × (map (reading_at readings) word ≡ list) × numbers.Spells links a b word
    spells-numbered a b list la lb s =
        let way = path-numbered s.0 a b la lb s.1 in (
          numbers.readings_of way.0,
          sym (readings-named way.0) ∙ (ap readings_of way.1 ∙ s.2),
          (way.0, way.2, refl),
        )

-- two lists of numbers that stand for the same readings are the same
pub words-alone : (readings : List Reading) →
    ((r k : ℕ) → r < length readings → k < length readings →
    reading_at readings r ≡ reading_at readings k → r ≡ k) →
    (word other : List ℕ) → AreSmall (length readings) word → AreSmall (length readings) other →
    map (reading_at readings) word ≡ map (reading_at readings) other → word ≡ other
words-alone readings alone [] [] bw bo e = refl
words-alone readings alone [] (k ∷ other) bw bo e = cc
words-alone readings alone (r ∷ word) [] bw bo e = cc
words-alone readings alone (r ∷ word) (k ∷ other) bw bo e =
    let first : reading_at readings r ≡ reading_at readings k = cc in
    let later : map (reading_at readings) word ≡ map (reading_at readings) other = cc in
    let same : r ≡ k = alone r k (bw r (contains_first r word)) (bo k (contains_first k other)) first in
    let rest : word ≡ other = words-alone readings alone word other
    (λ x h. bw x (contains_later r word x h)) (λ x h. bo x (contains_later k other x h)) later in
    cc
