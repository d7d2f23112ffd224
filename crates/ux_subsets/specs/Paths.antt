-- Paths of an automaton: its states are 0 to `last`, its links lead to greater states.
use Rattle.std.specs.Prelude.{◌≡◌, ℕ, ◌-◌, ◌<◌, ◌≤◌, ◌↔◌, List, [], ◌∷◌, map, Contains}
use Rattle.ux_subsets.specs.declared.automaton.Link.{Link}

abbrev pub link : (from to reading : ℕ) → Link
link a b r = record { from = a; to = b; reading = r }

-- the path leads along links from a to b
abbrev pub IsPath : (links : List Link) → (a b : ℕ) → (path : List Link) → Type 0
IsPath links a b [] = a ≡ b
IsPath links a b (l ∷ path) = Contains links l × (l.from ≡ a) × IsPath links l.to b path

abbrev pub readings_of : List Link → List ℕ
readings_of path = map (λ (l : Link). l.reading) path

-- the reading list is spelled from a to b
abbrev pub Spells : (links : List Link) → (a b : ℕ) → (readings : List ℕ) → Type 0
Spells links a b readings = (path : List Link) × IsPath links a b path × (readings_of path ≡ readings)

-- each link leads to a greater state, up to the last
pub record IsAscending (last : ℕ) (links : List Link) : Type 0 where
  pub ascends : (l : Link) → Contains links l → l.from < l.to
  pub within : (l : Link) → Contains links l → l.to ≤ last

-- the automaton read backwards
abbrev pub back : ℕ → Link → Link
back last l = link (last - l.to) (last - l.from) l.reading

abbrev pub reversed : ℕ → List Link → List Link
reversed last links = map (back last) links

-- the answer to a sentence: exactly the reading lists that satisfy, each by one path, and nothing twice
pub record IsLeft (Satisfies : List ℕ → Type 0) (last : ℕ) (links : List Link) (last' : ℕ) (links' : List Link) : Type 0 where
  pub some : 0 < last'
  pub exact : (readings : List ℕ) → Spells links' 0 last' readings ↔ (Spells links 0 last readings × Satisfies readings)
  pub once : (p q : List Link) → IsPath links' 0 last' p → IsPath links' 0 last' q → readings_of p ≡ readings_of q → p ≡ q
  pub apart : (a b : ℕ) → a ≤ last' → b ≤ last' →
      ((readings : List ℕ) → Spells links' a last' readings ↔ Spells links' b last' readings) → a ≡ b
  -- the last state alone may be told from another by no list from the first
  pub apart_before : (a b : ℕ) → a < last' → b < last' →
      ((readings : List ℕ) → Spells links' 0 a readings ↔ Spells links' 0 b readings) → a ≡ b
  pub on_path : (a : ℕ) → a ≤ last' → ((before after : List ℕ) × Spells links' 0 a before × Spells links' a last' after)
  pub ascending : IsAscending last' links'

-- no list has two paths, no two states have the same lists to the last one, no two but the last have
-- the same lists from the first one, and each lies on a path
pub record IsNormal (last : ℕ) (links : List Link) : Type 0 where
  pub some : 0 < last
  pub once : (p q : List Link) → IsPath links 0 last p → IsPath links 0 last q → readings_of p ≡ readings_of q → p ≡ q
  pub apart : (a b : ℕ) → a ≤ last → b ≤ last →
      ((readings : List ℕ) → Spells links a last readings ↔ Spells links b last readings) → a ≡ b
  pub apart_before : (a b : ℕ) → a < last → b < last →
      ((readings : List ℕ) → Spells links 0 a readings ↔ Spells links 0 b readings) → a ≡ b
  pub on_path : (a : ℕ) → a ≤ last → ((before after : List ℕ) × Spells links 0 a before × Spells links a last after)
  pub ascending : IsAscending last links
