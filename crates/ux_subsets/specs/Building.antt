-- An automaton of subsets while it is built.
use Rattle.std.specs.Prelude.{◌≡◌, ◌≢◌, ℕ, zero, suc, ◌+◌, ◌<◌, ◌≤◌, ◌↔◌, ◌⊎◌, List, [], ◌∷◌, ◌++◌, length, map, Contains, Bool, IsTrue}
use Rattle.ux_subsets.specs.declared.automaton.Link.{Link}
use Rattle.ux_subsets.specs.declared.sets.Set.{Set}
use Rattle.ux_subsets.specs.declared.sets.Over.{Over}
use Rattle.ux_subsets.specs.declared.sets.Waiting.{Waiting}
use Rattle.ux_subsets.specs.Paths.{link, Spells}
use Rattle.std.specs.List.Sorted.{IsStrictlyIncreasing}
use Rattle.ux_subsets.specs.Machines.{AreSubsets}

-- the states of a set
abbrev pub states_of : Set → List ℕ
states_of set = set.first ∷ set.others.items

-- the states of the set at that place
abbrev pub states_at : List Set → ℕ → List ℕ
states_at [] n = []
states_at (set ∷ sets) zero = states_of set
states_at (set ∷ sets) (suc n) = states_at sets n

-- the least state of the set at that place
abbrev pub first_at : List Set → ℕ → ℕ
first_at [] n = 0
first_at (set ∷ sets) zero = set.first
first_at (set ∷ sets) (suc n) = first_at sets n

-- the machine's state with the set at that place
abbrev pub seen_at : List Set → ℕ → ℕ
seen_at [] n = 0
seen_at (set ∷ sets) zero = set.seen
seen_at (set ∷ sets) (suc n) = seen_at sets n

abbrev pub over_at : (from reading : ℕ) → Over
over_at n r = record { from = n; reading = r }

module _ (last : ℕ) (links : List Link) where
  -- a reading leads from a state of the set at that place to the state
  abbrev pub Leads : (sets : List Set) → (n reading to : ℕ) → Type 0
  Leads sets n r t = (s : ℕ) × Contains (states_at sets n) s × Contains links (link s t r)

  abbrev pub Next : (sets : List Set) → (n reading to : ℕ) → Type 0
  Next sets n r t = (t ≢ last) × Leads sets n r t

module _ (Stands : ℕ → List ℕ → Type 0) (Satisfies : List ℕ → Type 0) (last : ℕ) (links : List Link) where
  -- the sets before the place `expanded` have all their links; what waits has its target's set
  pub record IsBuilt (sets : List Set) (links' : List Link) (overs : List Over) (Waits : Waiting → Type 0) (expanded : ℕ) : Type 0 where
    pub first : states_at sets 0 ≡ 0 ∷ []
    pub some : 0 < length sets
    pub count : expanded ≤ length sets
    pub linked : (l : Link) → Contains links' l → (l.from < expanded) × (l.to < length sets)
    pub linked_set : (l : Link) → Contains links' l → (t : ℕ) → Contains (states_at sets l.to) t ↔ Next last links sets l.from l.reading t
    pub waits : (w : Waiting) → Waits w → w.from < expanded
    pub waits_set : (w : Waiting) → Waits w → (t : ℕ) → Contains (states_of w.set) t ↔ Next last links sets w.from w.reading t
    pub waits_some : (w : Waiting) → Waits w → (t : ℕ) × Contains (states_of w.set) t
    pub fresh : Stands (seen_at sets 0) []
    pub stood : (n : ℕ) → n < length sets → (before : List ℕ) × Stands (seen_at sets n) before
    pub linked_seen : (l : Link) → Contains links' l → (before : List ℕ) → Stands (seen_at sets l.from) before → Stands (seen_at sets l.to) (before ++ l.reading ∷ [])
    pub waits_seen : (w : Waiting) → Waits w → (before : List ℕ) → Stands (seen_at sets w.from) before → Stands w.set.seen (before ++ w.reading ∷ [])
    pub over : (n r : ℕ) → n < expanded → (before : List ℕ) → Stands (seen_at sets n) before →
        Contains overs (over_at n r) ↔ (Leads last links sets n r last × Satisfies (before ++ r ∷ []))
    pub over_in : (o : Over) → Contains overs o → o.from < expanded
    pub going : (n r t : ℕ) → n < expanded → Next last links sets n r t →
        ((k : ℕ) × Contains links' (link n k r)) ⊎ ((w : Waiting) × Waits w × (w.from ≡ n) × (w.reading ≡ r))
    pub once : (l m : Link) → Contains links' l → Contains links' m → l.from ≡ m.from → l.reading ≡ m.reading → l.to ≡ m.to
    pub apart : (l : Link) (w : Waiting) → Contains links' l → Waits w → l.from ≡ w.from → l.reading ≡ w.reading → ⊥
    pub inside : (n s : ℕ) → n < length sets → Contains (states_at sets n) s → s < last
    pub filled : (n : ℕ) → n < length sets → (s : ℕ) × Contains (states_at sets n) s
    pub reached : (n : ℕ) → n < length sets → (readings : List ℕ) × Spells links' 0 n readings

-- the set at the place is the same as this one, which was there or is the last now
pub record HasNumber (old new : List Set) (set : Set) (number : ℕ) : Type 0 where
  pub there : number < length new
  pub same : states_at new number ≡ states_of set
  pub same_seen : seen_at new number ≡ set.seen
  pub either : (new ≡ old) ⊎ ((new ≡ old ++ set ∷ []) × (number ≡ length old) × ((n : ℕ) → n < length old → states_at old n ≡ states_of set → seen_at old n ≡ set.seen → ⊥))

-- the same states, and the same state of the machine
abbrev pub IsSame : Set → Set → Type 0
IsSame one other = (states_of one ≡ states_of other) × (one.seen ≡ other.seen)

-- the set that waits has a place, and the link goes to it; numbers are places, counted on from the base
pub record IsPlaced (base : ℕ) (old new : List Set) (links links' : List Link) (w : Waiting) : Type 0 where
  pub place : ℕ
  pub has : HasNumber old new w.set place
  pub linked : links' ≡ links ++ link w.from (base + place) w.reading ∷ []

-- all that is due has its place, the last one first
abbrev pub ArePlaced : (base : ℕ) (old new : List Set) (links links' : List Link) (due : List Waiting) → Type 0
ArePlaced base old new links links' [] = (new ≡ old) × (links' ≡ links)
ArePlaced base old new links links' (one ∷ due) = (sets : List Set) × (between : List Link) × ArePlaced base old sets links between due × IsPlaced base sets new between links' one

-- no two wait for one reading from one state
abbrev pub Unlike : Waiting → Waiting → Type 0
Unlike x y = x.from ≡ y.from → x.reading ≡ y.reading → ⊥

abbrev pub AreUnlike : List Waiting → Type 0
AreUnlike [] = Unit {0}
AreUnlike (x ∷ xs) = ((y : Waiting) → Contains xs y → Unlike x y) × AreUnlike xs

-- each set is in ascending order, and no two have the same states and the same state of the machine
pub record AreApart (sets : List Set) (Waits : Waiting → Type 0) : Type 0 where
  pub sorted : (n : ℕ) → n < length sets → IsStrictlyIncreasing (states_at sets n)
  pub waits_sorted : (w : Waiting) → Waits w → IsStrictlyIncreasing (states_of w.set)
  pub different : (n k : ℕ) → n < length sets → k < length sets → states_at sets n ≡ states_at sets k → seen_at sets n ≡ seen_at sets k → n ≡ k

-- what waits: it is due, or filed for a state
abbrev pub Waits : (due : List Waiting) → (filed : ℕ → List Waiting) → Waiting → Type 0
Waits due filed w = Contains due w ⊎ ((k : ℕ) × Contains (filed k) w)

-- no two wait for one reading from one state, and each is filed by the least state of its set
pub record AreFiled (due : List Waiting) (filed : ℕ → List Waiting) : Type 0 where
  pub unlike : AreUnlike due
  pub unlike_in : (k : ℕ) → AreUnlike (filed k)
  pub unlike_due : (k : ℕ) (x y : Waiting) → Contains due x → Contains (filed k) y → Unlike x y
  pub unlike_across : (k j : ℕ) (x y : Waiting) → k ≢ j → Contains (filed k) x → Contains (filed j) y → Unlike x y
  pub place : (k : ℕ) (w : Waiting) → Contains (filed k) w → w.set.first ≡ k

-- a stage at a state: nothing is filed for it or for smaller ones; the sets before the border have smaller least states, those that have no links
-- yet have this one; links rise; and if `all`, then each path that is over satisfies
pub record IsStage (Stands : ℕ → List ℕ → Type 0) (Satisfies : List ℕ → Type 0) (last : ℕ) (links : List Link) (sets : List Set) (links' : List Link) (overs : List Over) (due : List Waiting) (filed : ℕ → List Waiting) (expanded border state : ℕ) (all : Bool) : Type 0 where
  pub built : IsBuilt Stands Satisfies last links sets links' overs (Waits due filed) expanded
  pub are : AreFiled due filed
  pub passed : (k : ℕ) → k ≤ state → filed k ≡ []
  pub behind : border ≤ expanded
  pub below : (n : ℕ) → n < border → first_at sets n < state
  pub here : (n : ℕ) → border ≤ n → n < length sets → first_at sets n ≡ state
  pub rising : (l : Link) → Contains links' l → l.from < l.to
  pub apart : AreApart sets (Waits due filed)
  pub kept : IsTrue all → (n r : ℕ) → n < expanded → Leads last links sets n r last → Contains overs (over_at n r)

-- the sets that are reached have all their links
pub record IsReached (Stands : ℕ → List ℕ → Type 0) (Satisfies : List ℕ → Type 0) (last : ℕ) (links : List Link) (sets : List Set) (links' : List Link) (overs : List Over) (count : ℕ) (all : Bool) : Type 0 where
  pub counted : count ≡ length sets
  pub built : IsBuilt Stands Satisfies last links sets links' overs (λ w. ⊥) (length sets)
  pub rising : (l : Link) → Contains links' l → l.from < l.to
  pub apart : AreApart sets (λ w. ⊥)
  pub kept : IsTrue all → (n r : ℕ) → n < length sets → Leads last links sets n r last → Contains overs (over_at n r)

-- the link to the last state where a path is over
abbrev pub closing : ℕ → Over → Link
closing last' o = link o.from last' o.reading

-- the automaton of so many sets, with the links to the last state
pub record IsClosed (links : List Link) (overs : List Over) (count last' : ℕ) (links' : List Link) : Type 0 where
  pub last : last' ≡ count
  pub made : links' ≡ links ++ map (closing count) overs

-- what waits from n by the reading, with this state of the machine: one set, or none where none goes on
pub record AreNew (Goes : ℕ → Type 0) (n r next : ℕ) (new : List Waiting) : Type 0 where
  pub from : (w : Waiting) → Contains new w → w.from ≡ n
  pub reading : (w : Waiting) → Contains new w → w.reading ≡ r
  pub set : (w : Waiting) → Contains new w → (t : ℕ) → Contains (states_of w.set) t ↔ Goes t
  pub some : (w : Waiting) → Contains new w → (t : ℕ) × Contains (states_of w.set) t
  pub each : (t : ℕ) → Goes t → (w : Waiting) × Contains new w
  pub seen : (w : Waiting) → Contains new w → w.set.seen ≡ next
  pub sorted : (w : Waiting) → Contains new w → IsStrictlyIncreasing (states_of w.set)
  pub unlike : AreUnlike new

module _ (last : ℕ) (source : List Link) (states : List ℕ) (n : ℕ) where
  abbrev pub LeadsFrom : (reading to : ℕ) → Type 0
  LeadsFrom r t = (s : ℕ) × Contains states s × Contains source (link s t r)

  abbrev pub NextFrom : (reading to : ℕ) → Type 0
  NextFrom r t = (t ≢ last) × LeadsFrom r t

  -- for each of these readings, n's paths that are over and the one set that its paths go on to
  pub record IsExpansion (Stands Stands' : ℕ → List ℕ → Type 0) (Satisfies : List ℕ → Type 0) (seen : ℕ) (readings : List ℕ) (waiting waiting' : List Waiting) (overs overs' : List Over) : Type 0 where
    pub over : (before : List ℕ) → Stands seen before → (o : Over) → Contains overs' o ↔
        (Contains overs o ⊎ ((o.from ≡ n) × Contains readings o.reading × LeadsFrom o.reading last × Satisfies (before ++ o.reading ∷ [])))
    pub new : List Waiting
    pub appended : waiting' ≡ waiting ++ new
    pub from : (w : Waiting) → Contains new w → w.from ≡ n
    pub reading : (w : Waiting) → Contains new w → Contains readings w.reading
    pub set : (w : Waiting) → Contains new w → (t : ℕ) → Contains (states_of w.set) t ↔ NextFrom w.reading t
    pub some : (w : Waiting) → Contains new w → (t : ℕ) × Contains (states_of w.set) t
    pub each : (r t : ℕ) → Contains readings r → NextFrom r t → (w : Waiting) × Contains new w × (w.reading ≡ r)
    pub sees : (w : Waiting) → Contains new w → (before : List ℕ) → Stands seen before → Stands' w.set.seen (before ++ w.reading ∷ [])
    pub sorted : (w : Waiting) → Contains new w → IsStrictlyIncreasing (states_of w.set)
    pub unlike : AreUnlike new

-- the automaton's states but for its last are sets of the source's states with a state of the machine, no two the same
pub record IsPass (Stands : ℕ → List ℕ → Type 0) (Satisfies : List ℕ → Type 0) (last : ℕ) (links : List Link) (last' : ℕ) (links' : List Link) : Type 0 where
  pub sets : List Set
  pub some : 0 < last'
  pub are : AreSubsets Stands Satisfies last links (λ n s. Contains (states_at sets n) s) (seen_at sets) last' links'
  pub stood : (n : ℕ) → n < last' → (before : List ℕ) × Stands (seen_at sets n) before
  pub sorted : (n : ℕ) → n < last' → IsStrictlyIncreasing (states_at sets n)
  pub different : (n k : ℕ) → n < last' → k < last' → states_at sets n ≡ states_at sets k → seen_at sets n ≡ seen_at sets k → n ≡ k
