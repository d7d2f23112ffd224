-- The index of states: for each bucket the newest of its items, and for each item a link, with the
-- number of its state, the hash of it, and the next older item of its bucket. A mark is one more
-- than an item, and 0 where there is none. Inner: the crate's own functions alone speak of it.
use Rattle.std.specs.Prelude.{◌≡◌, ◌≢◌, ℕ, zero, suc, ◌-◌, ◌^◌, ◌<◌, ◌≤◌, List, [], ◌∷◌, ◌++◌, ◌⊎◌, ◌↔◌, Option, MatchOption, bit_and, cond, get_or, length, map, nat_eq}
use Rattle.ux_dawg.specs.declared.state.State.{State}
use Rattle.ux_dawg.specs.declared.index.Index.{Index}
use Rattle.ux_dawg.specs.declared.index.Link.{Link}
use Rattle.ux_dawg.specs.Building.{bare}
use Rattle.ux_dawg.specs.Hash.{hash_of}
use Rattle.ux_dawg.specs.Register.{follower_of, AreOnce}

-- the bucket of a hash, of so many
unfoldable pub bucket_in : (many hash : ℕ) → ℕ
bucket_in many hash = bit_and hash (many - 1)

-- the bucket of the hash of this item
abbrev pub bucket_at : (many : ℕ) (hashes : List ℕ) (number : ℕ) → ℕ
bucket_at many hashes number = bucket_in many (get_or hashes number 0)

-- the mark of the newest of the first n hashes that are in the bucket
abbrev pub newest_of : (many : ℕ) → List ℕ → (bucket n : ℕ) → ℕ
newest_of many hashes bucket zero = 0
newest_of many hashes bucket (suc n) =
    cond (nat_eq (bucket_at many hashes n) bucket) (suc n) (newest_of many hashes bucket n)

-- the hash of each link
abbrev pub hashes_of : List Link → List ℕ
hashes_of links = map (λ (link : Link). link.hash) links

-- the number of the state of each link
abbrev pub numbers_of : List Link → List ℕ
numbers_of links = map (λ (link : Link). link.number) links

-- the number of the state of this item
abbrev pub number_at : List Link → (item : ℕ) → ℕ
number_at links item = get_or (numbers_of links) item 0

-- the state of this item
abbrev pub state_at : List State → List Link → (item : ℕ) → State
state_at states links item = get_or states (number_at links item) bare

-- the mark of each link
abbrev pub olders_of : List Link → List ℕ
olders_of links = map (λ (link : Link). link.older) links

-- the first n links are in their buckets, and each has a mark
pub record AreMarks (n : ℕ) (newest : List ℕ) (links : List Link) : Type 0 where
  pub heads : (b : ℕ) → b < length newest →
      get_or newest b 0 ≡ newest_of (length newest) (hashes_of links) b n
  pub olders : (i : ℕ) → i < n →
      get_or (olders_of links) i 0
      ≡ newest_of (length newest) (hashes_of links)
      (bucket_at (length newest) (hashes_of links) i) i
  pub few : length links < 2 ^ 32

-- how many buckets there are
abbrev pub buckets : Index → ℕ
buckets index = length index.newest.items

-- how many items the index has
abbrev pub held : Index → ℕ
held index = length index.links.items

-- the first n links of the index are in their buckets
abbrev pub AreLinked : (n : ℕ) → Index → Type 0
AreLinked n index = AreMarks n index.newest.items index.links.items

-- each item is in its bucket, by the hash of its state
pub record AreIndexed (states : List State) (index : Index) : Type 0 where
  pub linked : AreLinked (held index) index
  pub hashes : (item : ℕ) → item < held index →
      get_or (hashes_of index.links.items) item 0
      ≡ hash_of (state_at states index.links.items item)

-- there is no item
pub record IsEmpty (index : Index) : Type 0 where
  pub linked : AreLinked (held index) index
  pub none : held index ≡ 0

-- some item is that of state number n
abbrev pub Holds : Index → (n : ℕ) → Type 0
Holds index n = (item : ℕ) × (item < held index) × (number_at index.links.items item ≡ n)

-- the same hashes and numbers, in as many buckets
pub record HasSameItems (old new : Index) : Type 0 where
  pub hashes : hashes_of new.links.items ≡ hashes_of old.links.items
  pub numbers : numbers_of new.links.items ≡ numbers_of old.links.items
  pub many : buckets new ≡ buckets old

-- the same hashes and numbers, all in their buckets, of which there may be more
pub record IsWidened (old new : Index) : Type 0 where
  pub hashes : hashes_of new.links.items ≡ hashes_of old.links.items
  pub numbers : numbers_of new.links.items ≡ numbers_of old.links.items
  pub linked : AreLinked (held new) new

-- a link of no older one
abbrev pub link_of : (hash number : ℕ) → Link
link_of hash number = record { older = 0; hash = hash; number = number }

-- a link of the hash and the number was put last, and into no bucket
pub record IsBegun (hash number item : ℕ) (old new : Index) : Type 0 where
  pub newest : new.newest.items ≡ old.newest.items
  pub links : new.links.items ≡ old.links.items ++ link_of hash number ∷ []
  pub last : item ≡ held old
  pub few : held new < 2 ^ 32

-- the hash and the number were put last, and into the bucket of the hash
pub record IsAdded (hash number : ℕ) (old new : Index) : Type 0 where
  pub hashes : hashes_of new.links.items ≡ hashes_of old.links.items ++ hash ∷ []
  pub numbers : numbers_of new.links.items ≡ numbers_of old.links.items ++ number ∷ []
  pub many : buckets new ≡ buckets old
  pub linked : AreLinked (held new) new

-- the same marks and items
pub record IsSameIndex (old new : Index) : Type 0 where
  pub newest : new.newest.items ≡ old.newest.items
  pub links : new.links.items ≡ old.links.items

-- the state stands at the number, which the index holds, or at no number that it holds
abbrev pub IsPlace : List State → Index → State → Option ℕ → Type 0
IsPlace states index state place =
    MatchOption place ((n : ℕ) → Holds index n → get_or states n bare ≢ state)
    (λ n. Holds index n × (get_or states n bare ≡ state))

-- the state is that of no item from a mark of its bucket on, up to n
pub record IsSearched (many : ℕ) (links : List Link) (states : List State) (n bucket : ℕ)
    (state : State) (mark : ℕ) : Type 0 where
  pub most : mark ≤ n
  pub inside : (item : ℕ) → mark ≡ suc item → bucket_at many (hashes_of links) item ≡ bucket
  pub nowhere : (item : ℕ) → mark ≤ item → item < n → state_at states links item ≢ state

-- the last edge of state number n leads to the state before it; or it is the first, without edges
abbrev pub Follows : List State → (n : ℕ) → Type 0
Follows states n = follower_of (get_or states n bare).edges ≡ n

-- the states of a register: each once, and in its index those that follow none, at least
pub record IsRegister (states : List State) (index : Index) : Type 0 where
  pub indexed : AreIndexed states index
  pub once : AreOnce {A = State} states
  pub within : (n : ℕ) → Holds index n → n < length states
  pub covered : (n : ℕ) → n < length states → Follows states n ⊎ Holds index n

-- the state was put last, and into the index
pub record IsStored (state : State) (number : ℕ) (states states' : List State)
    (index index' : Index) : Type 0 where
  pub put : states' ≡ states ++ state ∷ []
  pub indexed : AreIndexed states' index'
  pub last : number ≡ length states
  pub holds : (n : ℕ) → Holds index' n ↔ (Holds index n ⊎ (n ≡ number))
