-- What is kept in groups, by number and by key. Inner: the crate's own functions alone speak of it.
use Rattle.std.specs.Prelude.{◌≡◌, ◌↔◌, ◌⊎◌, ℕ, List, Some, Contains, get_or, slice_get}
use Rattle.ux_folds.specs.declared.lists.Link.{Link}
use Rattle.ux_folds.specs.Lists.{AreSound, Spells}
use Rattle.ux_walk.specs.Links.{AreOnce}
use Rattle.ux_listing.specs.declared.groups.Groups.{Groups}
use Rattle.ux_listing.specs.declared.groups.Keyed.{Keyed}

-- the place has the number, and each other place what it had, 0 behind the last
pub record IsPutIn (old new : List ℕ) (place number : ℕ) : Type 0 where
  pub here : get_or new place 0 ≡ number
  pub others : (n : ℕ) → (n ≡ place → ⊥) → get_or new n 0 ≡ get_or old n 0

module _ {T : Type 0} where
  abbrev pub links_of : Groups T → List (Link T)
  links_of g = g.lists.links.keys

  -- the number of the list of a group
  abbrev pub list_of : Groups T → ℕ → ℕ
  list_of g group = get_or g.latest.items group 0

  -- the value is in the group
  pub record IsIn (g : Groups T) (group : ℕ) (v : T) : Type 0 where
    pub values : List T
    pub spells : Spells (links_of g) (list_of g group) values
    pub inside : Contains values v

  -- each group is listed
  pub record AreGrouped (g : Groups T) : Type 0 where
    pub sound : AreSound (links_of g)
    pub listed : (group : ℕ) → (values : List T) × Spells (links_of g) (list_of g group) values

  -- the group has one value more
  pub record IsMore (old new : Groups T) (group : ℕ) (value : T) : Type 0 where
    pub grouped : AreGrouped new
    pub exact : (n : ℕ) (v : T) → IsIn new n v ↔ (IsIn old n v ⊎ ((n ≡ group) × (v ≡ value)))

module _ {K T : Type 0} where
  -- the value is in the group of this key
  pub record IsAt (g : Keyed K T) (key : K) (v : T) : Type 0 where
    pub number : ℕ
    pub keyed : slice_get g.keys.keys number ≡ Some key
    pub within : IsIn g.groups number v

  -- each key has one number, and each group is listed
  pub record AreKeyed (g : Keyed K T) : Type 0 where
    pub once : AreOnce g.keys.keys
    pub grouped : AreGrouped g.groups
    pub few : (n : ℕ) (v : T) → IsIn g.groups n v → (key : K) × (slice_get g.keys.keys n ≡ Some key)

  -- the group of the key has one value more
  pub record IsMoreAt (old new : Keyed K T) (key : K) (value : T) : Type 0 where
    pub keyed : AreKeyed new
    pub exact : (k : K) (v : T) → IsAt new k v ↔ (IsAt old k v ⊎ ((k ≡ key) × (v ≡ value)))
