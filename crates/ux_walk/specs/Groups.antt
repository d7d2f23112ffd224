-- What is kept in groups, and how sets grow. Inner: the crate's own functions alone speak of it.
use Rattle.std.specs.Prelude.{◌≡◌, ◌↔◌, ◌⊎◌, ℕ, List, [], ◌++◌, Bool, false, Contains, get_or}
use Rattle.ux_walk.specs.declared.groups.Groups.{Groups}
use Rattle.ux_walk.specs.declared.lists.Link.{Link}
use Rattle.ux_walk.specs.Links.{AreBelow, Names}

-- elements were added behind the others, if any
abbrev pub Grows : {A : Type 0} → List A → List A → Type 0
Grows {A} old new = (more : List A) × (new ≡ old ++ more)

-- the item was there, or was added behind the others, as the test tells
pub record IsAdded {A : Type 0} (old new : List A) (item : A) (is_new : Bool) : Type 0 where
  pub grows : Grows old new
  pub exact : (x : A) → Contains new x ↔ (Contains old x ⊎ (x ≡ item))
  pub known : is_new ≡ false → Contains old item

-- the place has the number, and each other place what it had, 0 behind the last
pub record IsPutIn (old new : List ℕ) (place number : ℕ) : Type 0 where
  pub here : get_or new place 0 ≡ number
  pub others : (n : ℕ) → (n ≡ place → ⊥) → get_or new n 0 ≡ get_or old n 0

module _ {T : Type 0} where
  abbrev pub links_of : Groups T → List (Link T)
  links_of g = g.lists.links.keys

  -- the number of the list of a group
  abbrev pub list_of : Groups T → ℕ → ℕ
  list_of g group = get_or g.latest.items group 0

  -- the value is in the group
  abbrev pub IsIn : Groups T → (group : ℕ) → T → Type 0
  IsIn g group v = Contains g.members.keys (record { group = group; value = v })

  -- no group has a value
  abbrev pub IsNoMember : Groups T → Type 0
  IsNoMember g = g.members.keys ≡ []

  -- the list of a group has its values
  pub record IsListed (g : Groups T) (group : ℕ) : Type 0 where
    pub values : List T
    pub names : Names (links_of g) (list_of g group) values
    pub exact : (v : T) → Contains values v ↔ IsIn g group v

  -- each group is listed
  pub record AreGrouped (g : Groups T) : Type 0 where
    pub below : AreBelow (links_of g)
    pub listed : (group : ℕ) → IsListed g group

  -- the group has the value, which is new there as the test tells, and all stays that there was
  pub record IsMore (old new : Groups T) (group : ℕ) (value : T) (is_new : Bool) : Type 0 where
    pub grouped : AreGrouped new
    pub exact : (n : ℕ) (v : T) →
        IsIn new n v ↔ (IsIn old n v ⊎ ((n ≡ group) × (v ≡ value)))
    pub known : is_new ≡ false → IsIn old group value
