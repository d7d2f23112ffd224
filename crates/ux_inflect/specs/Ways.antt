-- Ways along links with texts, and the least text of those that end where it is wanted. Inner: the
-- crate's own functions alone speak of it.
use Rattle.std.specs.Prelude.{◌≡◌, ◌<◌, ℕ, List, [], ◌∷◌, ◌++◌, Option, Some, None, Bool, true, cond, Contains, get_or, length, map, option_map, Vec}
use Rattle.std.specs.Ordering.{nat_cmp, is_lt}
use Rattle.std.specs.Cmp.Lexicographic.{slice_cmp}
use Rattle.ux_digraph.specs.Rules.{is_marked_at}
use Rattle.ux_inflect.specs.declared.exploring.Link.{Link}
use Rattle.ux_inflect.specs.Inflected.{IsNotAfter}

-- the lesser of two texts, of which each may be missing
abbrev pub lesser_of : List ℕ → List ℕ → List ℕ
lesser_of text other = cond (is_lt (slice_cmp nat_cmp other text)) other text

abbrev pub lesser_option : Option (List ℕ) → Option (List ℕ) → Option (List ℕ)
lesser_option None other = other
lesser_option (Some text) None = Some text
lesser_option (Some text) (Some other) = Some (lesser_of text other)

-- the least text of a set, or none where it has none
abbrev pub IsLeastOf : (List ℕ → Type 0) → Option (List ℕ) → Type 0
IsLeastOf Is None = (text : List ℕ) → Is text → ⊥
IsLeastOf Is (Some least) = Is least × ((text : List ℕ) → Is text → IsNotAfter least text)

-- the links of each node, as lists, and where they lead
abbrev pub lists_of : {Z : Type 0} → List (Vec Link Z) → List (List Link)
lists_of rows = map (λ row. row.items) rows

-- lists of numbers, as lists
abbrev pub lists_in : {Z : Type 0} → List (Vec ℕ Z) → List (List ℕ)
lists_in rows = map (λ row. row.items) rows

abbrev pub ends_rows : List (List Link) → List (List ℕ)
ends_rows rows = map (λ (row : List Link). map (λ (link : Link). link.to) row) rows

-- the text of a link and then the best one from its end
abbrev pub along_link : List (Option (List ℕ)) → Link → Option (List ℕ)
along_link best link = option_map (λ rest. link.text ++ rest) (get_or best link.to None)

-- the least of a first text and those along the links
abbrev pub least_in : List (Option (List ℕ)) → Option (List ℕ) → List Link → Option (List ℕ)
least_in best least [] = least
least_in best least (link ∷ row) = least_in best (lesser_option least (along_link best link)) row

abbrev pub if_wanted_text : Bool → Option (List ℕ)
if_wanted_text is_wanted = cond is_wanted (Some []) None

module _ (links : List (List Link)) where
  -- links that follow each other, with their text
  pub data Way : ℕ → List ℕ → ℕ → Type 0 where
    stay : {u : ℕ} → Way u [] u
    go : {u w : ℕ} {rest : List ℕ} (link : Link) → Contains (get_or links u []) link →
        Way link.to rest w → Way u (link.text ++ rest) w

  -- a way to a wanted node
  pub record Goes (wanted : List Bool) (u : ℕ) (text : List ℕ) : Type 0 where
    pub last : ℕ
    pub way : Way u text last
    pub is_wanted : is_marked_at wanted last ≡ true

  -- the least text of such a way, or none where there is no such way
  abbrev pub IsBest : List Bool → ℕ → Option (List ℕ) → Type 0
  IsBest wanted u best = IsLeastOf (Goes wanted u) best

  -- that text is kept for the node
  abbrev pub IsBestAt : List Bool → List (Option (List ℕ)) → ℕ → Type 0
  IsBestAt wanted best u = IsBest wanted u (get_or best u None)

  -- every link leads to a node, and some number falls along it
  pub record AreFalling : Type 0 where
    pub rank : ℕ → ℕ
    pub falls : (u : ℕ) (link : Link) → Contains (get_or links u []) link → rank link.to < rank u
    pub inside : (u : ℕ) (link : Link) → Contains (get_or links u []) link → link.to < length links

  -- each node has a turn, after those to which its links lead
  pub record AreTurns (turns : List (List ℕ)) : Type 0 where
    pub placed : (u : ℕ) → u < length links →
        (k : ℕ) × (k < length links) × Contains (get_or turns k []) u
    pub inside : (k u : ℕ) → Contains (get_or turns k []) u → u < length links
    pub earlier : (k u : ℕ) (link : Link) → Contains (get_or turns k []) u →
        Contains (get_or links u []) link →
        (j : ℕ) × (j < k) × Contains (get_or turns j []) link.to

  -- what a turn adds to the texts that are kept
  pub record IsTaken (wanted : List Bool) (nodes : List ℕ) (old new : List (Option (List ℕ))) : Type 0 where
    pub len : length new ≡ length old
    pub kept : (u : ℕ) → IsBestAt wanted old u → IsBestAt wanted new u
    pub done : (u : ℕ) → Contains nodes u → IsBestAt wanted new u

  -- what a turn asks for: what the links of its nodes lead to is known
  pub record AreReady (wanted : List Bool) (nodes : List ℕ) (best : List (Option (List ℕ))) : Type 0 where
    pub inside : (u : ℕ) → Contains nodes u → u < length best
    pub ready : (u : ℕ) (link : Link) → Contains nodes u → Contains (get_or links u []) link →
        IsBestAt wanted best link.to
