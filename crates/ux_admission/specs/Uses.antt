-- Links between the places of all graphs, along steps, over contexts, and into what is called or
-- opened; and levels, which never rise along them. Inner: the crates that make nets alone speak of
-- it.
use Rattle.std.specs.Prelude.{◌≡◌, ◌≢◌, ℕ, ◌+◌, ◌-◌, ◌<◌, ◌≤◌, ◌⊎◌, ◌↔◌, List, [], ◌∷◌, Bool, true, false, Option, Some, None, Contains, length, get_or}
use Rattle.ux_digraph.specs.Paths.{row_of}
use Rattle.ux_digraph.specs.Components.{AreComponents}
use Rattle.ux_net.specs.declared.label.Label.{Label}
use Rattle.ux_net.specs.declared.label.Label.TheVariants.{Call}
use Rattle.ux_boxes.specs.declared.place.Place.{Place}
use Rattle.ux_admission.specs.declared.uses.Link.{Link}
use Rattle.ux_net.specs.Words.{Sign, positive, negative, Mark, ordinary, opens, closes, mark_of, Step}
use Rattle.ux_boxes.specs.Places.{places_of, place_targets, place_output, label_lines, place_grammar, IsPlaceStep}
use Rattle.ux_net.specs.Closers.{ClosesInto}
use Rattle.ux_admission.specs.Gains.{SoBelow, SoOfOne}
use Rattle.ux_boxes.specs.Numbers.{number_of, all_places}

-- whether a context of this sign may not follow
abbrev pub refuses : Sign → Bool
refuses positive = false
refuses negative = true

-- the step's link, but to the start of the graph that the line calls, by the table of the starts
abbrev pub IsCallLink : List ℕ → Link → List Label → Link → Type 0
IsCallLink offsets step line link =
    (h : ℕ) × (line ≡ Call h ∷ []) × (record step { to = get_or offsets (h - 1) 0 } ≡ link)

-- the step's link, but over a context to a place that is numbered from the base
abbrev pub IsJump : ℕ → Link → ℕ → Link → Type 0
IsJump base step place link = record step { to = base + place; is_negative = false } ≡ link

-- the links of a step along the line, by what the line does to contexts
abbrev pub IsLineLink : List ℕ → ℕ → Link → List Label → List ℕ → Mark → Link → Type 0
IsLineLink offsets base step line closed ordinary link =
    (step ≡ link) ⊎ IsCallLink offsets step line link
IsLineLink offsets base step line closed (opens sign) link =
    (record step { is_negative = refuses sign } ≡ link) ⊎ SoOfOne closed (IsJump base step) link
IsLineLink offsets base step line closed closes link = ⊥

module _ (graphs : List (List Place)) where
  -- a link from a place of the graph
  abbrev pub link_from : (g a to : ℕ) → Bool → Link
  link_from g a to into_negative =
      record { graph = g; from = number_of graphs g a; to = to; is_negative = into_negative }

  -- The links of a step of the graph: to its target, to the start of what it calls, into a context
  -- that it opens, and over the context.
  pub data IsLinkOf (g : ℕ) (s : Step) : Link → Type 0 where
    onward : mark_of s.labels ≡ ordinary →
        IsLinkOf g s (link_from g s.from (number_of graphs g s.to) false)
    calling : (h : ℕ) → Contains s.labels (Call h) →
        IsLinkOf g s (link_from g s.from (number_of graphs h 0) false)
    opening : (sign : Sign) → mark_of s.labels ≡ opens sign →
        IsLinkOf g s (link_from g s.from (number_of graphs g s.to) (refuses sign))
    over : (sign : Sign) (c : ℕ) → mark_of s.labels ≡ opens sign →
        ClosesInto (place_grammar graphs) g s.to c →
        IsLinkOf g s (link_from g s.from (number_of graphs g c) false)

  -- the step of the graph from a place to a target, along the line
  abbrev pub step_along : (g a b : ℕ) → List Label → Step
  step_along g a b line =
      record { from = a; to = b; output = place_output (places_of graphs g) b; labels = line }

  abbrev pub IsLinkAlong : (g a b : ℕ) → List Label → Link → Type 0
  IsLinkAlong g a b line link = IsLinkOf g (step_along g a b line) link

  -- the links from a place of the graph, along each line of each target
  abbrev pub IsLinkFrom : (g a : ℕ) → Link → Type 0
  IsLinkFrom g a link =
      (a ≢ 1) × SoOfOne (place_targets (places_of graphs g) a)
      (λ b. SoOfOne (label_lines (places_of graphs g) b) (IsLinkAlong g a b)) link

  -- the links from each place of the graph
  abbrev pub IsLinkIn : ℕ → Link → Type 0
  IsLinkIn g link = SoBelow (length (places_of graphs g)) (IsLinkFrom g) link

  -- a link of a step of its graph
  pub record IsLink (link : Link) : Type 0 where
    pub step : Step
    pub of_graph : IsPlaceStep (places_of graphs link.graph) step
    pub of_step : IsLinkOf link.graph step link

  -- the links are those of all steps
  pub record AreLinks (links : List Link) : Type 0 where
    pub exact : (link : Link) → Contains links link ↔ IsLink link

  -- a link leads from the one number to the other
  abbrev pub IsLinked : (u v : ℕ) → Type 0
  IsLinked u v = (link : Link) × IsLink link × (link.from ≡ u) × (link.to ≡ v)

  -- the edges are the links
  pub record AreLinkEdges (edges : List (List ℕ)) : Type 0 where
    pub len : length edges ≡ all_places graphs
    pub edge : (u v : ℕ) → Contains (row_of edges u) v ↔ IsLinked u v

  -- the numbers are those of the components of the links
  pub record AreLinkNumbers (numbers : List ℕ) : Type 0 where
    pub edges : List (List ℕ)
    pub linked : AreLinkEdges edges
    pub components : AreComponents edges numbers

-- the numbers of the two ends
abbrev pub ends_of : Link → ℕ × ℕ
ends_of link = (link.from, link.to)

-- a link into a negative context, both ends of which have one number
abbrev pub IsCircular : List ℕ → Link → Type 0
IsCircular numbers link =
    (link.is_negative ≡ true) × (get_or numbers link.from 0 ≡ get_or numbers link.to 0)

-- the first graph from which a circular link leads
abbrev pub IsFirstCircular : List Link → List ℕ → Option ℕ → Type 0
IsFirstCircular links numbers None =
    (link : Link) → Contains links link → IsCircular numbers link → ⊥
IsFirstCircular links numbers (Some g) =
    ((link : Link) × Contains links link × IsCircular numbers link × (link.graph ≡ g))
    × ((link : Link) → Contains links link → IsCircular numbers link → g ≤ link.graph)

-- A level for each place, by number. It never rises along a run nor into what is called or opened,
-- and falls into a negative context.
pub record AreLevels (graphs : List (List Place)) (levels : List ℕ) : Type 0 where
  pub len : length levels ≡ all_places graphs
  pub below : (k : ℕ) → get_or levels k 0 ≤ all_places graphs
  pub ordinary : (g : ℕ) (s : Step) → IsPlaceStep (places_of graphs g) s →
      mark_of s.labels ≡ ordinary →
      get_or levels (number_of graphs g s.to) 0 ≤ get_or levels (number_of graphs g s.from) 0
  pub across : (g : ℕ) (s : Step) (sign : Sign) (c : ℕ) → IsPlaceStep (places_of graphs g) s →
      mark_of s.labels ≡ opens sign → ClosesInto (place_grammar graphs) g s.to c →
      get_or levels (number_of graphs g c) 0 ≤ get_or levels (number_of graphs g s.from) 0
  pub calls : (g h : ℕ) (s : Step) → IsPlaceStep (places_of graphs g) s →
      Contains s.labels (Call h) →
      get_or levels (number_of graphs h 0) 0 ≤ get_or levels (number_of graphs g s.from) 0
  pub holds : (g : ℕ) (s : Step) → IsPlaceStep (places_of graphs g) s →
      mark_of s.labels ≡ opens positive →
      get_or levels (number_of graphs g s.to) 0 ≤ get_or levels (number_of graphs g s.from) 0
  pub refused : (g : ℕ) (s : Step) → IsPlaceStep (places_of graphs g) s →
      mark_of s.labels ≡ opens negative →
      get_or levels (number_of graphs g s.to) 0 < get_or levels (number_of graphs g s.from) 0
