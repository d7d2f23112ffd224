-- Where marks stand on the paths of a rule's graph. The manual, on ELAG. Public: the crate's public
-- contracts speak of it.
use Rattle.std.specs.Prelude.{◌≡◌, ◌≢◌, ℕ, ◌<◌, ◌≤◌, ◌⊎◌, List, [], ◌∷◌, Some, Contains, length, slice_get}
use Rattle.ux_grf.specs.declared.graph.Graph.{Graph}
use Rattle.ux_rules.specs.declared.step.Sign.{Sign}
use Rattle.ux_rules.specs.declared.step.Sign.TheVariants.{Free, If, Then, Read}
use Rattle.ux_rules.specs.Words.{IsThrough, Leads}

-- the marks of a word
abbrev pub marks : List Sign → List Sign
marks [] = []
marks (Free ∷ word) = marks word
marks (If ∷ word) = If ∷ marks word
marks (Then ∷ word) = Then ∷ marks word
marks (Read test ∷ word) = marks word

-- a mark is bad as a fourth one, and where the first was of another kind
abbrev pub IsBadMark : (met : List Sign) → (mark : Sign) → Type 0
IsBadMark met mark =
    (length met ≡ 3) ⊎ ((first : Sign) × (slice_get met 0 ≡ Some first) × (first ≢ mark))

-- the sign is bad behind these marks: an item before the first or after the third, or a bad mark
abbrev pub IsBadBehind : (met : List Sign) → (sign : Sign) → Type 0
IsBadBehind met Free = ⊥
IsBadBehind met If = IsBadMark met If
IsBadBehind met Then = IsBadMark met Then
IsBadBehind met (Read test) = (met ≡ []) ⊎ (3 ≤ length met)

-- one of the signs with which a path goes through the box is bad behind these marks
abbrev pub HasBadSign : Graph → ℕ → (met : List Sign) → Type 0
HasBadSign graph node met = (signs : List Sign) × IsThrough graph node signs
    × ((sign : Sign) × Contains signs sign × IsBadBehind met sign)

-- some path from box 0 meets the box as a bad sign, or box 1 before its third mark
pub record IsBadBox (graph : Graph) (node : ℕ) : Type 0 where
  pub before : List Sign
  pub leads : Leads graph node before
  pub bad : ((node ≡ 1) × (length (marks before) < 3)) ⊎ HasBadSign graph node (marks before)
