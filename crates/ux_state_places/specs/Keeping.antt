-- What is kept of the places of a graph, one after another. Inner: the crate's own functions alone
-- speak of it.
use Rattle.std.specs.Prelude.{◌≡◌, ◌≢◌, ◌↔◌, ◌⊎◌, ℕ, List, Bool, true, length, Contains}
use Rattle.ux_boxes.specs.declared.place.Place.{Place}
use Rattle.ux_boxes.specs.Places.{label_lines, place_output, place_targets, is_reached}
use Rattle.ux_admission.specs.Gains.{SoOfOne}
use Rattle.ux_state_places.specs.Meeting.{HasOpening}

-- the target of a place with a mark is kept, and of another one where a context opens into it
abbrev pub IsKeptTarget : List Place → Bool → (target q : ℕ) → Type 0
IsKeptTarget places is_met target q =
    (target ≡ q) × ((is_met ≡ true) ⊎ HasOpening (label_lines places target))

-- a place has this mark and these targets, and all else is as it was
pub record AreSet (old : List Place) (n : ℕ) (is_met : Bool) (targets : List ℕ)
    (new : List Place) : Type 0 where
  pub len : length new ≡ length old
  pub outputs : (p : ℕ) → place_output new p ≡ place_output old p
  pub lines : (p : ℕ) → label_lines new p ≡ label_lines old p
  pub reached : is_reached new n ≡ is_met
  pub leads : place_targets new n ≡ targets
  pub others_reached : (p : ℕ) → p ≢ n → is_reached new p ≡ is_reached old p
  pub others_targets : (p : ℕ) → p ≢ n → place_targets new p ≡ place_targets old p

-- the same, with the targets that are kept
pub record IsKeptAt (old : List Place) (n : ℕ) (is_met : Bool) (new : List Place) : Type 0 where
  pub targets : List ℕ
  pub exact : (q : ℕ) → Contains targets q ↔
      SoOfOne (place_targets old n) (IsKeptTarget old is_met) q
  pub set : AreSet old n is_met targets new
