-- How a label applies at a position, as the code tells it. Public: the contract of `label_match_at`
-- speaks of it.
use Rattle.std.specs.Prelude.{◌≡◌, ◌↔◌, ℕ, List, Contains}
use Rattle.ux_alphabet.specs.Letters.{Letters}
use Rattle.ux_tokens.specs.Tokens.{Token}
use Rattle.ux_lexical_tables.specs.Tables.{Tables}
use Rattle.ux_net.specs.declared.label.Label.{Label}
use Rattle.ux_net.specs.declared.label.Label.TheVariants.{Call}
use Rattle.ux_walk.specs.declared.matching.LabelMatch.{LabelMatch}
use Rattle.ux_walk.specs.declared.matching.LabelMatch.TheVariants as matched
use Rattle.ux_walk.specs.Contexts.{Opens}
use Rattle.ux_walk.specs.Courses.{Passes, TakesPlainly}

-- the label match takes the tokens up to this position
abbrev pub TakesUpTo : LabelMatch → ℕ → Type 0
TakesUpTo (matched.Takes end) k = k ≡ end
TakesUpTo (matched.Spans ends) k = Contains ends.items k
TakesUpTo other k = ⊥

-- the label applies at the position in just this way
pub record IsLabelMatch (alphabet : Letters) (tokens : List Token) (tables : Tables) (label : Label)
    (i : ℕ) (r : LabelMatch) : Type 0 where
  pub takes : (k : ℕ) → TakesUpTo r k ↔ TakesPlainly alphabet tokens tables label i k
  pub stays : (r ≡ matched.Stays) ↔ Passes tokens label i
  pub calls : (graph : ℕ) → (r ≡ matched.Calls graph) ↔ (label ≡ Call graph)
  pub opens : (r ≡ matched.Opens) ↔ Opens label
