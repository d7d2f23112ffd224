-- What is counted of hits. Inner: the crate's own functions alone speak of it.
use Rattle.std.specs.Prelude.{◌≡◌, ℕ, List, length}
use Rattle.ux_outputs.specs.declared.hit.Hit.{Hit}
use Rattle.ux_locate.specs.Index.{IsListing}
use Rattle.ux_cmd_bench.specs.Summaries.{longest_of}

-- so many hits there are, and so many tokens has the longest
pub record AreCounts (IsHit : Hit → Type 0) (count longest : ℕ) : Type 0 where
  pub hits : List Hit
  pub listing : IsListing IsHit hits
  pub counted : count ≡ length hits
  pub measured : longest ≡ longest_of hits
