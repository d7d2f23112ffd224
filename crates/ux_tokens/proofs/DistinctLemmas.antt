-- A text has one number: the different texts of the tokens stand once each.
use Rattle.std.proofs.Common.{List, map}
use Rattle.ux_base.specs.Distinct.{StandOnce}
use Rattle.ux_base.proofs.OnceLemmas.{each_once-once}
use Rattle.ux_tokens.specs.Tokens.{Token}
use Rattle.ux_tokens.specs.Numbers.{different_texts}

-- so two numbers of one text are one
pub different_texts-once : (tokens : List Token) → StandOnce (different_texts tokens)
different_texts-once tokens = each_once-once (map (λ (t : Token). t.text) tokens)
