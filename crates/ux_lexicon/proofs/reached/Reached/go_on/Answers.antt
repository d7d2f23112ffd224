use Rattle.std.proofs.Common.{rules}
use Rattle.ux_lexicon.proofs.ReachedLemmas.{reached-Image}
use Rattle.ux_lexicon.proofs.reached.Reached.go_on.Goals as goal

pub returns-in_ok-go_on-in-Image : goal.returns-in_ok-go_on-in-Image
returns-in_ok-go_on-in-Image c content front leads =
    c.in_ok-go_on-in-Image.ensures content front (search (rules, reached-Image))
