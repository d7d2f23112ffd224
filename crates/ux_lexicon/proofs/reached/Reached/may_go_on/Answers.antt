use Rattle.std.proofs.Common.{rules}
use Rattle.ux_lexicon.proofs.ReachedLemmas.{reached-Image, reached-List}
use Rattle.ux_lexicon.proofs.reached.Reached.may_go_on.Goals as goal

pub returns-in-List : goal.returns-in-List
returns-in-List c alphabet content text leads =
    c.may_go_on.ensures alphabet content text (search (rules, reached-List))

pub returns-in-Image : goal.returns-in-Image
returns-in-Image c alphabet content text leads =
    c.may_go_on-in-Image.ensures alphabet content text (search (rules, reached-Image))
