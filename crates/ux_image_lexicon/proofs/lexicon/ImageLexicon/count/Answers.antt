use Rattle.std.proofs.Common.{subst}
use Rattle.ux_dict.specs.Content.{IsDictionary}
use Rattle.ux_image_lexicon.proofs.OrderLemmas.{dictionary_is}
use Rattle.ux_image_lexicon.proofs.lexicon.ImageLexicon.count.Goals as goal

pub returns-clause-kept : goal.returns-clause-kept
returns-clause-kept c =
    subst IsDictionary c.self.view_is (dictionary_is c.self.inside.coded c.states-states.ensures.is)
