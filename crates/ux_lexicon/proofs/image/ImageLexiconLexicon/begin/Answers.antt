use Rattle.ux_lexicon.proofs.image.ImageLexiconLexicon.begin.Goals as goal

pub returns : goal.returns
returns c alphabet = c.in_ok-begin.ensures alphabet
