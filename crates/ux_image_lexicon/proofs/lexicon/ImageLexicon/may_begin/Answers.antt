use Rattle.ux_image_lexicon.proofs.lexicon.ImageLexicon.may_begin.Goals as goal

pub returns : goal.returns
returns c =
    c.may_go_on.ensures c.args.alphabet.now c.args.self.now c.args.text.now c.in_ok-reached.ensures
