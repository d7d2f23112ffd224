use Rattle.ux_dict.proofs.ReadLemmas.{IsDictionary-file, content_not_refused}
use Rattle.ux_image_lexicon.proofs.of_text.read_text.Goals as goal

pub of_content-requires : goal.of_content-requires
of_content-requires c =
    IsDictionary-file c.args.text.now c.in_ok-content.content.items c.in_ok-content.ensures.ok

pub returns-in-Ok-clause-exact : goal.returns-in-Ok-clause-exact
returns-in-Ok-clause-exact c =
    content_not_refused c.args.text.now c.in_ok-content.content.items c.in_ok-content.ensures.ok
