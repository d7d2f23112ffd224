use Rattle.ux_dict.proofs.ContentLemmas.{IsDictionary-content}
use Rattle.ux_dict.proofs.list_lexicon.ListLexicon.new.Goals as goal

pub of_content-requires : goal.of_content-requires
of_content-requires c =
    IsDictionary-content c.args.entries.items c.in_ok-content.content.items
    c.in_ok-content.ensures c.requires
