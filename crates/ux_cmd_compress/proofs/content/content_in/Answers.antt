use Rattle.std.proofs.Common.{subst, sym}
use Rattle.ux_dict.specs.Content.{IsDictionary}
use Rattle.ux_dict.proofs.ReadLemmas.{IsDictionary-file}
use Rattle.ux_image.specs.Contents.{IsContent}
use Rattle.ux_cmd_compress.proofs.content.content_in.Goals as goal

pub dictionary_is_content-requires : goal.dictionary_is_content-requires
dictionary_is_content-requires c =
    subst IsDictionary (sym c.deref.ensures.value)
    (IsDictionary-file c.args.text.now c.in_ok-content.content.items
    c.in_ok-content.ensures.ok)

pub returns-clause-ordered : goal.returns-clause-ordered
returns-clause-ordered c =
    subst IsContent c.deref.ensures.value c.dictionary_is_content.ensures.content
