use Rattle.ux_image.proofs.DictionaryLaws.{dictionary_content}
use Rattle.ux_image.proofs.content.dictionary_is_content.Goals as goal

pub returns-clause-content : goal.returns-clause-content
returns-clause-content c =
    dictionary_content c.args.entries.now c.requires c.are_texts.ensures
