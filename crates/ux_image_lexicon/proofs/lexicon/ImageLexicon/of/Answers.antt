use Rattle.std.proofs.Common.{◌≡◌, subst, sym, ap, ◌∙◌}
use Rattle.std.proofs.lemmas.Result.{IfOk-weaker}
use Rattle.ux_image_content.specs.Contents.{IsContentOf}
use Rattle.ux_image_content.proofs.ToldLemmas.{lists_good}
use Rattle.ux_image_lexicon.specs.Told.{content_in}
use Rattle.ux_image_lexicon.proofs.ReadLemmas.{coded_is, content_of}
use Rattle.ux_image_lexicon.proofs.lexicon.ImageLexicon.of.Goals as goal

pub read_lists-requires : goal.read_lists-requires
read_lists-requires c =
    let file = c.requires.file in
    lists_good file.0 c.args.image file.1.layout

pub new-requires : goal.new-requires
new-requires c =
    let file = c.requires.file in
    coded_is file.0 c.args.image file.1 c.in_ok-lists.lists.items c.in_ok-lists.ensures
    c.requires.automaton

pub returns-clause-content : goal.returns-clause-content
returns-clause-content c =
    let file = c.requires.file in
    let read = c.in_ok-lists.lists.items in
    let is = coded_is file.0 c.args.image file.1 read c.in_ok-lists.ensures c.requires.automaton in
    let same : c.new.result ≡ record { states = c.args.image.states; lists = read } =
    λ i. record { states = c.new.ensures.states i; lists = c.new.ensures.lists i } in
    IfOk-weaker c.of_coded.result _ _ (λ lexicon whole.
    subst (IsContentOf c.args.image) (sym (whole ∙ ap content_in same))
    (content_of file.0 c.args.image file.1 read c.in_ok-lists.ensures is)) c.of_coded.ensures.content
