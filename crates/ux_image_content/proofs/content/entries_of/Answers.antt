use Rattle.std.proofs.Common.{List, subst, ◌∙◌}
use Rattle.std.specs.Prelude.{flat_map}
use Rattle.std.proofs.lemmas.Result.{IfOk-weaker}
use Rattle.ux_dawg.specs.declared.state.Form.{Form}
use Rattle.ux_image_content.specs.Contents.{told_by, AreRebuilt}
use Rattle.ux_image_content.proofs.ToldLemmas.{content_sound, lists_good}
use Rattle.ux_image_content.proofs.content.entries_of.Goals as goal

pub rebuild_all-requires : goal.rebuild_all-requires
rebuild_all-requires c =
    lists_good c.requires.file.0 c.args.image.now c.requires.file.1.layout

pub returns-clause-sound : goal.returns-clause-sound
returns-clause-sound c =
    let image = c.args.image.now in
    let made = c.in_ok-entries.entries.items in
    let are = subst (λ (l : List Form). AreRebuilt (flat_map (told_by image.lists.keys) l) made)
    (c.as_slice.ensures.value ∙ c.in_ok-forms.ensures)
    c.in_ok-entries.ensures in
    IfOk-weaker c.different.result _ _ (λ content different.
    content_sound c.requires.file.0 image made content.items c.requires.file.1.layout are different)
    c.different.ensures
