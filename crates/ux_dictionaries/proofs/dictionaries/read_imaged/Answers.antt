use Rattle.std.proofs.Common.{List, ℕ, subst}
use Rattle.ux_apply.specs.Names.{IsPriorityOf}
use Rattle.ux_dict.proofs.ItselfLemmas.{IsContent-itself}
use Rattle.ux_image_files.specs.ImageFiles.{image_format}
use Rattle.ux_image_files.proofs.ByteSteps.{made_reads}
use Rattle.ux_dictionaries.specs.Dictionaries.{IsDictionaryOf}
use Rattle.ux_dictionaries.proofs.dictionaries.read_imaged.Goals as goal

-- the image's entries are a dictionary of this name, which is that of themselves
pub returns-clause-ok : goal.returns-clause-ok
returns-clause-ok g c =
    let name = c.args.name.now in
    let content = c.in_ok-lexicon.lexicon in
    let dic : IsDictionaryOf name content (c.of.result, content) = record {
      priority = subst (λ (n : List ℕ). IsPriorityOf n c.of.result) c.base_of.ensures c.of.ensures;
      content = IsContent-itself content c.in_ok-lexicon.ensures.kept;
    } in
    made_reads image_format (IsDictionaryOf name) name
    (g.F.Folder.seen c.args.folder.now).files content (c.of.result, content)
    c.in_ok-lexicon.ensures.ok dic
