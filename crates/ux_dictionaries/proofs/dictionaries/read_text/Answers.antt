use Rattle.std.proofs.Common.{List, ℕ, subst, string_bytes}
use Rattle.ux_apply.specs.Names.{IsPriorityOf}
use Rattle.ux_dela.specs.Files.{Refuses}
use Rattle.ux_dict.specs.FileContent.{IsFileContent}
use Rattle.ux_lexicon.specs.Any.{content_of}
use Rattle.ux_plan.specs.Plans.{said_as}
use Rattle.ux_reasons.specs.declared.reason.Reason.TheVariants.{Decode, Dela}
use Rattle.ux_plan.proofs.Decoded.{decoded_reads}
use Rattle.ux_dictionaries.specs.Dictionaries.{IsDictionary}
use Rattle.ux_dictionaries.proofs.dictionaries.read_text.Goals as goal

-- the file has a text, which is a dictionary
pub returns-in-Ok-clause-ok : goal.returns-in-Ok-clause-ok
returns-in-Ok-clause-ok g c =
    let name = c.args.name.now in
    let content = content_of c.in-Ok.lexicon in
    let dic : IsDictionary name (string_bytes c.in_ok-text.text) (c.of.result, content) =
    record {
      priority = subst (λ (n : List ℕ). IsPriorityOf n c.of.result) c.base_of.ensures c.of.ensures;
      content = subst (λ (t : List ℕ). IsFileContent t content) c.as_str.ensures.value
          c.in-Ok.ensures.ok;
    } in
    decoded_reads Decode (said_as Dela (IsDictionary name) Refuses) name
    (g.F.Folder.seen c.args.folder.now).files (string_bytes c.in_ok-text.text)
    (c.of.result, content) c.in_ok-text.ensures.ok dic
