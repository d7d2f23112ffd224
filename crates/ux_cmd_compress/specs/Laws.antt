-- The formats of dictionaries of which the content is read are sound.
use Rattle.std.proofs.Common.{◌≡◌, ℕ, List, sym, subst}
use Rattle.ux_dela.specs.Files.{Refuses}
use Rattle.ux_dela.specs.declared.entry.Entry.{Entry}
use Rattle.ux_dela.proofs.RefusalLaws.{refused_once}
use Rattle.ux_dela.proofs.UniqueLaws.{entries_are_unique}
use Rattle.ux_dict.specs.Content.{IsContent}
use Rattle.ux_dict.specs.FileContent.{IsFileContent}
use Rattle.ux_dict.proofs.ContentLemmas.{IsContent-only}
use Rattle.ux_dict.proofs.ReadLemmas.{content_not_refused}
use Rattle.ux_image_files.specs.ImageFiles.{image_format, is_image, made}
use Rattle.ux_image_files.proofs.ImageFileLaws.{either_sound, image_sound, made_sound}
use Rattle.ux_plan.proofs.PlanLaws.{decoded_sound, said_sound}
use Rattle.ux_plan.specs.Laws.{IsSound}
use Rattle.ux_reasons.specs.declared.reason.Reason.TheVariants.{Decode, Dela}
use Rattle.ux_cmd_compress.specs.Contents.{content_format, text_format}

-- a text has one content
one_content : (text : List ℕ) (content other : List Entry) → IsFileContent text content →
    IsFileContent text other → content ≡ other
one_content text content other a b =
    IsContent-only a.entries content other a.is
    (subst (λ (l : List Entry). IsContent l other)
    (sym (entries_are_unique text a.entries b.entries a.are b.are)) b.is)

text_sound : IsSound text_format
text_sound =
    decoded_sound Decode _ (said_sound Dela IsFileContent Refuses
    (λ text content error is refused. content_not_refused text content is error refused)
    one_content refused_once)

pub content_sound : (name : List ℕ) → IsSound (content_format name)
content_sound name =
    either_sound (is_image name) (made image_format IsContent) text_format
    (made_sound image_format IsContent image_sound IsContent-only) text_sound
