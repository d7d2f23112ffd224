-- The format of dictionaries is sound, so the plan of several keeps the laws.
use Rattle.std.proofs.Common.{◌≡◌, ℕ, List, sym, ap, ◌∙◌, subst}
use Rattle.ux_apply.specs.declared.priority.Priority.{Priority}
use Rattle.ux_dela.specs.Files.{Refuses}
use Rattle.ux_dela.specs.declared.entry.Entry.{Entry}
use Rattle.ux_dela.proofs.RefusalLaws.{refused_once}
use Rattle.ux_dela.proofs.UniqueLaws.{entries_are_unique}
use Rattle.ux_dict.specs.Content.{IsContent}
use Rattle.ux_dict.specs.FileContent.{IsFileContent}
use Rattle.ux_dict.proofs.ContentLemmas.{IsContent-only}
use Rattle.ux_dict.proofs.ReadLemmas.{content_not_refused}
use Rattle.ux_image_files.specs.ImageFiles.{image_format, is_image}
use Rattle.ux_image_files.proofs.ImageFileLaws.{either_sound, image_sound, made_sound}
use Rattle.ux_reasons.specs.declared.reason.Reason.TheVariants.{Decode, Dela}
use Rattle.ux_plan.specs.FileNames.{base_of}
use Rattle.ux_plan.specs.Plans.{each}
use Rattle.ux_plan.specs.Laws.{IsSound, Laws}
use Rattle.ux_plan.proofs.PlanLaws.{decoded_sound, laws_each, said_sound}
use Rattle.ux_dictionaries.specs.Dictionaries.{IsDictionary, IsDictionaryOf, dictionary_format, imaged_format, text_format}
use Rattle.ux_dictionaries.proofs.PriorityLemmas.{one_priority}

-- a text has one content
one_content : (text : List ℕ) (content other : List Entry) → IsFileContent text content →
    IsFileContent text other → content ≡ other
one_content text content other a b =
    IsContent-only a.entries content other a.is
    (subst (λ (l : List Entry). IsContent l other)
    (sym (entries_are_unique text a.entries b.entries a.are b.are)) b.is)

-- a named text is one dictionary
one_dictionary : (name text : List ℕ) (dic other : Priority × List Entry) →
    IsDictionary name text dic → IsDictionary name text other → dic ≡ other
one_dictionary name text dic other a b =
    ap (λ (p : Priority). (p, dic.1))
    (one_priority (base_of name) dic.0 other.0 a.priority b.priority)
    ∙ ap (λ (c : List Entry). (other.0, c)) (one_content text dic.1 other.1 a.content b.content)

-- so are the entries of a named image
one_imaged : (name : List ℕ) (entries : List Entry) (dic other : Priority × List Entry) →
    IsDictionaryOf name entries dic → IsDictionaryOf name entries other → dic ≡ other
one_imaged name entries dic other a b =
    ap (λ (p : Priority). (p, dic.1))
    (one_priority (base_of name) dic.0 other.0 a.priority b.priority)
    ∙ ap (λ (c : List Entry). (other.0, c))
    (IsContent-only entries dic.1 other.1 a.content b.content)

text_sound : (name : List ℕ) → IsSound (text_format name)
text_sound name =
    decoded_sound Decode _ (said_sound Dela (IsDictionary name) Refuses
    (λ text dic error is refused. content_not_refused text dic.1 is.content error refused)
    (one_dictionary name) refused_once)

pub dictionary_sound : (name : List ℕ) → IsSound (dictionary_format name)
dictionary_sound name =
    either_sound (is_image name) (imaged_format name) (text_format name)
    (made_sound image_format (IsDictionaryOf name) image_sound (one_imaged name)) (text_sound name)

pub dictionaries_laws : (names : List (List ℕ)) → Laws (each dictionary_format names)
dictionaries_laws names = laws_each dictionary_format dictionary_sound names
