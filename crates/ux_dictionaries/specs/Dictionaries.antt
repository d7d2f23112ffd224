-- Which files are the dictionaries of a command. This file carries public meaning.
use Rattle.std.specs.Prelude.{ℕ, List}
use Rattle.ux_apply.specs.Applying.{contents}
use Rattle.ux_apply.specs.Names.{IsPriorityOf}
use Rattle.ux_apply.specs.declared.priority.Priority.{Priority}
use Rattle.ux_dela.specs.Files.{Refuses}
use Rattle.ux_dela.specs.declared.entry.Entry.{Entry}
use Rattle.ux_dict.specs.Content.{IsContent}
use Rattle.ux_dict.specs.FileContent.{IsFileContent}
use Rattle.ux_image_files.specs.ImageFiles.{either, image_format, is_image, made}
use Rattle.ux_lexicon.specs.Any.{content_of}
use Rattle.ux_lexicon.specs.declared.any_lexicon.AnyLexicon.{AnyLexicon}
use Rattle.ux_plan.specs.FileNames.{base_of}
use Rattle.ux_plan.specs.Plans.{Format, decoded, said_as}
use Rattle.ux_reasons.specs.declared.reason.Reason.{Reason}
use Rattle.ux_reasons.specs.declared.reason.Reason.TheVariants.{Decode, Dela}

-- the text is a dictionary of this content, to which the file's name without its folder gives this
-- priority
pub record IsDictionary (name text : List ℕ) (dic : Priority × List Entry) : Type 0 where
  pub priority : IsPriorityOf (base_of name) dic.0
  pub content : IsFileContent text dic.1

-- the text of a file of this name, of which the dictionary is read
abbrev pub text_format : (name : List ℕ) → Format Reason (Priority × List Entry)
text_format name = decoded Decode (said_as Dela (IsDictionary name) Refuses)

-- the entries that an image tells are a dictionary of this content, with the priority of its name
pub record IsDictionaryOf (name : List ℕ) (entries : List Entry) (dic : Priority × List Entry) :
    Type 0 where
  pub priority : IsPriorityOf (base_of name) dic.0
  pub content : IsContent entries dic.1

-- an image of this name, of which the dictionary is read
abbrev pub imaged_format : (name : List ℕ) → Format Reason (Priority × List Entry)
imaged_format name = made image_format (IsDictionaryOf name)

-- the dictionary in the file of this name: an image, or a file of forms
abbrev pub dictionary_format : (name : List ℕ) → Format Reason (Priority × List Entry)
dictionary_format name = either (is_image name) (imaged_format name) (text_format name)

-- a dictionary of either kind, as its priority and its content
abbrev pub seen_as : Priority × AnyLexicon → Priority × List Entry
seen_as dic = (dic.0, content_of dic.1)

-- several of them
abbrev pub contents_of : List (Priority × AnyLexicon) → List (Priority × List Entry)
contents_of dics = contents content_of dics
