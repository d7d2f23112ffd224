-- What is known of the content of a file.
use Rattle.std.proofs.Common.{ℕ, List}
use Rattle.ux_base.specs.Lines.{lines_of}
use Rattle.ux_dela.specs.Delaf.{DelafSays, RefusesDelaf}
use Rattle.ux_dela.specs.Files.{Refuses}
use Rattle.ux_dela.specs.declared.entry.Entry.{Entry}
use Rattle.ux_dela.specs.declared.error.DelaError.{DelaError}
use Rattle.ux_dela.proofs.ExclusionLemmas.{says_excluded}
use Rattle.ux_base.proofs.EachLineLemmas.{not_refused}
use Rattle.ux_dela.proofs.SoundLemmas.{lines_of-no_feed, sound_file}
use Rattle.ux_dict.specs.Content.{IsDictionary}
use Rattle.ux_dict.specs.FileContent.{IsFileContent}
use Rattle.ux_dict.proofs.ContentLemmas.{IsDictionary-content}

-- the content of a file is a dictionary's
pub IsDictionary-file : (text : List ℕ) (content : List Entry) → IsFileContent text content →
    IsDictionary content
IsDictionary-file text content of_file =
    IsDictionary-content of_file.entries content of_file.is
    (sound_file (lines_of text) of_file.entries (lines_of-no_feed text) of_file.are)

-- a file with a content is not refused
pub content_not_refused : (text : List ℕ) (content : List Entry) → IsFileContent text content →
    (error : DelaError) → Refuses text error → ⊥
content_not_refused text content of_file error refuses =
    not_refused DelafSays RefusesDelaf says_excluded (lines_of text) 1 of_file.entries error
    of_file.are refuses
