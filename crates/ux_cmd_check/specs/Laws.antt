-- The formats of dictionaries whose entries are counted are sound.
use Rattle.std.proofs.Common.{◌≡◌, ℕ, List, ap, length, sym, ◌∙◌}
use Rattle.ux_base.specs.Lines.{lines_of}
use Rattle.ux_base.proofs.EachLineLemmas.{not_refused}
use Rattle.ux_dela.specs.Delaf.{DelafSays, RefusesDelaf}
use Rattle.ux_dela.specs.Delas.{DelasSays, RefusesDelas}
use Rattle.ux_dela.specs.Files.{AreEntries, AreStems, HasCount, Refuses, RefusesStems}
use Rattle.ux_dela.specs.declared.entry.Entry.{Entry}
use Rattle.ux_dela.specs.declared.entry.Stem.{Stem}
use Rattle.ux_dela.specs.declared.error.DelaError.{DelaError}
use Rattle.ux_dela.proofs.ExclusionLemmas.{says_excluded}
use Rattle.ux_dela.proofs.StemExclusionLemmas.{stem_excluded}
use Rattle.ux_dela.proofs.StemLaws.{stems_once, stems_refused_once}
use Rattle.ux_dela.proofs.RefusalLaws.{refused_once}
use Rattle.ux_dela.proofs.UniqueLaws.{entries_are_unique}
use Rattle.ux_image_files.specs.ImageFiles.{image_format, is_image, made}
use Rattle.ux_image_files.proofs.ImageFileLaws.{either_sound, image_sound, made_sound}
use Rattle.ux_plan.proofs.PlanLaws.{decoded_sound, said_sound}
use Rattle.ux_plan.specs.Laws.{IsSound}
use Rattle.ux_reasons.specs.declared.reason.Reason.TheVariants.{Decode, Dela}
use Rattle.ux_cmd_check.specs.Counting.{IsCountOf, count_format, entries_format, stems_format, text_format}

-- no file of forms says entries and is refused
entries_not_refused : (text : List ℕ) (entries : List Entry) (error : DelaError) →
    AreEntries text entries → Refuses text error → ⊥
entries_not_refused text entries error are refuses =
    not_refused DelafSays RefusesDelaf says_excluded (lines_of text) 1 entries error are refuses

-- nor does a file of lemmas
stems_not_refused : (text : List ℕ) (stems : List Stem) (error : DelaError) →
    AreStems text stems → RefusesStems text error → ⊥
stems_not_refused text stems error are refuses =
    not_refused DelasSays RefusesDelas stem_excluded (lines_of text) 1 stems error are refuses

-- where a text says one list and is not refused too, its count is one
module _ {T : Type 0} (AreOf : List ℕ → List T → Type 0) (Refuses : List ℕ → DelaError → Type 0)
    (excluded : (text : List ℕ) (said : List T) (error : DelaError) → AreOf text said →
    Refuses text error → ⊥)
    (once : (text : List ℕ) (said other : List T) → AreOf text said → AreOf text other →
    said ≡ other)
    (refused_once : (text : List ℕ) (error also : DelaError) → Refuses text error →
    Refuses text also → error ≡ also) where
  one_count : (text : List ℕ) (count other : ℕ) → HasCount AreOf text count →
      HasCount AreOf text other → count ≡ other
  one_count text count other a b =
      a.is ∙ (ap length (once text a.said b.said a.are b.are) ∙ sym b.is)

  count_sound : IsSound (count_format AreOf Refuses)
  count_sound =
      decoded_sound Decode _ (said_sound Dela (HasCount AreOf) Refuses
      (λ text count error has refused. excluded text has.said error has.are refused) one_count refused_once)

-- a list has one count
one_length : (entries : List Entry) (count other : ℕ) → IsCountOf entries count →
    IsCountOf entries other → count ≡ other
one_length entries count other a b = a ∙ sym b

pub entries_sound : (name : List ℕ) → IsSound (entries_format name)
entries_sound name =
    either_sound (is_image name) (made image_format IsCountOf) text_format
    (made_sound image_format IsCountOf image_sound one_length)
    (count_sound AreEntries Refuses entries_not_refused entries_are_unique refused_once)

pub stems_sound : IsSound stems_format
stems_sound = count_sound AreStems RefusesStems stems_not_refused stems_once stems_refused_once
