-- The formats of dictionaries whose entries are counted. Public, through `Check`.
use Rattle.std.specs.Prelude.{◌≡◌, ℕ, List, length}
use Rattle.ux_dela.specs.Files.{AreEntries, AreStems, HasCount, Refuses, RefusesStems}
use Rattle.ux_dela.specs.declared.entry.Entry.{Entry}
use Rattle.ux_dela.specs.declared.error.DelaError.{DelaError}
use Rattle.ux_image_files.specs.ImageFiles.{either, image_format, is_image, made}
use Rattle.ux_plan.specs.Plans.{Format, decoded, said_as}
use Rattle.ux_reasons.specs.declared.reason.Reason.{Reason}
use Rattle.ux_reasons.specs.declared.reason.Reason.TheVariants.{Decode, Dela}

-- dictionaries, of which the number of what their texts say is read, equal ones each time
abbrev pub count_format : {T : Type 0} → (AreOf : List ℕ → List T → Type 0) →
    (Refuses : List ℕ → DelaError → Type 0) → Format Reason ℕ
count_format AreOf Refuses = decoded Decode (said_as Dela (HasCount AreOf) Refuses)

-- files of forms
abbrev pub text_format : Format Reason ℕ
text_format = count_format AreEntries Refuses

-- there are so many
abbrev pub IsCountOf : List Entry → ℕ → Type 0
IsCountOf entries count = count ≡ length entries

-- dictionaries of forms: images, of which each entry counts once, and files of forms
abbrev pub entries_format : (name : List ℕ) → Format Reason ℕ
entries_format name = either (is_image name) (made image_format IsCountOf) text_format

-- files of lemmas
abbrev pub stems_format : Format Reason ℕ
stems_format = count_format AreStems RefusesStems
