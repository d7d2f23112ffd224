-- The lists of codes of an image, in both versions: what they are in the bytes, and what is tested
-- of them. The manual, on compressing dictionaries. Public: the crate's public contracts speak of
-- it.
use Rattle.std.specs.Prelude.{◌≡◌, ℕ, ◌+◌, ◌<◌, ◌≤◌, List, [], ◌∷◌, Contains, IsUtf8, length, slice_index, sum_by}
use Rattle.ux_dela.specs.Printed.{IsCodesText}
use Rattle.ux_dela.specs.Sound.{HasNoFeed}
use Rattle.ux_dela.specs.declared.entry.Codes.{Codes}
use Rattle.ux_image.specs.declared.code.Pair.{Pair}
use Rattle.ux_image.specs.declared.code.Code.{Code}
use Rattle.ux_image.specs.declared.code.CodeList.{CodeList}
use Rattle.ux_image_reader.specs.declared.error.ImageError.TheVariants.{BadCode}
use Rattle.ux_image_reader.specs.declared.front.Version.{Version}
use Rattle.ux_image_reader.specs.declared.front.Version.TheVariants.{One, Two}
use Rattle.ux_image_lists.specs.Fields.{Field, number, bytes_of, gives, tested, reads, each}
use Rattle.ux_image_lists.specs.declared.codes.Rules.{Rules}

-- UTF-8 without a line feed
abbrev pub IsText : List ℕ → Type 0
IsText text = IsUtf8 text × HasNoFeed text

-- a text of so many bytes, of the code of this number
abbrev pub text_of : (many code : ℕ) → Field (List ℕ)
text_of many code = tested (bytes_of many) IsText (BadCode code)

-- a text, its length first
abbrev pub text : (code : ℕ) → Field (List ℕ)
text code = reads number (λ many. text_of many code)

-- so many characters may be taken off: in version 1 no more than the shortest form has
abbrev pub MayTake : Rules → ℕ → Type 0
MayTake rules taken = rules.version ≡ One → taken ≤ rules.shortest

-- and a text of so many bytes added: in version 1 something, where all of the shortest form is
-- taken
abbrev pub MayAdd : Rules → (taken many : ℕ) → Type 0
MayAdd rules taken many = rules.version ≡ One → taken ≡ rules.shortest → 0 < many

-- a pair: how many characters are taken off, and the text that is added
abbrev pub pair : Rules → (code : ℕ) → Field Pair
pair rules code =
    reads (tested number (MayTake rules) (BadCode code)) (λ taken.
    reads (tested number (MayAdd rules taken) (BadCode code)) (λ many.
    reads (text_of many code) (λ added.
    gives (record { taken = taken; added = added }))))

-- the pairs of a code: one in version 1, and in version 2 their number and then each
abbrev pub pairs_by : Version → Rules → (code : ℕ) → Field (List Pair)
pairs_by One rules code = reads (pair rules code) (λ p. gives (p ∷ []))
pairs_by Two rules code =
    reads (tested number (λ many. 0 < many) (BadCode code)) (λ many.
    each many (λ before. pair rules code))

abbrev pub pairs : Rules → (code : ℕ) → Field (List Pair)
pairs rules code = pairs_by rules.version rules code

-- the text is what is printed for some codes
abbrev pub ArePrinted : List ℕ → Type 0
ArePrinted printed = (codes : Codes) × IsCodesText printed codes

-- a code: its pairs, and its printed codes
abbrev pub code : Rules → (code : ℕ) → Field Code
code rules number =
    reads (pairs rules number) (λ pairs.
    reads (tested (text number) ArePrinted (BadCode number)) (λ printed.
    gives (record { pairs = pairs; codes = printed })))

-- a value that isn't among those before it
abbrev pub IsNew : {V : Type 0} → List V → V → Type 0
IsNew before value = Contains before value → ⊥

-- the code of this number, none of those before it
abbrev pub next_code : Rules → (first : ℕ) → List Code → Field Code
next_code rules first before =
    tested (code rules (first + length before)) (IsNew before) (BadCode (first + length before))

-- a list whose first code has this number: how many codes, at least one, and each
abbrev pub list : Rules → (first : ℕ) → Field CodeList
list rules first =
    reads (tested number (λ many. 0 < many) (BadCode first)) (λ many.
    reads (each many (next_code rules first)) (λ codes.
    gives (record { codes = codes })))

-- how many codes the lists have
abbrev pub codes_in : List CodeList → ℕ
codes_in lists = sum_by (λ (list : CodeList). length list.codes) lists

-- by what the list of this number is read
abbrev pub rules_at : Version → (shortest : List ℕ) → ℕ → Rules
rules_at version shortest place = record {
  version = version;
  shortest = slice_index shortest place;
}

-- the next list, none of those before it
abbrev pub next_list : Version → (shortest : List ℕ) → List CodeList → Field CodeList
next_list version shortest before =
    tested (list (rules_at version shortest (length before)) (codes_in before)) (IsNew before)
    (BadCode (codes_in before))

-- the lists of which these are the lengths of the shortest forms
abbrev pub lists : Version → (shortest : List ℕ) → Field (List CodeList)
lists version shortest = each (length shortest) (next_list version shortest)
