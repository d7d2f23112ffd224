-- The lists of codes are read in one way, aren't refused besides, and are refused by one error.
use Rattle.std.proofs.Common.{ℕ, ◌+◌, ◌<◌, List, [], ◌∷◌, length}
use Rattle.ux_image.specs.declared.code.Code.{Code}
use Rattle.ux_image.specs.declared.code.CodeList.{CodeList}
use Rattle.ux_image_reader.specs.declared.error.ImageError.TheVariants.{BadCode}
use Rattle.ux_image_reader.specs.declared.front.Version.{Version}
use Rattle.ux_image_reader.specs.declared.front.Version.TheVariants.{One, Two}
use Rattle.ux_image_lists.specs.Fields.{number, bytes_of, closed, each, gives, reads, tested}
use Rattle.ux_image_lists.specs.Lists.{ArePrinted, IsNew, IsText, MayAdd, MayTake, code, codes_in, list, lists, next_code, next_list, pair, pairs, pairs_by, rules_at, text, text_of}
use Rattle.ux_image_lists.specs.declared.codes.Rules.{Rules}
use Rattle.ux_image_lists.proofs.FieldLaws.{IsSound, sound_bytes, sound_closed, sound_each, sound_gives, sound_number, sound_reads, sound_tested}

sound_text_of : (many code : ℕ) → IsSound (text_of many code)
sound_text_of many code = sound_tested (bytes_of many) (sound_bytes many) IsText (BadCode code)

sound_text : (code : ℕ) → IsSound (text code)
sound_text code =
    sound_reads number sound_number (λ many. text_of many code) (λ many. sound_text_of many code)

sound_count : (code : ℕ) → IsSound (tested number (λ many. 0 < many) (BadCode code))
sound_count code = sound_tested number sound_number (λ many. 0 < many) (BadCode code)

module _ (rules : Rules) where
  sound_pair : (code : ℕ) → IsSound (pair rules code)
  sound_pair code =
      sound_reads (tested number (MayTake rules) (BadCode code))
      (sound_tested number sound_number (MayTake rules) (BadCode code))
      (λ taken. reads (tested number (MayAdd rules taken) (BadCode code)) (λ many.
      reads (text_of many code) (λ added. gives (record { taken = taken; added = added }))))
      (λ taken.
      sound_reads (tested number (MayAdd rules taken) (BadCode code))
      (sound_tested number sound_number (MayAdd rules taken) (BadCode code))
      (λ many. reads (text_of many code) (λ added. gives (record { taken = taken; added = added })))
      (λ many.
      sound_reads (text_of many code) (sound_text_of many code)
      (λ added. gives (record { taken = taken; added = added }))
      (λ added. sound_gives (record { taken = taken; added = added }))))

  sound_pairs : (version : Version) (code : ℕ) → IsSound (pairs_by version rules code)
  sound_pairs One code =
      sound_reads (pair rules code) (sound_pair code) (λ p. gives (p ∷ []))
      (λ p. sound_gives (p ∷ []))
  sound_pairs Two code =
      sound_reads (tested number (λ many. 0 < many) (BadCode code)) (sound_count code)
      (λ many. each many (λ before. pair rules code))
      (λ many. sound_each (λ before. pair rules code) (λ before. sound_pair code) many)

  sound_code : (n : ℕ) → IsSound (code rules n)
  sound_code n =
      sound_reads (pairs rules n) (sound_pairs rules.version n)
      (λ pairs. reads (tested (text n) ArePrinted (BadCode n)) (λ printed.
      gives (record { pairs = pairs; codes = printed })))
      (λ pairs.
      sound_reads (tested (text n) ArePrinted (BadCode n))
      (sound_tested (text n) (sound_text n) ArePrinted (BadCode n))
      (λ printed. gives (record { pairs = pairs; codes = printed }))
      (λ printed. sound_gives (record { pairs = pairs; codes = printed })))

  sound_next_code : (first : ℕ) (before : List Code) → IsSound (next_code rules first before)
  sound_next_code first before =
      sound_tested (code rules (first + length before)) (sound_code (first + length before))
      (IsNew before) (BadCode (first + length before))

  sound_list : (first : ℕ) → IsSound (list rules first)
  sound_list first =
      sound_reads (tested number (λ many. 0 < many) (BadCode first)) (sound_count first)
      (λ many. reads (each many (next_code rules first)) (λ codes. gives (record { codes = codes })))
      (λ many.
      sound_reads (each many (next_code rules first))
      (sound_each (next_code rules first) (sound_next_code first) many)
      (λ codes. gives (record { codes = codes }))
      (λ codes. sound_gives (record { codes = codes })))

sound_next_list : (version : Version) (shortest : List ℕ) (before : List CodeList) →
    IsSound (next_list version shortest before)
sound_next_list version shortest before =
    let rules = rules_at version shortest (length before) in
    sound_tested (list rules (codes_in before)) (sound_list rules (codes_in before)) (IsNew before)
    (BadCode (codes_in before))

-- the lists, and that they end the file
pub sound_lists : (version : Version) (shortest : List ℕ) → IsSound (closed (lists version shortest))
sound_lists version shortest =
    sound_closed (lists version shortest)
    (sound_each (next_list version shortest) (sound_next_list version shortest) (length shortest))
