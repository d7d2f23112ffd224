-- The dictionary that is made up is accepted: each line is printed for an entry.
use Rattle.std.proofs.Common.{◌≡◌, ℕ, Bool, true, false, ◌&&◌, not, List, [], ◌∷◌, map, refl}
use Rattle.std.specs.Prelude.{codes}
use Rattle.std.specs.List.{flat_map, list_all, list_any}
use Rattle.std.proofs.lemmas.Bool.{and_parts, not-true}
use Rattle.ux_base.specs.EachLine.{AreSaid, no_line, line_then}
use Rattle.ux_dela.specs.Delaf.{DelafSays, entries, entries_of}
use Rattle.ux_dela.specs.Files.{AreEntries}
use Rattle.ux_dela.specs.Printed.{printed}
use Rattle.ux_dela.specs.Sound.{AreSoundTexts, IsSound, IsSoundText, is_feed}
use Rattle.ux_dela.specs.declared.entry.Entry.{Entry}
use Rattle.ux_dela.proofs.RoundTripLemmas.{printed_line, printed_parts}
use Rattle.ux_cmd_bench.specs.Bench.{DICTIONARY}

-- a text that isn't empty and has no line feed
abbrev is_sound_text : List ℕ → Bool
is_sound_text [] = false
is_sound_text (b ∷ text) = not (list_any is_feed (b ∷ text))

abbrev is_sound : Entry → Bool
is_sound entry =
    is_sound_text entry.form && (is_sound_text entry.lemma && (is_sound_text entry.gram
    && (list_all is_sound_text entry.sem && list_all is_sound_text entry.infl)))

text_sound : (text : List ℕ) → is_sound_text text ≡ true → IsSoundText text
text_sound [] is = cc
text_sound (b ∷ text) is =
    record { some = λ empty. cc; no_feed = not-true (list_any is_feed (b ∷ text)) is }

texts_sound : (texts : List (List ℕ)) → list_all is_sound_text texts ≡ true → AreSoundTexts texts
texts_sound [] are = tt
texts_sound (text ∷ texts) are =
    let parts = and_parts (is_sound_text text) (list_all is_sound_text texts) are in
    (text_sound text parts.0, texts_sound texts parts.1)

entry_sound : (entry : Entry) → is_sound entry ≡ true → IsSound entry
entry_sound entry is =
    let form = and_parts (is_sound_text entry.form) _ is in
    let lemma = and_parts (is_sound_text entry.lemma) _ form.1 in
    let gram = and_parts (is_sound_text entry.gram) _ lemma.1 in
    let lists = and_parts (list_all is_sound_text entry.sem) (list_all is_sound_text entry.infl)
    gram.1 in
    record {
      form = text_sound entry.form form.0;
      lemma = text_sound entry.lemma lemma.0;
      codes = record {
        sound_gram = text_sound entry.gram gram.0;
        sound_sem = texts_sound entry.sem lists.0;
        sound_infl = texts_sound entry.infl lists.1;
      };
    }

abbrev said_of : Entry → List Entry
said_of entry = entries_of (printed_parts entry)

printed_said : (listed : List Entry) → list_all is_sound listed ≡ true →
    AreSaid DelafSays (map printed listed) (flat_map said_of listed)
printed_said [] are = no_line
printed_said (entry ∷ listed) are =
    let parts = and_parts (is_sound entry) (list_all is_sound listed) are in
    line_then (printed entry) (map printed listed) (said_of entry) (flat_map said_of listed)
    (entries (printed entry) (printed_parts entry) (printed_line entry (entry_sound entry parts.0)))
    (printed_said listed parts.1)

abbrev pub entry_with : (form lemma gram : List ℕ) → List (List ℕ) → Entry
entry_with form lemma gram infl =
    record { form = form; lemma = lemma; gram = gram; sem = []; infl = infl }

abbrev pub alone : (form gram : List ℕ) → List (List ℕ) → Entry
alone form gram infl = entry_with form form gram infl

-- the entries of the dictionary
abbrev pub ENTRIES : List Entry
ENTRIES = alone (codes "the") (codes "DET") [] ∷ alone (codes "a") (codes "DET") []
    ∷ alone (codes "old") (codes "A") [] ∷ alone (codes "small") (codes "A") []
    ∷ alone (codes "cat") (codes "N") (codes "s" ∷ [])
    ∷ alone (codes "dog") (codes "N") (codes "s" ∷ [])
    ∷ entry_with (codes "sees") (codes "see") (codes "V") (codes "P3s" ∷ [])
    ∷ entry_with (codes "sleeps") (codes "sleep") (codes "V") (codes "P3s" ∷ []) ∷ []

pub entries_said : AreEntries DICTIONARY ENTRIES
entries_said = printed_said ENTRIES refl
