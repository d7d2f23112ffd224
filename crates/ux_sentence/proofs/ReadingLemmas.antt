-- A text says one reading, a reading that can be spelled comes back from its text, and different ones
-- have different texts.
use Rattle.std.proofs.Common.{arith, ◌+◌, ◌-◌, Option, Some, None, drop, take, ◌≡◌, ◌≢◌, ℕ, List, [], ◌∷◌, ◌++◌, refl, sym, ◌∙◌, ap, subst, length}
use Rattle.std.specs.Prelude.{All, MatchOption}
use Rattle.std.specs.Str.Pattern.{FindsCharPrefix, FindsCharSuffix}
use Rattle.std.proofs.lemmas.Str.Pattern.{strip_prefix_char, strip_suffix_char}
use denote.Ref.{Bor}
use Rattle.std.proofs.lemmas.List.{append_cancel_right}
use Rattle.std.proofs.lemmas.List.Elements.{All-head}
use Rattle.ux_dela.specs.Delaf.{DelafSays, IsSkipped, entries}
use Rattle.ux_dela.specs.Printed.{printed}
use Rattle.ux_dela.specs.Sound.{IsSound, HasNoFeed}
use Rattle.ux_dela.specs.declared.entry.Entry.{Entry}
use Rattle.ux_dela.proofs.RoundTripLemmas.{printed_line, printed_parts}
use Rattle.ux_dela.proofs.SoundLemmas.{sound_entries, no_feed-front, no_feed-rest}
use Rattle.ux_dela.proofs.UniqueLaws.{says_once}
use Rattle.ux_sentence.proofs.PrintedEntries.{printed_alone}
use Rattle.ux_sentence.specs.declared.sentence.Reading.{Reading}
use Rattle.ux_sentence.specs.declared.sentence.Reading.TheVariants.{Word, Raw}
use Rattle.ux_sentence.specs.Written.{OPENING_BRACE, CLOSING_BRACE, reading_text}
use Rattle.ux_sentence.specs.Readings.{IsBraced, IsEntryBody, IsRawText, IsReading, IsSpellable}

-- what the body says as a line of forms
pub body_says : (body : List ℕ) (entry : Entry) → IsEntryBody body entry →
    DelafSays body (entry ∷ [])
body_says body entry is =
    subst (λ (es : List Entry). DelafSays body es) is.alone (entries body is.parts is.line)

-- a body says one entry
pub one_entry : (body : List ℕ) (e f : Entry) → IsEntryBody body e → IsEntryBody body f → e ≡ f
one_entry body e f is also =
    let both = says_once body (e ∷ []) (f ∷ []) (body_says body e is) (body_says body f also) in
    cc

-- a text has one body
pub one_body : (text a b : List ℕ) → IsBraced text a → IsBraced text b → a ≡ b
one_body text a b is also =
    let same : a ++ CLOSING_BRACE ∷ [] ≡ b ++ CLOSING_BRACE ∷ [] =
    (let both = sym is.whole ∙ also.whole in cc) in
    append_cancel_right a b (CLOSING_BRACE ∷ []) same

-- a text says one reading
pub one_reading : (text : List ℕ) (r s : Reading) → IsReading text r → IsReading text s → r ≡ s
one_reading text (Word e) (Word f) is also =
    let same = one_body text is.0 also.0 is.1 also.1 in
    ap Word (one_entry also.0 e f (subst (λ (b : List ℕ). IsEntryBody b e) same is.2) also.2)
one_reading text (Word e) (Raw raw) is also = absurd (also.1.no_braces is.0 is.1)
one_reading text (Raw raw) (Word f) is also = absurd (is.1.no_braces also.0 also.1)
one_reading text (Raw raw) (Raw other) is also = ap Raw (is.0 ∙ sym also.0)

-- the body of an entry that is printed
printed_body : (e : Entry) → IsSound e → IsEntryBody (printed e) e
printed_body e sound = record {
  parts = printed_parts e;
  line = printed_line e sound;
  alone = printed_alone e sound;
  no_comment = refl;
}

-- a printed entry isn't empty
some_printed : (e : Entry) → IsSound e → printed e ≢ []
some_printed e sound none = (printed_line e sound).counts (subst (λ (t : List ℕ). IsSkipped t) (sym none) tt)

-- the text of a reading that can be spelled says it
pub spelled : (r : Reading) → IsSpellable r → IsReading (reading_text r) r
spelled (Word e) sound = (
  printed e,
  record { whole = refl; some = some_printed e sound },
  printed_body e sound,
)
spelled (Raw raw) is = (refl, is)

-- different readings that can be spelled have different texts
pub spelled_once : (r s : Reading) → IsSpellable r → IsSpellable s →
    reading_text r ≡ reading_text s → r ≡ s
spelled_once r s is also same =
    one_reading (reading_text s) r s
    (subst (λ (t : List ℕ). IsReading t r) same (spelled r is)) (spelled s also)

-- a reading that a text without a line feed says can be spelled
pub read_spellable : (text : List ℕ) (r : Reading) → HasNoFeed text → IsReading text r → IsSpellable r
read_spellable text (Word e) no_feed is =
    let inner : HasNoFeed (is.0 ++ CLOSING_BRACE ∷ []) =
    no_feed-rest (OPENING_BRACE ∷ []) (is.0 ++ CLOSING_BRACE ∷ [])
    (subst (λ (t : List ℕ). HasNoFeed t) is.1.whole no_feed) in
    let body : HasNoFeed is.0 = no_feed-front is.0 (CLOSING_BRACE ∷ []) inner in
    All-head IsSound e []
    (subst (λ (es : List Entry). All IsSound es) is.2.alone
    (sound_entries is.0 is.2.parts body is.2.line))
read_spellable text (Raw raw) no_feed is = subst (λ (t : List ℕ). IsRawText t) (sym is.0) is.1

-- a text between braces whose body is no entry says nothing
pub braced_none : (text body : List ℕ) → IsBraced text body →
    ((entry : Entry) → IsEntryBody body entry → ⊥) → (reading : Reading) →
    IsReading text reading → ⊥
braced_none text body braced none (Word entry) is =
    none entry (subst (λ (b : List ℕ). IsEntryBody b entry)
    (one_body text is.0 body is.1 braced) is.2)
braced_none text body braced none (Raw raw) is = is.1.no_braces body braced

-- a text that doesn't begin with a brace isn't braced
pub no_opening : (text : List ℕ) (r : Option (Bor (List ℕ))) →
    MatchOption r (FindsCharPrefix OPENING_BRACE text None) (λ x. (n : ℕ)
    × FindsCharPrefix OPENING_BRACE text (Some n) × (x.now ≡ drop n text)
    × (length x.now + n ≡ length text)) → r ≡ None → (body : List ℕ) → IsBraced text body → ⊥
no_opening text None found is body braced =
    strip_prefix_char OPENING_BRACE text None found (omega arith) (body ++ CLOSING_BRACE ∷ [])
    braced.whole
no_opening text (Some x) found is body braced = cc

-- nor is one that doesn't end with one
pub no_closing : (text rest : List ℕ) (r : Option (Bor (List ℕ))) →
    text ≡ OPENING_BRACE ∷ rest →
    MatchOption r (FindsCharSuffix CLOSING_BRACE rest None) (λ x. (n : ℕ)
    × FindsCharSuffix CLOSING_BRACE rest (Some n) × (x.now ≡ take (length rest - n) rest)
    × (length x.now + n ≡ length rest)) → r ≡ None → (body : List ℕ) → IsBraced text body → ⊥
no_closing text rest None first found is body braced =
    let both : OPENING_BRACE ∷ rest ≡ OPENING_BRACE ∷ (body ++ CLOSING_BRACE ∷ []) =
    sym first ∙ braced.whole in
    let same : rest ≡ body ++ CLOSING_BRACE ∷ [] = cc in
    strip_suffix_char CLOSING_BRACE rest None found (omega arith) body same
no_closing text rest (Some x) first found is body braced = cc
