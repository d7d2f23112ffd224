-- Each entry that a file says is sound: its lines have no line feed, and no part is empty.
use Rattle.std.proofs.Common.{arith, ◌≡◌, ◌≢◌, ℕ, List, [], ◌∷◌, ◌++◌, Bool, false, refl, sym, ap, subst, length, take, drop, ◌-◌}
use Rattle.std.specs.Prelude.{◌==◌, All}
use Rattle.std.specs.List.{list_any}
use Rattle.std.proofs.lemmas.Bool.{or_parts, or_from, cond_both}
use Rattle.std.proofs.lemmas.List.{take-append-drop}
use Rattle.std.proofs.lemmas.List.Elements.{All-nil, All-cons, All-append}
use Rattle.ux_base.specs.Lines.{lines_of, lines_behind, last_line, without_return, ends_in_return, LINE_FEED}
use Rattle.ux_dela.specs.Signs.{COMMA, DOT, PLUS, COLON, SPACE, HYPHEN, EQUALS, is_equals}
use Rattle.ux_dela.specs.Written.{Written, bare, protected, written, byte_as, meant, meant_as, all_meant, all_behind}
use Rattle.ux_dela.specs.Codes.{AreCodes, IsCodeList}
use Rattle.ux_dela.specs.Delaf.{DelafParts, IsDelafLine, DelafSays, skipped, entries, entries_of, entry_as, has_mark, lemma_of}
use Rattle.ux_base.specs.EachLine.{AreSaid, no_line, line_then}
use Rattle.ux_dela.specs.Sound.{is_feed, HasNoFeed, IsSoundText, AreSoundTexts, AreSoundCodes, IsSound}
use Rattle.ux_dela.specs.declared.entry.Entry.{Entry}
use Rattle.ux_dela.proofs.CharactersLemmas.{written-append}

pub no_feed-append : (v w : List ℕ) → HasNoFeed v → HasNoFeed w → HasNoFeed (v ++ w)
no_feed-append [] w p q = q
no_feed-append (b ∷ v) w p q =
    let parts = or_parts (is_feed b) (list_any is_feed v) p in
    or_from (is_feed b) (list_any is_feed (v ++ w)) parts.0 (no_feed-append v w parts.1 q)

pub no_feed-front : (v w : List ℕ) → HasNoFeed (v ++ w) → HasNoFeed v
no_feed-front [] w p = refl
no_feed-front (b ∷ v) w p =
    let parts = or_parts (is_feed b) (list_any is_feed (v ++ w)) p in
    or_from (is_feed b) (list_any is_feed v) parts.0 (no_feed-front v w parts.1)

pub no_feed-rest : (v w : List ℕ) → HasNoFeed (v ++ w) → HasNoFeed w
no_feed-rest [] w p = p
no_feed-rest (b ∷ v) w p =
    no_feed-rest v w (or_parts (is_feed b) (list_any is_feed (v ++ w)) p).1

-- what is written without a line feed means none
pub meant_no_feed : (sign : ℕ) (part : List Written) → is_feed sign ≡ false →
    HasNoFeed (written part) → HasNoFeed (meant_as sign part)
meant_no_feed sign [] other p = refl
meant_no_feed sign (bare b ∷ part) other p =
    let parts = or_parts (is_feed b) (list_any is_feed (written part)) p in
    or_from (is_feed (byte_as sign b)) (list_any is_feed (meant_as sign part))
    (cond_both (is_equals b) sign b (λ x. is_feed x ≡ false) (λ e. other) (λ e. parts.0))
    (meant_no_feed sign part other parts.1)
meant_no_feed sign (protected b ∷ part) other p =
    let parts = or_parts (is_feed b) (list_any is_feed (written part)) p in
    or_from (is_feed b) (list_any is_feed (meant_as sign part)) parts.0
    (meant_no_feed sign part other parts.1)

pub meant_some : (sign : ℕ) (part : List Written) → part ≢ [] → meant_as sign part ≢ []
meant_some sign [] some e = some refl
meant_some sign (bare b ∷ part) some e = omega (arith, ap length e)
meant_some sign (protected b ∷ part) some e = omega (arith, ap length e)

pub sound_part : (sign : ℕ) (part : List Written) → is_feed sign ≡ false → part ≢ [] →
    HasNoFeed (written part) → IsSoundText (meant_as sign part)
sound_part sign part other some p = record {
  some = meant_some sign part some;
  no_feed = meant_no_feed sign part other p;
}

-- the parts of what is written without a line feed
pub written_front : (v w : List Written) → HasNoFeed (written (v ++ w)) → HasNoFeed (written v)
written_front v w p =
    no_feed-front (written v) (written w)
    (subst (λ (t : List ℕ). HasNoFeed t) (written-append v w) p)

pub written_rest : (v w : List Written) → HasNoFeed (written (v ++ w)) → HasNoFeed (written w)
written_rest v w p =
    no_feed-rest (written v) (written w)
    (subst (λ (t : List ℕ). HasNoFeed t) (written-append v w) p)

pub written_tail : (sign : ℕ) (w : List Written) → HasNoFeed (written (bare sign ∷ w)) →
    HasNoFeed (written w)
written_tail sign w p = (or_parts (is_feed sign) (list_any is_feed (written w)) p).1

pub sound_codes : (stops : ℕ → Bool) (sign : ℕ) (codes : List (List Written)) → AreCodes stops codes →
    HasNoFeed (written (all_behind sign codes)) → AreSoundTexts (all_meant codes)
sound_codes stops sign [] are p = tt
sound_codes stops sign (code ∷ codes) are p =
    let rest = written_tail sign (code ++ all_behind sign codes) p in (
      sound_part EQUALS code refl are.0.some (written_front code (all_behind sign codes) rest),
      sound_codes stops sign codes are.1 (written_rest code (all_behind sign codes) rest),
    )

-- the codes of a list without a line feed are sound
pub sound_list : (codes gram : List Written) (sem infl : List (List Written)) →
    IsCodeList codes gram sem infl → HasNoFeed (written codes) →
    AreSoundCodes (meant gram) (all_meant sem) (all_meant infl)
sound_list codes gram sem infl is p =
    let v = all_behind PLUS sem in
    let w = all_behind COLON infl in
    let whole : HasNoFeed (written (gram ++ (v ++ w))) =
    subst (λ (t : List Written). HasNoFeed (written t)) is.whole p in
    let later = written_rest gram (v ++ w) whole in
    record {
      sound_gram = sound_part EQUALS gram refl is.is_gram.some (written_front gram (v ++ w) whole);
      sound_sem = sound_codes _ PLUS sem is.are_sem (written_front v w later);
      sound_infl = sound_codes _ COLON infl is.are_infl (written_rest v w later);
    }

lemma_of_part : (sign : ℕ) (form lemma : List Written) → is_feed sign ≡ false → form ≢ [] →
    HasNoFeed (written form) → HasNoFeed (written lemma) →
    IsSoundText (meant_as sign (lemma_of form lemma))
lemma_of_part sign form [] other some p q = sound_part sign form other some p
lemma_of_part sign form (x ∷ lemma) other some p q =
    sound_part sign (x ∷ lemma) other (λ e. omega (arith, ap length e)) q

-- an entry of a line without a line feed is sound
pub sound_entry : (line : List ℕ) (p : DelafParts) (sign : ℕ) → is_feed sign ≡ false →
    HasNoFeed line → IsDelafLine line p → IsSound (entry_as sign p)
sound_entry line p sign other none is =
    let codes = p.codes in
    let inner = p.lemma ++ bare DOT ∷ codes in
    let whole : HasNoFeed (written (p.form ++ bare COMMA ∷ inner)) =
    no_feed-front (written (p.form ++ bare COMMA ∷ inner)) p.comment
    (subst (λ (t : List ℕ). HasNoFeed t) is.cut.whole none) in
    let form = written_front p.form (bare COMMA ∷ inner) whole in
    let behind = written_tail COMMA inner (written_rest p.form (bare COMMA ∷ inner) whole) in
    let lemma = written_front p.lemma (bare DOT ∷ codes) behind in
    let last = written_tail DOT codes (written_rest p.lemma (bare DOT ∷ codes) behind) in
    record {
      form = sound_part sign p.form other is.some_form form;
      lemma = lemma_of_part sign p.form p.lemma other is.some_form form lemma;
      codes = sound_list codes p.gram p.sem p.infl is.list last;
    }

pub sound_entries : (line : List ℕ) (p : DelafParts) → HasNoFeed line → IsDelafLine line p →
    All IsSound (entries_of p)
sound_entries line p none is =
    cond_both (has_mark p) (entry_as SPACE p ∷ (entry_as HYPHEN p ∷ [])) (entry_as EQUALS p ∷ [])
    (λ es. All IsSound es)
    (λ e. All-cons IsSound (entry_as SPACE p) (entry_as HYPHEN p ∷ [])
    (sound_entry line p SPACE refl none is)
    (All-cons IsSound (entry_as HYPHEN p) [] (sound_entry line p HYPHEN refl none is)
    (All-nil IsSound)))
    (λ e. All-cons IsSound (entry_as EQUALS p) [] (sound_entry line p EQUALS refl none is)
    (All-nil IsSound))

sound_said : (line : List ℕ) (said : List Entry) → HasNoFeed line → DelafSays line said →
    All IsSound said
sound_said line said none (skipped line' is) = All-nil IsSound
sound_said line said none (entries line' p is) = sound_entries line p none is

-- no line has a line feed
pub AreWithoutFeed : List (List ℕ) → Type 0
AreWithoutFeed [] = Unit {0}
AreWithoutFeed (line ∷ lines) = HasNoFeed line × AreWithoutFeed lines

-- where what each line without a line feed says is good, so is what all lines say
pub good_file : {T : Type 0} (Says : List ℕ → List T → Type 0) (IsGood : T → Type 0) →
    ((line : List ℕ) (said : List T) → HasNoFeed line → Says line said → All IsGood said) →
    (lines : List (List ℕ)) (said : List T) → AreWithoutFeed lines → AreSaid Says lines said →
    All IsGood said
unfolding AreWithoutFeed
good_file Says IsGood each lines said none no_line = All-nil IsGood
good_file Says IsGood each lines said none (line_then line rest here later says h) =
    All-append IsGood here later (each line here none.0 says)
    (good_file Says IsGood each rest later none.1 h)

pub sound_file : (lines : List (List ℕ)) (said : List Entry) → AreWithoutFeed lines →
    AreSaid DelafSays lines said → All IsSound said
sound_file lines said none are = good_file DelafSays IsSound sound_said lines said none are

take_no_feed : (n : ℕ) (text : List ℕ) → HasNoFeed text → HasNoFeed (take n text)
take_no_feed n text p =
    no_feed-front (take n text) (drop n text)
    (subst (λ (t : List ℕ). HasNoFeed t) (sym (take-append-drop n text)) p)

without_return_no_feed : (line : List ℕ) → HasNoFeed line → HasNoFeed (without_return line)
without_return_no_feed line p =
    cond_both (ends_in_return line) (take (length line - 1) line) line (λ t. HasNoFeed t)
    (λ e. take_no_feed (length line - 1) line p) (λ e. p)

last_no_feed : (front : List ℕ) → HasNoFeed front → AreWithoutFeed (last_line front)
unfolding AreWithoutFeed
last_no_feed [] p = tt
last_no_feed (b ∷ front) p = (without_return_no_feed (b ∷ front) p, tt)

lines_no_feed : (text front : List ℕ) → HasNoFeed front → AreWithoutFeed (lines_behind text front)
unfolding AreWithoutFeed
lines_no_feed [] front p = last_no_feed front p
lines_no_feed (b ∷ text) front p =
    cond_both (b == LINE_FEED) (without_return front ∷ lines_behind text [])
    (lines_behind text (front ++ b ∷ [])) (λ t. AreWithoutFeed t)
    (λ e. (without_return_no_feed front p, lines_no_feed text [] refl))
    (λ e. lines_no_feed text (front ++ b ∷ [])
    (no_feed-append front (b ∷ []) p (or_from (is_feed b) false e refl)))

pub lines_of-no_feed : (text : List ℕ) → AreWithoutFeed (lines_of text)
lines_of-no_feed text = lines_no_feed text [] refl
