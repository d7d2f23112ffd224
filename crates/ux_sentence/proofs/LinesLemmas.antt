-- Lines that are printed are read as the same lines: none has a line feed in it or a carriage return at
-- its end.
use Rattle.std.proofs.Common.{arith, ◌≡◌, ◌≢◌, ℕ, ◌+◌, ◌-◌, ◌<◌, ◌^◌, ◌%◌, List, [], ◌∷◌, ◌++◌, refl, sym, ◌∙◌, ap, append_assoc, length, length-append, take, Bool, true, false, get_or}
use Rattle.std.specs.Prelude.{◌==◌, ◌||◌, nat_lt}
use Rattle.std.specs.List.{list_any}
use Rattle.std.specs.Fmt.{decimal}
use Rattle.std.proofs.lemmas.Bool.{or_from, or_parts, cond-false}
use Rattle.std.proofs.lemmas.Bool.Decides.{nat_tests}
use Rattle.std.proofs.lemmas.Fmt.{decimal_by_steps}
use Rattle.std.proofs.lemmas.List.{append-nil}
use Rattle.ux_base.specs.Lines.{LINE_FEED, CARRIAGE_RETURN, ends_in_return, without_return, lines_behind, lines_of}
use Rattle.ux_dela.specs.Sound.{HasNoFeed, is_feed}
use Rattle.ux_dela.proofs.SoundLemmas.{no_feed-append}
use Rattle.ux_sentence.specs.Written.{SPACE, ended}
use Rattle.ux_sentence.specs.Readings.{TAB, is_separator}
use Rattle.std.proofs.Math.Seq.{get_or-append_seam}
use Rattle.std.proofs.Common.{◌&&◌}

-- the byte is a carriage return
abbrev pub is_return : ℕ → Bool
is_return b = b == CARRIAGE_RETURN

-- a line may be read as it is written
pub record IsLine (line : List ℕ) : Type 0 where
  pub no_feed : HasNoFeed line
  pub no_return : ends_in_return line ≡ false

-- the first line is read up to its line feed
lines_behind-ended : (line front rest : List ℕ) → HasNoFeed line →
    lines_behind (line ++ LINE_FEED ∷ rest) front ≡ without_return (front ++ line) ∷ lines_of rest
lines_behind-ended [] front rest none =
    ap (λ (t : List ℕ). without_return t ∷ lines_of rest) (sym (append-nil front))
lines_behind-ended (b ∷ line) front rest none =
    let parts = or_parts (is_feed b) (list_any is_feed line) none in
    cond-false (b == LINE_FEED) (without_return front ∷ lines_behind (line ++ LINE_FEED ∷ rest) [])
    (lines_behind (line ++ LINE_FEED ∷ rest) (front ++ b ∷ [])) parts.0
    ∙ lines_behind-ended line (front ++ b ∷ []) rest parts.1
    ∙ ap (λ (t : List ℕ). without_return t ∷ lines_of rest) (append_assoc front (b ∷ []) line)

-- a line that is printed is the first that is read
pub lines_of-ended : (line rest : List ℕ) → IsLine line →
    lines_of (ended line ++ rest) ≡ line ∷ lines_of rest
lines_of-ended line rest is =
    ap (λ (t : List ℕ). lines_of t) (append_assoc line (LINE_FEED ∷ []) rest)
    ∙ lines_behind-ended line [] rest is.no_feed
    ∙ ap (λ (t : List ℕ). t ∷ lines_of rest)
    (cond-false (ends_in_return line) (take (length line - 1) line) line is.no_return)

-- the text isn't empty, and its last byte is no carriage return
pub record EndsPlain (text : List ℕ) : Type 0 where
  pub front : List ℕ
  pub last : ℕ
  pub whole : text ≡ front ++ last ∷ []
  pub other : is_return last ≡ false

and_false : (a b : Bool) → b ≡ false → (a && b) ≡ false
and_false true b e = e
and_false false b e = refl

last_read : (front : List ℕ) (b : ℕ) → is_return b ≡ false →
    ends_in_return (front ++ b ∷ []) ≡ false
last_read front b other =
    let text = front ++ b ∷ [] in
    let at : length text - 1 ≡ length front = omega (arith, length-append front (b ∷ [])) in
    let read : get_or text (length text - 1) 0 ≡ b =
    ap (λ (n : ℕ). get_or text n 0) at ∙ get_or-append_seam front b [] 0 in
    and_false (nat_lt 0 (length text)) (is_return (get_or text (length text - 1) 0))
    (ap is_return read ∙ other)

pub ends_plain : (text : List ℕ) → EndsPlain text → ends_in_return text ≡ false
ends_plain text is =
    ap ends_in_return is.whole ∙ last_read is.front is.last is.other

-- what stands in front doesn't matter
pub EndsPlain-behind : (a text : List ℕ) → EndsPlain text → EndsPlain (a ++ text)
EndsPlain-behind a text is = record {
  front = a ++ is.front;
  last = is.last;
  whole = ap (λ (t : List ℕ). a ++ t) is.whole ∙ sym (append_assoc a is.front (is.last ∷ []));
  other = is.other;
}

digit_no_return : (d : ℕ) → is_return (48 + d) ≡ false
digit_no_return d = grind (arith, nat_tests)

digit_no_feed : (d : ℕ) → is_feed (48 + d) ≡ false
digit_no_feed d = grind (arith, nat_tests)

one_ends_plain : (d : ℕ) → EndsPlain ((48 + d) ∷ [])
one_ends_plain d = record { front = []; last = 48 + d; whole = refl; other = digit_no_return d }

-- a number ends in a digit
pub decimal_ends_plain : (n : ℕ) → n < 2 ^ 64 → EndsPlain (decimal n)
decimal_ends_plain n lt =
    decimal_by_steps (λ m ds. EndsPlain ds) (λ m small. one_ends_plain m)
    (λ m ds large is. EndsPlain-behind ds ((48 + m % 10) ∷ []) (one_ends_plain (m % 10))) n lt

one_no_feed : (d : ℕ) → HasNoFeed ((48 + d) ∷ [])
one_no_feed d = or_from (is_feed (48 + d)) false (digit_no_feed d) refl

-- and has no line feed
pub decimal_no_feed : (n : ℕ) → n < 2 ^ 64 → HasNoFeed (decimal n)
decimal_no_feed n lt =
    decimal_by_steps (λ m ds. HasNoFeed ds) (λ m small. one_no_feed m)
    (λ m ds large is. no_feed-append ds ((48 + m % 10) ∷ []) is (one_no_feed (m % 10))) n lt

plain_byte : (b : ℕ) → is_separator b ≡ false → (is_feed b ≡ false) × (is_return b ≡ false)
plain_byte b none =
    let first = or_parts (b == SPACE) (b == TAB || (b == CARRIAGE_RETURN || b == LINE_FEED)) none in
    let second = or_parts (b == TAB) (b == CARRIAGE_RETURN || b == LINE_FEED) first.1 in
    let third = or_parts (b == CARRIAGE_RETURN) (b == LINE_FEED) second.1 in
    (third.1, third.0)

-- a text without a separator has no line feed
pub raw_no_feed : (text : List ℕ) → list_any is_separator text ≡ false → HasNoFeed text
raw_no_feed [] none = refl
raw_no_feed (b ∷ text) none =
    let parts = or_parts (is_separator b) (list_any is_separator text) none in
    or_from (is_feed b) (list_any is_feed text) (plain_byte b parts.0).0
    (raw_no_feed text parts.1)

-- and doesn't end in a carriage return
pub raw_ends_plain : (text : List ℕ) → text ≢ [] → list_any is_separator text ≡ false →
    EndsPlain text
raw_ends_plain [] some none = absurd (some refl)
raw_ends_plain (b ∷ []) some none =
    let parts = or_parts (is_separator b) false none in
    record { front = []; last = b; whole = refl; other = (plain_byte b parts.0).1 }
raw_ends_plain (b ∷ (c ∷ text)) some none =
    let parts = or_parts (is_separator b) (list_any is_separator (c ∷ text)) none in
    EndsPlain-behind (b ∷ []) (c ∷ text)
    (raw_ends_plain (c ∷ text) (λ e. absurd (omega (arith, ap length e))) parts.1)
