-- The fields of a text, one by one.
use Rattle.std.proofs.Common.{arith, Some, None, ◌≡◌, ℕ, zero, suc, ◌<◌, ◌≤◌, ◌-◌, ◌+◌, ◌≢◌, List, [], ◌∷◌, ◌++◌, Bool, true, false, refl, sym, ◌∙◌, ap, subst, cond, eqb, get_or, length, take, drop, eq-eqb, ne_eqb}
use Rattle.std.proofs.lemmas.Bool.{both_ways}
use lib.Utf8.{encode}
use Rattle.std.specs.Str.Parse.{AllDigits}
use Rattle.std.specs.Char.{digit_value}
use Rattle.std.proofs.lemmas.List.{take_more, take-append-drop}
use Rattle.std.proofs.Math.Seq.{drop-length}
use Rattle.std.proofs.lemmas.Grind.{common_steps}
use Rattle.std.specs.Str.Pattern.{CutsPrefixes, CutsSuffixes, FindsCharPrefix, FindsCharSuffix, IsFullyTrimmed, IsTrimEndMatches, IsTrimStartMatches}
use Rattle.std.specs.Prelude.{not}
use Rattle.ux_fst2_file.specs.Fields.{SPACE, begins_with_field, widened, fields_of, before_space, from_space, put_first, without_spaces, without_end_spaces}

-- spaces in front don't count
pub fields-skip : (text : List ℕ) → fields_of (without_spaces text) ≡ fields_of text
fields-skip [] = refl
fields-skip (b ∷ text) =
    elim (eqb b SPACE) as (λ t. (eqb b SPACE ≡ t) →
    fields_of (cond t (without_spaces text) (b ∷ text)) ≡ fields_of (b ∷ text)) [
      | true ↦ (λ e. fields-skip text
          ∙ sym (ap (λ t. cond t (fields_of text)
          (cond (begins_with_field text) (widened b (fields_of text)) ((b ∷ []) ∷ fields_of text)))
          e))
      | false ↦ (λ e. refl)
    ] refl

-- what such a text is: nothing, or a text that a field begins
pub skip-front : (text : List ℕ) → 0 < length (without_spaces text) →
    begins_with_field (without_spaces text) ≡ true
skip-front [] some = absurd (omega (arith, some))
skip-front (b ∷ text) some =
    (elim (eqb b SPACE) as (λ t. (eqb b SPACE ≡ t) →
    0 < length (cond t (without_spaces text) (b ∷ text)) →
    begins_with_field (cond t (without_spaces text) (b ∷ text)) ≡ true) [
      | true ↦ (λ e some. skip-front text some)
      | false ↦ (λ e some. ap not e)
    ]) refl some

not_space : (t : Bool) → not t ≡ true → t ≡ false
not_space true e = sym e
not_space false e = refl

-- a text that a field begins has that field, and then those behind it
pub fields-first : (text : List ℕ) → begins_with_field text ≡ true →
    fields_of text ≡ before_space text ∷ fields_of (from_space text)
fields-first [] front = absurd (both_ways false refl front)
fields-first (b ∷ text) front =
    let other : eqb b SPACE ≡ false = not_space (eqb b SPACE) front in
    let opened : fields_of (b ∷ text)
    ≡ cond (begins_with_field text) (widened b (fields_of text)) ((b ∷ []) ∷ fields_of text) =
    ap (λ t. cond t (fields_of text) (cond (begins_with_field text) (widened b (fields_of text))
    ((b ∷ []) ∷ fields_of text))) other in
    let field : before_space (b ∷ text) ≡ b ∷ before_space text =
    ap (λ t. cond t [] (b ∷ before_space text)) other in
    let behind : from_space (b ∷ text) ≡ from_space text =
    ap (λ t. cond t (b ∷ text) (from_space text)) other in
    opened
    ∙ (later b text (fields-first text)
    ∙ (ap (λ (f : List ℕ). f ∷ fields_of (from_space text)) (sym field)
    ∙ ap (λ (t : List ℕ). before_space (b ∷ text) ∷ fields_of t) (sym behind)))
  where
    -- the field goes on, or ends here
    later : (b : ℕ) (text : List ℕ) → (begins_with_field text ≡ true →
        fields_of text ≡ before_space text ∷ fields_of (from_space text)) →
        cond (begins_with_field text) (widened b (fields_of text)) ((b ∷ []) ∷ fields_of text)
        ≡ (b ∷ before_space text) ∷ fields_of (from_space text)
    later b [] first = refl
    later b (c ∷ text) first =
        (elim (eqb c SPACE) as (λ t. (eqb c SPACE ≡ t) →
        cond (not t) (widened b (fields_of (c ∷ text))) ((b ∷ []) ∷ fields_of (c ∷ text))
        ≡ (b ∷ cond t [] (c ∷ before_space text))
        ∷ fields_of (cond t (c ∷ text) (from_space text))) [
          | true ↦ (λ e. refl)
          | false ↦ (λ e. ap (widened b) (first (ap not e)
              ∙ (ap (λ t. cond t [] (c ∷ before_space text) ∷ fields_of (from_space (c ∷ text))) e
              ∙ ap (λ t. (c ∷ before_space text) ∷ fields_of (cond t (c ∷ text) (from_space text)))
              e)))
        ]) refl

-- the first character of a text that a field begins is that of the field
pub fields-byte : (b : ℕ) (text : List ℕ) → begins_with_field (b ∷ text) ≡ true →
    get_or (get_or (fields_of (b ∷ text)) 0 []) 0 0 ≡ b
fields-byte b text front = at (eqb b SPACE) (begins_with_field text) (fields_of text) front
  where
    at : (t u : Bool) (fields : List (List ℕ)) → not t ≡ true →
        get_or (get_or (cond t fields (cond u (widened b fields) ((b ∷ []) ∷ fields))) 0 []) 0 0 ≡ b
    at true u fields e = absurd (both_ways false refl e)
    at false true [] e = refl
    at false true (f ∷ fields) e = refl
    at false false fields e = refl

-- a text that no space begins has none in front
skip-other : (text : List ℕ) → ((rest : List ℕ) → text ≢ SPACE ∷ rest) → without_spaces text ≡ text
skip-other [] other = refl
skip-other (b ∷ text) other =
    ap (λ t. cond t (without_spaces text) (b ∷ text))
    (ne_eqb b SPACE (λ e. other text (ap (λ c. c ∷ text) e)))

-- spaces were cut off the front one by one
cut_front : (text rest cuts : List ℕ) → CutsPrefixes (FindsCharPrefix SPACE) text cuts rest →
    without_spaces rest ≡ without_spaces text
unfolding encode
cut_front text rest [] is = ap without_spaces is
cut_front text rest (n ∷ cuts) (mid, before, found, is) =
    let whole : mid ≡ SPACE ∷ rest = found.split ∙ ap (λ (t : List ℕ). SPACE ∷ t) (sym is) in
    sym (ap without_spaces whole) ∙ cut_front text mid cuts before

-- and none is left there
none_in_front : (text : List ℕ) → IsFullyTrimmed (FindsCharPrefix SPACE) text →
    without_spaces text ≡ text
unfolding encode
none_in_front text (None, none, is) = skip-other text none
none_in_front text (Some n, found, is) = absurd (omega (arith, found.ends, is))

pub trimmed_front : (text rest : List ℕ) → IsTrimStartMatches (FindsCharPrefix SPACE) text rest →
    rest ≡ without_spaces text
trimmed_front text rest is =
    sym (none_in_front rest is.1) ∙ cut_front text rest is.0.0 is.0.1

pub skip-short : (text : List ℕ) → length (without_spaces text) ≤ length text
skip-short [] = omega arith
skip-short (b ∷ text) =
    elim (eqb b SPACE) as (λ t. length (cond t (without_spaces text) (b ∷ text)) ≤ length
    (b ∷ text)) [
      | true ↦ omega (arith, skip-short text)
      | false ↦ omega arith
    ]

-- at the first space a text is cut
pub before_space-cut : (text : List ℕ) (end : ℕ) → end < length text →
    ((k : ℕ) → k < end → get_or text k 0 ≢ SPACE) → get_or text end 0 ≡ SPACE →
    (before_space text ≡ take end text) × (from_space text ≡ drop end text)
before_space-cut [] end lt none is = absurd (omega (arith, lt))
before_space-cut (b ∷ text) zero lt none is =
    let e = eq-eqb b SPACE is in
    (ap (λ t. cond t [] (b ∷ before_space text)) e, ap (λ t. cond t (b ∷ text) (from_space text)) e)
before_space-cut (b ∷ text) (suc end) lt none is =
    let e = ne_eqb b SPACE (none 0 (omega arith)) in
    let later = before_space-cut text end (omega (arith, lt))
    (λ k below. none (suc k) (omega (arith, below))) is in (
      ap (λ t. cond t [] (b ∷ before_space text)) e ∙ ap (λ (t : List ℕ). b ∷ t) later.0,
      ap (λ t. cond t (b ∷ text) (from_space text)) e ∙ later.1,
    )

pub before_space-whole : (text : List ℕ) →
    ((k : ℕ) → k < length text → get_or text k 0 ≢ SPACE) →
    (before_space text ≡ text) × (from_space text ≡ [])
before_space-whole [] none = (refl, refl)
before_space-whole (b ∷ text) none =
    let e = ne_eqb b SPACE (none 0 (omega arith)) in
    let later = before_space-whole text (λ k below. none (suc k) (omega (arith, below))) in (
      ap (λ t. cond t [] (b ∷ before_space text)) e ∙ ap (λ (t : List ℕ). b ∷ t) later.0,
      ap (λ t. cond t (b ∷ text) (from_space text)) e ∙ later.1,
    )

pub from_space-short : (text : List ℕ) → length (from_space text) ≤ length text
from_space-short [] = omega arith
from_space-short (b ∷ text) =
    elim (eqb b SPACE) as (λ t. length (cond t (b ∷ text) (from_space text)) ≤ length (b ∷ text)) [
      | true ↦ omega arith
      | false ↦ omega (arith, from_space-short text)
    ]

-- behind a field a text is shorter
pub from_space-shorter : (text : List ℕ) → begins_with_field text ≡ true →
    length (from_space text) < length text
from_space-shorter [] front = absurd (both_ways false refl front)
from_space-shorter (b ∷ text) front =
    omega (
      arith,
      from_space-short text,
      ap (λ t. length (cond t (b ∷ text) (from_space text))) (not_space (eqb b SPACE) front),
    )

-- spaces at the end
push_space : (text : List ℕ) (b : ℕ) → b ≡ SPACE →
    without_end_spaces (text ++ b ∷ []) ≡ without_end_spaces text
push_space [] b h = ap (λ t. cond t [] (b ∷ [])) (eq-eqb b SPACE h)
push_space (c ∷ text) b h = ap (put_first c) (push_space text b h)

put_first-longer : (c b : ℕ) (text : List ℕ) → put_first c (text ++ b ∷ []) ≡ c ∷ (text ++ b ∷ [])
put_first-longer c b [] = refl
put_first-longer c b (d ∷ text) = refl

push_other : (text : List ℕ) (b : ℕ) → b ≢ SPACE →
    without_end_spaces (text ++ b ∷ []) ≡ text ++ b ∷ []
push_other [] b h = ap (λ t. cond t [] (b ∷ [])) (ne_eqb b SPACE h)
push_other (c ∷ text) b h = ap (put_first c) (push_other text b h) ∙ put_first-longer c b text

front_and_last : (text : List ℕ) → 0 < length text →
    text ≡ take (length text - 1) text ++ get_or text (length text - 1) 0 ∷ []
front_and_last text h = grind (arith, common_steps, take_more text (length text - 1) 0)

-- a text that no space ends has none there
trim-other : (text : List ℕ) → ((front : List ℕ) → text ≢ front ++ SPACE ∷ []) →
    without_end_spaces text ≡ text
trim-other [] other = refl
trim-other (b ∷ text) other =
    let whole = front_and_last (b ∷ text) (omega arith) in
    let front = take (length (b ∷ text) - 1) (b ∷ text) in
    let last = get_or (b ∷ text) (length (b ∷ text) - 1) 0 in
    ap without_end_spaces whole
    ∙ (push_other front last (λ e. other front (whole ∙ ap (λ c. front ++ c ∷ []) e))
    ∙ sym whole)

-- spaces were cut off the end one by one
cut_end : (text rest cuts : List ℕ) → CutsSuffixes (FindsCharSuffix SPACE) text cuts rest →
    without_end_spaces rest ≡ without_end_spaces text
unfolding encode
cut_end text rest [] is = ap without_end_spaces is
cut_end text rest (n ∷ cuts) (mid, before, found, is) =
    let last : drop (length mid - n) mid ≡ SPACE ∷ [] =
    found.1.split ∙ ap (λ (t : List ℕ). SPACE ∷ t) (drop-length mid) in
    let whole : mid ≡ rest ++ SPACE ∷ [] =
    sym (take-append-drop (length mid - n) mid)
    ∙ (ap (λ (t : List ℕ). take (length mid - n) mid ++ t) last
    ∙ ap (λ (t : List ℕ). t ++ SPACE ∷ []) (sym is)) in
    sym (ap without_end_spaces whole ∙ push_space rest SPACE refl) ∙ cut_end text mid cuts before

none_at_end : (text : List ℕ) → IsFullyTrimmed (FindsCharSuffix SPACE) text →
    without_end_spaces text ≡ text
unfolding encode
none_at_end text (None, none, is) = trim-other text none
none_at_end text (Some n, found, is) = absurd (omega (arith, found.0, is))

pub trimmed_end : (text rest : List ℕ) → IsTrimEndMatches (FindsCharSuffix SPACE) text rest →
    rest ≡ without_end_spaces text
trimmed_end text rest is = sym (none_at_end rest is.1) ∙ cut_end text rest is.0.0 is.0.1

-- digits
digits_suc : (text : List ℕ) (i : ℕ) → i < length text → AllDigits 10 (take i text) →
    digit_value (get_or text i 0) < 10 → AllDigits 10 (take (suc i) text)
digits_suc [] i lt h d = absurd (omega (arith, lt))
digits_suc (b ∷ text) zero lt h d = (d, tt)
digits_suc (b ∷ text) (suc i) lt h d = (h.0, digits_suc text i (omega (arith, lt)) h.1 d)

pub digits_more : (text : List ℕ) (i : ℕ) → i < length text → AllDigits 10 (take i text) →
    digit_value (get_or text i 0) < 10 → AllDigits 10 (take (i + 1) text)
digits_more text i lt h d =
    let next : suc i ≡ i + 1 = omega arith in
    subst (λ n. AllDigits 10 (take n text)) next (digits_suc text i lt h d)

pub digit_of_all : (text : List ℕ) (i : ℕ) → i < length text → AllDigits 10 text →
    digit_value (get_or text i 0) < 10
digit_of_all [] i lt h = absurd (omega (arith, lt))
digit_of_all (b ∷ text) zero lt h = h.0
digit_of_all (b ∷ text) (suc i) lt h = digit_of_all text i (omega (arith, lt)) h.1

no_bytes : (text : List ℕ) → length text ≡ 0 → text ≡ []
no_bytes [] e = refl
no_bytes (b ∷ text) e = absurd (omega (arith, e))

pub no-field : (text skipped : List ℕ) → skipped ≡ without_spaces text → length skipped ≡ 0 →
    fields_of text ≡ []
no-field text skipped is none =
    sym (fields-skip text) ∙ (ap fields_of (sym is) ∙ ap fields_of (no_bytes skipped none))

pub next-field : (text skipped field rest : List ℕ) → skipped ≡ without_spaces text →
    length skipped ≢ 0 → field ≡ before_space skipped → rest ≡ from_space skipped →
    (fields_of text ≡ field ∷ fields_of rest) × (length rest < length text)
next-field text skipped field rest is some is_field is_rest =
    let front : begins_with_field skipped ≡ true =
    ap begins_with_field is ∙ skip-front text (omega (arith, some, ap length is)) in (
      sym (fields-skip text) ∙ (ap fields_of (sym is) ∙ (fields-first skipped front
          ∙ (ap (λ (f : List ℕ). f ∷ fields_of (from_space skipped)) (sym is_field)
          ∙ ap (λ (t : List ℕ). field ∷ fields_of t) (sym is_rest)))),
      omega (
        arith,
        from_space-shorter skipped front,
        ap length is_rest,
        ap length is,
        skip-short text,
      ),
    )
