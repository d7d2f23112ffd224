-- What is printed for an output that is read of some text reads back as it, and leaves no backslash
-- open.
use Rattle.std.proofs.Common.{arith, ◌≡◌, ℕ, suc, ◌+◌, ◌<◌, List, [], ◌∷◌, ◌++◌, Bool, true, false, length, take, drop, refl, sym, ◌∙◌, ap, subst, append_assoc, Option, Some, None}
use Rattle.std.specs.Prelude.{◌==◌, ◌||◌, ◌&&◌, if◌then◌else◌, nat_eq, nat_lt, not, slice_index, codes}
use Rattle.std.specs.List.{flat_map, starts_with}
use Rattle.std.specs.Cmp.Lexicographic.{same_text}
use Rattle.std.specs.Option.{option_map}
use Rattle.std.specs.Str.{bytes_eq}
use Rattle.std.proofs.lemmas.Bool.{eqb-true, false_from_ne_true, false≢true, lt-ltb, ltb-false, ltb-true, or_parts}
use Rattle.std.proofs.Math.Dec.{ltb}
use Rattle.std.proofs.Math.Seq.{drop-append-add, get_or-append_seam, take-append_seam}
use Rattle.std.proofs.lemmas.List.Concat.{flat_map-cons}
use Rattle.std.proofs.lemmas.Option.{none-some, same_Some}
use Rattle.std.proofs.lemmas.List.{append-nil, get_or_past, length-take-le}
use Rattle.ux_grf.specs.declared.item.Piece.{Piece}
use Rattle.ux_grf.specs.declared.item.Piece.TheVariants.{Chars, Value}
use Rattle.ux_grf.specs.Lines.{DOLLAR, is_name_byte}
use Rattle.ux_grf.specs.Output.{ArePieces, IsOutput, chars_in, chars_only, first_value, name_len, names_value, nothing_put, pieces_put, some_chars, test_len, value_len, value_then}
use Rattle.ux_grf.specs.Protection.{BACKSLASH, ends_open, resolved}
use Rattle.ux_grf.specs.declared.protection.Layer.TheVariants.{Language}
use Rattle.ux_fst2.specs.Tags.{is_output_sign, piece_text}
use Rattle.ux_dela.proofs.ShieldLemmas.{shown, shown_other}
use Rattle.ux_fst2.proofs.ScanLemmas.{open_plain, open_shown, resolved_shown, shown_sign, value_none, value_some}

-- what gets no backslash in an output is no `$`
no_dollar : (b : ℕ) → is_output_sign b ≡ false → (b == DOLLAR) ≡ false
no_dollar b other = (or_parts (b == 92) (b == 36) (or_parts (b == 92 || b == 36) (b == 60) other).0).1

-- the characters of an output, as they are printed
abbrev printed : List ℕ → List ℕ
printed text = shown is_output_sign text

-- read back as characters
chars_back : (text : List ℕ) → chars_in (printed text) ≡ some_chars text
chars_back text = ap some_chars (resolved_shown is_output_sign refl text)

-- characters alone
alone_back : (text : List ℕ) → ArePieces (printed text) (some_chars text)
alone_back text =
    subst (ArePieces (printed text)) (chars_back text)
    (chars_only (subst (λ (t : List ℕ). first_value false t ≡ None) (append-nil (printed text))
    (value_none is_output_sign refl no_dollar text [] refl)))

-- a value is longer by a byte of its name in front
value_step : (b : ℕ) (text : List ℕ) → is_name_byte b ≡ true →
    value_len (b ∷ text) ≡ suc (value_len text)
value_step b text is =
    let named : name_len (b ∷ text) ≡ suc (name_len text) =
    ap (λ (q : Bool). if q then suc (name_len text) else 0) is in
    ap (λ n. n + test_len (drop n (b ∷ text))) named
    ∙ omega (arith)

-- without one it is a test
value_test : (b : ℕ) (text : List ℕ) → is_name_byte b ≡ false →
    value_len (b ∷ text) ≡ test_len (b ∷ text)
value_test b text is =
    let named : name_len (b ∷ text) ≡ 0 =
    ap (λ (q : Bool). if q then suc (name_len text) else 0) is in
    ap (λ n. n + test_len (drop n (b ∷ text))) named ∙ omega (arith)

-- the same of a test: it is `.SET`, or `.UNSET`, or nothing
test_kept : (text rest : List ℕ) (p q : Bool) → starts_with nat_eq text (codes ".SET") ≡ p →
    starts_with nat_eq text (codes ".UNSET") ≡ q →
    value_len (take (test_len text) text ++ DOLLAR ∷ rest) ≡ test_len text
test_kept text rest true q set unset =
    let four : test_len text ≡ 4 =
    ap (λ (t : Bool). if t then 4
    else if starts_with nat_eq text (codes ".UNSET") then 6 else 0) set in
    let same : codes ".SET" ≡ take 4 text = same_text (codes ".SET") (take 4 text) (sym set) in
    ap (λ n. value_len (take n text ++ DOLLAR ∷ rest)) four
    ∙ ap (λ (t : List ℕ). value_len (t ++ DOLLAR ∷ rest)) (sym same) ∙ sym four
test_kept text rest false true set unset =
    let six : test_len text ≡ 6 =
    ap (λ (t : Bool). if t then 4
    else if starts_with nat_eq text (codes ".UNSET") then 6 else 0) set
    ∙ ap (λ (t : Bool). if t then 6 else 0) unset in
    let same : codes ".UNSET" ≡ take 6 text = same_text (codes ".UNSET") (take 6 text) (sym unset) in
    ap (λ n. value_len (take n text ++ DOLLAR ∷ rest)) six
    ∙ ap (λ (t : List ℕ). value_len (t ++ DOLLAR ∷ rest)) (sym same) ∙ sym six
test_kept text rest false false set unset =
    let none : test_len text ≡ 0 =
    ap (λ (t : Bool). if t then 4
    else if starts_with nat_eq text (codes ".UNSET") then 6 else 0) set
    ∙ ap (λ (t : Bool). if t then 6 else 0) unset in
    ap (λ n. value_len (take n text ++ DOLLAR ∷ rest)) none ∙ sym none

-- behind a value stands a `$`: whatever stands behind that, the value is as long
value_kept : (text rest : List ℕ) →
    value_len (take (value_len text) text ++ DOLLAR ∷ rest) ≡ value_len text
value_kept [] rest = refl
value_kept (b ∷ text) rest = by (is_name_byte b) refl (value_kept text rest)
  where
    by : (q : Bool) → is_name_byte b ≡ q →
        value_len (take (value_len text) text ++ DOLLAR ∷ rest) ≡ value_len text →
        value_len (take (value_len (b ∷ text)) (b ∷ text) ++ DOLLAR ∷ rest) ≡ value_len (b ∷ text)
    by true is later =
        ap (λ n. value_len (take n (b ∷ text) ++ DOLLAR ∷ rest)) (value_step b text is)
        ∙ value_step b (take (value_len text) text ++ DOLLAR ∷ rest) is ∙ ap suc later
        ∙ sym (value_step b text is)
    by false is later =
        ap (λ n. value_len (take n (b ∷ text) ++ DOLLAR ∷ rest)) (value_test b text is)
        ∙ test_kept (b ∷ text) rest _ _ refl refl ∙ sym (value_test b text is)

third : (x y z : Bool) → (x && y && z) ≡ true → z ≡ true
third true true z is = is
third true false z is = absurd (false≢true is)
third false y z is = absurd (false≢true is)

second : (x y : Bool) → (x && y) ≡ true → y ≡ true
second true y is = is
second false y is = absurd (false≢true is)

map_suc : (o : Option ℕ) (k : ℕ) → option_map suc o ≡ Some k → (j : ℕ) × (o ≡ Some j) × (k ≡ suc j)
map_suc None k is = absurd (none-some k is)
map_suc (Some j) k is = (j, refl, sym (same_Some (suc j) k is))

-- a value stands where the first one is found
named_at : (protected : Bool) (text : List ℕ) (k : ℕ) → first_value protected text ≡ Some k →
    names_value (drop (k + 1) text) ≡ true
named_at protected [] k found = absurd (none-some k found)
named_at protected (b ∷ text) k found =
    by (b == DOLLAR && not protected && names_value text) refl
    (named_at (b == BACKSLASH && not protected) text)
  where
    next : Bool
    next = b == BACKSLASH && not protected

    by : (c : Bool) → (b == DOLLAR && not protected && names_value text) ≡ c →
        ((j : ℕ) → first_value next text ≡ Some j → names_value (drop (j + 1) text) ≡ true) →
        names_value (drop (k + 1) (b ∷ text)) ≡ true
    by true is later =
        let at : Some 0 ≡ Some k =
        sym (ap (λ (c : Bool). if c then Some 0 else option_map suc (first_value next text)) is)
        ∙ found in
        subst (λ (n : ℕ). names_value (drop (n + 1) (b ∷ text)) ≡ true) (same_Some 0 k at)
        (third (b == DOLLAR) (not protected) (names_value text) is)
    by false is later =
        let at : option_map suc (first_value next text) ≡ Some k =
        sym (ap (λ (c : Bool). if c then Some 0 else option_map suc (first_value next text)) is)
        ∙ found in
        let place = map_suc (first_value next text) k at in
        let more : suc (place.0 + 1) ≡ k + 1 = omega (arith, place.2) in
        subst (λ (n : ℕ). names_value (drop n (b ∷ text)) ≡ true) more (later place.0 place.1)

-- a `$` stands there, so the value lies within
value_within : (text : List ℕ) → names_value text ≡ true → value_len text < length text
value_within text named = by (ltb (value_len text) (length text)) refl
  where
    at : slice_index text (value_len text) ≡ DOLLAR
    at = eqb-true (slice_index text (value_len text)) DOLLAR
        (second (nat_lt 0 (name_len text)) _ named)

    by : (q : Bool) → ltb (value_len text) (length text) ≡ q → value_len text < length text
    by true is = ltb-true (value_len text) (length text) is
    by false is =
        let past = get_or_past text (value_len text) 0 (ltb-false (value_len text) (length text) is) in
        absurd (omega (arith, sym at ∙ past))

-- the name of a value has a character
named_some : (text rest : List ℕ) → names_value text ≡ true →
    nat_lt 0 (name_len (take (value_len text) text ++ rest)) ≡ true
named_some [] rest named = absurd (false≢true named)
named_some (b ∷ text) rest named = by (is_name_byte b) refl
  where
    by : (q : Bool) → is_name_byte b ≡ q →
        nat_lt 0 (name_len (take (value_len (b ∷ text)) (b ∷ text) ++ rest)) ≡ true
    by true is =
        ap (λ n. nat_lt 0 (name_len (take n (b ∷ text) ++ rest))) (value_step b text is)
        ∙ ap (λ (q : Bool). nat_lt 0 (if q then suc (name_len (take (value_len text) text ++ rest))
        else 0)) is
        ∙ lt-ltb 0 (suc (name_len (take (value_len text) text ++ rest))) (omega arith)
    by false is =
        absurd (false≢true (sym (ap (λ (q : Bool). nat_lt 0 (if q then suc (name_len text) else 0)
        && slice_index (b ∷ text) (value_len (b ∷ text)) == DOLLAR) is) ∙ named))

-- a value and its `$` are found again, whatever stands behind
named_kept : (text rest : List ℕ) → names_value text ≡ true →
    names_value (take (value_len text) text ++ DOLLAR ∷ rest) ≡ true
named_kept text rest named =
    let v = take (value_len text) text in
    let inside = v ++ DOLLAR ∷ rest in
    let many : length v ≡ value_len text =
    length-take-le (value_len text) text (omega (arith, value_within text named)) in
    let same : value_len inside ≡ length v = value_kept text rest ∙ sym many in
    let here : slice_index inside (value_len inside) ≡ DOLLAR =
    ap (slice_index inside) same ∙ get_or-append_seam v DOLLAR rest 0 in
    ap (λ (q : Bool). q && slice_index inside (value_len inside) == DOLLAR)
    (named_some text (DOLLAR ∷ rest) named)
    ∙ ap (λ n. n == DOLLAR) here

-- characters, a value, and what stands behind
value_back : (chars text after : List ℕ) (later : List Piece) → names_value text ≡ true →
    ArePieces after later →
    ArePieces (printed chars ++ (DOLLAR ∷ (take (value_len text) text ++ DOLLAR ∷ after)))
    (some_chars chars ++ Value (take (value_len text) text) ∷ later)
value_back chars text after later named behind =
    let v = take (value_len text) text in
    let front = printed chars in
    let inside = v ++ DOLLAR ∷ after in
    let whole = front ++ (DOLLAR ∷ inside) in
    let k = length front in
    let many : length v ≡ value_len text =
    length-take-le (value_len text) text (omega (arith, value_within text named)) in
    let same : value_len inside ≡ length v = value_kept text after ∙ sym many in
    let here : first_value false (DOLLAR ∷ inside) ≡ Some 0 =
    ap (λ (q : Bool). if q then Some 0 else option_map suc (first_value false inside))
    (named_kept text after named) in
    let found = value_some is_output_sign refl no_dollar chars (DOLLAR ∷ inside) here in
    let dropped : drop (k + 1) whole ≡ inside = drop-append-add front (DOLLAR ∷ inside) 1 in
    let taken : take (value_len inside) inside ≡ v =
    ap (λ n. take n inside) same ∙ take-append_seam v (DOLLAR ∷ after) in
    let left : drop (value_len inside + 1) inside ≡ after =
    ap (λ n. drop (n + 1) inside) same ∙ drop-append-add v (DOLLAR ∷ after) 1 in
    let rest : ArePieces (drop (value_len (drop (k + 1) whole) + 1) (drop (k + 1) whole)) later =
    subst (λ (t : List ℕ). ArePieces (drop (value_len t + 1) t) later) (sym dropped)
    (subst (λ (t : List ℕ). ArePieces t later) (sym left) behind) in
    let pieces : chars_in (take k whole)
    ++ Value (take (value_len (drop (k + 1) whole)) (drop (k + 1) whole)) ∷ later
    ≡ some_chars chars ++ Value v ∷ later =
    ap (λ (t : List ℕ). chars_in t
    ++ Value (take (value_len (drop (k + 1) whole)) (drop (k + 1) whole)) ∷ later)
    (take-append_seam front (DOLLAR ∷ inside))
    ∙ ap (λ (ps : List Piece).
    ps ++ Value (take (value_len (drop (k + 1) whole)) (drop (k + 1) whole)) ∷ later)
    (chars_back chars)
    ∙ ap (λ (t : List ℕ). some_chars chars ++ Value (take (value_len t) t) ∷ later) dropped
    ∙ ap (λ (t : List ℕ). some_chars chars ++ Value t ∷ later) taken in
    subst (ArePieces whole) pieces (value_then {text = whole} {k = k} {pieces = later} found rest)

-- the pieces of an output, as they are printed
abbrev pub pieces_text : List Piece → List ℕ
pieces_text pieces = flat_map piece_text pieces

some_text_of : (chars : List ℕ) (rest : List Piece) →
    pieces_text (some_chars chars ++ rest) ≡ printed chars ++ pieces_text rest
some_text_of [] rest = refl
some_text_of (b ∷ chars) rest = flat_map-cons piece_text (Chars (b ∷ chars)) rest

-- characters and a value
value_text_of : (chars v : List ℕ) (later : List Piece) →
    pieces_text (some_chars chars ++ Value v ∷ later)
    ≡ printed chars ++ (DOLLAR ∷ (v ++ DOLLAR ∷ pieces_text later))
value_text_of chars v later =
    some_text_of chars (Value v ∷ later)
    ∙ ap (λ (t : List ℕ). printed chars ++ t) (flat_map-cons piece_text (Value v) later
    ∙ ap (λ (t : List ℕ). DOLLAR ∷ t) (append_assoc v (DOLLAR ∷ []) (pieces_text later)))

chars_text_of : (chars : List ℕ) → pieces_text (some_chars chars) ≡ printed chars ++ []
chars_text_of chars =
    ap pieces_text (sym (append-nil (some_chars chars))) ∙ some_text_of chars []

-- what is read of some text is read of what is printed for it
pub pieces_back : (text : List ℕ) (pieces : List Piece) → ArePieces text pieces →
    ArePieces (pieces_text pieces) pieces
pieces_back text pieces (chars_only none) =
    let chars = resolved Language false text in
    subst (λ (t : List ℕ). ArePieces t (some_chars chars))
    (sym (chars_text_of chars ∙ append-nil (printed chars))) (alone_back chars)
pieces_back text pieces (value_then {k = k} {pieces = later} found rest) =
    let chars = resolved Language false (take k text) in
    let inside = drop (k + 1) text in
    let v = take (value_len inside) inside in
    let back = pieces_back _ later rest in
    subst (λ (t : List ℕ). ArePieces t (some_chars chars ++ Value v ∷ later))
    (sym (value_text_of chars v later))
    (value_back chars inside (pieces_text later) later (named_at false text k found) back)

-- a byte of a name is no backslash
name_no_slash : (b : ℕ) → is_name_byte b ≡ true → (b == BACKSLASH) ≡ false
name_no_slash b is =
    false_from_ne_true (b == BACKSLASH)
    (λ same. false≢true (ap is_name_byte (sym (eqb-true b BACKSLASH same)) ∙ is))

-- no backslash of a value protects what stands behind it
test_open : (text rest : List ℕ) (p q : Bool) → starts_with nat_eq text (codes ".SET") ≡ p →
    starts_with nat_eq text (codes ".UNSET") ≡ q →
    ends_open false (take (test_len text) text ++ rest) ≡ ends_open false rest
test_open text rest true q set unset =
    let four : test_len text ≡ 4 =
    ap (λ (t : Bool). if t then 4
    else if starts_with nat_eq text (codes ".UNSET") then 6 else 0) set in
    let same : codes ".SET" ≡ take 4 text = same_text (codes ".SET") (take 4 text) (sym set) in
    ap (λ n. ends_open false (take n text ++ rest)) four
    ∙ ap (λ (t : List ℕ). ends_open false (t ++ rest)) (sym same)
test_open text rest false true set unset =
    let six : test_len text ≡ 6 =
    ap (λ (t : Bool). if t then 4
    else if starts_with nat_eq text (codes ".UNSET") then 6 else 0) set
    ∙ ap (λ (t : Bool). if t then 6 else 0) unset in
    let same : codes ".UNSET" ≡ take 6 text = same_text (codes ".UNSET") (take 6 text) (sym unset) in
    ap (λ n. ends_open false (take n text ++ rest)) six
    ∙ ap (λ (t : List ℕ). ends_open false (t ++ rest)) (sym same)
test_open text rest false false set unset =
    let none : test_len text ≡ 0 =
    ap (λ (t : Bool). if t then 4
    else if starts_with nat_eq text (codes ".UNSET") then 6 else 0) set
    ∙ ap (λ (t : Bool). if t then 6 else 0) unset in
    ap (λ n. ends_open false (take n text ++ rest)) none

value_open : (text rest : List ℕ) →
    ends_open false (take (value_len text) text ++ rest) ≡ ends_open false rest
value_open [] rest = refl
value_open (b ∷ text) rest = by (is_name_byte b) refl (value_open text rest)
  where
    by : (q : Bool) → is_name_byte b ≡ q →
        ends_open false (take (value_len text) text ++ rest) ≡ ends_open false rest →
        ends_open false (take (value_len (b ∷ text)) (b ∷ text) ++ rest) ≡ ends_open false rest
    by true is later =
        ap (λ n. ends_open false (take n (b ∷ text) ++ rest)) (value_step b text is)
        ∙ open_plain b (take (value_len text) text ++ rest) (name_no_slash b is) ∙ later
    by false is later =
        ap (λ n. ends_open false (take n (b ∷ text) ++ rest)) (value_test b text is)
        ∙ test_open (b ∷ text) rest _ _ refl refl

-- what is printed for an output ends in no backslash that protects
pieces_closed : (text : List ℕ) (pieces : List Piece) → ArePieces text pieces →
    ends_open false (pieces_text pieces) ≡ false
pieces_closed text pieces (chars_only none) =
    let chars = resolved Language false text in
    ap (ends_open false) (chars_text_of chars) ∙ open_shown is_output_sign refl chars []
pieces_closed text pieces (value_then {k = k} {pieces = later} found rest) =
    let chars = resolved Language false (take k text) in
    let inside = drop (k + 1) text in
    let v = take (value_len inside) inside in
    ap (ends_open false) (value_text_of chars v later)
    ∙ open_shown is_output_sign refl chars (DOLLAR ∷ (v ++ DOLLAR ∷ pieces_text later))
    ∙ value_open inside (DOLLAR ∷ pieces_text later) ∙ pieces_closed _ later rest

-- nor is it the empty word, which would put nothing
chars_other : (chars rest : List ℕ) → bytes_eq rest (codes "<E>") ≡ false →
    bytes_eq (printed chars ++ rest) (codes "<E>") ≡ false
chars_other [] rest other = other
chars_other (b ∷ chars) rest other = by (is_output_sign b) refl
  where
    by : (q : Bool) → is_output_sign b ≡ q →
        bytes_eq (printed (b ∷ chars) ++ rest) (codes "<E>") ≡ false
    by true is =
        ap (λ (t : List ℕ). bytes_eq (t ++ rest) (codes "<E>")) (shown_sign is_output_sign b chars is)
    by false is =
        let unlike : (b == 60) ≡ false = (or_parts (b == 92 || b == 36) (b == 60) is).1 in
        ap (λ (t : List ℕ). bytes_eq (t ++ rest) (codes "<E>")) (shown_other is_output_sign b chars is)
        ∙ ap (λ (q : Bool). q && bytes_eq (printed chars ++ rest) (codes "E>")) unlike

pieces_other : (text : List ℕ) (pieces : List Piece) → ArePieces text pieces →
    bytes_eq (pieces_text pieces) (codes "<E>") ≡ false
pieces_other text pieces (chars_only none) =
    let chars = resolved Language false text in
    ap (λ (t : List ℕ). bytes_eq t (codes "<E>")) (chars_text_of chars) ∙ chars_other chars [] refl
pieces_other text pieces (value_then {k = k} {pieces = later} found rest) =
    let chars = resolved Language false (take k text) in
    let v = take (value_len (drop (k + 1) text)) (drop (k + 1) text) in
    ap (λ (t : List ℕ). bytes_eq t (codes "<E>")) (value_text_of chars v later)
    ∙ chars_other chars (DOLLAR ∷ (v ++ DOLLAR ∷ pieces_text later)) refl

-- an output reads back, and no backslash at its end is open
pub record IsGoodOutput (text : List ℕ) (output : List Piece) : Type 0 where
  pub closed : ends_open false text ≡ false
  pub puts : IsOutput text output

pub no_output : IsGoodOutput [] []
no_output = record { closed = refl; puts = pieces_put refl (chars_only refl) }

pub output_back : (text : List ℕ) (output : List Piece) → IsOutput text output →
    IsGoodOutput (pieces_text output) output
output_back text output (nothing_put is) = no_output
output_back text output (pieces_put other are) = record {
  closed = pieces_closed text output are;
  puts = pieces_put (pieces_other text output are) (pieces_back text output are);
}
