-- Numbers and fields: what is written for a number has no space, so a line has its fields in one way.
use Rattle.std.proofs.Common.{arith, ◌≡◌, ◌≢◌, ℕ, zero, suc, Option, Some, None, length, length-append, get_or, ◌+◌, ◌<◌, ◌%◌, ◌^◌, List, [], ◌∷◌, ◌++◌, refl, sym, ◌∙◌, ap, Bool, false}
use Rattle.std.specs.Prelude.{◌==◌}
use Rattle.std.specs.List.{list_any}
use Rattle.std.specs.Fmt.{decimal}
use Rattle.std.proofs.lemmas.Bool.{or_from, or_parts}
use Rattle.std.proofs.lemmas.Bool.Decides.{nat_tests}
use Rattle.std.specs.Prelude.{Result, Ok, Err}
use Rattle.std.specs.Str.Parse.{ParsesUnsigned}
use Rattle.std.proofs.lemmas.Fmt.{decimal_by_steps, decimal_injective, parse-decimal}
use Rattle.std.proofs.lemmas.List.Folds.{list_any-append}
use Rattle.std.proofs.Math.Seq.{get_or-append_seam}
use Rattle.std.proofs.lemmas.Str.Pattern.{IsSplitOnceResult, split_parts, split_after}
use denote.Ref.{Bor}
use Rattle.ux_sentence.specs.Written.{SPACE}

-- the byte is a space
abbrev pub is_space : ℕ → Bool
is_space b = b == SPACE

-- no space stands in the text
abbrev pub HasNoSpace : List ℕ → Type 0
HasNoSpace text = list_any is_space text ≡ false

digit_no_space : (d : ℕ) → (48 + d == SPACE) ≡ false
digit_no_space d = grind (arith, nat_tests)

one_no_space : (d : ℕ) → HasNoSpace ((48 + d) ∷ [])
one_no_space d = or_from (48 + d == SPACE) false (digit_no_space d) refl

more_no_space : (ds : List ℕ) (d : ℕ) → HasNoSpace ds → HasNoSpace (ds ++ ((48 + d) ∷ []))
more_no_space ds d none =
    list_any-append is_space ds ((48 + d) ∷ [])
    ∙ or_from (list_any is_space ds) (list_any is_space ((48 + d) ∷ [])) none (one_no_space d)

-- a number is written without a space
pub decimal_no_space : (n : ℕ) → n < 2 ^ 64 → HasNoSpace (decimal n)
decimal_no_space n lt =
    decimal_by_steps (λ m ds. HasNoSpace ds) (λ m small. one_no_space m)
    (λ m ds large none. more_no_space ds (m % 10) none) n lt

space_not : (x : ℕ) → (x == SPACE) ≡ false → x ≡ SPACE → ⊥
space_not x none is = grind (arith, nat_tests)

-- a text in front of the first space is the text in front of it
pub same_fields : (a b xs ys : List ℕ) → HasNoSpace a → HasNoSpace b →
    a ++ SPACE ∷ xs ≡ b ++ SPACE ∷ ys → (a ≡ b) × (xs ≡ ys)
same_fields [] [] xs ys p q e = (refl, cc)
same_fields [] (y ∷ b) xs ys p q e =
    let is : y ≡ SPACE = cc in
    absurd (space_not y (or_parts (y == SPACE) (list_any is_space b) q).0 is)
same_fields (x ∷ a) [] xs ys p q e =
    let is : x ≡ SPACE = cc in
    absurd (space_not x (or_parts (x == SPACE) (list_any is_space a) p).0 is)
same_fields (x ∷ a) (y ∷ b) xs ys p q e =
    let here : x ≡ y = cc in
    let later : a ++ SPACE ∷ xs ≡ b ++ SPACE ∷ ys = cc in
    let rest = same_fields a b xs ys (or_parts (x == SPACE) (list_any is_space a) p).1
    (or_parts (y == SPACE) (list_any is_space b) q).1 later in
    (ap (λ h. h ∷ a) here ∙ ap (λ t. y ∷ t) rest.0, rest.1)

-- a number and a text behind a space are those that are written
pub same_number : (m n : ℕ) (xs ys : List ℕ) → m < 2 ^ 64 → n < 2 ^ 64 →
    decimal m ++ SPACE ∷ xs ≡ decimal n ++ SPACE ∷ ys → (m ≡ n) × (xs ≡ ys)
same_number m n xs ys small few e =
    let both = same_fields (decimal m) (decimal n) xs ys (decimal_no_space m small)
    (decimal_no_space n few) e in
    (decimal_injective m n small few both.0, both.1)

-- a text has a space behind which something stands, or none
pub no_field : (a xs : List ℕ) → HasNoSpace (a ++ SPACE ∷ xs) → ⊥
no_field [] xs none = space_not SPACE (or_parts (SPACE == SPACE) (list_any is_space xs) none).0 refl
no_field (x ∷ a) xs none =
    no_field a xs (or_parts (x == SPACE) (list_any is_space (a ++ SPACE ∷ xs)) none).1

-- no byte of the text is a space
no_space_at : (text : List ℕ) → HasNoSpace text → (i : ℕ) → i < length text →
    get_or text i 0 ≢ SPACE
no_space_at [] none i lt = absurd (omega (arith, lt))
no_space_at (b ∷ text) none zero lt =
    space_not b (or_parts (b == SPACE) (list_any is_space text) none).0
no_space_at (b ∷ text) none (suc i) lt =
    no_space_at text (or_parts (b == SPACE) (list_any is_space text) none).1 i (omega (arith, lt))

-- a text that can't be split at a space has no number in front
pub not_split : (text : List ℕ) (r : Option (Bor (List ℕ) × Bor (List ℕ))) →
    IsSplitOnceResult SPACE text r → r ≡ None → (n : ℕ) (rest : List ℕ) →
    text ≡ decimal n ++ SPACE ∷ rest → ⊥
not_split text None split is n rest e =
    let none = split_parts SPACE text None split (omega arith) in
    none (length (decimal n))
    (omega (arith, ap length e, length-append (decimal n) (SPACE ∷ rest)))
    (ap (λ (t : List ℕ). get_or t (length (decimal n)) 0) e
    ∙ get_or-append_seam (decimal n) SPACE rest 0)
not_split text (Some parts) split is n rest e = cc

-- what stands in front of the first space is the number that stands there
pub split_number : (text : List ℕ) (parts : Bor (List ℕ) × Bor (List ℕ)) →
    IsSplitOnceResult SPACE text (Some parts) → (n : ℕ) (rest : List ℕ) → n < 2 ^ 64 →
    text ≡ decimal n ++ SPACE ∷ rest → parts.0.now ≡ decimal n
split_number text parts split n rest small e =
    (split_after SPACE text (decimal n) rest (Some parts) split (omega arith) e
    (no_space_at (decimal n) (decimal_no_space n small))).0

-- the parts of a text that is split at a space
pub split_whole : (text : List ℕ) (parts : Bor (List ℕ) × Bor (List ℕ)) →
    IsSplitOnceResult SPACE text (Some parts) → text ≡ parts.0.now ++ SPACE ∷ parts.1.now
split_whole text parts split = (split_parts SPACE text (Some parts) split (omega arith)).0

-- what isn't parsed writes no number
pub not_parsed : {E : Type 0} (n : ℕ) (text : List ℕ) (error : E) → n < 2 ^ 64 →
    text ≡ decimal n → ParsesUnsigned 64 10 text (Err error) → ⊥
not_parsed n text error small is parses =
    cc (parse-decimal 64 n text (Err error) small small is parses)

-- what is parsed is the number that is written
pub parsed_same : {E : Type 0} (n value : ℕ) (text : List ℕ) (r : Result ℕ E) → n < 2 ^ 64 →
    text ≡ decimal n → ParsesUnsigned 64 10 text r → r ≡ Ok value → n ≡ value
parsed_same n value text r small is parses given =
    cc (sym (parse-decimal 64 n text r small small is parses) ∙ given)
