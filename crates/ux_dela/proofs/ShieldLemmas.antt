-- A text with backslashes before some signs, up to the first of them.
use Rattle.std.proofs.Common.{arith, ◌≡◌, ℕ, ◌<◌, ◌+◌, List, [], ◌∷◌, ◌++◌, Bool, true, false, inl, inr, refl, sym, ◌∙◌, ap, append_assoc, length, take, drop, get_or}
use Rattle.std.specs.Prelude.{◌==◌, ◌||◌}
use Rattle.std.proofs.lemmas.Bool.{or_cases, eqb-true}
use Rattle.std.proofs.lemmas.List.{drop_more, take_more}
use Rattle.ux_dela.specs.Signs.{BACKSLASH, is_equals, is_comma, is_dot, is_code_sign, is_plus, is_colon, is_slash, is_printed_code_sign, PLUS, COLON}
use Rattle.ux_dela.specs.Written.{bare, written, all_behind}
use Rattle.ux_dela.specs.Printed.{shield, shielded, all_shielded, printed_list}
use Rattle.ux_dela.specs.Reading.{is_shielded, IsShieldedAt}
use Rattle.ux_dela.proofs.CharactersLemmas.{written-append}
use Rattle.ux_dela.proofs.RunLemmas.{all_behind-push}
use Rattle.ux_dela.specs.declared.printing.Signs.{Signs}
use Rattle.ux_dela.specs.declared.printing.Signs.TheVariants.{Form, Code}

-- the text as it is printed
abbrev pub shown : (ℕ → Bool) → List ℕ → List ℕ
shown signs text = written (shielded signs text)

pub shown_other : (signs : ℕ → Bool) (b : ℕ) (rest : List ℕ) → signs b ≡ false →
    shown signs (b ∷ rest) ≡ b ∷ shown signs rest
shown_other signs b rest e = ap (λ t. written (shield t b ∷ shielded signs rest)) e

shown_sign : (signs : ℕ → Bool) (b : ℕ) (rest : List ℕ) → signs b ≡ true →
    shown signs (b ∷ rest) ≡ BACKSLASH ∷ (b ∷ shown signs rest)
shown_sign signs b rest e = ap (λ t. written (shield t b ∷ shielded signs rest)) e

shielded_ascii : (signs : Signs) (b : ℕ) → is_shielded signs b ≡ true → b < 128
shielded_ascii Form b h =
    elim (or_cases (is_comma b || is_dot b || is_equals b) (b == BACKSLASH) h) [
      | inr r ↦ (let e = eqb-true b 92 r in omega (arith, e))
      | inl l ↦ elim (or_cases (is_comma b || is_dot b) (is_equals b) l) [
        | inr r ↦ (let e = eqb-true b 61 r in omega (arith, e))
        | inl l ↦ elim (or_cases (is_comma b) (is_dot b) l) [
          | inl l ↦ (let e = eqb-true b 44 l in omega (arith, e))
          | inr r ↦ (let e = eqb-true b 46 r in omega (arith, e))
        ]
      ]
    ]
shielded_ascii Code b h =
    elim (or_cases (is_code_sign b || is_slash b) (b == BACKSLASH) h) [
      | inr r ↦ (let e = eqb-true b 92 r in omega (arith, e))
      | inl l ↦ elim (or_cases (is_code_sign b) (is_slash b) l) [
        | inr r ↦ (let e = eqb-true b 47 r in omega (arith, e))
        | inl l ↦ elim (or_cases (is_plus b) (is_colon b) l) [
          | inl l ↦ (let e = eqb-true b 43 l in omega (arith, e))
          | inr r ↦ (let e = eqb-true b 58 r in omega (arith, e))
        ]
      ]
    ]

-- no sign so far
abbrev pub IsShownTo : (ℕ → Bool) → List ℕ → ℕ → Type 0
IsShownTo signs text place = shown signs text ≡ take place text ++ shown signs (drop place text)

pub shown_more : (signs : ℕ → Bool) (text : List ℕ) (place : ℕ) → place < length text →
    IsShownTo signs text place → signs (get_or text place 0) ≡ false →
    IsShownTo signs text (place + 1)
shown_more signs text place lt so_far other =
    let b = get_or text place 0 in
    let rest = drop (place + 1) text in
    so_far
    ∙ ap (λ t. take place text ++ shown signs t) (drop_more text place 0 lt)
    ∙ ap (λ t. take place text ++ t) (shown_other signs b rest other)
    ∙ sym (append_assoc (take place text) (b ∷ []) (shown signs rest))
    ∙ ap (λ t. t ++ shown signs rest) (sym (take_more text place 0 lt))

pub shown_to_sign : (signs : Signs) (text : List ℕ) (place : ℕ) → place < length text →
    IsShownTo (is_shielded signs) text place → is_shielded signs (get_or text place 0) ≡ true →
    IsShieldedAt signs text place
shown_to_sign signs text place lt so_far is =
    let b = get_or text place 0 in
    let rest = drop (place + 1) text in
    record {
      inside = lt;
      ascii = shielded_ascii signs b is;
      cut = so_far
          ∙ ap (λ t. take place text ++ shown (is_shielded signs) t) (drop_more text place 0 lt)
          ∙ ap (λ t. take place text ++ t) (shown_sign (is_shielded signs) b rest is);
    }

all_shielded-push : (signs : ℕ → Bool) (texts : List (List ℕ)) (text : List ℕ) →
    all_shielded signs (texts ++ text ∷ []) ≡ all_shielded signs texts ++ shielded signs text ∷ []
all_shielded-push signs [] text = refl
all_shielded-push signs (first ∷ texts) text =
    ap (λ t. shielded signs first ∷ t) (all_shielded-push signs texts text)

-- codes as they are printed behind signs
abbrev pub shown_all : ℕ → List (List ℕ) → List ℕ
shown_all byte codes = written (all_behind byte (all_shielded is_printed_code_sign codes))

shown_all-push : (byte : ℕ) (codes : List (List ℕ)) (code : List ℕ) →
    shown_all byte (codes ++ code ∷ [])
    ≡ shown_all byte codes ++ byte ∷ shown is_printed_code_sign code
shown_all-push byte codes code =
    let before = all_shielded is_printed_code_sign codes in
    let last = shielded is_printed_code_sign code in
    ap (λ t. written (all_behind byte t)) (all_shielded-push is_printed_code_sign codes code)
    ∙ ap written (all_behind-push byte before last)
    ∙ written-append (all_behind byte before) (bare byte ∷ last)

-- one more code is put behind its sign
pub shown_all_more : (byte : ℕ) (codes : List (List ℕ)) (i : ℕ)
    (code old now mid new sign : List ℕ) →
    i < length codes → code ≡ get_or codes i code → now ≡ old ++ shown_all byte (take i codes) →
    sign ≡ byte ∷ [] → mid ≡ now ++ sign → new ≡ mid ++ shown is_printed_code_sign code →
    new ≡ old ++ shown_all byte (take (i + 1) codes)
shown_all_more byte codes i code old now mid new sign lt item so_far one first second =
    let last = shown is_printed_code_sign code in
    let before = shown_all byte (take i codes) in
    second ∙ ap (λ t. t ++ last) (first ∙ ap (λ t. now ++ t) one)
    ∙ append_assoc now (byte ∷ []) last ∙ ap (λ t. t ++ byte ∷ last) so_far
    ∙ append_assoc old before (byte ∷ last)
    ∙ ap (λ t. old ++ t) (sym (shown_all-push byte (take i codes) code))
    ∙ ap (λ t. old ++ shown_all byte (take i codes ++ t ∷ [])) item
    ∙ ap (λ t. old ++ shown_all byte t) (sym (take_more codes i code lt))

-- the codes are put one behind the other
pub shown_list : (gram old first second third : List ℕ) (sem infl : List (List ℕ)) →
    first ≡ old ++ shown is_printed_code_sign gram → second ≡ first ++ shown_all PLUS sem →
    third ≡ second ++ shown_all COLON infl → third ≡ old ++ printed_list gram sem infl
shown_list gram old first second third sem infl e f g =
    let a = shielded is_printed_code_sign gram in
    let b = all_behind PLUS (all_shielded is_printed_code_sign sem) in
    let d = all_behind COLON (all_shielded is_printed_code_sign infl) in
    g ∙ ap (λ t. t ++ written d) (f ∙ ap (λ t. t ++ written b) e)
    ∙ append_assoc (old ++ written a) (written b) (written d)
    ∙ append_assoc old (written a) (written b ++ written d)
    ∙ ap (λ t. old ++ (written a ++ t)) (sym (written-append b d))
    ∙ ap (λ t. old ++ t) (sym (written-append a (b ++ d)))
