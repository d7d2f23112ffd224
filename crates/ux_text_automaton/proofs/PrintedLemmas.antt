-- Entries that are printed alike are one entry.
use Rattle.std.proofs.Common.{◌≡◌, ◌≢◌, ℕ, List, [], ◌∷◌, ◌++◌, Bool, true, false, refl, sym, ◌∙◌, ap, subst}
use Rattle.std.specs.Prelude.{◌==◌, cond}
use Rattle.std.specs.Str.{bytes_eq}
use Rattle.std.proofs.lemmas.List.{append_cancel_right}
use Rattle.std.proofs.lemmas.Slice.Eq.{bytes_eq-Decides}
use Rattle.ux_dela.specs.Codes.{IsCodeList}
use Rattle.ux_dela.specs.Delaf.{IsDelafLine}
use Rattle.ux_dela.specs.Printed.{printed, shield, shielded, shielded_form, shielded_lemma}
use Rattle.ux_dela.specs.Signs.{SLASH, is_form_sign, is_printed_code_sign}
use Rattle.ux_dela.specs.Sound.{IsSound}
use Rattle.ux_dela.specs.Written.{Written, all_meant, meant, protected}
use Rattle.ux_dela.specs.declared.entry.Entry.{Entry}
use Rattle.ux_dela.proofs.CodesLemmas.{one_list}
use Rattle.ux_dela.proofs.ExclusionLemmas.{one_cut}
use Rattle.ux_dela.proofs.PrintLemmas.{all_shielded_meant, shield_meant, shielded_meant, shielded_some}
use Rattle.ux_dela.proofs.RoundTripLemmas.{printed_line, printed_parts}
use Rattle.ux_tokens.specs.Tokens.{CLOSING_BRACE, OPENING_BRACE}

-- A TEXT BEHIND ITS BACKSLASHES

first_meant : (slash sign : Bool) (b : ℕ) (w : List Written) →
    meant (cond slash (protected b) (shield sign b) ∷ w) ≡ b ∷ meant w
first_meant true sign b w = refl
first_meant false sign b w = shield_meant sign b w

form_meant : (form : List ℕ) → meant (shielded_form form) ≡ form
form_meant [] = refl
form_meant (b ∷ form) =
    first_meant (b == SLASH) (is_form_sign b) b (shielded is_form_sign form)
    ∙ ap (λ (t : List ℕ). b ∷ t) (shielded_meant is_form_sign form)

one_form : (form other : List ℕ) → shielded_form form ≡ shielded_form other → form ≡ other
one_form form other same = sym (form_meant form) ∙ (ap meant same ∙ form_meant other)

one_text : (signs : ℕ → Bool) (text other : List ℕ) → shielded signs text ≡ shielded signs other →
    text ≡ other
one_text signs text other same =
    sym (shielded_meant signs text) ∙ (ap meant same ∙ shielded_meant signs other)

-- a lemma that is left out is the form, and no other lemma is printed so
lemma_by : (left also : Bool) (form lemma other : List ℕ) → bytes_eq lemma form ≡ left →
    bytes_eq other form ≡ also → lemma ≢ [] → other ≢ [] →
    cond left [] (shielded is_form_sign lemma) ≡ cond also [] (shielded is_form_sign other) →
    lemma ≡ other
lemma_by true true form lemma other is is' some some' same =
    (bytes_eq-Decides lemma form).0 is ∙ sym ((bytes_eq-Decides other form).0 is')
lemma_by true false form lemma other is is' some some' same =
    absurd (shielded_some is_form_sign other some' (sym same))
lemma_by false true form lemma other is is' some some' same =
    absurd (shielded_some is_form_sign lemma some same)
lemma_by false false form lemma other is is' some some' same =
    one_text is_form_sign lemma other same

one_lemma : (form lemma other : List ℕ) → lemma ≢ [] → other ≢ [] →
    shielded_lemma form lemma ≡ shielded_lemma form other → lemma ≡ other
one_lemma form lemma other some some' same =
    lemma_by (bytes_eq lemma form) (bytes_eq other form) form lemma other refl refl some some' same

-- ENTRIES

-- entries with one line are one
pub printed_once : (a b : Entry) → IsSound a → IsSound b → printed a ≡ printed b → a ≡ b
printed_once a b sound sound' same =
    let p = printed_parts a in
    let q = printed_parts b in
    let line = printed a in
    let first = printed_line a sound in
    let second = subst (λ (l : List ℕ). IsDelafLine l q) (sym same) (printed_line b sound') in
    let cut = one_cut line p.form p.lemma p.codes p.comment first.cut q.form q.lemma q.codes q.comment
    second.cut in
    let list = one_list p.codes p.gram q.gram p.sem p.infl q.sem q.infl first.list
    (subst (λ (w : List Written). IsCodeList w q.gram q.sem q.infl) (sym cut.2) second.list) in
    let form = one_form a.form b.form cut.0 in
    let lemma = one_lemma b.form a.lemma b.lemma sound.lemma.some sound'.lemma.some
    (subst (λ (f : List ℕ). shielded_lemma f a.lemma ≡ shielded_lemma b.form b.lemma) form cut.1) in
    let gram = one_text is_printed_code_sign a.gram b.gram list.0 in
    let sem : a.sem ≡ b.sem = sym (all_shielded_meant is_printed_code_sign a.sem)
    ∙ (ap all_meant list.1 ∙ all_shielded_meant is_printed_code_sign b.sem) in
    let infl : a.infl ≡ b.infl = sym (all_shielded_meant is_printed_code_sign a.infl)
    ∙ (ap all_meant list.2 ∙ all_shielded_meant is_printed_code_sign b.infl) in
    λ i. record { form = form i; lemma = lemma i; gram = gram i; sem = sem i; infl = infl i }

behind : List ℕ → List ℕ
behind [] = []
behind (b ∷ text) = text

-- and so are entries with one line in braces
pub braced_once : (a b : Entry) → IsSound a → IsSound b →
    OPENING_BRACE ∷ (printed a ++ CLOSING_BRACE ∷ []) ≡ OPENING_BRACE ∷ (printed b ++ CLOSING_BRACE ∷ [])
    → a ≡ b
unfolding behind
braced_once a b sound sound' same =
    printed_once a b sound sound'
    (append_cancel_right (printed a) (printed b) (CLOSING_BRACE ∷ []) (ap behind same))
