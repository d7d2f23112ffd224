-- A printed entry is what its line says, whatever ends the line.
use Rattle.std.proofs.Common.{◌≡◌, ◌≢◌, ℕ, List, [], ◌∷◌, Bool, true, false, refl, sym, ◌∙◌, ap}
use Rattle.std.specs.Prelude.{◌==◌, if◌then◌else◌}
use Rattle.std.specs.List.{list_any}
use Rattle.std.specs.Str.{bytes_eq}
use lib.Pointwise.{bytes_decides}
use Rattle.std.proofs.lemmas.Bool.{or_parts, or_from, cond-false, cond_both}
use Rattle.ux_dela.specs.Signs.{DOT, SLASH, SPACE, HYPHEN, EQUALS, is_equals, is_form_sign, is_printed_code_sign}
use Rattle.ux_dela.specs.Written.{Written, protected, written, IsPart, is_end, has_bare, meant, all_meant}
use Rattle.ux_dela.specs.Delaf.{entries_of, entry_as, has_mark, lemma_of}
use Rattle.ux_dela.specs.Sound.{is_feed, HasNoFeed, IsSound}
use Rattle.ux_dela.specs.Printed.{shield, shielded, shielded_form, shielded_lemma, printed, printed_codes}
use Rattle.ux_dela.specs.declared.entry.Entry.{Entry}
use Rattle.ux_dela.proofs.RoundTripLemmas.{printed_parts}
use Rattle.ux_dela.proofs.SoundLemmas.{no_feed-append}
use Rattle.ux_dela.proofs.TagLemmas.{none_bare}
use Rattle.ux_dela.proofs.PrintLemmas.{shield_part, shield_meant, shield_no_feed, shielded_part, shielded_meant, shielded_some, shielded_no_feed, all_shielded_meant, equals_other, printed_no_feed}

first_equals : (t : Bool) (b : ℕ) (u : Bool) → (u ≡ false → is_end is_equals b ≡ false) →
    (w : List Written) → IsPart is_equals w →
    IsPart is_equals ((if t then protected b else shield u b) ∷ w)
first_equals true b u other w p = p
first_equals false b u other w p = shield_part is_equals u b w other p

form_equals : (form : List ℕ) → IsPart is_equals (shielded_form form)
form_equals [] = tt
form_equals (b ∷ form) =
    first_equals (b == SLASH) b (is_form_sign b) (equals_other b) (shielded is_form_sign form)
    (shielded_part is_equals is_form_sign equals_other form)

first_meant : (t u : Bool) (b : ℕ) (w : List Written) →
    meant ((if t then protected b else shield u b) ∷ w) ≡ b ∷ meant w
first_meant true u b w = refl
first_meant false u b w = shield_meant u b w

form_meant : (form : List ℕ) → meant (shielded_form form) ≡ form
form_meant [] = refl
form_meant (b ∷ form) =
    first_meant (b == SLASH) (is_form_sign b) b (shielded is_form_sign form)
    ∙ ap (λ t. b ∷ t) (shielded_meant is_form_sign form)

first_no_feed : (t u : Bool) (b : ℕ) (w : List Written) → is_feed b ≡ false →
    HasNoFeed (written w) → HasNoFeed (written ((if t then protected b else shield u b) ∷ w))
first_no_feed true u b w other p = or_from (is_feed b) (list_any is_feed (written w)) other p
first_no_feed false u b w other p = shield_no_feed u b w other p

form_no_feed : (form : List ℕ) → HasNoFeed form → HasNoFeed (written (shielded_form form))
form_no_feed [] p = refl
form_no_feed (b ∷ form) p =
    let parts = or_parts (is_feed b) (list_any is_feed form) p in
    first_no_feed (b == SLASH) (is_form_sign b) b (shielded is_form_sign form) parts.0
    (shielded_no_feed is_form_sign form parts.1)

lemma_equals : (form lemma : List ℕ) → IsPart is_equals (shielded_lemma form lemma)
lemma_equals form lemma =
    cond_both (bytes_eq lemma form) [] (shielded is_form_sign lemma) (λ w. IsPart is_equals w)
    (λ e. tt) (λ e. shielded_part is_equals is_form_sign equals_other lemma)

lemma_no_feed : (form lemma : List ℕ) → HasNoFeed lemma →
    HasNoFeed (written (shielded_lemma form lemma))
lemma_no_feed form lemma p =
    cond_both (bytes_eq lemma form) [] (shielded is_form_sign lemma)
    (λ w. HasNoFeed (written w)) (λ e. refl) (λ e. shielded_no_feed is_form_sign lemma p)

not_left_out : (form lemma : List Written) → lemma ≢ [] → lemma_of form lemma ≡ lemma
not_left_out form [] some = absurd (some refl)
not_left_out form (x ∷ lemma) some = refl

lemma_meant : (form lemma : List ℕ) → lemma ≢ [] →
    meant (lemma_of (shielded_form form) (shielded_lemma form lemma)) ≡ lemma
lemma_meant form lemma some =
    cond_both (bytes_eq lemma form) [] (shielded is_form_sign lemma)
    (λ w. meant (lemma_of (shielded_form form) w) ≡ lemma)
    (λ e. form_meant form ∙ sym ((bytes_decides lemma form).0 e))
    (λ e. ap meant (not_left_out (shielded_form form) (shielded is_form_sign lemma)
    (shielded_some is_form_sign lemma some)) ∙ shielded_meant is_form_sign lemma)

printed_entry : (e : Entry) → IsSound e → entry_as EQUALS (printed_parts e) ≡ e
printed_entry e is =
    let make = λ (form lemma gram : List ℕ) (sem infl : List (List ℕ)).
    (let made : Entry =
    record { form = form; lemma = lemma; gram = gram; sem = sem; infl = infl } in
    made) in
    let p = printed_parts e in
    let lemma = meant (lemma_of p.form p.lemma) in
    ap (λ f. make f lemma (meant p.gram) (all_meant p.sem) (all_meant p.infl)) (form_meant e.form)
    ∙ ap (λ l. make e.form l (meant p.gram) (all_meant p.sem) (all_meant p.infl))
    (lemma_meant e.form e.lemma is.lemma.some)
    ∙ ap (λ g. make e.form e.lemma g (all_meant p.sem) (all_meant p.infl))
    (shielded_meant is_printed_code_sign e.gram)
    ∙ ap (λ s. make e.form e.lemma e.gram s (all_meant p.infl))
    (all_shielded_meant is_printed_code_sign e.sem)
    ∙ ap (λ i. make e.form e.lemma e.gram e.sem i) (all_shielded_meant is_printed_code_sign e.infl)

-- the printed line says the entry alone
pub printed_alone : (e : Entry) → IsSound e → entries_of (printed_parts e) ≡ e ∷ []
printed_alone e is =
    let p = printed_parts e in
    let none : has_mark p ≡ false =
    or_from (has_bare is_equals p.form) (has_bare is_equals p.lemma)
    (none_bare is_equals p.form (form_equals e.form))
    (none_bare is_equals p.lemma (lemma_equals e.form e.lemma)) in
    cond-false (has_mark p) (entry_as SPACE p ∷ (entry_as HYPHEN p ∷ [])) (entry_as EQUALS p ∷ [])
    none
    ∙ ap (λ t. t ∷ []) (printed_entry e is)

-- and has no line feed
pub entry_no_feed : (e : Entry) → IsSound e → HasNoFeed (printed e)
entry_no_feed e is =
    no_feed-append (written (shielded_form e.form)) _ (form_no_feed e.form is.form.no_feed)
    (no_feed-append (written (shielded_lemma e.form e.lemma)) (DOT ∷ printed_codes e)
    (lemma_no_feed e.form e.lemma is.lemma.no_feed)
    (printed_no_feed e.gram e.sem e.infl is.codes))
