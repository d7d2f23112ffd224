-- A printable entry reads back from the line that is printed for it.
use Rattle.std.proofs.Common.{arith, ◌≡◌, ◌≢◌, ℕ, zero, suc, ◌<◌, ◌-◌, List, [], ◌∷◌, ◌++◌, Bool, true, false, refl, sym, ◌∙◌, ap, subst, nat_eq, get_or, length, length-append, take}
use Rattle.std.specs.Prelude.{◌==◌, if◌then◌else◌}
use Rattle.std.specs.List.{list_any}
use Rattle.std.specs.Str.{bytes_eq}
use lib.Pointwise.{bytes_decides}
use Rattle.std.proofs.lemmas.Bool.{or_parts, or_from, both_ways, cond-false, cond_both}
use Rattle.std.proofs.lemmas.List.{append-nil}
use Rattle.ux_base.specs.Lines.{lines_of, last_line, ends_in_return}
use Rattle.ux_base.proofs.LinesLemmas.{HasNoFeedBefore, lines_behind-last}
use Rattle.ux_dela.specs.Signs.{COMMA, DOT, SLASH, SPACE, HYPHEN, EQUALS, is_comma, is_dot, is_equals, is_form_sign, is_printed_code_sign}
use Rattle.ux_dela.specs.Written.{Written, bare, protected, written, IsPart, is_end, has_bare, meant, all_meant}
use Rattle.ux_dela.specs.Delaf.{IsSkipped, DelafParts, IsDelafLine, DelafSays, entries, entries_of, entry_as, has_mark, lemma_of}
use Rattle.ux_base.specs.EachLine.{AreSaid, no_line, line_then}
use Rattle.ux_dela.specs.Files.{AreEntries}
use Rattle.ux_dela.specs.Sound.{is_feed, HasNoFeed, IsSound}
use Rattle.ux_dela.specs.Printed.{shield, shielded, all_shielded, shielded_form, shielded_lemma, shielded_codes, printed, printed_codes, IsPrintable}
use Rattle.ux_dela.specs.declared.entry.Entry.{Entry}
use Rattle.ux_dela.proofs.CharactersLemmas.{written-append}
use Rattle.ux_dela.proofs.SoundLemmas.{no_feed-append}
use Rattle.ux_dela.proofs.TagLemmas.{none_bare}
use Rattle.ux_dela.proofs.PrintLemmas.{shield_part, shield_meant, shield_no_feed, shielded_part, shielded_meant, shielded_some, shielded_no_feed, all_shielded_meant, comma_other, dot_other, equals_other, printed_are_list, printed_part, printed_no_feed}

-- a text without a line feed and a carriage return at its end is one line
no_feed_at : (text : List ℕ) → HasNoFeed text → (k : ℕ) → nat_eq (get_or text k 0) 10 ≡ true → ⊥
no_feed_at [] none k is = both_ways (nat_eq 0 10) refl is
no_feed_at (b ∷ text) none zero is =
    both_ways (is_feed b) (or_parts (is_feed b) (list_any is_feed text) none).0 is
no_feed_at (b ∷ text) none (suc k) is =
    no_feed_at text (or_parts (is_feed b) (list_any is_feed text) none).1 k is

no_feed_before : (text : List ℕ) → HasNoFeed text → (end : ℕ) → HasNoFeedBefore text end
no_feed_before text none end = λ k lt is. no_feed_at text none k is

last_alone : (text : List ℕ) → 0 < length text → ends_in_return text ≡ false →
    last_line text ≡ text ∷ []
last_alone [] some other = absurd (omega (arith, some))
last_alone (b ∷ text) some other =
    ap (λ t. t ∷ [])
    (cond-false (ends_in_return (b ∷ text)) (take (length (b ∷ text) - 1) (b ∷ text)) (b ∷ text)
    other)

pub one_line : (text : List ℕ) → 0 < length text → HasNoFeed text → ends_in_return text ≡ false →
    lines_of text ≡ text ∷ []
one_line text some none other =
    lines_behind-last text [] (no_feed_before text none (length text))
    ∙ last_alone text some other

-- the form: a `/` in front is protected too
first_other : (t : Bool) (b : ℕ) (u : Bool) → (t ≡ false → u ≡ false → is_end is_comma b ≡ false) →
    (w : List Written) → IsPart is_comma w →
    IsPart is_comma ((if t then protected b else shield u b) ∷ w)
first_other true b u other w p = p
first_other false b u other w p = shield_part is_comma u b w (other refl) p

form_part : (form : List ℕ) → IsPart is_comma (shielded_form form)
form_part [] = tt
form_part (b ∷ form) =
    first_other (b == SLASH) b (is_form_sign b) (λ _ e. comma_other b e)
    (shielded is_form_sign form)
    (shielded_part is_comma is_form_sign comma_other form)

first_equals : (t : Bool) (b : ℕ) (u : Bool) → (u ≡ false → is_end is_equals b ≡ false) →
    (w : List Written) → IsPart is_equals w →
    IsPart is_equals ((if t then protected b else shield u b) ∷ w)
first_equals true b u other w p = p
first_equals false b u other w p = shield_part is_equals u b w other p

form_equals : (form : List ℕ) → IsPart is_equals (shielded_form form)
form_equals [] = tt
form_equals (b ∷ form) =
    first_equals (b == SLASH) b (is_form_sign b) (equals_other b) (shielded is_form_sign form)
    (shielded_part is_equals is_form_sign equals_other form)

first_meant : (t u : Bool) (b : ℕ) (w : List Written) →
    meant ((if t then protected b else shield u b) ∷ w) ≡ b ∷ meant w
first_meant true u b w = refl
first_meant false u b w = shield_meant u b w

form_meant : (form : List ℕ) → meant (shielded_form form) ≡ form
form_meant [] = refl
form_meant (b ∷ form) =
    first_meant (b == SLASH) (is_form_sign b) b (shielded is_form_sign form)
    ∙ ap (λ t. b ∷ t) (shielded_meant is_form_sign form)

first_no_feed : (t u : Bool) (b : ℕ) (w : List Written) → is_feed b ≡ false →
    HasNoFeed (written w) → HasNoFeed (written ((if t then protected b else shield u b) ∷ w))
first_no_feed true u b w other p = or_from (is_feed b) (list_any is_feed (written w)) other p
first_no_feed false u b w other p = shield_no_feed u b w other p

form_no_feed : (form : List ℕ) → HasNoFeed form → HasNoFeed (written (shielded_form form))
form_no_feed [] p = refl
form_no_feed (b ∷ form) p =
    let parts = or_parts (is_feed b) (list_any is_feed form) p in
    first_no_feed (b == SLASH) (is_form_sign b) b (shielded is_form_sign form) parts.0
    (shielded_no_feed is_form_sign form parts.1)

form_some : (form : List ℕ) → form ≢ [] → shielded_form form ≢ []
form_some form some none = some (sym (form_meant form) ∙ ap meant none)

first_not_slash : (t u : Bool) (b : ℕ) (w : List Written) (rest : List ℕ) → t ≡ (b == SLASH) →
    IsSkipped (written ((if t then protected b else shield u b) ∷ w) ++ rest) → ⊥
first_not_slash true u b w rest e is = omega (arith, is)
first_not_slash false true b w rest e is = omega (arith, is)
first_not_slash false false b w rest e is =
    both_ways (b == SLASH) (sym e) (ap (λ x. x == SLASH) is)

-- a line that begins with a form isn't skipped
form_counts : (form rest : List ℕ) → form ≢ [] →
    IsSkipped (written (shielded_form form) ++ rest) → ⊥
form_counts [] rest some is = some refl
form_counts (b ∷ form) rest some is =
    first_not_slash (b == SLASH) (is_form_sign b) b (shielded is_form_sign form) rest refl is

-- the lemma: it is left out where it is the form
lemma_part : (form lemma : List ℕ) → IsPart is_dot (shielded_lemma form lemma)
lemma_part form lemma =
    cond_both (bytes_eq lemma form) [] (shielded is_form_sign lemma) (λ w. IsPart is_dot w)
    (λ e. tt) (λ e. shielded_part is_dot is_form_sign dot_other lemma)

lemma_equals : (form lemma : List ℕ) → IsPart is_equals (shielded_lemma form lemma)
lemma_equals form lemma =
    cond_both (bytes_eq lemma form) [] (shielded is_form_sign lemma) (λ w. IsPart is_equals w)
    (λ e. tt) (λ e. shielded_part is_equals is_form_sign equals_other lemma)

lemma_no_feed : (form lemma : List ℕ) → HasNoFeed lemma →
    HasNoFeed (written (shielded_lemma form lemma))
lemma_no_feed form lemma p =
    cond_both (bytes_eq lemma form) [] (shielded is_form_sign lemma)
    (λ w. HasNoFeed (written w)) (λ e. refl) (λ e. shielded_no_feed is_form_sign lemma p)

not_left_out : (form lemma : List Written) → lemma ≢ [] → lemma_of form lemma ≡ lemma
not_left_out form [] some = absurd (some refl)
not_left_out form (x ∷ lemma) some = refl

lemma_meant : (form lemma : List ℕ) → lemma ≢ [] →
    meant (lemma_of (shielded_form form) (shielded_lemma form lemma)) ≡ lemma
lemma_meant form lemma some =
    cond_both (bytes_eq lemma form) [] (shielded is_form_sign lemma)
    (λ w. meant (lemma_of (shielded_form form) w) ≡ lemma)
    (λ e. form_meant form ∙ sym ((bytes_decides lemma form).0 e))
    (λ e. ap meant (not_left_out (shielded_form form) (shielded is_form_sign lemma)
    (shielded_some is_form_sign lemma some)) ∙ shielded_meant is_form_sign lemma)

-- the parts of the line that is printed
abbrev pub printed_parts : Entry → DelafParts
printed_parts e = record {
  form = shielded_form e.form;
  lemma = shielded_lemma e.form e.lemma;
  gram = shielded is_printed_code_sign e.gram;
  sem = all_shielded is_printed_code_sign e.sem;
  infl = all_shielded is_printed_code_sign e.infl;
  codes = shielded_codes e.gram e.sem e.infl;
  comment = [];
}

printed_whole : (e : Entry) →
    printed e ≡ written (shielded_form e.form ++ bare COMMA ∷ (shielded_lemma e.form e.lemma
    ++ bare DOT ∷ shielded_codes e.gram e.sem e.infl)) ++ []
printed_whole e =
    let l = shielded_lemma e.form e.lemma in
    let d = shielded_codes e.gram e.sem e.infl in
    let f = shielded_form e.form in
    sym (append-nil (written (f ++ bare COMMA ∷ (l ++ bare DOT ∷ d)))
    ∙ written-append f (bare COMMA ∷ (l ++ bare DOT ∷ d))
    ∙ ap (λ t. written f ++ COMMA ∷ t) (written-append l (bare DOT ∷ d)))

pub printed_line : (e : Entry) → IsSound e → IsDelafLine (printed e) (printed_parts e)
printed_line e is = record {
  counts = form_counts e.form _ is.form.some;
  cut = record {
    whole = printed_whole e;
    is_form = form_part e.form;
    is_lemma = lemma_part e.form e.lemma;
    are_codes = printed_part e.gram e.sem e.infl;
    is_comment = tt;
  };
  some_form = form_some e.form is.form.some;
  list = printed_are_list e.gram e.sem e.infl is.codes;
}

printed_entry : (e : Entry) → IsSound e → entry_as EQUALS (printed_parts e) ≡ e
printed_entry e is =
    let make = λ (form lemma gram : List ℕ) (sem infl : List (List ℕ)).
    (let made : Entry =
    record { form = form; lemma = lemma; gram = gram; sem = sem; infl = infl } in
    made) in
    let p = printed_parts e in
    let lemma = meant (lemma_of p.form p.lemma) in
    ap (λ f. make f lemma (meant p.gram) (all_meant p.sem) (all_meant p.infl)) (form_meant e.form)
    ∙ ap (λ l. make e.form l (meant p.gram) (all_meant p.sem) (all_meant p.infl))
    (lemma_meant e.form e.lemma is.lemma.some)
    ∙ ap (λ g. make e.form e.lemma g (all_meant p.sem) (all_meant p.infl))
    (shielded_meant is_printed_code_sign e.gram)
    ∙ ap (λ s. make e.form e.lemma e.gram s (all_meant p.infl))
    (all_shielded_meant is_printed_code_sign e.sem)
    ∙ ap (λ i. make e.form e.lemma e.gram e.sem i) (all_shielded_meant is_printed_code_sign e.infl)

printed_alone : (e : Entry) → IsSound e → entries_of (printed_parts e) ≡ e ∷ []
printed_alone e is =
    let p = printed_parts e in
    let none : has_mark p ≡ false =
    or_from (has_bare is_equals p.form) (has_bare is_equals p.lemma)
    (none_bare is_equals p.form (form_equals e.form))
    (none_bare is_equals p.lemma (lemma_equals e.form e.lemma)) in
    cond-false (has_mark p) (entry_as SPACE p ∷ (entry_as HYPHEN p ∷ [])) (entry_as EQUALS p ∷ [])
    none
    ∙ ap (λ t. t ∷ []) (printed_entry e is)

entry_no_feed : (e : Entry) → IsSound e → HasNoFeed (printed e)
entry_no_feed e is =
    no_feed-append (written (shielded_form e.form)) _ (form_no_feed e.form is.form.no_feed)
    (no_feed-append (written (shielded_lemma e.form e.lemma)) (DOT ∷ printed_codes e)
    (lemma_no_feed e.form e.lemma is.lemma.no_feed)
    (printed_no_feed e.gram e.sem e.infl is.codes))

-- the line of a printable entry stands alone
pub printed_is_line : (e : Entry) → IsPrintable e → lines_of (printed e) ≡ printed e ∷ []
printed_is_line e is =
    let some : 0 < length (printed e) =
    omega (
      arith,
      length-append (written (shielded_form e.form))
          (COMMA ∷ (written (shielded_lemma e.form e.lemma) ++ (DOT ∷ printed_codes e))),
    ) in
    one_line (printed e) some (entry_no_feed e is.sound) is.no_return

-- and says that entry alone
pub printed_reads : (e : Entry) → IsPrintable e → AreEntries (printed e) (e ∷ [])
printed_reads e is =
    subst (λ (t : List (List ℕ)). AreSaid DelafSays t (e ∷ [])) (sym (printed_is_line e is))
    (line_then (printed e) [] (e ∷ []) []
    (subst (λ (t : List Entry). DelafSays (printed e) t) (printed_alone e is.sound)
    (entries (printed e) (printed_parts e) (printed_line e is.sound))) no_line)
