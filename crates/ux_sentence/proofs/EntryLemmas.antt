-- Whether a line of forms has a comment is told by the line with one more backslash: it ends the line,
-- and so is refused, unless it stands in the comment.
use Rattle.std.proofs.Common.{arith, ◌-◌, take, ◌≡◌, ◌≢◌, ℕ, List, [], ◌∷◌, ◌++◌, refl, sym, ◌∙◌, ap, subst, append_assoc, length, length-append, Bool, true, false, ◌↔◌, Option, Some, None}
use Rattle.std.specs.Prelude.{MatchOption, option_to_list, is_some}
use Rattle.std.specs.List.{list_any}
use Rattle.std.proofs.lemmas.List.{append-nil}
use Rattle.std.proofs.lemmas.List.Folds.{list_any-append}
use Rattle.std.proofs.lemmas.Bool.{or_parts, both_ways}
use Rattle.ux_dela.specs.Signs.{COMMA, DOT, BACKSLASH, is_slash}
use Rattle.ux_dela.specs.Written.{bare, written}
use Rattle.ux_dela.specs.Delaf.{DelafParts, IsDelafLine, IsComment, IsSkipped, DelafSays, RefusesDelaf, EndsInBackslash, in_codes, skipped, entries, entries_of}
use Rattle.ux_dela.specs.declared.entry.Entry.{Entry}
use Rattle.ux_dela.specs.declared.error.DelaError.{DelaError}
use Rattle.ux_dela.specs.declared.error.DelaError.TheVariants.{BadEscape}
use Rattle.ux_dela.proofs.ExclusionLemmas.{says_excluded}
use Rattle.ux_dela.proofs.UniqueLaws.{says_once}
use Rattle.ux_sentence.specs.Readings.{IsEntryBody}
use Rattle.ux_sentence.proofs.ReadingLemmas.{body_says}

-- the line with a backslash behind it
abbrev pub opened : List ℕ → List ℕ
opened line = line ++ BACKSLASH ∷ []

-- it isn't skipped where the line isn't
opened_counts : (line : List ℕ) → (IsSkipped line → ⊥) → IsSkipped (opened line) → ⊥
opened_counts [] counts is = counts tt
opened_counts (b ∷ line) counts is = counts is

-- a line without a comment is refused with a backslash behind it
pub open_refused : (line : List ℕ) (p : DelafParts) → IsDelafLine line p → p.comment ≡ [] →
    RefusesDelaf (opened line) 1 (BadEscape 1 (length line))
open_refused line p is none =
    let text = written (p.form ++ bare COMMA ∷ (p.lemma ++ bare DOT ∷ p.codes)) in
    let whole : text ≡ line =
    sym (is.cut.whole ∙ ap (λ (t : List ℕ). text ++ t) none ∙ append-nil text) in
    record {
      counts = opened_counts line is.counts;
      fault = (
        refl,
        subst (λ (t : List ℕ). EndsInBackslash (opened t)) whole
            (in_codes p.form p.lemma p.codes is.cut.is_form is.cut.is_lemma is.cut.are_codes),
        sym (length-append line (BACKSLASH ∷ [])),
      );
    }

comment_open : (comment : List ℕ) → comment ≢ [] → IsComment comment → IsComment (opened comment)
comment_open [] some is = absurd (some refl)
comment_open (b ∷ comment) some is = is

-- a line with a comment says its entries with a backslash behind it
pub comment_said : (line : List ℕ) (p : DelafParts) → IsDelafLine line p → p.comment ≢ [] →
    DelafSays (opened line) (entries_of p)
comment_said line p is some =
    let text = written (p.form ++ bare COMMA ∷ (p.lemma ++ bare DOT ∷ p.codes)) in
    let q : DelafParts = record {
      form = p.form;
      lemma = p.lemma;
      gram = p.gram;
      sem = p.sem;
      infl = p.infl;
      codes = p.codes;
      comment = opened p.comment;
    } in
    entries (opened line) q (record {
      counts = opened_counts line is.counts;
      cut = record {
        whole = ap opened is.cut.whole ∙ append_assoc text p.comment (BACKSLASH ∷ []);
        is_form = is.cut.is_form;
        is_lemma = is.cut.is_lemma;
        are_codes = is.cut.are_codes;
        is_comment = comment_open p.comment some is.cut.is_comment;
      };
      some_form = is.some_form;
      list = is.list;
    })

-- a line without a slash has no comment
slash_in : (front comment : List ℕ) → list_any is_slash (front ++ comment) ≡ false →
    IsComment comment → comment ≡ []
slash_in front [] none is = refl
slash_in front (b ∷ comment) none is =
    let both = or_parts (list_any is_slash front) (list_any is_slash (b ∷ comment))
    (sym (list_any-append is_slash front (b ∷ comment)) ∙ none) in
    let here = (or_parts (is_slash b) (list_any is_slash comment) both.1).0 in
    absurd (both_ways (is_slash b) here (ap is_slash is))

pub no_slash : (line : List ℕ) (p : DelafParts) → IsDelafLine line p →
    list_any is_slash line ≡ false → p.comment ≡ []
no_slash line p is none =
    slash_in (written (p.form ++ bare COMMA ∷ (p.lemma ++ bare DOT ∷ p.codes))) p.comment
    (sym (ap (list_any is_slash) is.cut.whole) ∙ none) is.cut.is_comment

empty_or : (comment : List ℕ) → (comment ≢ [] → ⊥) → comment ≡ []
empty_or [] none = refl
empty_or (b ∷ comment) none = absurd (none (λ e. absurd (omega (arith, ap length e))))

-- a body with another number of entries is none
pub other_number : (body : List ℕ) (said : List Entry) (entry : Entry) → DelafSays body said →
    IsEntryBody body entry → length said ≡ 1
other_number body said entry says is =
    ap length (says_once body said (entry ∷ []) says (body_says body entry is))

-- a body that is refused is none
pub refused_body : (body : List ℕ) (error : DelaError) (entry : Entry) →
    RefusesDelaf body 1 error → IsEntryBody body entry → ⊥
refused_body body error entry refuses is =
    says_excluded body 1 (entry ∷ []) error (body_says body entry is) refuses

-- the one entry of a line without a comment
pub only_entry : (body : List ℕ) (said : List Entry) (entry : Entry) → DelafSays body said →
    said ≡ entry ∷ [] → ((p : DelafParts) → IsDelafLine body p → p.comment ≢ [] → ⊥) →
    IsEntryBody body entry
only_entry body said entry (skipped line is) same none = absurd (omega (arith, ap length same))
only_entry body said entry (entries line p is) same none = record {
  parts = p;
  line = is;
  alone = same;
  no_comment = empty_or p.comment (none p is);
}

-- the entry that is taken out of a list of one
pub popped : (body : List ℕ) (said rest : List Entry) (found : Option Entry) →
    DelafSays body said → said ≡ rest ++ option_to_list found → length said ≡ 1 →
    length rest ≡ 0 →
    ((p : DelafParts) → IsDelafLine body p → p.comment ≢ [] → ⊥) →
    MatchOption found ((entry : Entry) → IsEntryBody body entry → ⊥) (IsEntryBody body)
popped body said [] None says is one few none = absurd (omega (arith, one, ap length is))
popped body said (x ∷ rest) None says is one few none = absurd (omega (arith, few))
popped body said [] (Some entry) says is one few none =
    only_entry body said entry says is none
popped body said (x ∷ rest) (Some entry) says is one few none = absurd (omega (arith, few))

-- whether the line with a backslash behind it says entries tells whether there is a comment
pub comment_told : {X : Type 0} (items : X → List Entry) (line longer : List ℕ)
    (found : Option X) → longer ≡ opened line →
    MatchOption found ((said : List Entry) → DelafSays longer said → ⊥)
    (λ v. DelafSays longer (items v)) → (parts : DelafParts) → IsDelafLine line parts →
    (is_some found ≡ true) ↔ (parts.comment ≢ [])
comment_told items line longer None is told parts whole = (
  λ t. absurd (both_ways false refl t),
  λ some. absurd (told (entries_of parts)
      (subst (λ (t : List ℕ). DelafSays t (entries_of parts)) (sym is)
      (comment_said line parts whole some))),
)
comment_told items line longer (Some v) is told parts whole = (
  λ t none. says_excluded (opened line) 1 (items v) (BadEscape 1 (length line))
      (subst (λ (t : List ℕ). DelafSays t (items v)) is told) (open_refused line parts whole none),
  λ some. refl,
)

-- where there is no slash, there is no comment
pub no_slash_told : (line : List ℕ) (b : Bool) → list_any is_slash line ≡ false → b ≡ false →
    (parts : DelafParts) → IsDelafLine line parts → (b ≡ true) ↔ (parts.comment ≢ [])
no_slash_told line b none is parts whole =
    (λ t. absurd (both_ways b is t), λ some. absurd (some (no_slash line parts whole none)))

-- the test that there is no comment
pub no_comment_told : (body : List ℕ) (b : Bool) → b ≡ false →
    ((parts : DelafParts) → IsDelafLine body parts → (b ≡ true) ↔ (parts.comment ≢ [])) →
    (p : DelafParts) → IsDelafLine body p → p.comment ≢ [] → ⊥
no_comment_told body b is told p whole some = both_ways b is ((told p whole).1 some)

-- a body with a comment is none
pub comment_none : (body : List ℕ) (b : Bool) (entry : Entry) → b ≡ true →
    ((parts : DelafParts) → IsDelafLine body parts → (b ≡ true) ↔ (parts.comment ≢ [])) →
    IsEntryBody body entry → ⊥
comment_none body b entry is told body_is =
    (told body_is.parts body_is.line).0 is body_is.no_comment

-- what is left of a list of one, when its last entry was taken out
pub none_left : (said rest : List Entry) (n : ℕ) → n ≡ 1 → rest ≡ take (n - 1) said →
    length rest ≡ 0
none_left said rest n one is = ap length (is ∙ ap (λ (m : ℕ). take (m - 1) said) one)
