-- The body of which a mask is printed: its names with their backslashes, in the order of the parts.
-- It asks for what the body asks for that was read.
use Rattle.std.proofs.Common.{◌≡◌, ◌≢◌, ℕ, List, [], ◌∷◌, ◌++◌, true, false, inl, inr, refl, sym, ◌∙◌, ap, Option, Some, None}
use Rattle.std.specs.Prelude.{◌==◌, if◌then◌else◌}
use Rattle.std.specs.List.{flat_map}
use Rattle.std.specs.Str.{bytes_eq}
use lib.Pointwise.{bytes_decides}
use Rattle.std.proofs.lemmas.Bool.{both_ways, cond_both, eqb-true, false_from_ne_true, or_cases}
use Rattle.ux_dela.specs.Signs.{BACKSLASH}
use Rattle.ux_dela.specs.Written.{Written, bare, protected, meant, is_end}
use Rattle.ux_dela.specs.Printed.{shielded, all_shielded}
use Rattle.ux_dela.proofs.PrintLemmas.{all_shielded_meant, shielded_meant, shielded_part, shielded_some}
use Rattle.ux_masks.specs.Signs.{is_sign}
use Rattle.ux_masks.specs.Texts.{IsName, Target, a_code, a_lemma, a_lemma_with, a_form, a_form_with, Asked, needed, forbidden, Body, codes_if_any, code_in, form_in, lemma_in, lemma_or, needed_in, forbidden_in, parts_of}
use Rattle.ux_masks.specs.declared.lexical.Parts.{Parts}
use Rattle.ux_masks.proofs.EndLemmas.{sign_has}
use Rattle.ux_fst2.specs.Masks.{is_name_sign}

-- a name as it is printed
abbrev pub spelled_name : List ℕ → List Written
spelled_name name = shielded is_name_sign name

-- what stands bare in it is no sign
name_other : (b : ℕ) → is_name_sign b ≡ false → is_end is_sign b ≡ false
name_other b other =
    false_from_ne_true (is_end is_sign b)
    (λ end. elim (or_cases (b == BACKSLASH) (is_sign b) end) [
      | inl l ↦ both_ways (is_name_sign b) other (ap is_name_sign (eqb-true b BACKSLASH l))
      | inr r ↦ both_ways (is_name_sign b) other
          (sign_has (λ x. is_name_sign x ≡ true) refl refl refl refl refl refl refl refl b r)
    ])

-- so it is a name
pub spelled_is : (name : List ℕ) → name ≢ [] → IsName (spelled_name name)
spelled_is name some = record {
  some = shielded_some is_name_sign name some;
  part = shielded_part is_sign is_name_sign name_other name;
}

-- a name means a text that isn't empty
pub meant_some : (name : List Written) → IsName name → meant name ≢ []
meant_some [] is none = is.some refl
meant_some (bare b ∷ name) is none = cc
meant_some (protected b ∷ name) is none = cc

-- THE BODY

-- the first of the codes stands in the target, the others behind `+`
abbrev pub first_code : List (List ℕ) → Option (List Written)
first_code [] = None
first_code (code ∷ later) = Some (spelled_name code)

abbrev pub later_codes : List (List ℕ) → List (List ℕ)
later_codes [] = []
later_codes (code ∷ later) = later

abbrev pub all_needed : List (List ℕ) → List Asked
all_needed [] = []
all_needed (code ∷ later) = needed (spelled_name code) ∷ all_needed later

abbrev pub all_forbidden : List (List ℕ) → List Asked
all_forbidden [] = []
all_forbidden (code ∷ later) = forbidden (spelled_name code) ∷ all_forbidden later

-- the lemma is left out where it is the form
abbrev pub spelled_lemma : (form lemma : List ℕ) → Option (List Written)
spelled_lemma form lemma = if bytes_eq lemma form then None else Some (spelled_name lemma)

abbrev pub form_target : (form lemma : List ℕ) → (need : List (List ℕ)) → Target
form_target form lemma need =
    a_form_with (spelled_name form) (spelled_lemma form lemma) (first_code need)

abbrev pub lemma_target : (lemma : List ℕ) → (need : List (List ℕ)) → Target
lemma_target lemma need = a_lemma_with (spelled_name lemma) (first_code need)

abbrev pub spelled_target : Target → (need : List (List ℕ)) → Target
spelled_target (a_code name) need = a_code name
spelled_target (a_lemma name) need = lemma_target (meant name) need
spelled_target (a_lemma_with lemma code) need = lemma_target (meant lemma) need
spelled_target (a_form form lemma) need = form_target (meant form) (lemma_or form lemma) need
spelled_target (a_form_with form lemma code) need =
    form_target (meant form) (lemma_or form lemma) need

-- the body as it is printed
abbrev pub spelled : Body → Body
spelled body = record {
  target = spelled_target body.target (parts_of body).need;
  asked = all_needed (later_codes (parts_of body).need) ++ all_forbidden (parts_of body).forbid;
  alternatives = all_shielded is_name_sign (parts_of body).infl;
}

-- IT ASKS FOR THE SAME

needs_asked : (needs forbids : List (List ℕ)) →
    flat_map needed_in (all_needed needs ++ all_forbidden forbids) ≡ needs
needs_asked [] [] = refl
needs_asked [] (code ∷ forbids) = needs_asked [] forbids
needs_asked (code ∷ needs) forbids =
    ap (λ (c : List ℕ). c ∷ flat_map needed_in (all_needed needs ++ all_forbidden forbids))
    (shielded_meant is_name_sign code)
    ∙ ap (λ (cs : List (List ℕ)). code ∷ cs) (needs_asked needs forbids)

forbids_asked : (needs forbids : List (List ℕ)) →
    flat_map forbidden_in (all_needed needs ++ all_forbidden forbids) ≡ forbids
forbids_asked [] [] = refl
forbids_asked [] (code ∷ forbids) =
    ap (λ (c : List ℕ). c ∷ flat_map forbidden_in (all_forbidden forbids))
    (shielded_meant is_name_sign code)
    ∙ ap (λ (cs : List (List ℕ)). code ∷ cs) (forbids_asked [] forbids)
forbids_asked (code ∷ needs) forbids = forbids_asked needs forbids

first_and_later : (need : List (List ℕ)) →
    codes_if_any (first_code need) ++ later_codes need ≡ need
first_and_later [] = refl
first_and_later (code ∷ later) =
    ap (λ (c : List ℕ). c ∷ later) (shielded_meant is_name_sign code)

lemma_meant : (form lemma : List ℕ) →
    lemma_or (spelled_name form) (spelled_lemma form lemma) ≡ lemma
lemma_meant form lemma =
    cond_both (bytes_eq lemma form) None (Some (spelled_name lemma))
    (λ (o : Option (List Written)). lemma_or (spelled_name form) o ≡ lemma)
    (λ e. shielded_meant is_name_sign form ∙ sym ((bytes_decides lemma form).0 e))
    (λ e. shielded_meant is_name_sign lemma)

form_same : (target : Target) (need : List (List ℕ)) →
    form_in (spelled_target target need) ≡ form_in target
form_same (a_code name) need = refl
form_same (a_lemma name) need = refl
form_same (a_lemma_with lemma code) need = refl
form_same (a_form form lemma) need = ap Some (shielded_meant is_name_sign (meant form))
form_same (a_form_with form lemma code) need = ap Some (shielded_meant is_name_sign (meant form))

lemma_same : (target : Target) (need : List (List ℕ)) →
    lemma_in (spelled_target target need) ≡ lemma_in target
lemma_same (a_code name) need = refl
lemma_same (a_lemma name) need = ap Some (shielded_meant is_name_sign (meant name))
lemma_same (a_lemma_with lemma code) need = ap Some (shielded_meant is_name_sign (meant lemma))
lemma_same (a_form form lemma) need = ap Some (lemma_meant (meant form) (lemma_or form lemma))
lemma_same (a_form_with form lemma code) need =
    ap Some (lemma_meant (meant form) (lemma_or form lemma))

need_same : (target : Target) (asked : List (List ℕ)) →
    code_in (spelled_target target (code_in target ++ asked)) ++ later_codes (code_in target ++ asked)
    ≡ code_in target ++ asked
need_same (a_code name) asked = refl
need_same (a_lemma name) asked = first_and_later asked
need_same (a_lemma_with lemma code) asked = first_and_later (codes_if_any code ++ asked)
need_same (a_form form lemma) asked = first_and_later asked
need_same (a_form_with form lemma code) asked = first_and_later (codes_if_any code ++ asked)

pub parts_same : (body : Body) → parts_of (spelled body) ≡ parts_of body
parts_same body =
    let p = parts_of body in
    let more = spelled body in
    let make : Option (List ℕ) → Option (List ℕ) → List (List ℕ) → List (List ℕ) →
    List (List ℕ) → Parts =
    λ form lemma need forbid infl.
    record { form = form; lemma = lemma; need = need; forbid = forbid; infl = infl } in
    let need : (parts_of more).need ≡ p.need =
    ap (λ (t : List (List ℕ)). code_in more.target ++ t)
    (needs_asked (later_codes p.need) p.forbid)
    ∙ need_same body.target (flat_map needed_in body.asked) in
    ap (λ f. make f (lemma_in more.target) (parts_of more).need (parts_of more).forbid
    (parts_of more).infl) (form_same body.target p.need)
    ∙ ap (λ l. make p.form l (parts_of more).need (parts_of more).forbid (parts_of more).infl)
    (lemma_same body.target p.need)
    ∙ ap (λ n. make p.form p.lemma n (parts_of more).forbid (parts_of more).infl) need
    ∙ ap (λ f. make p.form p.lemma p.need f (parts_of more).infl)
    (forbids_asked (later_codes p.need) p.forbid)
    ∙ ap (λ i. make p.form p.lemma p.need p.forbid i) (all_shielded_meant is_name_sign p.infl)
