-- The body of which a mask is printed is one: each of its names is a name.
use Rattle.std.proofs.Common.{◌≢◌, ℕ, List, [], ◌∷◌, Option, Some, None}
use Rattle.std.specs.Prelude.{All}
use Rattle.std.specs.List.{flat_map}
use Rattle.std.specs.Str.{bytes_eq}
use Rattle.std.proofs.lemmas.Bool.{cond_both}
use Rattle.std.proofs.lemmas.List.Elements.{All-append, All-cons, All-head, All-nil, All-tail}
use Rattle.ux_dela.specs.Written.{Written, meant, all_meant}
use Rattle.ux_dela.specs.Printed.{all_shielded}
use Rattle.ux_masks.specs.Texts.{IsName, IsNameIfAny, IsTarget, Target, a_code, a_lemma, a_lemma_with, a_form, a_form_with, Asked, needed, forbidden, Body, IsBody, name_of, codes_if_any, code_in, lemma_or, needed_in, forbidden_in, parts_of}
use Rattle.ux_fst2.specs.Masks.{is_name_sign}
use Rattle.ux_fst2.proofs.SpelledMasks.{all_forbidden, all_needed, first_code, later_codes, meant_some, spelled, spelled_is, spelled_lemma, spelled_name, spelled_target}

abbrev IsSome : List ℕ → Type 0
IsSome text = text ≢ []

abbrev pub IsAsked : Asked → Type 0
IsAsked code = IsName (name_of code)

-- each code that is asked for, and each alternative, isn't empty
needs_some : (asked : List Asked) → All IsAsked asked → All IsSome (flat_map needed_in asked)
needs_some [] are = All-nil IsSome
needs_some (needed name ∷ asked) are =
    All-cons IsSome (meant name) (flat_map needed_in asked)
    (meant_some name (All-head IsAsked (needed name) asked are))
    (needs_some asked (All-tail IsAsked (needed name) asked are))
needs_some (forbidden name ∷ asked) are =
    needs_some asked (All-tail IsAsked (forbidden name) asked are)

forbids_some : (asked : List Asked) → All IsAsked asked →
    All IsSome (flat_map forbidden_in asked)
forbids_some [] are = All-nil IsSome
forbids_some (needed name ∷ asked) are =
    forbids_some asked (All-tail IsAsked (needed name) asked are)
forbids_some (forbidden name ∷ asked) are =
    All-cons IsSome (meant name) (flat_map forbidden_in asked)
    (meant_some name (All-head IsAsked (forbidden name) asked are))
    (forbids_some asked (All-tail IsAsked (forbidden name) asked are))

all_some : (names : List (List Written)) → All IsName names → All IsSome (all_meant names)
all_some [] are = All-nil IsSome
all_some (name ∷ names) are =
    All-cons IsSome (meant name) (all_meant names)
    (meant_some name (All-head IsName name names are))
    (all_some names (All-tail IsName name names are))

code_some : (code : Option (List Written)) → IsNameIfAny code → All IsSome (codes_if_any code)
code_some None is = All-nil IsSome
code_some (Some name) is = All-cons IsSome (meant name) [] (meant_some name is) (All-nil IsSome)

target_some : (target : Target) → IsTarget target → All IsSome (code_in target)
target_some (a_code name) is = code_some (Some name) is.0
target_some (a_lemma name) is = All-nil IsSome
target_some (a_lemma_with lemma code) is = code_some code is.1
target_some (a_form form lemma) is = All-nil IsSome
target_some (a_form_with form lemma code) is = code_some code is.2

need_some : (body : Body) → IsBody body → All IsSome (parts_of body).need
need_some body is =
    All-append IsSome (code_in body.target) (flat_map needed_in body.asked)
    (target_some body.target is.target) (needs_some body.asked is.asked)

-- so what is printed for each is a name
first_is : (need : List (List ℕ)) → All IsSome need → IsNameIfAny (first_code need)
first_is [] some = tt
first_is (code ∷ later) some = spelled_is code (All-head IsSome code later some)

later_some : (need : List (List ℕ)) → All IsSome need → All IsSome (later_codes need)
later_some [] some = some
later_some (code ∷ later) some = All-tail IsSome code later some

needed_are : (codes : List (List ℕ)) → All IsSome codes → All IsAsked (all_needed codes)
needed_are [] some = All-nil IsAsked
needed_are (code ∷ later) some =
    All-cons IsAsked (needed (spelled_name code)) (all_needed later)
    (spelled_is code (All-head IsSome code later some))
    (needed_are later (All-tail IsSome code later some))

forbidden_are : (codes : List (List ℕ)) → All IsSome codes → All IsAsked (all_forbidden codes)
forbidden_are [] some = All-nil IsAsked
forbidden_are (code ∷ later) some =
    All-cons IsAsked (forbidden (spelled_name code)) (all_forbidden later)
    (spelled_is code (All-head IsSome code later some))
    (forbidden_are later (All-tail IsSome code later some))

names_are : (names : List (List ℕ)) → All IsSome names →
    All IsName (all_shielded is_name_sign names)
names_are [] some = All-nil IsName
names_are (name ∷ names) some =
    All-cons IsName (spelled_name name) (all_shielded is_name_sign names)
    (spelled_is name (All-head IsSome name names some))
    (names_are names (All-tail IsSome name names some))

lemma_some : (form : List Written) (lemma : Option (List Written)) → IsName form →
    IsNameIfAny lemma → lemma_or form lemma ≢ []
lemma_some form None is any = meant_some form is
lemma_some form (Some lemma) is any = meant_some lemma any

lemma_is : (form lemma : List ℕ) → lemma ≢ [] → IsNameIfAny (spelled_lemma form lemma)
lemma_is form lemma some =
    cond_both (bytes_eq lemma form) None (Some (spelled_name lemma)) IsNameIfAny (λ e. tt)
    (λ e. spelled_is lemma some)

target_is : (target : Target) (need : List (List ℕ)) → IsTarget target → All IsSome need →
    IsTarget (spelled_target target need)
target_is (a_code name) need is some = is
target_is (a_lemma name) need is some =
    (spelled_is (meant name) (meant_some name is.0), first_is need some)
target_is (a_lemma_with lemma code) need is some =
    (spelled_is (meant lemma) (meant_some lemma is.0), first_is need some)
target_is (a_form form lemma) need is some = (
  spelled_is (meant form) (meant_some form is.0),
  lemma_is (meant form) (lemma_or form lemma) (lemma_some form lemma is.0 is.1),
  first_is need some,
)
target_is (a_form_with form lemma code) need is some = (
  spelled_is (meant form) (meant_some form is.0),
  lemma_is (meant form) (lemma_or form lemma) (lemma_some form lemma is.0 is.1),
  first_is need some,
)

pub body_is : (body : Body) → IsBody body → IsBody (spelled body)
body_is body is =
    let p = parts_of body in
    let need = need_some body is in
    record {
      target = target_is body.target p.need is.target need;
      asked = All-append IsAsked (all_needed (later_codes p.need)) (all_forbidden p.forbid)
          (needed_are (later_codes p.need) (later_some p.need need))
          (forbidden_are p.forbid (forbids_some body.asked is.asked));
      alternatives = names_are p.infl (all_some body.alternatives is.alternatives);
    }
