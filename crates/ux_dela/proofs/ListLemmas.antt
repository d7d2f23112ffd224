-- A list of codes that was read, or in which a code is empty.
use Rattle.std.proofs.Common.{◌≡◌, ℕ, ◌<◌, List, [], ◌∷◌, ◌++◌, Bool, false, inl, inr, refl, sym, ◌∙◌, ap, subst, append_assoc, length}
use Rattle.std.specs.Prelude.{◌==◌}
use Rattle.std.proofs.lemmas.Bool.{or_cases, eqb-true}
use Rattle.std.proofs.lemmas.List.{append-nil}
use Rattle.ux_dela.specs.Signs.{PLUS, COLON, BACKSLASH, is_slash, is_plus, is_colon, is_code_sign}
use Rattle.ux_dela.specs.Written.{Written, bare, protected, written, IsPart, meant, all_behind}
use Rattle.ux_dela.specs.Codes.{IsCode, EndsCode, IsEmptyAt, no_gram, no_sem, no_infl}
use Rattle.ux_dela.specs.Delas.{IsStemList, IsStemEmptyAt, no_class}
use Rattle.ux_dela.specs.Delas as delas
use Rattle.ux_dela.specs.Reading.{characters, IsPartEnd, IsSplit, IsRunOf, IsBehindRun, StopsRun, HasList, IsListed, StopsList, HasStemList, IsStemListed, StopsStemList}
use Rattle.ux_dela.specs.declared.part.Stop.TheVariants.{Code, Plus}
use Rattle.ux_dela.specs.declared.codes.Kind.TheVariants.{Sem, Infl, StemSem}
use Rattle.ux_dela.specs.declared.entry.Codes.{Codes}
use Rattle.ux_dela.specs.declared.codes.StemCodes.{StemCodes}
use Rattle.ux_dela.proofs.CharactersLemmas.{written-append, written-characters, IsPart-append, IsPart-rest, characters_bare, characters-written, characters-append}
use Rattle.ux_dela.proofs.CutLemmas.{characters_some, no_text}
use Rattle.ux_dela.proofs.RunLemmas.{is_none_stop, IsClosed, closed_part, ends_code, all_behind-closed}

-- what stands behind the first code is closed, and a code ends there
pub behind_gram : (text front rest : List ℕ) (stops : ℕ → Bool) →
    IsPart is_slash (characters text) →
    IsSplit stops text front rest → IsPart is_slash (characters rest)
behind_gram text front rest stops closed split =
    IsPart-rest is_slash (characters front) (characters rest)
    (subst (λ (w : List Written). IsPart is_slash w)
    (ap characters split.whole ∙ characters-append stops front rest split.part) closed)

ends_at : (w : List Written) → EndsCode is_code_sign w →
    ((behind : List Written) → w ≡ bare PLUS ∷ behind → ⊥) → EndsCode is_colon w
ends_at [] ends other = tt
ends_at (bare b ∷ w) ends other =
    elim (or_cases (is_plus b) (is_colon b) ends) [
      | inl l ↦ absurd (other w (ap (λ x. bare x ∷ w) (eqb-true b PLUS l)))
      | inr r ↦ r
    ]
ends_at (protected b ∷ w) ends other = absurd ends

-- no semantic code follows, and so a colon or nothing does
pub ends_sem : (rest : List ℕ) → EndsCode is_code_sign (characters rest) →
    ((behind : List ℕ) → rest ≡ PLUS ∷ behind → ⊥) → EndsCode is_colon (characters rest)
ends_sem rest ends other =
    ends_at (characters rest) ends
    (λ behind e. other (written behind) (sym (written-characters rest) ∙ ap written e))

-- no code follows at all
no_more : (sign : ℕ) (w : List Written) → EndsCode (λ (b : ℕ). b == sign) w →
    ((behind : List Written) → w ≡ bare sign ∷ behind → ⊥) → w ≡ []
no_more sign [] ends other = refl
no_more sign (bare b ∷ w) ends other =
    absurd (other w (ap (λ x. bare x ∷ w) (eqb-true b sign ends)))
no_more sign (protected b ∷ w) ends other = absurd ends

pub no_rest : (sign : ℕ) (rest : List ℕ) → EndsCode (λ (b : ℕ). b == sign) (characters rest) →
    ((behind : List ℕ) → rest ≡ sign ∷ behind → ⊥) → rest ≡ []
no_rest sign rest ends other =
    sym (written-characters rest)
    ∙ ap written (no_more sign (characters rest) ends
    (λ behind e. other (written behind) (sym (written-characters rest) ∙ ap written e)))

-- what is read where a closed front was written
pub read_front : (text rest : List ℕ) (w : List Written) → IsClosed w → text ≡ written w ++ rest →
    characters text ≡ w ++ characters rest
read_front text rest w closed e =
    ap characters e ∙ characters-written is_none_stop w rest closed

-- a front, a sign and a rest
pub front_and_sign : (text rest : List ℕ) (w : List Written) (sign : ℕ) →
    (sign == BACKSLASH) ≡ false → IsClosed w → text ≡ written w ++ sign ∷ rest →
    (text ≡ written (w ++ bare sign ∷ []) ++ rest)
    × (characters text ≡ w ++ bare sign ∷ characters rest)
front_and_sign text rest w sign other closed e = (
  e ∙ sym (append_assoc (written w) (sign ∷ []) rest)
      ∙ ap (λ t. t ++ rest) (sym (written-append w (bare sign ∷ []))),
  read_front text (sign ∷ rest) w closed e ∙ ap (λ t. w ++ t) (characters_bare sign rest other),
)

-- the grammatical code
pub is_gram : (stops : ℕ → Bool) (text front rest : List ℕ) → IsSplit stops text front rest →
    0 < length front → IsCode stops (characters front)
is_gram stops text front rest split some = record {
  some = characters_some front some;
  part = split.part;
}

-- an empty code in front stops the list
pub no_first : (stop : ℕ → Bool) (text front rest : List ℕ) → IsSplit stop text front rest →
    length front ≡ 0 → rest ≡ text
no_first stop text front rest split none =
    sym (split.whole ∙ ap (λ t. t ++ rest) (no_text front none))

-- the text behind the grammatical code, as it is written
gram_and : (text front rest later : List ℕ) (stops : ℕ → Bool) (w : List Written) →
    IsSplit stops text front rest → rest ≡ written w ++ later →
    text ≡ written (characters front ++ w) ++ later
gram_and text front rest later stops w split e =
    split.whole ∙ ap (λ t. front ++ t) e ∙ sym (append_assoc front (written w) later)
    ∙ ap (λ t. (t ++ written w) ++ later) (sym (written-characters front))
    ∙ ap (λ t. t ++ later) (sym (written-append (characters front) w))

gram_closed : (text front rest : List ℕ) (stops : ℕ → Bool) (w : List Written) →
    IsSplit stops text front rest → IsClosed w → IsClosed (characters front ++ w)
gram_closed text front rest stops w split closed =
    IsPart-append is_none_stop (characters front) w
    (closed_part stops (characters front) split.part) closed

both_runs : (behind rest later : List ℕ) (v w : List Written) → behind ≡ written v ++ rest →
    rest ≡ written w ++ later → behind ≡ written (v ++ w) ++ later
both_runs behind rest later v w e f =
    e ∙ ap (λ t. written v ++ t) f ∙ sym (append_assoc (written v) (written w) later)
    ∙ ap (λ t. t ++ later) (sym (written-append v w))

-- the list was read
pub list_read : (text front behind sem_rest infl_rest : List ℕ) (sem infl : List (List ℕ))
    (codes : Codes) → IsSplit is_code_sign text front behind → 0 < length front →
    IsRunOf Sem behind sem sem_rest → IsRunOf Infl sem_rest infl infl_rest →
    codes.gram ≡ meant (characters front) → codes.sem ≡ sem → codes.infl ≡ infl →
    IsListed text codes
list_read text front behind sem_rest infl_rest sem infl codes split some s i is_first are_sem
    are_infl =
    let v = all_behind PLUS s.codes in
    let w = all_behind COLON i.codes in
    let none : infl_rest ≡ [] = no_rest COLON infl_rest i.ends i.all in
    let whole : text ≡ written (characters front ++ (v ++ w)) ++ [] =
    gram_and text front behind [] is_code_sign (v ++ w) split
    (both_runs behind sem_rest [] v w s.whole
    (i.whole ∙ ap (λ t. written w ++ t) none)) in
    let closed : IsClosed (characters front ++ (v ++ w)) =
    gram_closed text front behind is_code_sign (v ++ w) split
    (IsPart-append is_none_stop v w (all_behind-closed is_code_sign PLUS s.codes refl s.are_codes)
    (all_behind-closed is_colon COLON i.codes refl i.are_codes)) in
    record {
      gram = characters front;
      sem = s.codes;
      infl = i.codes;
      list = record {
        whole = read_front text [] (characters front ++ (v ++ w)) closed whole
            ∙ append-nil (characters front ++ (v ++ w));
        is_gram = is_gram is_code_sign text front behind split some;
        are_sem = s.are_codes;
        are_infl = i.are_codes;
      };
      is_gram = is_first;
      is_sem = are_sem ∙ s.meant;
      is_infl = are_infl ∙ i.meant;
    }

-- the list is there, whatever its codes mean
pub list_there : (text front behind sem_rest infl_rest : List ℕ) →
    IsSplit is_code_sign text front behind → 0 < length front →
    IsBehindRun Sem behind sem_rest → IsBehindRun Infl sem_rest infl_rest → HasList text
list_there text front behind sem_rest infl_rest split some s i =
    let codes : Codes = record { gram = meant (characters front); sem = s.0; infl = i.0 } in (
      codes,
      list_read text front behind sem_rest infl_rest s.0 i.0 codes split some s.1 i.1 refl refl refl,
    )

-- the first code is empty
pub gram_stops : (text front behind : List ℕ) → IsPart is_slash (characters text) →
    IsSplit is_code_sign text front behind → length front ≡ 0 →
    (f : List ℕ) × (text ≡ f ++ text) × IsEmptyAt (characters text) (length f)
gram_stops text front behind closed split none =
    let here = no_first is_code_sign text front behind split none in
    let ends : IsPartEnd is_code_sign text =
    subst (λ (t : List ℕ). IsPartEnd is_code_sign t) here split.ends in
    ([], refl, no_gram (characters text) (ends_code Code text closed ends))

-- the semantic codes stop
pub sem_stops : (text front behind rest : List ℕ) →
    IsSplit is_code_sign text front behind → 0 < length front → StopsRun Sem behind rest →
    StopsList text rest
sem_stops text front behind rest split some stops =
    let sem = stops.0 in
    let f = characters front ++ (all_behind PLUS sem ++ []) in
    let closed : IsClosed f =
    gram_closed text front behind is_code_sign (all_behind PLUS sem ++ []) split
    (IsPart-append is_none_stop (all_behind PLUS sem) []
    (all_behind-closed is_code_sign PLUS sem refl stops.1) tt) in
    let cut : behind ≡ written (all_behind PLUS sem ++ []) ++ PLUS ∷ rest =
    stops.2 ∙ ap (λ t. written t ++ PLUS ∷ rest) (sym (append-nil (all_behind PLUS sem))) in
    let whole = gram_and text front behind (PLUS ∷ rest) is_code_sign
    (all_behind PLUS sem ++ []) split cut in
    let both = front_and_sign text rest f PLUS refl closed whole in (
      written (f ++ bare PLUS ∷ []),
      both.0,
      subst (λ (w : List Written). IsEmptyAt w (length (written (f ++ bare PLUS ∷ []))))
          (sym both.1)
          (no_sem f (characters front) (characters rest) sem
          (record {
            whole = refl;
            is_gram = is_gram is_code_sign text front behind split some;
            are_sem = stops.1;
            are_infl = tt;
          }) stops.3),
    )

-- the inflection codes stop
pub infl_stops : (text front behind left rest : List ℕ) (sem : List (List ℕ)) →
    IsSplit is_code_sign text front behind → 0 < length front → IsRunOf Sem behind sem left →
    StopsRun Infl left rest → StopsList text rest
infl_stops text front behind left rest sem split some s stops =
    let infl = stops.0 in
    let v = all_behind PLUS s.codes in
    let w = all_behind COLON infl in
    let f = characters front ++ (v ++ w) in
    let closed : IsClosed f =
    gram_closed text front behind is_code_sign (v ++ w) split
    (IsPart-append is_none_stop v w (all_behind-closed is_code_sign PLUS s.codes refl s.are_codes)
    (all_behind-closed is_colon COLON infl refl stops.1)) in
    let whole = gram_and text front behind (COLON ∷ rest) is_code_sign (v ++ w) split
    (both_runs behind left (COLON ∷ rest) v w s.whole stops.2) in
    let both = front_and_sign text rest f COLON refl closed whole in (
      written (f ++ bare COLON ∷ []),
      both.0,
      subst (λ (w : List Written). IsEmptyAt w (length (written (f ++ bare COLON ∷ []))))
          (sym both.1)
          (no_infl f (characters front) (characters rest) s.codes infl
          (record {
            whole = refl;
            is_gram = is_gram is_code_sign text front behind split some;
            are_sem = s.are_codes;
            are_infl = stops.1;
          }) stops.3),
    )

-- the list of a stem was read
pub stem_list_read : (text front behind left : List ℕ) (sem : List (List ℕ)) (codes : StemCodes) →
    IsSplit is_plus text front behind → 0 < length front → IsRunOf StemSem behind sem left →
    codes.class ≡ meant (characters front) → codes.sem ≡ sem → IsStemListed text codes
stem_list_read text front behind left sem codes split some s is_first are_sem =
    let v = all_behind PLUS s.codes in
    let none : left ≡ [] = no_rest PLUS left s.ends s.all in
    let whole = gram_and text front behind [] is_plus v split
    (s.whole ∙ ap (λ t. written v ++ t) none) in
    let closed = gram_closed text front behind is_plus v split
    (all_behind-closed is_plus PLUS s.codes refl s.are_codes) in
    record {
      class = characters front;
      sem = s.codes;
      list = record {
        whole = read_front text [] (characters front ++ v) closed whole
            ∙ append-nil (characters front ++ v);
        is_class = is_gram is_plus text front behind split some;
        are_sem = s.are_codes;
      };
      is_class = is_first;
      is_sem = are_sem ∙ s.meant;
    }

-- the list of a stem is there, whatever its semantic codes mean
pub stem_list_there : (text front behind left class : List ℕ) → IsSplit is_plus text front behind →
    0 < length front → IsBehindRun StemSem behind left → class ≡ meant (characters front) →
    HasStemList text class
stem_list_there text front behind left class split some s is =
    let codes : StemCodes = record { class = class; sem = s.0 } in
    (codes, stem_list_read text front behind left s.0 codes split some s.1 is refl, refl)

pub class_stops : (text front behind : List ℕ) → IsPart is_slash (characters text) →
    IsSplit is_plus text front behind → length front ≡ 0 →
    (f : List ℕ) × (text ≡ f ++ text) × IsStemEmptyAt (characters text) (length f)
class_stops text front behind closed split none =
    let here = no_first is_plus text front behind split none in
    let ends : IsPartEnd is_plus text =
    subst (λ (t : List ℕ). IsPartEnd is_plus t) here split.ends in
    ([], refl, no_class (characters text) (ends_code Plus text closed ends))

pub stem_sem_stops : (text front behind rest : List ℕ) →
    IsSplit is_plus text front behind → 0 < length front → StopsRun StemSem behind rest →
    StopsStemList text rest
stem_sem_stops text front behind rest split some stops =
    let sem = stops.0 in
    let f = characters front ++ all_behind PLUS sem in
    let closed : IsClosed f =
    gram_closed text front behind is_plus (all_behind PLUS sem) split
    (all_behind-closed is_plus PLUS sem refl stops.1) in
    let whole = gram_and text front behind (PLUS ∷ rest) is_plus (all_behind PLUS sem) split
    stops.2 in
    let both = front_and_sign text rest f PLUS refl closed whole in (
      written (f ++ bare PLUS ∷ []),
      both.0,
      subst (λ (w : List Written). IsStemEmptyAt w (length (written (f ++ bare PLUS ∷ []))))
          (sym both.1)
          (delas.no_sem f (characters front) (characters rest) sem
          (record {
            whole = refl;
            is_class = is_gram is_plus text front behind split some;
            are_sem = stops.1;
          }) stops.3),
    )
