-- Codes behind signs, one after the other.
use Rattle.std.proofs.Common.{arith, length-append, ◌≡◌, ℕ, ◌<◌, List, [], ◌∷◌, ◌++◌, Bool, true, false, inl, inr, refl, sym, ◌∙◌, ap, subst, append_assoc, length}
use Rattle.std.specs.Prelude.{◌==◌}
use Rattle.std.proofs.lemmas.Bool.{or_cases, or_from, or_parts, eqb-true, both_ways}
use Rattle.std.proofs.lemmas.List.{append-nil}
use Rattle.ux_dela.specs.Signs.{BACKSLASH, is_slash}
use Rattle.ux_dela.specs.Written.{Written, bare, written, IsPart, meant, all_meant, all_behind}
use Rattle.ux_dela.specs.Codes.{IsCode, AreCodes, EndsCode}
use Rattle.ux_dela.specs.Reading.{characters, is_stop, IsPartEnd, IsSplit, ends_kind, sign_before, IsRunOf, IsNextCode, OrNoRoom, StopsAtSign, StopsRun}
use Rattle.ux_dela.specs.declared.part.Stop.{Stop}
use Rattle.ux_dela.specs.declared.part.Stop.TheVariants.{Code, Colon, Plus}
use Rattle.ux_dela.specs.declared.codes.Kind.{Kind}
use Rattle.ux_dela.specs.declared.codes.Kind.TheVariants.{Sem, Infl, StemSem}
use Rattle.ux_dela.specs.declared.codes.CodeFault.{CodeFault}
use Rattle.ux_dela.specs.declared.codes.CodeFault.TheVariants.{Empty, NoRoom}
use Rattle.ux_dela.proofs.CharactersLemmas.{written-append, written-characters, IsPart-append, IsPart-rest, IsPart-weaker, characters_bare, characters-append}
use Rattle.ux_dela.proofs.CutLemmas.{characters_some, no_text}
use Rattle.ux_dela.proofs.StopLemmas.{stop_other}

-- the sign of no part, so that only a backslash at the end can't be read back
abbrev pub is_none_stop : ℕ → Bool
is_none_stop b = false

-- no backslash ends the characters
abbrev pub IsClosed : List Written → Type 0
IsClosed w = IsPart is_none_stop w

pub closed_part : (stops : ℕ → Bool) (w : List Written) → IsPart stops w → IsClosed w
closed_part stops w p =
    IsPart-weaker stops is_none_stop
    (λ b e. or_from (b == BACKSLASH) false (or_parts (b == BACKSLASH) (stops b) e).0 refl) w p

-- where a part ends that isn't open a code does
pub ends_code : (stop : Stop) (rest : List ℕ) → IsPart is_slash (characters rest) →
    IsPartEnd (is_stop stop) rest → EndsCode (is_stop stop) (characters rest)
ends_code stop [] closed ends = tt
ends_code stop (b ∷ []) closed ends =
    elim (or_cases (b == BACKSLASH) (is_stop stop b) ends) [
      | inl l ↦ (
          let open_end : IsPart is_slash (characters (BACKSLASH ∷ [])) =
          subst (λ (x : ℕ). IsPart is_slash (characters (x ∷ [])))
          (eqb-true b BACKSLASH l) closed in
          absurd (both_ways true open_end.0 refl))
      | inr r ↦
          subst (λ (w : List Written). EndsCode (is_stop stop) w)
          (sym (characters_bare b [] (stop_other stop b r))) r
    ]
ends_code stop (b ∷ (c ∷ rest)) closed ends =
    subst (λ (w : List Written). EndsCode (is_stop stop) w)
    (sym (characters_bare b (c ∷ rest) (stop_other stop b ends))) ends

pub all_behind-push : (sign : ℕ) (codes : List (List Written)) (code : List Written) →
    all_behind sign (codes ++ code ∷ []) ≡ all_behind sign codes ++ bare sign ∷ code
all_behind-push sign [] code = ap (λ t. bare sign ∷ t) (append-nil code)
all_behind-push sign (first ∷ codes) code =
    ap (λ t. bare sign ∷ (first ++ t)) (all_behind-push sign codes code)
    ∙ ap (λ t. bare sign ∷ t) (sym (append_assoc first (all_behind sign codes) (bare sign ∷ code)))

pub all_meant-push : (codes : List (List Written)) (code : List Written) →
    all_meant (codes ++ code ∷ []) ≡ all_meant codes ++ meant code ∷ []
all_meant-push [] code = refl
all_meant-push (first ∷ codes) code = ap (λ t. meant first ∷ t) (all_meant-push codes code)

pub AreCodes-push : (stops : ℕ → Bool) (codes : List (List Written)) (code : List Written) →
    AreCodes stops codes → IsCode stops code → AreCodes stops (codes ++ code ∷ [])
AreCodes-push stops [] code are is = (is, tt)
AreCodes-push stops (first ∷ codes) code are is =
    (are.0, AreCodes-push stops codes code are.1 is)

-- codes behind signs are closed
pub all_behind-closed : (stops : ℕ → Bool) (sign : ℕ) (codes : List (List Written)) →
    (sign == BACKSLASH) ≡ false → AreCodes stops codes → IsClosed (all_behind sign codes)
all_behind-closed stops sign [] other are = tt
all_behind-closed stops sign (code ∷ codes) other are = (
  or_from (sign == BACKSLASH) false other refl,
  IsPart-append is_none_stop code (all_behind sign codes) (closed_part stops code are.0.part)
      (all_behind-closed stops sign codes other are.1),
)

pub sign_other : (kind : Kind) → (sign_before kind == BACKSLASH) ≡ false
sign_other Sem = refl
sign_other Infl = refl
sign_other StemSem = refl

-- the codes so far, and the rest
pub record IsRunTo (kind : Kind) (text : List ℕ) (items : List (List ℕ)) (rest : List ℕ) :
    Type 0 where
  pub codes : List (List Written)
  pub whole : text ≡ written (all_behind (sign_before kind) codes) ++ rest
  pub are_codes : AreCodes (ends_kind kind) codes
  pub meant_items : items ≡ all_meant codes
  pub ends : EndsCode (ends_kind kind) (characters rest)
  pub closed : IsPart is_slash (characters rest)

pub run_start : (kind : Kind) (text : List ℕ) → IsPart is_slash (characters text) →
    EndsCode (ends_kind kind) (characters text) → IsRunTo kind text [] text
run_start kind text closed ends = record {
  codes = [];
  whole = refl;
  are_codes = tt;
  meant_items = refl;
  ends = ends;
  closed = closed;
}

-- what stands behind a sign is closed
behind_closed : (kind : Kind) (rest behind : List ℕ) → IsPart is_slash (characters rest) →
    rest ≡ sign_before kind ∷ behind → IsPart is_slash (characters behind)
behind_closed kind rest behind closed e =
    (subst (λ (w : List Written). IsPart is_slash w)
    (ap characters e ∙ characters_bare (sign_before kind) behind (sign_other kind)) closed).1

left_closed : (stops : ℕ → Bool) (behind code left : List ℕ) →
    IsPart is_slash (characters behind) → IsSplit stops behind code left →
    IsPart is_slash (characters left)
left_closed stops behind code left closed split =
    IsPart-rest is_slash (characters code) (characters left)
    (subst (λ (w : List Written). IsPart is_slash w)
    (ap characters split.whole ∙ characters-append stops code left split.part) closed)

-- where a code ends
left_ends : (kind : Kind) (stop : Stop) (left : List ℕ) → is_stop stop ≡ ends_kind kind →
    IsPart is_slash (characters left) → IsPartEnd (is_stop stop) left →
    EndsCode (ends_kind kind) (characters left)
left_ends kind stop left same closed ends =
    subst (λ (s : ℕ → Bool). EndsCode s (characters left)) same (ends_code stop left closed ends)

pub run_more : (kind : Kind) (stop : Stop) (text : List ℕ) (items : List (List ℕ))
    (rest behind code left : List ℕ) (new : List (List ℕ)) → is_stop stop ≡ ends_kind kind →
    IsRunTo kind text items rest → rest ≡ sign_before kind ∷ behind →
    IsSplit (is_stop stop) behind code left → 0 < length code →
    new ≡ items ++ meant (characters code) ∷ [] → IsRunTo kind text new left
run_more kind stop text items rest behind code left new same run e split some is =
    let sign = sign_before kind in
    let inside = behind_closed kind rest behind run.closed e in
    let closed = left_closed (is_stop stop) behind code left inside split in
    let part : IsPart (ends_kind kind) (characters code) =
    subst (λ (s : ℕ → Bool). IsPart s (characters code)) same split.part in
    let one : written (bare sign ∷ characters code) ≡ sign ∷ code =
    ap (λ t. sign ∷ t) (written-characters code) in
    record {
      codes = run.codes ++ characters code ∷ [];
      whole = run.whole
          ∙ ap (λ t. written (all_behind sign run.codes) ++ t)
          (e ∙ ap (λ t. sign ∷ t) split.whole ∙ sym (ap (λ t. t ++ left) one))
          ∙ sym (append_assoc (written (all_behind sign run.codes))
          (written (bare sign ∷ characters code)) left)
          ∙ ap (λ t. t ++ left)
          (sym (written-append (all_behind sign run.codes) (bare sign ∷ characters code))
          ∙ ap written (sym (all_behind-push sign run.codes (characters code))));
      are_codes = AreCodes-push (ends_kind kind) run.codes (characters code) run.are_codes
          (record { some = characters_some code some; part = part });
      meant_items = is ∙ ap (λ t. t ++ meant (characters code) ∷ []) run.meant_items
          ∙ sym (all_meant-push run.codes (characters code));
      ends = left_ends kind stop left same closed split.ends;
      closed = closed;
    }

-- one more code of the kind
pub run_next : (kind : Kind) (stop : Stop) (text : List ℕ) (items : List (List ℕ))
    (rest code left : List ℕ) (new : List (List ℕ)) → is_stop stop ≡ ends_kind kind →
    IsRunTo kind text items rest → IsNextCode kind rest code left →
    new ≡ items ++ meant (characters code) ∷ [] → IsRunTo kind text new left
run_next kind stop text items rest code left new same run next is =
    run_more kind stop text items rest next.behind code left new same run next.sign
    (subst (λ (s : ℕ → Bool). IsSplit s next.behind code left) (sym same) next.split) next.some is

-- an empty code stops the run
pub run_stops : (kind : Kind) (stop : Stop) (text : List ℕ) (items : List (List ℕ))
    (rest behind code left : List ℕ) → is_stop stop ≡ ends_kind kind →
    IsRunTo kind text items rest → rest ≡ sign_before kind ∷ behind →
    IsSplit (is_stop stop) behind code left → length code ≡ 0 →
    (codes : List (List Written)) × AreCodes (ends_kind kind) codes
    × (text ≡ written (all_behind (sign_before kind) codes) ++ sign_before kind ∷ behind)
    × EndsCode (ends_kind kind) (characters behind)
run_stops kind stop text items rest behind code left same run e split none =
    let inside = behind_closed kind rest behind run.closed e in
    let here : behind ≡ left = split.whole ∙ ap (λ t. t ++ left) (no_text code none) in
    let ends : IsPartEnd (is_stop stop) behind =
    subst (λ (t : List ℕ). IsPartEnd (is_stop stop) t) (sym here) split.ends in (
      run.codes,
      run.are_codes,
      run.whole ∙ ap (λ t. written (all_behind (sign_before kind) run.codes) ++ t) e,
      left_ends kind stop behind same inside ends,
    )

-- the run is whole where no sign follows
pub run_whole : (kind : Kind) (text : List ℕ) (items : List (List ℕ)) (rest : List ℕ) →
    IsRunTo kind text items rest →
    ((behind : List ℕ) → rest ≡ sign_before kind ∷ behind → ⊥) → IsRunOf kind text items rest
run_whole kind text items rest to all = record {
  codes = to.codes;
  whole = to.whole;
  are_codes = to.are_codes;
  meant = to.meant_items;
  ends = to.ends;
  closed = to.closed;
  all = all;
}

-- the stop at which the codes of the kind end
pub stop_for : Kind → Stop
stop_for Sem = Code
stop_for Infl = Colon
stop_for StemSem = Plus

pub stop_same : (kind : Kind) → is_stop (stop_for kind) ≡ ends_kind kind
unfolding stop_for
stop_same Sem = refl
stop_same Infl = refl
stop_same StemSem = refl

-- the next code, for whatever stop its kind has
pub run_on : (kind : Kind) (text : List ℕ) (items : List (List ℕ)) (rest code left : List ℕ)
    (new : List (List ℕ)) → IsRunTo kind text items rest → IsNextCode kind rest code left →
    new ≡ items ++ meant (characters code) ∷ [] → IsRunTo kind text new left
run_on kind text items rest code left new run next is =
    run_next kind (stop_for kind) text items rest code left new (stop_same kind) run next is

-- an empty code behind the codes so far stops the run
pub run_stops_at : (kind : Kind) (text : List ℕ) (items : List (List ℕ)) (rest behind : List ℕ) →
    IsRunTo kind text items rest → StopsAtSign kind rest behind → StopsRun kind text behind
run_stops_at kind text items rest behind run stops =
    run_stops kind (stop_for kind) text items rest behind [] stops.1.0 (stop_same kind) run
    stops.0 (subst (λ (s : ℕ → Bool). IsSplit s behind [] stops.1.0) (sym (stop_same kind))
    stops.1.1) refl

-- where one kind of stop is another, a fault of the one is one of the other
pub fault_of : (stops other : List ℕ → Type 0) → ((rest : List ℕ) → stops rest → other rest) →
    (fault : CodeFault) → OrNoRoom stops fault → OrNoRoom other fault
fault_of stops other is (Empty rest) h = is rest.now h
fault_of stops other is NoRoom h = tt

-- a code leaves less than the text has
pub next_shorter : (kind : Kind) (text code rest : List ℕ) → IsNextCode kind text code rest →
    length rest < length text
next_shorter kind text code rest next =
    omega (arith, ap length next.sign, ap length next.split.whole, length-append code rest, next.some)
