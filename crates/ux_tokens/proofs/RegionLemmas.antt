-- In a region each brace is protected, and each tag that begins there ends where the region ends.
use Rattle.std.proofs.Common.{arith, ◌≡◌, ◌⊎◌, inl, inr, ℕ, zero, suc, ◌+◌, ◌-◌, ◌<◌, ◌≤◌, List, [], ◌∷◌, ◌++◌, Bool, true, false, refl, sym, ◌∙◌, ap, subst, length, take, drop, get_or, append_assoc, Option, None, Some}
use Rattle.std.specs.Prelude.{◌==◌, ◌&&◌, not, if◌then◌else◌}
use Rattle.std.specs.List.{slice_get}
use Rattle.std.proofs.lemmas.Bool.{or_parts, or_from, or_cases, cond-true, cond-false, cond_both, eqb-true, false_from_ne_true, both_ways, false≢true, cases_lt}
use Rattle.std.proofs.lemmas.Option.{same_Some, none-some, slice_get_within}
use Rattle.std.proofs.lemmas.List.{take-append-drop, drop-drop, length-take-le, length-drop, length_push, take_at, drop_all, take_all}
use Rattle.ux_dela.specs.Signs.{BACKSLASH, is_brace}
use Rattle.ux_dela.specs.Written.{Written, bare, IsPart, has_bare}
use Rattle.ux_dela.specs.Sound.{HasNoFeed, is_feed}
use Rattle.ux_dela.specs.Reading.{characters, characters_from}
use Rattle.ux_dela.specs.Tag.{IsTagBody}
use Rattle.ux_dela.specs.declared.entry.Entry.{Entry}
use Rattle.ux_dela.proofs.CharactersLemmas.{characters_part}
use Rattle.ux_dela.proofs.TagLemmas.{none_bare}
use Rattle.ux_tokens.specs.Tails.{before_form, is_tail}
use Rattle.ux_tokens.specs.Tokens.{OPENING_BRACE, CLOSING_BRACE, IsTag, BeginsWithTag}
use Rattle.ux_tokens.specs.Regions.{Closes, EndsRegion, IsRegion, ends_at, AreRest, IsTagPlace, IsFirstPlace, IsFound, IsFree}
use Rattle.ux_tokens.specs.declared.tails.Rest.{Rest}
use Rattle.ux_tokens.specs.declared.tags.Found.{Found}
use Rattle.ux_tokens.proofs.BodyLemmas.{body_tail}
use Rattle.ux_tokens.proofs.TailLemmas.{tail_body}

-- the length of the region at the front, of which the first byte is protected or not
abbrev pub region : Bool → List ℕ → ℕ
region p [] = 0
region p (b ∷ text) =
    if ends_at p b then 0 else suc (region (not p && b == BACKSLASH) text)

-- no region goes on there
abbrev pub EndsFrom : Bool → (front rest : List ℕ) → Type 0
EndsFrom p front [] = Unit {0}
EndsFrom p front (b ∷ rest) =
    (is_feed b ≡ true) ⊎ (IsPart is_brace (characters_from p front) × (is_brace b ≡ true))

-- a region of which the first byte is protected or not
pub record IsFrom (p : Bool) (front rest : List ℕ) : Type 0 where
  pub no_feed : HasNoFeed front
  pub no_brace : has_bare is_brace (characters_from p front) ≡ false
  pub ends : EndsFrom p front rest

nothing_bare : (p : Bool) → has_bare is_brace (characters_from p []) ≡ false
nothing_bare true = refl
nothing_bare false = refl

-- the bytes after a byte that isn't protected
abbrev read : Bool → ℕ → List ℕ → List Written
read true b text = characters_from true text
read false b text = bare b ∷ characters_from false text

read_is : (q : Bool) (b : ℕ) (text : List ℕ) → (b == BACKSLASH) ≡ q →
    characters_from false (b ∷ text) ≡ read q b text
read_is true b text e =
    cond-true (b == BACKSLASH) (characters_from true text) (bare b ∷ characters_from false text) e
read_is false b text e =
    cond-false (b == BACKSLASH) (characters_from true text) (bare b ∷ characters_from false text) e

ends_protected : (b : ℕ) (front rest : List ℕ) → EndsFrom false front rest →
    EndsFrom true (b ∷ front) rest
ends_protected b front [] ends = tt
ends_protected b front (c ∷ rest) ends = ends

ends_unprotected : (b : ℕ) (front rest : List ℕ) → EndsFrom true (b ∷ front) rest →
    EndsFrom false front rest
ends_unprotected b front [] ends = tt
ends_unprotected b front (c ∷ rest) ends = ends

ends_read : (q : Bool) (b : ℕ) (front rest : List ℕ) → (b == BACKSLASH) ≡ q →
    is_brace b ≡ false → EndsFrom q front rest → EndsFrom false (b ∷ front) rest
ends_read q b front [] e other ends = tt
ends_read q b front (c ∷ rest) e other (inl feed) = inl feed
ends_read true b front (c ∷ rest) e other (inr (part, brace)) =
    inr (subst (λ (w : List Written). IsPart is_brace w) (sym (read_is true b front e)) part, brace)
ends_read false b front (c ∷ rest) e other (inr (part, brace)) =
    inr (
      subst (λ (w : List Written). IsPart is_brace w) (sym (read_is false b front e))
          (or_from (b == BACKSLASH) (is_brace b) e other, part),
      brace,
    )

ends_behind : (q : Bool) (b : ℕ) (front rest : List ℕ) → (b == BACKSLASH) ≡ q →
    EndsFrom false (b ∷ front) rest → EndsFrom q front rest
ends_behind q b front [] e ends = tt
ends_behind q b front (c ∷ rest) e (inl feed) = inl feed
ends_behind true b front (c ∷ rest) e (inr (part, brace)) =
    inr (subst (λ (w : List Written). IsPart is_brace w) (read_is true b front e) part, brace)
ends_behind false b front (c ∷ rest) e (inr (part, brace)) =
    inr ((subst (λ (w : List Written). IsPart is_brace w) (read_is false b front e) part).1, brace)

from_protected : (b : ℕ) (front rest : List ℕ) → is_feed b ≡ false → IsFrom false front rest →
    IsFrom true (b ∷ front) rest
from_protected b front rest other is = record {
  no_feed = or_from (is_feed b) _ other is.no_feed;
  no_brace = is.no_brace;
  ends = ends_protected b front rest is.ends;
}

from_read : (q : Bool) (b : ℕ) (front rest : List ℕ) → (b == BACKSLASH) ≡ q →
    is_feed b ≡ false → is_brace b ≡ false → IsFrom q front rest → IsFrom false (b ∷ front) rest
from_read q b front rest e other no_brace is = record {
  no_feed = or_from (is_feed b) _ other is.no_feed;
  no_brace = by q e is.no_brace;
  ends = ends_read q b front rest e no_brace is.ends;
}
  where
    by : (q : Bool) → (b == BACKSLASH) ≡ q → has_bare is_brace (characters_from q front) ≡ false →
        has_bare is_brace (characters_from false (b ∷ front)) ≡ false
    by true e none = ap (has_bare is_brace) (read_is true b front e) ∙ none
    by false e none =
        ap (has_bare is_brace) (read_is false b front e)
        ∙ or_from (is_brace b) (has_bare is_brace (characters_from false front)) no_brace none

behind_protected : (b : ℕ) (front rest : List ℕ) → IsFrom true (b ∷ front) rest →
    IsFrom false front rest
behind_protected b front rest is = record {
  no_feed = (or_parts (is_feed b) _ is.no_feed).1;
  no_brace = is.no_brace;
  ends = ends_unprotected b front rest is.ends;
}

behind_read : (q : Bool) (b : ℕ) (front rest : List ℕ) → (b == BACKSLASH) ≡ q →
    IsFrom false (b ∷ front) rest → IsFrom q front rest
behind_read q b front rest e is = record {
  no_feed = (or_parts (is_feed b) _ is.no_feed).1;
  no_brace = by q e is.no_brace;
  ends = ends_behind q b front rest e is.ends;
}
  where
    by : (q : Bool) → (b == BACKSLASH) ≡ q →
        has_bare is_brace (characters_from false (b ∷ front)) ≡ false →
        has_bare is_brace (characters_from q front) ≡ false
    by true e none = sym (ap (has_bare is_brace) (read_is true b front e)) ∙ none
    by false e none =
        (or_parts (is_brace b) (has_bare is_brace (characters_from false front))
        (sym (ap (has_bare is_brace) (read_is false b front e)) ∙ none)).1

-- what ends a region is a line feed or a bare brace
ends_here : (p : Bool) (b : ℕ) (text : List ℕ) → ends_at p b ≡ true → EndsFrom p [] (b ∷ text)
ends_here true b text ends = elim (or_cases (is_feed b) false ends) [
  | inl feed ↦ inl feed
  | inr shut ↦ absurd (false≢true shut)
]
ends_here false b text ends = elim (or_cases (is_feed b) (is_brace b) ends) [
  | inl feed ↦ inl feed
  | inr brace ↦ inr (tt, brace)
]

-- so many bytes at the front are a region
pub region_from : (p : Bool) (text : List ℕ) →
    IsFrom p (take (region p text) text) (drop (region p text) text)
region_from p [] = record { no_feed = refl; no_brace = nothing_bare p; ends = tt }
region_from true (b ∷ text) =
    cond_both (ends_at true b) 0 (suc (region false text))
    (λ (n : ℕ). IsFrom true (take n (b ∷ text)) (drop n (b ∷ text)))
    (λ ends. record { no_feed = refl; no_brace = refl; ends = ends_here true b text ends })
    (λ on.
    from_protected b (take (region false text) text) (drop (region false text) text)
    (or_parts (is_feed b) false on).0 (region_from false text))
region_from false (b ∷ text) =
    cond_both (ends_at false b) 0 (suc (region (b == BACKSLASH) text))
    (λ (n : ℕ). IsFrom false (take n (b ∷ text)) (drop n (b ∷ text)))
    (λ ends. record { no_feed = refl; no_brace = refl; ends = ends_here false b text ends })
    (λ on.
    (let parts = or_parts (is_feed b) (is_brace b) on in
    let n = region (b == BACKSLASH) text in
    from_read (b == BACKSLASH) b (take n text) (drop n text) refl parts.0 parts.1
    (region_from (b == BACKSLASH) text)))

ends_same : (front rest : List ℕ) → EndsFrom false front rest → EndsRegion front rest
ends_same front [] ends = tt
ends_same front (b ∷ rest) ends = ends

same_ends : (front rest : List ℕ) → EndsRegion front rest → EndsFrom false front rest
same_ends front [] ends = tt
same_ends front (b ∷ rest) ends = ends

pub region_is : (text : List ℕ) (n : ℕ) → region false text ≡ n →
    IsRegion (take n text) (drop n text)
region_is text n e =
    subst (λ (k : ℕ). IsRegion (take k text) (drop k text)) e
    (let is = region_from false text in
    record {
      no_feed = is.no_feed;
      no_brace = is.no_brace;
      ends = ends_same (take (region false text) text) (drop (region false text) text) is.ends;
    })

as_from : (front rest : List ℕ) → IsRegion front rest → IsFrom false front rest
as_from front rest is =
    record { no_feed = is.no_feed; no_brace = is.no_brace; ends = same_ends front rest is.ends }

-- a brace is no backslash
brace_other : (b : ℕ) → is_brace b ≡ true → (b == BACKSLASH) ≡ false
brace_other b brace =
    false_from_ne_true (b == BACKSLASH)
    (λ e.
    false≢true (subst (λ (x : ℕ). is_brace x ≡ true) (eqb-true b BACKSLASH e) brace))

-- a body that ends before a bare brace ends with the region
pub one_region : (p : Bool) (front body rest r : List ℕ) → IsFrom p front rest →
    IsPart is_brace (characters_from p body) → HasNoFeed body →
    front ++ rest ≡ body ++ CLOSING_BRACE ∷ r → (front ≡ body) × (rest ≡ CLOSING_BRACE ∷ r)
one_region p [] [] rest r is part feed e = (refl, e)
one_region p [] (c ∷ body) rest r is part feed e =
    absurd (by p (subst (λ (t : List ℕ). EndsFrom p [] t) e is.ends) part)
  where
    by : (p : Bool) → EndsFrom p [] (c ∷ (body ++ CLOSING_BRACE ∷ r)) →
        IsPart is_brace (characters_from p (c ∷ body)) → ⊥
    by p (inl is_one) part = both_ways (is_feed c) (or_parts (is_feed c) _ feed).0 is_one
    by true (inr (shut, brace)) part = false≢true (sym shut.0)
    by false (inr (shut, brace)) part =
        both_ways (is_brace c)
        (or_parts (c == BACKSLASH) (is_brace c)
        (subst (λ (w : List Written). IsPart is_brace w)
        (cond-false (c == BACKSLASH) (characters_from true body)
        (bare c ∷ characters_from false body) (brace_other c brace)) part).0).1 brace
one_region true (b ∷ front) [] rest r is part feed e = absurd (false≢true (sym part.0))
one_region false (b ∷ front) [] rest r is part feed e =
    let head : b ≡ CLOSING_BRACE = cc in
    absurd (false≢true (sym (subst
    (λ (x : ℕ). has_bare is_brace (characters_from false (x ∷ front)) ≡ false) head is.no_brace)))
one_region true (b ∷ front) (c ∷ body) rest r is part feed e =
    let head : b ≡ c = cc in
    let tail : front ++ rest ≡ body ++ CLOSING_BRACE ∷ r = cc in
    let later = one_region false front body rest r (behind_protected b front rest is) part
    (or_parts (is_feed c) _ feed).1 tail in
    (ap (λ (x : ℕ). x ∷ front) head ∙ ap (λ (t : List ℕ). c ∷ t) later.0, later.1)
one_region false (b ∷ front) (c ∷ body) rest r is part feed e =
    let head : b ≡ c = cc in
    let tail : front ++ rest ≡ body ++ CLOSING_BRACE ∷ r = cc in
    by (b == BACKSLASH) refl head
    (λ q is part feed. one_region q front body rest r is part feed tail)
  where
    part_behind : (q : Bool) → (c == BACKSLASH) ≡ q → IsPart is_brace (characters_from q body)
    part_behind true q =
        subst (λ (w : List Written). IsPart is_brace w) (read_is true c body q) part
    part_behind false q =
        (subst (λ (w : List Written). IsPart is_brace w) (read_is false c body q) part).1

    by : (q : Bool) → (b == BACKSLASH) ≡ q → b ≡ c →
        ((q : Bool) → IsFrom q front rest → IsPart is_brace (characters_from q body) →
        HasNoFeed body → (front ≡ body) × (rest ≡ CLOSING_BRACE ∷ r)) →
        (b ∷ front ≡ c ∷ body) × (rest ≡ CLOSING_BRACE ∷ r)
    by q e head go =
        let also : (c == BACKSLASH) ≡ q = ap (λ (x : ℕ). x == BACKSLASH) (sym head) ∙ e in
        let later = go q (behind_read q b front rest e is) (part_behind q also)
        (or_parts (is_feed c) _ feed).1 in
        (ap (λ (x : ℕ). x ∷ front) head ∙ ap (λ (t : List ℕ). c ∷ t) later.0, later.1)

-- a brace of a region is protected, so that after it is the rest of the region
region_behind : (p : Bool) (u v rest : List ℕ) → IsFrom p (u ++ OPENING_BRACE ∷ v) rest →
    IsFrom false v rest
region_behind true [] v rest is = behind_protected OPENING_BRACE v rest is
region_behind false [] v rest is = absurd (false≢true (sym is.no_brace))
region_behind true (b ∷ u) v rest is =
    region_behind false u v rest (behind_protected b (u ++ OPENING_BRACE ∷ v) rest is)
region_behind false (b ∷ u) v rest is =
    region_behind (b == BACKSLASH) u v rest
    (behind_read (b == BACKSLASH) b (u ++ OPENING_BRACE ∷ v) rest refl is)

-- a brace within a front
record IsWithin (front rest behind : List ℕ) (place : ℕ) : Type 0 where
  pub u : List ℕ
  pub v : List ℕ
  pub front_is : front ≡ u ++ OPENING_BRACE ∷ v
  pub behind_is : behind ≡ v ++ rest
  pub there : slice_get front place ≡ Some OPENING_BRACE
  pub left : drop (suc place) front ≡ v

brace_within : (front rest behind : List ℕ) (place : ℕ) → place < length front →
    drop place (front ++ rest) ≡ OPENING_BRACE ∷ behind → IsWithin front rest behind place
brace_within [] rest behind place inside e = absurd (omega (arith, inside))
brace_within (b ∷ front) rest behind zero inside e =
    let head : b ≡ OPENING_BRACE = cc in
    let tail : front ++ rest ≡ behind = cc in
    record {
      u = [];
      v = front;
      front_is = ap (λ (x : ℕ). x ∷ front) head;
      behind_is = sym tail;
      there = ap Some head;
      left = refl;
    }
brace_within (b ∷ front) rest behind (suc place) inside e =
    let later = brace_within front rest behind place (omega (arith, inside)) e in
    record {
      u = b ∷ later.u;
      v = later.v;
      front_is = ap (λ (t : List ℕ). b ∷ t) later.front_is;
      behind_is = later.behind_is;
      there = later.there;
      left = later.left;
    }

-- the body of a tag has no bare brace
pub body_part : (body : List ℕ) (entry : Entry) → IsTagBody body entry →
    IsPart is_brace (characters body)
body_part body entry is =
    subst (λ (w : List Written). IsPart is_brace w)
    (sym (ap characters is.whole ∙ characters_part is_brace is.characters is.no_brace))
    is.no_brace

-- two bodies that end at the first bare brace of one text are one
pub body_same : (body other r t : List ℕ) → IsPart is_brace (characters body) → HasNoFeed body →
    IsPart is_brace (characters other) → HasNoFeed other →
    body ++ CLOSING_BRACE ∷ r ≡ other ++ CLOSING_BRACE ∷ t → (body ≡ other) × (r ≡ t)
body_same body other r t part feed other_part other_feed e =
    let is : IsFrom false body (CLOSING_BRACE ∷ r) = record {
      no_feed = feed;
      no_brace = none_bare is_brace (characters body) part;
      ends = inr (part, refl);
    } in
    let same = one_region false body other (CLOSING_BRACE ∷ r) t is other_part other_feed e in
    (same.0, ap (drop 1) same.1)

-- a tag at the front, from its body on
tag_parts : (text tag rest : List ℕ) (entry : Entry) → text ≡ tag ++ rest → (is : IsTag tag entry) →
    text ≡ OPENING_BRACE ∷ (is.0 ++ CLOSING_BRACE ∷ rest)
tag_parts text tag rest entry e is =
    e ∙ ap (λ (t : List ℕ). t ++ rest) is.1
    ∙ ap (λ (t : List ℕ). OPENING_BRACE ∷ t) (append_assoc is.0 (CLOSING_BRACE ∷ []) rest)

-- a tag that begins at a brace of a region goes to its end
pub tag_place : (front rest : List ℕ) → IsRegion front rest → (k : ℕ) → k ≤ length front →
    BeginsWithTag (drop k (OPENING_BRACE ∷ (front ++ rest))) →
    Closes rest × IsTagPlace (OPENING_BRACE ∷ front) k
tag_place front rest is zero inside (tag, more, entry, e, tagged) =
    let body = tagged.0 in
    let whole : front ++ rest ≡ body ++ CLOSING_BRACE ∷ more =
    ap (drop 1) (tag_parts (OPENING_BRACE ∷ (front ++ rest)) tag more entry e tagged) in
    let same = one_region false front body rest more (as_from front rest is)
    (body_part body entry tagged.2) tagged.2.no_feed whole in (
      (more, same.1),
      (
        refl,
        ap (λ (t : List ℕ). is_tail before_form (characters t)) same.0
            ∙ body_tail body entry tagged.2,
      ),
    )
tag_place front rest is (suc k) inside (tag, more, entry, e, tagged) =
    let body = tagged.0 in
    let whole : drop k (front ++ rest) ≡ OPENING_BRACE ∷ (body ++ CLOSING_BRACE ∷ more) =
    tag_parts (drop k (front ++ rest)) tag more entry e tagged in
    let at = brace_within front rest (body ++ CLOSING_BRACE ∷ more) k (omega (arith, inside)) whole
    in
    let left = region_behind false at.u at.v rest
    (subst (λ (t : List ℕ). IsFrom false t rest) at.front_is (as_from front rest is)) in
    let same = one_region false at.v body rest more left
    (body_part body entry tagged.2) tagged.2.no_feed (sym at.behind_is) in (
      (more, same.1),
      (
        at.there,
        ap (λ (t : List ℕ). is_tail before_form (characters t))
            (at.left ∙ same.0) ∙ body_tail body entry tagged.2,
      ),
    )

-- a region that a bare brace ends is closed
closed : (front r : List ℕ) → IsRegion front (CLOSING_BRACE ∷ r) → IsPart is_brace (characters front)
closed front r is = elim is.ends [
  | inl feed ↦ absurd (false≢true feed)
  | inr brace ↦ brace.0
]

-- where its characters go from the form's begin to a body's end, a tag stands there
pub place_tag : (front r : List ℕ) → IsRegion front (CLOSING_BRACE ∷ r) →
    is_tail before_form (characters front) ≡ true →
    (entry : Entry) × IsTag (OPENING_BRACE ∷ (front ++ CLOSING_BRACE ∷ [])) entry
place_tag front r is tail =
    let body = tail_body front (closed front r is) is.no_feed tail in
    (body.0, (front, refl, body.1))

drop_here : (bytes : List ℕ) (n : ℕ) → n < length bytes →
    drop n bytes ≡ get_or bytes n 0 ∷ drop (suc n) bytes
drop_here [] n inside = absurd (omega (arith, inside))
drop_here (b ∷ bytes) zero inside = refl
drop_here (b ∷ bytes) (suc n) inside = drop_here bytes n (omega (arith, inside))

get_here : (bytes : List ℕ) (n : ℕ) → n < length bytes →
    slice_get bytes n ≡ Some (get_or bytes n 0)
get_here [] n inside = absurd (omega (arith, inside))
get_here (b ∷ bytes) zero inside = refl
get_here (b ∷ bytes) (suc n) inside = get_here bytes n (omega (arith, inside))

-- one byte further to the front
module _ (bytes : List ℕ) (from : ℕ) (inside : from < length bytes) where
  pub rest_more : (rest more : Rest) → AreRest rest (drop (suc from) bytes) →
      ((text : List ℕ) → AreRest rest text → AreRest more (get_or bytes from 0 ∷ text)) →
      AreRest more (drop from bytes)
  rest_more rest more are step =
      subst (λ (t : List ℕ). AreRest more t) (sym (drop_here bytes from inside))
      (step (drop (suc from) bytes) are)

  pub first_here : (rest : Rest) → AreRest rest (drop (suc from) bytes) →
      get_or bytes from 0 ≡ OPENING_BRACE → rest.bare.before_form ≡ true →
      IsFirstPlace bytes from (Some from)
  first_here rest are brace tail = (
    (get_here bytes from inside ∙ ap Some brace, sym are.is_bare.is_before_form ∙ tail),
    λ j low high tag. omega (arith, low, high),
  )

  pub first_later : (rest : Rest) (first : Option ℕ) → AreRest rest (drop (suc from) bytes) →
      (get_or bytes from 0 ≡ OPENING_BRACE → rest.bare.before_form ≡ true → ⊥) →
      IsFirstPlace bytes (suc from) first → IsFirstPlace bytes from first
  first_later rest first are none later = by first later
    where
      here : IsTagPlace bytes from → ⊥
      here tag =
          none (same_Some _ _ (sym (get_here bytes from inside) ∙ tag.0))
          (are.is_bare.is_before_form ∙ tag.1)

      before : (j : ℕ) → from ≤ j → (suc from ≤ j → IsTagPlace bytes j → ⊥) →
          IsTagPlace bytes j → ⊥
      before j low above tag = elim (cases_lt from j) [
        | inl less ↦ above (omega (arith, less)) tag
        | inr not_less ↦
            (let same : j ≡ from = omega (arith, low, not_less) in
            here (subst (λ (k : ℕ). IsTagPlace bytes k) same tag))
      ]

      by : (first : Option ℕ) → IsFirstPlace bytes (suc from) first → IsFirstPlace bytes from first
      by None later = λ j low tag. before j low (λ less. later j less) tag
      by (Some place) later =
          (later.0, λ j low high tag. before j low (λ less t. later.1 j less high t) tag)

-- where the first byte ends it, a region is empty
pub region_stop : (p : Bool) (text : List ℕ) (place : ℕ) → place < length text →
    ends_at p (get_or text place 0) ≡ true → region p (drop place text) ≡ 0
region_stop p text place inside ends =
    ap (region p) (drop_here text place inside)
    ∙ cond-true (ends_at p (get_or text place 0)) 0
    (suc (region (not p && get_or text place 0 == BACKSLASH) (drop (suc place) text))) ends

pub region_whole : (p : Bool) (text : List ℕ) (place : ℕ) →
    region false text ≡ place + region p (drop place text) → place ≡ length text →
    region false text ≡ length text
region_whole p text place so_far all =
    let over : drop place text ≡ [] = drop_all place text (omega (arith, all)) in
    let none : place + 0 ≡ length text = omega (arith, all) in
    so_far ∙ ap (λ (t : List ℕ). place + region p t) over ∙ none

-- a text that begins with a brace
brace_in_front : (text : List ℕ) → slice_get text 0 ≡ Some OPENING_BRACE →
    text ≡ OPENING_BRACE ∷ drop 1 text
brace_in_front [] brace = absurd (none-some OPENING_BRACE brace)
brace_in_front (b ∷ text) brace =
    ap (λ (x : ℕ). x ∷ text) (same_Some b OPENING_BRACE brace)

-- all of what stands after a place
pub all_behind_is : (text : List ℕ) (n : ℕ) →
    take (length text - n) (drop n text) ≡ drop n text
all_behind_is text n =
    take_all (length text - n) (drop n text)
    (let left = length-drop n text in omega (arith, left))

module _ (text : List ℕ) (n : ℕ) (is : IsRegion (take n text) (drop n text))
    (inside : n ≤ length text) where
  place_in : (k : ℕ) → k ≤ n → BeginsWithTag (drop k (OPENING_BRACE ∷ text)) →
      Closes (drop n text) × IsTagPlace (OPENING_BRACE ∷ take n text) k
  place_in k low tag =
      tag_place (take n text) (drop n text) is k
      (let long = length-take-le n text inside in omega (arith, low, long))
      (subst (λ (t : List ℕ). BeginsWithTag (drop k (OPENING_BRACE ∷ t)))
      (sym (take-append-drop n text)) tag)

  region_part : take (n + 1) (OPENING_BRACE ∷ text) ≡ OPENING_BRACE ∷ take n text
  region_part =
      let next : n + 1 ≡ suc n = omega arith in
      ap (λ (k : ℕ). take k (OPENING_BRACE ∷ text)) next

  free_all : ((k : ℕ) → k ≤ n → BeginsWithTag (drop k (OPENING_BRACE ∷ text)) → ⊥) →
      IsFound (OPENING_BRACE ∷ text) (record { free = n + 1; len = 0 })
  free_all none = record {
    within = omega (arith, inside);
    none = λ k low tag. none k (omega (arith, low)) tag;
    tag = λ none_free. absurd (omega (arith, none_free));
    len = λ none_free. absurd (omega (arith, none_free));
  }

  -- no tag begins in a region that no closing brace ends
  found_open : (Closes (drop n text) → ⊥) →
      IsFound (OPENING_BRACE ∷ text) (record { free = n + 1; len = 0 })
  found_open none = free_all (λ k low tag. none (place_in k low tag).0)

  found_none : IsFirstPlace (take (n + 1) (OPENING_BRACE ∷ text)) 0 None →
      IsFound (OPENING_BRACE ∷ text) (record { free = n + 1; len = 0 })
  found_none first =
      free_all (λ k low tag.
      first k (omega arith)
      (subst (λ (t : List ℕ). IsTagPlace t k) (sym region_part) (place_in k low tag).1))

  found_some : Closes (drop n text) → (place : ℕ) →
      IsFirstPlace (take (n + 1) (OPENING_BRACE ∷ text)) 0 (Some place) →
      IsFound (OPENING_BRACE ∷ text) (record { free = place; len = n + 2 })
  found_some closes place first = record {
    within = omega (arith, there, inside);
    none = λ k low tag.
        first.1 k (omega arith) low
        (subst (λ (t : List ℕ). IsTagPlace t k) (sym region_part)
        (place_in k (omega (arith, low, there)) tag).1);
    tag = tag_here;
    len = λ none_free. omega (arith, fits);
  }
    where
      long : length (take n text) ≡ n
      long = length-take-le n text inside

      there : place ≤ n
      there =
          let at = slice_get_within (take (n + 1) (OPENING_BRACE ∷ text)) place OPENING_BRACE
          first.0.0 in
          let whole : length (take (n + 1) (OPENING_BRACE ∷ text)) ≡ suc (length (take n text)) =
          ap length region_part in
          omega (arith, at, whole, long)

      fits : n < length text
      fits =
          let rest : length (drop n text) ≡ suc (length closes.0) = ap length closes.1 in
          let left = length-drop n text in
          omega (arith, rest, left, inside)

      tail_here : place ≡ 0 → is_tail before_form (characters (take n text)) ≡ true
      tail_here none_free =
          ap (λ (t : List ℕ). is_tail before_form (characters (drop 1 t))) (sym region_part)
          ∙ ap (λ (k : ℕ).
          is_tail before_form (characters (drop (suc k) (take (n + 1) (OPENING_BRACE ∷ text)))))
          (sym none_free)
          ∙ first.0.1

      part_is : take (n + 2) (OPENING_BRACE ∷ text)
          ≡ OPENING_BRACE ∷ (take n text ++ CLOSING_BRACE ∷ [])
      part_is =
          let next : n + 2 ≡ suc (n + 1) = omega arith in
          ap (λ (k : ℕ). take k (OPENING_BRACE ∷ text)) next
          ∙ ap (λ (t : List ℕ). OPENING_BRACE ∷ take (n + 1) t)
          (sym (take-append-drop n text) ∙ ap (λ (t : List ℕ). take n text ++ t) closes.1)
          ∙ ap (λ (t : List ℕ). OPENING_BRACE ∷ t) taken
        where
          taken : take (n + 1) (take n text ++ CLOSING_BRACE ∷ closes.0)
              ≡ take n text ++ CLOSING_BRACE ∷ []
          taken =
              ap (take (n + 1))
              (sym (append_assoc (take n text) (CLOSING_BRACE ∷ []) closes.0))
              ∙ take_at (take n text ++ CLOSING_BRACE ∷ []) closes.0 (n + 1)
              (let push = length_push (take n text) CLOSING_BRACE in omega (arith, push, long))

      tag_here : place ≡ 0 →
          (entry : Entry) × IsTag (take (n + 2) (OPENING_BRACE ∷ text)) entry
      tag_here none_free =
          let tag = place_tag (take n text) closes.0
          (subst (λ (r : List ℕ). IsRegion (take n text) r) closes.1 is) (tail_here none_free) in
          (tag.0, subst (λ (t : List ℕ). IsTag t tag.0) (sym part_is) tag.1)

-- what stands after a brace, as it is read
abbrev pub behind_of : List ℕ → ℕ → List ℕ
behind_of text n = take (length text - n) (drop n text)

-- what a region that so begins tells of a text
module _ (text : List ℕ) (n : ℕ) (brace : slice_get text 0 ≡ Some OPENING_BRACE)
    (is : IsRegion (take n (behind_of text 1)) (drop n (behind_of text 1)))
    (inside : n ≤ length (behind_of text 1)) where
  behind_is : IsRegion (take n (drop 1 text)) (drop n (drop 1 text))
  behind_is =
      subst (λ (t : List ℕ). IsRegion (take n t) (drop n t)) (all_behind_is text 1) is

  inside_is : n ≤ length (drop 1 text)
  inside_is = subst (λ (t : List ℕ). n ≤ length t) (all_behind_is text 1) inside

  rest_is : behind_of (behind_of text 1) n ≡ drop n (drop 1 text)
  rest_is = all_behind_is (behind_of text 1) n ∙ ap (drop n) (all_behind_is text 1)

  whole_is : OPENING_BRACE ∷ drop 1 text ≡ text
  whole_is = sym (brace_in_front text brace)

  pub tell_open : (Closes (behind_of (behind_of text 1) n) → ⊥) →
      IsFound text (record { free = n + 1; len = 0 })
  tell_open none =
      subst (λ (t : List ℕ). IsFound t (record { free = n + 1; len = 0 })) whole_is
      (found_open (drop 1 text) n behind_is inside_is
      (λ closes. none (subst Closes (sym rest_is) closes)))

  pub tell_none : IsFirstPlace (take (n + 1) text) 0 None →
      IsFound text (record { free = n + 1; len = 0 })
  tell_none first =
      subst (λ (t : List ℕ). IsFound t (record { free = n + 1; len = 0 })) whole_is
      (found_none (drop 1 text) n behind_is inside_is
      (subst (λ (t : List ℕ). IsFirstPlace (take (n + 1) t) 0 None) (sym whole_is) first))

  pub tell_some : Closes (behind_of (behind_of text 1) n) → (place : ℕ) →
      IsFirstPlace (take (n + 1) text) 0 (Some place) →
      IsFound text (record { free = place; len = n + 2 })
  tell_some closes place first =
      subst (λ (t : List ℕ). IsFound t (record { free = place; len = n + 2 })) whole_is
      (found_some (drop 1 text) n behind_is inside_is (subst Closes rest_is closes) place
      (subst (λ (t : List ℕ). IsFirstPlace (take (n + 1) t) 0 (Some place)) (sym whole_is) first))

-- what is found free from a place on
pub free_found : (text : List ℕ) (start : ℕ) (found : Found) → IsFound (behind_of text start) found →
    IsFree text start (start + found.free)
free_found text start found is k low high tag =
    let there : start + (k - start) ≡ k = omega (arith, low) in
    let same : drop k text ≡ drop (k - start) (behind_of text start) =
    ap (λ (n : ℕ). drop n text) (sym there) ∙ sym (drop-drop (k - start) start text)
    ∙ ap (drop (k - start)) (sym (all_behind_is text start)) in
    is.none (k - start) (omega (arith, low, high)) (subst BeginsWithTag same tag)
