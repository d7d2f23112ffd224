-- A part of a dictionary: its forms begin with the same characters, so that those that go on with a
-- letter stand next to each other.
use Rattle.std.proofs.Common.{◌≡◌, ◌↔◌, ℕ, ◌+◌, ◌<◌, ◌≤◌, List, [], ◌∷◌, ◌++◌, true, false, length, take, drop, get_or, refl, sym, ◌∙◌, ap, subst, inl, inr, arith, length-append}
use Rattle.std.specs.Prelude.{◌==◌, Bool, Contains, IsUtf8, filter, map}
use Rattle.std.specs.List.Sorted.{IsNonDecreasingBy, IsPartitionedBy}
use Rattle.std.specs.Str.{chars}
use Rattle.std.specs.Cmp.Lexicographic.{slice_cmp, nat_list_cmp_total}
use Rattle.std.specs.Ordering.{nat_cmp, is_lt, ordering_index}
use Rattle.std.proofs.lemmas.Bool.{cases_eq, eqb-true, leb-true, le-leb}
use Rattle.std.proofs.lemmas.Cmp.{tied_itself}
use Rattle.std.proofs.lemmas.List.{append_assoc, append-nil, drop_at, take_at, take-append-drop, nil_from_length}
use Rattle.std.proofs.lemmas.List.Elements.{All-nil, All-cons, All-contains, All-weaker}
use Rattle.std.proofs.lemmas.List.Sorted.{searchable_from_sorted}
use Rattle.std.proofs.lemmas.Map.Lookups.{exact_bytes}
use Rattle.std.proofs.lemmas.Str.{encodes-append, encodes-chars, cons_from_encodes}
use lib.Utf8.{encode, encodes}
use Rattle.ux_dela.specs.declared.entry.Entry.{Entry}
use Rattle.ux_dict.specs.declared.parts.Part.{Part}
use Rattle.ux_dict.specs.Content.{IsUpTo}
use Rattle.ux_dict.specs.Forms.{IsChosen}
use Rattle.ux_dict.specs.Keys.{key_of}
use Rattle.ux_dict.specs.Parts.{rank_of, next_rank, goes_on, ends_by, BeginsWith, IsPart, IsSifted, IsFollowed, GoesOnWith, IsContinued}
use Rattle.ux_dict.proofs.ChosenLemmas.{chosen-filter, chosen-all, chosen-within, chosen-pairs, chosen-same}
use Rattle.ux_dict.proofs.EncodeOrder.{below_encode}
use Rattle.ux_base.proofs.OrderedLists.{Contains-nil, Contains-cons_cases}
use Rattle.ux_dict.proofs.TextOrder.{not_below, cmp-front, cmp-take, nil_only, index_equal}

-- a form is the bytes of the characters it begins with, and of those behind
pub form_is : (form front rest : List ℕ) → IsUtf8 form → chars form ≡ front ++ rest →
    form ≡ encodes front ++ encodes rest
form_is form front rest utf8 is =
    sym (encodes-chars form utf8) ∙ ap encodes is ∙ encodes-append front rest

pub behind : (form front rest : List ℕ) (len : ℕ) → IsUtf8 form → chars form ≡ front ++ rest →
    length (encodes front) ≡ len → drop len form ≡ encodes rest
behind form front rest len utf8 is long =
    ap (drop len) (form_is form front rest utf8 is)
    ∙ drop_at (encodes front) (encodes rest) len long

-- of two entries in order whose forms begin alike, what is behind is in order
rest_not_below : (front restx resty : List ℕ) (x y : Entry) → IsUtf8 x.form → IsUtf8 y.form →
    chars x.form ≡ front ++ restx → chars y.form ≡ front ++ resty → IsUpTo x y →
    is_lt (slice_cmp nat_cmp (encodes resty) (encodes restx)) ≡ false
rest_not_below front restx resty x y ux uy bx by up =
    let whole = not_below x y up in
    let cut : slice_cmp nat_cmp y.form x.form
    ≡ slice_cmp nat_cmp (encodes resty) (encodes restx) =
    (λ i. slice_cmp nat_cmp (form_is y.form front resty uy by i)
    (form_is x.form front restx ux bx i))
    ∙ cmp-front (encodes front) (encodes resty) (encodes restx) in
    ap is_lt (sym cut) ∙ whole

-- the ranks of forms that begin alike rise
pub next_rises : (front : List ℕ) (part : Part) (bytes : List ℕ) → IsPart front part →
    IsNonDecreasingBy (next_rank part.len bytes) part.entries.now
next_rises front part bytes is =
    let entries = part.entries.now in
    let n = length bytes in
    searchable_from_sorted nat_list_cmp_total (λ (e : Entry). take n (drop part.len e.form)) entries
    bytes (λ k d low lt.
    let x = get_or entries k d in
    let y = get_or entries (k + 1) d in
    let inside : k < length entries = omega (arith, lt) in
    let ux = is.utf8 k d inside in
    let uy = is.utf8 (k + 1) d lt in
    let bx = is.shared k d inside in
    let by = is.shared (k + 1) d lt in
    let up = is.ordered k (k + 1) d (omega arith) lt in
    let short = cmp-take n (encodes by.0) (encodes bx.0)
    (rest_not_below front bx.0 by.0 x y ux uy bx.1 by.1 up) in
    (λ i. is_lt (slice_cmp nat_cmp
    (take n (behind y.form front by.0 part.len uy by.1 is.long i))
    (take n (behind x.form front bx.0 part.len ux bx.1 is.long i)))) ∙ short)

-- a form no longer than its front is the front, and so is a lower one
ends_before : (front restx resty : List ℕ) (len : ℕ) (x y : Entry) → length (encodes front) ≡ len →
    IsUtf8 x.form → IsUtf8 y.form → chars x.form ≡ front ++ restx → chars y.form ≡ front ++ resty →
    IsUpTo x y → ends_by len y ≡ true → ends_by len x ≡ true
ends_before front restx resty len x y long ux uy bx by up ends =
    let short = leb-true (length y.form) len ends in
    let size = ap length (form_is y.form front resty uy by)
    ∙ length-append (encodes front) (encodes resty) in
    let none = nil_from_length (encodes resty) (omega (arith, short, size, long)) in
    let cut = rest_not_below front restx resty x y ux uy bx by up in
    let also = nil_only (encodes restx)
    (subst (λ (l : List ℕ). is_lt (slice_cmp nat_cmp l (encodes restx)) ≡ false) none cut) in
    let size_x = ap length (form_is x.form front restx ux bx)
    ∙ length-append (encodes front) (encodes restx) in
    let empty = ap length also in
    le-leb (length x.form) len (omega (arith, size_x, empty, long))

pub ends_parted : (front : List ℕ) (part : Part) → IsPart front part →
    IsPartitionedBy (ends_by part.len) part.entries.now
ends_parted front part is i j d le lt ends =
    let entries = part.entries.now in
    elim (cases_eq i j) [
      | inl same ↦ subst (λ k. ends_by part.len (get_or entries k d) ≡ true) (sym same) ends
      | inr other ↦ (
          let before : i < j = omega (arith, le, other) in
          let inside : i < length entries = omega (arith, before, lt) in
          let bx = is.shared i d inside in
          let by = is.shared j d lt in
          ends_before front bx.0 by.0 part.len (get_or entries i d) (get_or entries j d) is.long
          (is.utf8 i d inside) (is.utf8 j d lt) bx.1 by.1 (is.ordered i j d before lt) ends)
    ]

-- a form that begins with the front and more has the bytes of these behind the front
more_behind : (front more rest : List ℕ) (len : ℕ) (entry : Entry) →
    length (encodes front) ≡ len → IsUtf8 entry.form →
    chars entry.form ≡ (front ++ more) ++ rest →
    drop len entry.form ≡ encodes more ++ encodes rest
more_behind front more rest len entry long utf8 is =
    behind entry.form front (more ++ rest) len utf8 (is ∙ append_assoc front more rest) long
    ∙ encodes-append more rest

-- it is of the middle rank
pub rank_here : (front more bytes : List ℕ) (len : ℕ) (entry : Entry) → bytes ≡ encodes more →
    length (encodes front) ≡ len → IsUtf8 entry.form → BeginsWith (front ++ more) entry →
    next_rank len bytes entry ≡ 1
rank_here front more bytes len entry same long utf8 begins =
    let after = more_behind front more begins.0 len entry long utf8 begins.1
    ∙ ap (λ (l : List ℕ). l ++ encodes begins.0) (sym same) in
    let cut = ap (take (length bytes)) after
    ∙ take_at bytes (encodes begins.0) (length bytes) refl in
    ap (λ (l : List ℕ). ordering_index (slice_cmp nat_cmp l bytes)) cut
    ∙ ap ordering_index (tied_itself nat_list_cmp_total bytes)

-- and below where the letter is a lower one
pub rank_lower : (front : List ℕ) (f c len : ℕ) (entry : Entry) → f < c →
    length (encodes front) ≡ len → IsUtf8 entry.form → BeginsWith (front ++ f ∷ []) entry →
    next_rank len (encode c) entry ≡ 0
rank_lower front f c len entry lt long utf8 begins =
    let after = more_behind front (f ∷ []) begins.0 len entry long utf8 begins.1
    ∙ ap (λ (l : List ℕ). l ++ encodes begins.0) (append-nil (encode f)) in
    ap (rank_of (encode c)) after ∙ ap ordering_index (below_encode f c (encodes begins.0) lt)

-- what begins with the bytes of characters begins with these
front_from_encodes : (cs more rest : List ℕ) → encodes cs ≡ encodes more ++ rest →
    (behind : List ℕ) × (cs ≡ more ++ behind)
front_from_encodes cs [] rest is = (cs, refl)
front_from_encodes cs (c ∷ more) rest is =
    let split = cons_from_encodes cs (encodes more ++ rest) c
    (is ∙ append_assoc (encode c) (encodes more) rest) in
    let later = front_from_encodes split.0 more rest split.2 in
    (later.0, split.1 ∙ ap (λ (l : List ℕ). c ∷ l) later.1)

-- where a form goes on with some bytes, these stand in it
pub bytes_behind : (len : ℕ) (bytes : List ℕ) (entry : Entry) → goes_on len bytes entry ≡ true →
    drop len entry.form ≡ bytes ++ drop (length bytes) (drop len entry.form)
bytes_behind len bytes entry h =
    let n = length bytes in
    let text = drop len entry.form in
    let rank = eqb-true (next_rank len bytes entry) 1 h in
    let same = exact_bytes (take n text) bytes (index_equal _ rank) in
    sym (take-append-drop n text) ∙ ap (λ (l : List ℕ). l ++ drop n text) same

-- a form goes on with the bytes of characters exactly where it begins with the front and these
pub goes : (front more bytes : List ℕ) (len : ℕ) (entry : Entry) → bytes ≡ encodes more →
    length (encodes front) ≡ len → IsUtf8 entry.form → BeginsWith front entry →
    (goes_on len bytes entry ≡ true) ↔ BeginsWith (front ++ more) entry
goes front more bytes len entry same long utf8 begins = (
  λ h.
      let after = behind entry.form front begins.0 len utf8 begins.1 long in
      let split = front_from_encodes begins.0 more (drop (length bytes) (drop len entry.form))
      (sym after ∙ bytes_behind len bytes entry h
      ∙ ap (λ (l : List ℕ). l ++ drop (length bytes) (drop len entry.form)) same) in (
        split.0,
        begins.1 ∙ ap (λ (l : List ℕ). front ++ l) split.1
            ∙ sym (append_assoc front more split.0),
      ),
  λ begun. ap (λ k. k == 1) (rank_here front more bytes len entry same long utf8 begun),
)

module _ (front more bytes : List ℕ) (part : Part) (same : bytes ≡ encodes more)
    (is : IsPart front part) where
  -- the entries that go on with characters
  pub chosen-going : IsChosen (BeginsWith (front ++ more)) part.entries.now
      (filter (goes_on part.len bytes) part.entries.now)
  chosen-going =
      chosen-filter (BeginsWith (front ++ more)) (goes_on part.len bytes) part.entries.now
      (λ k d lt. goes front more bytes part.len (get_or part.entries.now k d) same is.long
      (is.utf8 k d lt) (is.shared k d lt))

  module _ (sifted : Part) (going : IsSifted (goes_on part.len bytes) part sifted) where
    going_chosen : IsChosen (BeginsWith (front ++ more)) part.entries.now sifted.entries.now
    going_chosen =
        subst (IsChosen (BeginsWith (front ++ more)) part.entries.now) (sym going.entries)
        chosen-going

    -- are a part, whose front has these more
    pub IsPart-going : (next : Part) → next.entries.now ≡ sifted.entries.now →
        next.keys.now ≡ sifted.keys.now → next.len ≡ part.len + length bytes →
        IsPart (front ++ more) next
    IsPart-going next entries keys len =
        let P = BeginsWith (front ++ more) in
        let chosen = subst (IsChosen P part.entries.now) (sym entries) going_chosen in
        let size : length (encodes (front ++ more)) ≡ length (encodes front) + length bytes =
        ap length (encodes-append front more ∙ ap (λ (l : List ℕ). encodes front ++ l) (sym same))
        ∙ length-append (encodes front) bytes in
        record {
          keyed = keys ∙ going.keyed ∙ ap (map key_of) (sym entries);
          long = omega (arith, size, len, is.long);
          utf8 = chosen-within P (λ e. IsUtf8 e.form) chosen is.utf8;
          shared = chosen-all P chosen;
          ordered = chosen-pairs P IsUpTo chosen is.ordered;
        }

    -- a part is put last, or none where there is no entry
    pub IsFollowed-pushed : (next : Part) (old new : List Part) →
        next.entries.now ≡ sifted.entries.now → next.keys.now ≡ sifted.keys.now →
        next.len ≡ part.len + length bytes → new ≡ old ++ next ∷ [] →
        IsFollowed front more part old new
    IsFollowed-pushed next old new entries keys len put = record {
      pushed = next ∷ [];
      is = put;
      chosen = subst (IsChosen (BeginsWith (front ++ more)) part.entries.now)
          (sym (append-nil next.entries.now ∙ entries)) going_chosen;
      each = All-cons (IsPart (front ++ more)) next [] (IsPart-going next entries keys len)
          (All-nil (IsPart (front ++ more)));
    }

    pub IsFollowed-none : (old : List Part) → sifted.entries.now ≡ [] →
        IsFollowed front more part old old
    IsFollowed-none old empty = record {
      pushed = [];
      is = sym (append-nil old);
      chosen = subst (IsChosen (BeginsWith (front ++ more)) part.entries.now) empty going_chosen;
      each = All-nil (IsPart (front ++ more));
    }

    -- the front and these have no more bytes than a form that has both
    pub front_fits : (first : Entry) → Contains sifted.entries.now first →
        part.len + length bytes ≤ length first.form
    front_fits first member =
        let P = BeginsWith (front ++ more) in
        let begins = All-contains P sifted.entries.now first (chosen-all P going_chosen) member in
        let utf8 = All-contains (λ (e : Entry). IsUtf8 e.form) sifted.entries.now first
        (chosen-within P (λ e. IsUtf8 e.form) going_chosen is.utf8) member in
        let whole = form_is first.form front (more ++ begins.0) utf8
        (begins.1 ∙ append_assoc front more begins.0)
        ∙ ap (λ (l : List ℕ). encodes front ++ l) (encodes-append more begins.0) in
        let size = ap length whole ∙ length-append (encodes front) (encodes more ++ encodes begins.0)
        in
        let tail = length-append (encodes more) (encodes begins.0) in
        omega (arith, size, tail, is.long, ap length same)

-- to go on with one letter is to begin with the front and that letter
GoesOnWith-one : (front : List ℕ) (c : ℕ) (entry : Entry) →
    BeginsWith (front ++ c ∷ []) entry ↔ GoesOnWith front (c ∷ []) entry
GoesOnWith-one front c entry = (
  λ begins. (c, (0, omega arith, refl), begins),
  λ goes. elim (Contains-cons_cases c goes.0 [] goes.1) [
    | inl same ↦ subst (λ d. BeginsWith (front ++ d ∷ []) entry) (sym same) goes.2
    | inr later ↦ absurd (Contains-nil goes.0 later)
  ],
)

pub IsContinued-one : (front : List ℕ) (c : ℕ) (part : Part) (old new : List Part) →
    IsFollowed front (c ∷ []) part old new → IsContinued front (c ∷ []) part old new
IsContinued-one front c part old new followed = record {
  pushed = followed.pushed;
  is = followed.is;
  chosen = chosen-same (BeginsWith (front ++ c ∷ [])) (GoesOnWith front (c ∷ []))
      (λ k d lt. GoesOnWith-one front c (get_or part.entries.now k d)) followed.chosen;
  each = All-weaker (IsPart (front ++ c ∷ [])) (λ (p : Part). (d : ℕ) × Contains (c ∷ []) d
      × IsPart (front ++ d ∷ []) p) (λ p is. (c, (0, omega arith, refl), is)) followed.pushed
      followed.each;
}

-- what is sifted is a part as well
pub IsPart-sifted : (front : List ℕ) (passes : Entry → Bool) (part sifted : Part) →
    IsPart front part → IsSifted passes part sifted → IsPart front sifted
IsPart-sifted front passes part sifted is sift =
    let P : Entry → Type 0 = λ e. passes e ≡ true in
    let chosen : IsChosen P part.entries.now sifted.entries.now =
    subst (IsChosen P part.entries.now) (sym sift.entries)
    (chosen-filter P passes part.entries.now (λ k d lt. (λ h. h, λ h. h))) in
    record {
      keyed = sift.keyed;
      long = is.long ∙ sym sift.len;
      utf8 = chosen-within P (λ e. IsUtf8 e.form) chosen is.utf8;
      shared = chosen-within P (BeginsWith front) chosen is.shared;
      ordered = chosen-pairs P IsUpTo chosen is.ordered;
    }
