-- Where no body goes on.
use Rattle.std.proofs.Common.{arith, ◌≡◌, ◌≢◌, ℕ, ◌<◌, List, [], ◌∷◌, ◌++◌, true, false, inl, inr, refl, sym, ◌∙◌, ap, subst, append_assoc, append-nil, length, drop, Option, None, Some}
use Rattle.std.proofs.lemmas.Bool.{both_ways, cases_Bool, or_cases, eqb-true, cond-true, cond-false}
use Rattle.std.specs.Prelude.{◌==◌, ◌||◌}
use Rattle.ux_dela.specs.Signs.{BACKSLASH}
use Rattle.ux_dela.specs.Written.{Written, bare, protected, written, IsPart}
use Rattle.ux_dela.specs.Reading.{characters, IsPartEnd, IsSplit}
use Rattle.ux_dela.proofs.CharactersLemmas.{written-append, characters_bare, characters-written, characters_part, IsPart-append}
use Rattle.ux_dela.proofs.RunLemmas.{is_none_stop, IsClosed}
use Rattle.ux_dela.proofs.CutLemmas.{no_text}
use Rattle.ux_dela.proofs.UniqueLemmas.{Stopped, one_front}
use Rattle.ux_masks.specs.declared.sign.Sign.{Sign}
use Rattle.ux_masks.specs.declared.sign.Sign.TheVariants.{Comma, Dot, Plus, Tilde, Colon}
use Rattle.ux_masks.specs.declared.lexical.Parts.{Parts}
use Rattle.ux_masks.specs.Signs.{is_sign}
use Rattle.ux_masks.specs.Texts.{IsName, Body, IsBody, body_text, parts_of}
use Rattle.ux_masks.specs.Reading.{IsBodyText, BeginsBody, StopsBody, stop_at}
use Rattle.ux_masks.specs.Pieces.{Piece, piece, byte_of, sign_of, sign_at, joined, may_follow, needs_name, AreInOrder, last_sign, IsOver}
use Rattle.ux_masks.proofs.BodyPiecesLemmas.{first_of, first_name, pieces_of, body_joined, body_in_order}
use Rattle.ux_masks.proofs.ClosedLemmas.{body_closed, row_closed}
use Rattle.ux_masks.proofs.PiecesLemmas.{stops_name, same_sign}
use Rattle.ux_masks.proofs.EndLemmas.{sign_ascii, sign_other, end_stopped}
use Rattle.ux_masks.proofs.RowLemmas.{row_body, row_text}
use Rattle.ux_masks.proofs.DraftLemmas.{IsDraft, begins_with_sign, order-push, row_push, sign_from_byte}

-- what comes behind the pieces of another row
pub record IsCut (last : Option Sign) (ps : List Piece) (rest : List Written) : Type 0 where
  pub later : List Piece
  pub order : AreInOrder (last_sign last ps) later
  pub same : joined later ≡ rest

sign_stopped : (sign : Sign) (rest : List Written) → Stopped is_sign (bare (byte_of sign) ∷ rest)
sign_stopped Comma rest = refl
sign_stopped Dot rest = refl
sign_stopped Plus rest = refl
sign_stopped Tilde rest = refl
sign_stopped Colon rest = refl

-- a row that begins as another has its pieces, and then others
row_cut : (v w : List Written) (qs ps : List Piece) (last : Option Sign) (other : Option Sign)
    (rest : List Written) → IsPart is_sign v → IsPart is_sign w → AreInOrder last qs →
    AreInOrder other ps → Stopped is_sign rest → v ++ joined qs ≡ w ++ (joined ps ++ rest) →
    IsCut last ps rest
row_cut v w qs [] last other rest p q a b s e =
    let front = one_front is_sign v w (joined qs) rest p q (stops_name qs) s e in
    record { later = qs; order = a; same = front.1 }
row_cut v w [] (piece t m ∷ ps) last other rest p q a b s e =
    let front = one_front is_sign v w [] (bare (byte_of t) ∷ ((m ++ joined ps) ++ rest)) p q tt
    (sign_stopped t ((m ++ joined ps) ++ rest)) e in
    absurd (let none : [] ≡ bare (byte_of t) ∷ ((m ++ joined ps) ++ rest) = front.1 in cc)
row_cut v w (piece u n ∷ qs) (piece t m ∷ ps) last other rest p q a b s e =
    let front = one_front is_sign v w (joined (piece u n ∷ qs))
    (bare (byte_of t) ∷ ((m ++ joined ps) ++ rest)) p q (stops_name (piece u n ∷ qs))
    (sign_stopped t ((m ++ joined ps) ++ rest)) e in
    let both : bare (byte_of u) ∷ (n ++ joined qs) ≡ bare (byte_of t) ∷ ((m ++ joined ps) ++ rest) =
    front.1 in
    let bytes : byte_of u ≡ byte_of t = cc in
    let behind : n ++ joined qs ≡ (m ++ joined ps) ++ rest = cc in
    let order = subst (λ (x : Sign). AreInOrder (Some x) qs) (same_sign u t bytes) a.2 in
    let cut = row_cut n m qs ps (Some t) (Some t) rest a.1.part b.1.part order b.2 s
    (behind ∙ append_assoc m (joined ps) rest) in
    record { later = cut.later; order = cut.order; same = cut.same }

-- the body of a text, as characters
body_written : (body : Body) (w : List Written) (rest : List ℕ) → IsBody body → IsClosed w →
    written w ++ rest ≡ written (body_text body) →
    first_of body.target ++ joined (pieces_of body) ≡ w ++ characters rest
body_written body w rest is closed e =
    sym (body_joined body)
    ∙ sym (characters_part is_none_stop (body_text body) (body_closed body is))
    ∙ ap characters (sym e)
    ∙ characters-written is_none_stop w rest closed

abbrev head_of : List ℕ → Option ℕ
head_of [] = None
head_of (b ∷ rest) = Some b

-- no body goes on with a rest of this first byte
abbrev Refuted : List Written → Option ℕ → Type 0
Refuted w head = (rest : List ℕ) → IsPartEnd is_sign rest → head_of rest ≡ head →
    (body : Body) → IsBody body →
    first_of body.target ++ joined (pieces_of body) ≡ w ++ characters rest → ⊥

-- a character more makes a body
abbrev Completed : List Written → Type 0
Completed w = (x : Written) → IsPart is_sign (x ∷ []) →
    (body : Body) × IsBody body × (body_text body ≡ w ++ x ∷ [])

-- a text that begins a body
begun_by : (w : List Written) (front rest : List ℕ) (x : Written) → IsPart is_sign (x ∷ []) →
    Completed w → front ++ rest ≡ written (w ++ x ∷ []) → BeginsBody front
begun_by w front rest x is complete e =
    let done = complete x is in (
      rest,
      parts_of done.0,
      record { body = done.0; is = done.1; whole = e ∙ ap written (sym done.2); asks = refl },
    )

begins_bare : (w : List Written) → Completed w → BeginsBody (written w)
begins_bare w complete =
    begun_by w (written w) (120 ∷ []) (bare 120) (refl, tt) complete
    (sym (written-append w (bare 120 ∷ [])))

begins_open : (w : List Written) → Completed w → BeginsBody (written w ++ BACKSLASH ∷ [])
begins_open w complete =
    begun_by w (written w ++ BACKSLASH ∷ []) (120 ∷ []) (protected 120) tt complete
    (append_assoc (written w) (BACKSLASH ∷ []) (120 ∷ [])
    ∙ sym (written-append w (protected 120 ∷ [])))

none_there : (text rest : List ℕ) (w : List Written) → IsClosed w → text ≡ written w ++ rest →
    IsPartEnd is_sign rest → Refuted w (head_of rest) → (parts : Parts) → IsBodyText text parts → ⊥
none_there text rest w closed e ends refuted parts b =
    refuted rest ends refl b.body b.is (body_written b.body w rest b.is closed (sym e ∙ b.whole))

sign_ends : (b : ℕ) (rest : List ℕ) → is_sign b ≡ true → IsPartEnd is_sign (b ∷ rest)
sign_ends b [] is = ap (λ t. t || is_sign b) (sign_other b is) ∙ is
sign_ends b (c ∷ rest) is = is

stuck_there : (w : List Written) (b : ℕ) → IsClosed w → is_sign b ≡ true → Refuted w (Some b) →
    BeginsBody (written w ++ b ∷ []) → ⊥
stuck_there w b closed is refuted begun =
    let t = begun.2 in
    refuted (b ∷ begun.0) (sign_ends b begun.0 is) refl t.body t.is
    (body_written t.body w (b ∷ begun.0) t.is closed
    (sym (append_assoc (written w) (b ∷ []) begun.0) ∙ t.whole))

-- at a sign
at_sign : (text : List ℕ) (b : ℕ) (rest : List ℕ) (w : List Written) → IsClosed w →
    text ≡ written w ++ b ∷ rest → is_sign b ≡ true → Refuted w (Some b) → Completed w →
    StopsBody text (b ∷ rest)
at_sign text b rest w closed e is refuted complete = record {
  front = written w;
  whole = e;
  begins = begins_bare w complete;
  none = none_there text (b ∷ rest) w closed e (sign_ends b rest is) refuted;
  stuck = inr (sign_ascii b is, stuck_there w b closed is refuted);
}

-- at a backslash that ends the text
at_open : (text : List ℕ) (b : ℕ) (w : List Written) → IsClosed w → text ≡ written w ++ b ∷ [] →
    b ≡ BACKSLASH → IsPartEnd is_sign (b ∷ []) → Refuted w (Some b) → Completed w →
    StopsBody text []
at_open text b w closed e is ends refuted complete = record {
  front = text;
  whole = sym (append-nil text);
  begins = subst BeginsBody (ap (λ x. written w ++ x ∷ []) (sym is) ∙ sym e)
      (begins_open w complete);
  none = none_there text (b ∷ []) w closed e ends refuted;
  stuck = inl refl;
}

-- where no body goes on, reading stops
pub stops : (text rest : List ℕ) (w : List Written) → IsClosed w → text ≡ written w ++ rest →
    IsPartEnd is_sign rest → Refuted w (head_of rest) → Completed w →
    StopsBody text (stop_at rest)
stops text [] w closed e ends refuted complete = record {
  front = written w;
  whole = e;
  begins = begins_bare w complete;
  none = none_there text [] w closed e tt refuted;
  stuck = inl refl;
}
stops text (b ∷ []) w closed e ends refuted complete =
    elim (cases_Bool (b == BACKSLASH)) [
      | inl is ↦ (
          subst (StopsBody text) (sym (cond-true (b == BACKSLASH) [] (b ∷ []) is))
          (at_open text b w closed e (eqb-true b BACKSLASH is) ends refuted complete))
      | inr other ↦ (
          subst (StopsBody text) (sym (cond-false (b == BACKSLASH) [] (b ∷ []) other))
          (at_sign text b [] w closed e
          (sym (ap (λ t. t || is_sign b) other) ∙ ends) refuted complete))
    ]
stops text (b ∷ (c ∷ rest)) w closed e ends refuted complete =
    at_sign text b (c ∷ rest) w closed e ends refuted complete

-- the first name is empty
no_first : (rest : List ℕ) → Refuted [] (head_of rest)
no_first rest other ends head body is e =
    let name = first_name body.target is.target in
    let front = one_front is_sign (first_of body.target) [] (joined (pieces_of body))
    (characters other) name.part tt (stops_name (pieces_of body)) (end_stopped other ends) e in
    name.some front.0

one_name : Completed []
one_name x is =
    let row = row_body (x ∷ []) [] (record { some = λ e. cc; part = is }) tt in
    (row.body, row.is, row_text (x ∷ []) [] row ∙ append-nil (x ∷ []))

pub first_stops : (text name rest : List ℕ) → IsSplit is_sign text name rest → length name ≡ 0 →
    StopsBody text (stop_at rest)
first_stops text [] rest split none =
    stops text rest [] tt split.whole split.ends (no_first rest) one_name
first_stops text (b ∷ name) rest split none = absurd (omega (arith, none))

-- a name is missing behind a sign that needs one
no_name : (first : List Written) (pieces : List Piece) (sign : Sign) → IsPart is_sign first →
    AreInOrder None pieces → needs_name sign ≡ true → (head : Option ℕ) →
    Refuted ((first ++ joined pieces) ++ bare (byte_of sign) ∷ []) head
no_name first pieces sign part order needs head other ends same body is e =
    let rest = bare (byte_of sign) ∷ characters other in
    let whole : first_of body.target ++ joined (pieces_of body) ≡ first ++ (joined pieces ++ rest) =
    e ∙ append_assoc (first ++ joined pieces) (bare (byte_of sign) ∷ []) (characters other)
    ∙ append_assoc first (joined pieces) rest in
    let cut = row_cut (first_of body.target) first (pieces_of body) pieces None None rest
    (first_name body.target is.target).part part (body_in_order body is) order
    (sign_stopped sign (characters other)) whole in
    behind_sign (last_sign None pieces) cut.later sign (characters other) needs
    (end_stopped other ends) cut.order cut.same
  where
    behind_sign : (last : Option Sign) (later : List Piece) (sign : Sign) (rest : List Written) →
        needs_name sign ≡ true → Stopped is_sign rest → AreInOrder last later →
        joined later ≡ bare (byte_of sign) ∷ rest → ⊥
    behind_sign last [] sign rest needs s are e = cc
    behind_sign last (piece other name ∷ later) sign rest needs s are e =
        let bytes : byte_of other ≡ byte_of sign = cc in
        let behind : name ++ joined later ≡ rest = cc in
        let front = one_front is_sign name [] (joined later) rest are.1.part tt (stops_name later) s
        behind in
        are.1.some (ap needs_name (same_sign other sign bytes) ∙ needs) front.0

-- a name is put at the end of a row
with_name : (first : List Written) (pieces : List Piece) (sign : Sign) → IsName first →
    AreInOrder None pieces → may_follow (last_sign None pieces) sign ≡ true →
    Completed ((first ++ joined pieces) ++ bare (byte_of sign) ∷ [])
with_name first pieces sign is_name order may x is =
    let more = pieces ++ piece sign (x ∷ []) ∷ [] in
    let row = row_body first more is_name
    (order-push None pieces sign (x ∷ []) order may (record { part = is; some = λ _ e. cc })) in (
      row.body,
      row.is,
      row_text first more row ∙ row_push first pieces sign (x ∷ [])
          ∙ sym (append_assoc (first ++ joined pieces) (bare (byte_of sign) ∷ []) (x ∷ [])),
    )

-- the bytes of a row and a sign
row_and_sign : (text rest behind : List ℕ) (w : List Written) (sign : Sign) →
    text ≡ written w ++ rest → rest ≡ byte_of sign ∷ behind →
    text ≡ written (w ++ bare (byte_of sign) ∷ []) ++ behind
row_and_sign text rest behind w sign e f =
    e ∙ ap (λ t. written w ++ t) f ∙ sym (append_assoc (written w) (byte_of sign ∷ []) behind)
    ∙ ap (λ t. t ++ behind) (sym (written-append w (bare (byte_of sign) ∷ [])))

sign_closed : (sign : Sign) → IsClosed (bare (byte_of sign) ∷ [])
sign_closed Comma = (refl, tt)
sign_closed Dot = (refl, tt)
sign_closed Plus = (refl, tt)
sign_closed Tilde = (refl, tt)
sign_closed Colon = (refl, tt)

pub name_stops : (text rest name left behind : List ℕ) (last : Option Sign) (sign : Sign)
    (draft : Parts) → IsDraft text last draft rest → sign_at rest ≡ Some sign →
    may_follow last sign ≡ true → behind ≡ drop 1 rest → IsSplit is_sign behind name left →
    length name ≡ 0 → needs_name sign ≡ true → StopsBody text (stop_at left)
name_stops text rest name left behind last sign draft d is may e split none needs =
    let row = d.first ++ joined d.pieces in
    let here : behind ≡ left = split.whole ∙ ap (λ t. t ++ left) (no_text name none) in
    let whole : rest ≡ byte_of sign ∷ left =
    begins_with_sign rest sign is ∙ ap (λ t. byte_of sign ∷ t) (sym e ∙ here) in
    let closed = IsPart-append is_none_stop row (bare (byte_of sign) ∷ [])
    (row_closed None d.first d.pieces d.is_name.part d.order) (sign_closed sign) in
    stops text left (row ++ bare (byte_of sign) ∷ []) closed
    (row_and_sign text rest left row sign d.whole whole) split.ends
    (no_name d.first d.pieces sign d.is_name.part d.order needs (head_of left))
    (with_name d.first d.pieces sign d.is_name d.order
    (ap (λ l. may_follow l sign) (sym d.is_last) ∙ may))

-- a character more at a row's end
some_more : (name : List Written) (x : Written) → name ++ x ∷ [] ≢ []
some_more [] x e = cc
some_more (y ∷ name) x e = cc

-- the pieces with a character more
longer : List Piece → Written → List Piece
longer [] x = []
longer (piece sign name ∷ []) x = piece sign (name ++ x ∷ []) ∷ []
longer (piece sign name ∷ (next ∷ pieces)) x = piece sign name ∷ longer (next ∷ pieces) x

longer_order : (last : Option Sign) (pieces : List Piece) (x : Written) → IsPart is_sign (x ∷ []) →
    AreInOrder last pieces → AreInOrder last (longer pieces x)
unfolding longer
longer_order last [] x is are = tt
longer_order last (piece sign name ∷ []) x is are = (
  are.0,
  record {
    part = IsPart-append is_sign name (x ∷ []) are.1.part is;
    some = λ _. some_more name x;
  },
  tt,
)
longer_order last (piece sign name ∷ (next ∷ pieces)) x is are =
    (are.0, are.1, longer_order (Some sign) (next ∷ pieces) x is are.2)

longer_joined : (p : Piece) (pieces : List Piece) (x : Written) →
    joined (longer (p ∷ pieces) x) ≡ joined (p ∷ pieces) ++ x ∷ []
unfolding longer
longer_joined (piece sign name) [] x =
    ap (λ t. bare (byte_of sign) ∷ t) (append-nil (name ++ x ∷ [])
    ∙ ap (λ t. t ++ x ∷ []) (sym (append-nil name)))
longer_joined (piece sign name) (next ∷ pieces) x =
    ap (λ t. bare (byte_of sign) ∷ (name ++ t)) (longer_joined next pieces x)
    ∙ ap (λ t. bare (byte_of sign) ∷ t) (sym (append_assoc name (joined (next ∷ pieces)) (x ∷ [])))

-- a row is a body with any character more
row_longer : (first : List Written) (pieces : List Piece) → IsName first →
    AreInOrder None pieces → Completed (first ++ joined pieces)
row_longer first [] is_name order x is =
    let row = row_body (first ++ x ∷ []) []
    (record { some = some_more first x; part = IsPart-append is_sign first (x ∷ []) is_name.part is })
    tt in (
      row.body,
      row.is,
      row_text (first ++ x ∷ []) [] row ∙ append-nil (first ++ x ∷ [])
          ∙ ap (λ t. t ++ x ∷ []) (sym (append-nil first)),
    )
row_longer first (p ∷ pieces) is_name order x is =
    let row = row_body first (longer (p ∷ pieces) x) is_name
    (longer_order None (p ∷ pieces) x is order) in (
      row.body,
      row.is,
      row_text first (longer (p ∷ pieces) x) row
          ∙ ap (λ t. first ++ t) (longer_joined p pieces x)
          ∙ sym (append_assoc first (joined (p ∷ pieces)) (x ∷ [])),
    )

end_head : (b : ℕ) (rest : List ℕ) → IsPartEnd is_sign (b ∷ rest) →
    (later : List Written) × (characters (b ∷ rest) ≡ bare b ∷ later)
end_head b [] h =
    elim (or_cases (b == BACKSLASH) (is_sign b) h) [
      | inl l ↦ (
          let is = eqb-true b BACKSLASH l in
          ([], subst (λ (x : ℕ). characters (x ∷ []) ≡ bare x ∷ []) (sym is) refl))
      | inr r ↦ (characters [], characters_bare b [] (sign_other b r))
    ]
end_head b (c ∷ rest) h = (characters (c ∷ rest), characters_bare b (c ∷ rest) (sign_other b h))

-- no sign may come next
no_next : (first : List Written) (pieces : List Piece) → IsPart is_sign first →
    AreInOrder None pieces → (b : ℕ) →
    ((sign : Sign) → sign_of b ≡ Some sign → may_follow (last_sign None pieces) sign ≡ false) →
    Refuted (first ++ joined pieces) (Some b)
no_next first pieces part order b over [] ends same body is e =
    let none : None ≡ Some b = same in cc
no_next first pieces part order b over (c ∷ rest) ends same body is e =
    let byte : c ≡ b = (let told : Some c ≡ Some b = same in cc) in
    let whole = e ∙ append_assoc first (joined pieces) (characters (c ∷ rest)) in
    let cut = row_cut (first_of body.target) first (pieces_of body) pieces None None
    (characters (c ∷ rest)) (first_name body.target is.target).part part (body_in_order body is)
    order (end_stopped (c ∷ rest) ends) whole in
    let head = end_head c rest ends in
    next_refused (last_sign None pieces) cut.later b head.0 over cut.order
    (cut.same ∙ head.1 ∙ ap (λ x. bare x ∷ head.0) byte)
  where
    next_refused : (last : Option Sign) (later : List Piece) (b : ℕ) (rest : List Written) →
        ((sign : Sign) → sign_of b ≡ Some sign → may_follow last sign ≡ false) →
        AreInOrder last later → joined later ≡ bare b ∷ rest → ⊥
    next_refused last [] b rest over are e = cc
    next_refused last (piece sign name ∷ later) b rest over are e =
        let bytes : byte_of sign ≡ b = cc in
        both_ways (may_follow last sign)
        (over sign (ap sign_of (sym bytes) ∙ sign_from_byte sign)) are.0

pub rest_stops : (text rest : List ℕ) (last : Option Sign) (draft : Parts) →
    IsDraft text last draft rest → 0 < length rest → IsOver last rest → StopsBody text (stop_at rest)
rest_stops text [] last draft d some over = absurd (omega (arith, some))
rest_stops text (b ∷ rest) last draft d some over =
    stops text (b ∷ rest) (d.first ++ joined d.pieces)
    (row_closed None d.first d.pieces d.is_name.part d.order) d.whole d.ends
    (no_next d.first d.pieces d.is_name.part d.order b
    (λ sign is. ap (λ l. may_follow l sign) (sym d.is_last) ∙ over sign is))
    (row_longer d.first d.pieces d.is_name d.order)
