-- Words that have the same but for letters that take nothing: if one may take nothing, so may the
-- other.
use Rattle.std.proofs.Common.{◌≡◌, ℕ, List, [], ◌∷◌, ◌++◌, refl, sym, ap, subst, ◌∙◌, map, true, false}
use Rattle.ux_grf.specs.declared.item.Piece.{Piece}
use Rattle.ux_net.specs.declared.label.Label.{Label}
use Rattle.ux_net.specs.declared.label.Label.TheVariants.{Empty, CaseFolded, CaseExact, Mask, Brace, Space, NoSpace, Begin, End, Positive, Negative, ContextEnd, Cut, Call}
use Rattle.ux_net.specs.Silent.{is_silent}
use Rattle.ux_net.specs.Words.{Grammar, Letter, plain, piece, context, ordinary, mark_of, letters, IsWord}
use Rattle.ux_net.specs.Nullable.{IsSilent, IsFree, none, silent, call}
use Rattle.ux_admission.proofs.FreeLemmas.{free_append}
use Rattle.ux_state_places.specs.Kinds.{kind_of}
use Rattle.ux_state_places.proofs.KindLemmas.{IsKept, token, calling, over, silent_kind}

-- The second word is the first without some letters that take nothing, and with the kinds of the others.
pub data AreKinds : List Letter → List Letter → Type 0 where
  no_letters : AreKinds [] []
  dropped : {x : Letter} {v w : List Letter} → IsSilent x → AreKinds v w → AreKinds (x ∷ v) w
  kept : {x y : Letter} {v w : List Letter} → IsKept x y → AreKinds v w →
      AreKinds (x ∷ v) (y ∷ w)

pub kinds_append : {a b v w : List Letter} → AreKinds a b → AreKinds v w →
    AreKinds (a ++ v) (b ++ w)
kinds_append no_letters k = k
kinds_append (dropped s j) k = dropped s (kinds_append j k)
kinds_append (kept is j) k = kept is (kinds_append j k)

-- an output is left out
pub kinds_pieces : (parts : List Piece) → AreKinds (map piece parts) []
kinds_pieces [] = no_letters
kinds_pieces (part ∷ parts) = dropped {x = piece part} tt (kinds_pieces parts)

-- what a label says, its kind says
pub kinds_label : (x : Label) → mark_of (x ∷ []) ≡ ordinary →
    AreKinds (letters (x ∷ [])) (letters (kind_of x ∷ []))
kinds_label Empty m = no_letters
kinds_label (CaseFolded text) m = kept (token refl) no_letters
kinds_label (CaseExact text) m = kept (token refl) no_letters
kinds_label (Mask mask) m = kept (token refl) no_letters
kinds_label (Brace text) m = kept (token refl) no_letters
kinds_label Space m = kept (token refl) no_letters
kinds_label NoSpace m = dropped {x = plain NoSpace} refl no_letters
kinds_label (Begin name) m = dropped {x = plain (Begin name)} refl no_letters
kinds_label (End name) m = dropped {x = plain (End name)} refl no_letters
kinds_label Positive m = absurd cc
kinds_label Negative m = absurd cc
kinds_label ContextEnd m = absurd cc
kinds_label Cut m = dropped {x = plain Cut} refl no_letters
kinds_label (Call h) m = kept calling no_letters

-- a label that takes a token isn't silent
token_loud : (x : Label) → kind_of x ≡ Space → is_silent x ≡ true → ⊥
token_loud x e s =
    let both : true ≡ false = sym s ∙ (sym (silent_kind x) ∙ ap is_silent e) in cc

-- of a letter and its kind either both take nothing, or none
kept_thin : {x y : Letter} → IsKept x y → IsSilent x → IsSilent y
kept_thin (token {x = x} e) s = absurd (token_loud x e s)
kept_thin calling s = s
kept_thin over s = tt

kept_thick : {x y : Letter} → IsKept x y → IsSilent y → IsSilent x
kept_thick (token e) s = absurd (let e : false ≡ true = s in cc)
kept_thick calling s = s
kept_thick over s = tt

-- a call stands for itself alone
call_thin : (h : ℕ) {x y : Letter} → IsKept x y → x ≡ plain (Call h) → y ≡ plain (Call h)
call_thin h (token {x = x} e) is =
    let same : kind_of x ≡ Call h = ap (λ (l : Letter). label_in l) is in absurd cc
  where
    label_in : Letter → Label
    label_in (plain x) = kind_of x
    label_in (piece part) = Empty
    label_in (context sign g opening closing) = Empty
call_thin h calling is = is
call_thin h over is = absurd cc

call_thick : (h : ℕ) {x y : Letter} → IsKept x y → y ≡ plain (Call h) → x ≡ plain (Call h)
call_thick h (token e) is = absurd cc
call_thick h calling is = is
call_thick h over is = absurd cc

module _ (old new : Grammar) (words : (h : ℕ) (v : List Letter) → IsWord h (old.graph h) v →
    (w : List Letter) × AreKinds v w × IsWord h (new.graph h) w) where
  -- what follows a call that may take nothing
  calls_thin : (h : ℕ) {x y : Letter} {w : List Letter} → IsKept x y → x ≡ plain (Call h) →
      {called : List Letter} → IsWord h (new.graph h) called → IsFree new called → IsFree new w →
      IsFree new (y ∷ w)
  calls_thin h {w = w} is e word free rest =
      subst (λ y. IsFree new (y ∷ w)) (sym (call_thin h is e)) (call word free rest)

  -- where the first word may take nothing, the second may
  pub free_thin : {v w : List Letter} → IsFree old v → AreKinds v w → IsFree new w
  free_thin none no_letters = none
  free_thin (silent s f) (dropped t k) = free_thin f k
  free_thin (silent s f) (kept is k) = silent (kept_thin is s) (free_thin f k)
  free_thin (call word free f) (dropped t k) = absurd (let e : false ≡ true = t in cc)
  free_thin (call {h = h} {called = called} word free f) (kept is k) =
      let there = words h called word in
      calls_thin h is refl there.2 (free_thin free there.1) (free_thin f k)

module _ (old new : Grammar) (words : (h : ℕ) (w : List Letter) → IsWord h (new.graph h) w →
    (v : List Letter) × AreKinds v w × IsWord h (old.graph h) v) where
  -- what was left out of the first word takes nothing
  all_dropped : {v w : List Letter} → AreKinds v w → w ≡ [] → IsFree old v
  all_dropped no_letters e = none
  all_dropped (dropped s k) e = silent s (all_dropped k e)
  all_dropped (kept is k) e = absurd cc

  -- the first word up to the letter that the second begins with
  record Split (v : List Letter) (y : Letter) (w : List Letter) : Type 0 where
    front : List Letter
    letter : Letter
    rest : List Letter
    free : IsFree old front
    is : IsKept letter y
    kinds : AreKinds rest w
    whole : v ≡ front ++ letter ∷ rest

  split_kinds : {v u : List Letter} (y : Letter) (w : List Letter) → AreKinds v u → u ≡ y ∷ w →
      Split v y w
  split_kinds y w no_letters e = absurd cc
  split_kinds y w (dropped {x = x} s k) e =
      let r = split_kinds y w k e in
      record {
        front = x ∷ r.front;
        letter = r.letter;
        rest = r.rest;
        free = silent s r.free;
        is = r.is;
        kinds = r.kinds;
        whole = ap (λ l. x ∷ l) r.whole;
      }
  split_kinds y w (kept {x = x} {y = z} {v = v} {w = u} is k) e =
      let head : z ≡ y = cc in
      let tail : u ≡ w = cc in
      record {
        front = [];
        letter = x;
        rest = v;
        free = none;
        is = subst (λ l. IsKept x l) head is;
        kinds = subst (λ l. AreKinds v l) tail k;
        whole = refl;
      }

  -- where the second word may take nothing, the first may
  pub free_thick : {w : List Letter} → IsFree new w → (v : List Letter) → AreKinds v w →
      IsFree old v
  free_thick none v k = all_dropped k refl
  free_thick (silent {letter = y} {word = w} s f) v k =
      let r = split_kinds y w k refl in
      subst (λ l. IsFree old l) (sym r.whole)
      (free_append old r.free (silent (kept_thick r.is s) (free_thick f r.rest r.kinds)))
  free_thick (call {h = h} {called = called} {word = w} word free f) v k =
      let r = split_kinds (plain (Call h)) w k refl in
      let there = words h called word in
      let behind : IsFree old (plain (Call h) ∷ r.rest) =
      call there.2 (free_thick free there.0 there.1) (free_thick f r.rest r.kinds) in
      subst (λ l. IsFree old l) (sym r.whole) (free_append old r.free
      (subst (λ x. IsFree old (x ∷ r.rest)) (sym (call_thick h r.is refl)) behind))
