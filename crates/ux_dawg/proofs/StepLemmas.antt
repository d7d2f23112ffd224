-- The steps of the loops that finish and begin states.
use Rattle.std.proofs.Common.{arith, ◌↔◌, ◌≤◌, ◌≡◌, ℕ, zero, suc, ◌<◌, ◌+◌, ◌∙◌, List, [], ◌∷◌, ◌++◌, inl, inr, refl, sym, ap, subst, length, length-append, take, get_or, append_assoc, append-nil, Bool, false, cond, eq-eqb}
use Rattle.std.specs.Prelude.{Some, None, slice_get, Contains, nat_eq, zip, take_while}
use Rattle.std.specs.Cmp.Lexicographic.{slice_cmp}
use Rattle.std.specs.Ordering.{nat_cmp, ordering_then}
use Rattle.std.specs.declared.cmp.Ordering.{Ordering}
use Rattle.std.specs.declared.cmp.Ordering.TheVariants.{Less, Equal, Greater}
use Rattle.std.proofs.lemmas.Cmp.{ranked}
use Rattle.std.proofs.lemmas.List.{take_more}
use Rattle.std.proofs.lemmas.List.Folds.{length-prefix_len}
use Rattle.std.specs.List.{prefix_len}
use Rattle.std.proofs.lemmas.Bool.Decides.{eqb_tells}
use Rattle.std.proofs.lemmas.Option.{slice_get_within, same_Some, none-some}
use Rattle.std.proofs.lemmas.List.Elements.{Contains-push_cases, Contains-push}
use Rattle.ux_dawg.specs.declared.state.State.{State}
use Rattle.ux_dawg.specs.declared.state.Edge.{Edge}
use Rattle.ux_dawg.specs.declared.pending.Frame.{Frame}
use Rattle.ux_dawg.specs.Register.{IsKept}
use Rattle.ux_dawg.specs.Paths.{edge, IsAlive}
use Rattle.ux_dawg.specs.Building.{Held, letters, IsSound, bare, IsClosed, IsCut, IsGrown, IsShared}
use Rattle.ux_dawg.proofs.PathLemmas.{is_some_of, kept_at}
use Rattle.ux_dawg.proofs.FormsLemmas.{front_decides}
use Rattle.ux_dawg.proofs.HeldLemmas.{held_open, held_close, held_stays}
use Rattle.ux_dawg.proofs.SoundLemmas.{sound_open, sound_close}

letters-append : (xs ys : List Frame) → letters (xs ++ ys) ≡ letters xs ++ letters ys
letters-append [] ys = refl
letters-append (x ∷ xs) ys = ap (λ l. x.letter ∷ l) (letters-append xs ys)

length-letters : (xs : List Frame) → length (letters xs) ≡ length xs
length-letters [] = refl
length-letters (x ∷ xs) = ap suc (length-letters xs)

-- a list that ends with b, as the first letters of another
take_front : (xs : List ℕ) (b : ℕ) (n : ℕ) (ys : List ℕ) → xs ++ b ∷ [] ≡ take n ys → (xs ≡ take (length xs) ys) × (slice_get ys (length xs) ≡ Some b)
take_front [] b zero ys is = absurd (let e = is in cc)
take_front [] b (suc n) [] is = absurd (let e = is in cc)
take_front [] b (suc n) (y ∷ ys) is = (refl, let e : y ≡ b = cc in ap Some e)
take_front (x ∷ xs) b zero ys is = absurd (let e = is in cc)
take_front (x ∷ xs) b (suc n) [] is = absurd (let e = is in cc)
take_front (x ∷ xs) b (suc n) (y ∷ ys) is =
    let tails : xs ++ b ∷ [] ≡ take n ys = cc in
    let heads : x ≡ y = cc in
    let r = take_front xs b n ys tails in
    (ap (λ z. z ∷ xs) heads ∙ ap (λ l. y ∷ l) r.0, r.1)

pub take_all : (xs : List ℕ) → take (length xs) xs ≡ xs
take_all [] = refl
take_all (x ∷ xs) = ap (λ l. x ∷ l) (take_all xs)

-- the register has grown by one at most
grows_by : (old new : List State) (item : State) (i : ℕ) → IsKept old new item i → length new ≤ length old + 1
grows_by old new item i kept = elim kept.grown [
  | inl same ↦ omega (arith, ap (length {A = State}) same)
  | inr more ↦ omega (arith, ap (length {A = State}) more.0, length-append old (item ∷ []))
]

-- so a number is no greater than the register was long
pub kept_within : (old new : List State) (item : State) (i : ℕ) → IsKept old new item i → i ≤ length old
kept_within old new item i kept =
    let w = slice_get_within new i item kept.stored in
    let g = grows_by old new item i kept in
    omega (arith, w, g)

-- nothing is finished yet
pub cut_start : (states : List State) (above : List Frame) (top : State) → IsSound states above top → top.edges ≡ [] → (0 < length above → IsAlive top) →
    IsCut states above top states above top (length above)
cut_start states above top sound none live = record {
  sound = sound;
  held = λ w c. (λ h. h, λ h. h);
  spelled = sym (ap (λ n. take n (letters above)) (sym (length-letters above)) ∙ take_all (letters above));
  depth = refl;
  most = omega arith;
  under = λ e has. absurd (none-some e (is_some_of [] e (subst (λ (es : List Edge). Contains es e) none has)).1);
  alive = live;
  still = λ none. refl;
  room = omega arith;
}

pub cut_step : (s₀ : List State) (a₀ : List Frame) (t₀ : State) (states : List State) (above : List Frame) (top : State) (states' : List State) (above' : List Frame) (top' : State) →
    IsCut s₀ a₀ t₀ states above top (length above) → IsClosed states above top states' above' top' →
    IsCut s₀ a₀ t₀ states' above' top' (length above')
cut_step s₀ a₀ t₀ states above top states' above' top' cut closed =
    let f = closed.frame in
    let i = closed.number in
    let long : length above ≡ length above' + 1 = ap (length {A = Frame}) closed.split ∙ length-append above' (f ∷ []) in
    let sound : IsSound states (above' ++ f ∷ []) top = subst (λ (l : List Frame). IsSound states l top) closed.split cut.sound in
    let live : IsAlive top = cut.alive (let m = cut.most in omega (arith, long, m)) in
    let spelled : letters above' ++ f.letter ∷ [] ≡ take (length above) (letters a₀) =
    sym (ap letters closed.split ∙ letters-append above' (f ∷ [])) ∙ cut.spelled in
    let front = take_front (letters above') f.letter (length above) (letters a₀) spelled in
    let same = length-letters above' in
    let at : slice_get (letters a₀) (length above') ≡ Some f.letter = subst (λ n. slice_get (letters a₀) n ≡ Some f.letter) same front.1 in
    let frames = sound.frames in
    record {
      sound = subst (IsSound states' above') (sym closed.top_is) (sound_close states above' f top states' i sound live closed.kept);
      held = λ w c.
          let stays = held_stays states states' (kept_at states states' top i closed.kept) sound.fit (above' ++ f ∷ []) top (λ g has. (frames g has).fit) sound.top_fit w c in
          let close = held_close states' above' f top i closed.kept.stored w c in
          let old = cut.held w c in (
            λ h. old.0 (subst (λ (l : List Frame). Held states l top w c) (sym closed.split) (stays.0 (close.0 (subst (λ (t : State). Held states' above' t w c) closed.top_is h)))),
            λ h. subst (λ (t : State). Held states' above' t w c) (sym closed.top_is) (close.1 (stays.1 (subst (λ (l : List Frame). Held states l top w c) closed.split (old.1 h)))),
          );
      spelled = front.0 ∙ ap (λ n. take n (letters a₀)) same;
      depth = refl;
      most = let m = cut.most in omega (arith, long, m);
      under = λ e has. (
        f.letter,
        at,
        elim (Contains-push_cases f.state.edges (edge f.letter i) e (subst (λ (t : State). Contains t.edges e) closed.top_is has)) [
          | inl old ↦ let b = (frames f (Contains-push above' f)).before e old in omega (arith, b)
          | inr new ↦ let b = ap (λ (x : Edge). x.letter) new in omega (arith, b)
        ],
      );
      room = let m = cut.room in let g = grows_by states states' top i closed.kept in omega (arith, m, g, long);
      still = λ none. absurd (let m = cut.most in omega (arith, none, m, long));
      alive = λ some. inr (edge f.letter i, subst (λ (t : State). Contains t.edges (edge f.letter i)) (sym closed.top_is) (Contains-push f.state.edges (edge f.letter i)));
    }

pub grown_start : (states : List State) (above : List Frame) (top : State) → IsSound states above top → IsGrown states above top [] above top
grown_start states above top sound = record {
  sound = sound;
  held = λ w c. (λ h. h, λ h. h);
  spelled = sym (append-nil (letters above));
  same = λ e. refl;
  fresh = λ less. absurd (omega (arith, less));
}

pub grown_step : (states : List State) (a₀ : List Frame) (t₀ : State) (word : List ℕ) (above : List Frame) (top : State) (a : ℕ) →
    IsGrown states a₀ t₀ word above top → (length word ≡ 0 → (e : Edge) → Contains t₀.edges e → e.letter < a) →
    IsGrown states a₀ t₀ (word ++ a ∷ []) (above ++ record { state = top; letter = a } ∷ []) bare
grown_step states a₀ t₀ word above top a grown under = record {
  sound = sound_open states above top a grown.sound (λ e has. by word grown under e has);
  held = λ w c. let r = held_open states above top a w c in let old = grown.held w c in (λ h. old.0 (r.0 h), λ h. r.1 (old.1 h));
  spelled = letters-append above (record { state = top; letter = a } ∷ []) ∙ (ap (λ l. l ++ a ∷ []) grown.spelled ∙ append_assoc (letters a₀) word (a ∷ []));
  same = λ none. absurd (omega (arith, length-append word (a ∷ []), none));
  fresh = λ less. refl;
}
  where
    by : (word : List ℕ) → IsGrown states a₀ t₀ word above top → (length word ≡ 0 → (e : Edge) → Contains t₀.edges e → e.letter < a) → (e : Edge) → Contains top.edges e → e.letter < a
    by [] grown under e has = under refl e (subst (λ (s : State). Contains s.edges e) (grown.same refl) has)
    by (b ∷ word) grown under e has = absurd (none-some e (is_some_of [] e (subst (λ (s : State). Contains s.edges e) (grown.fresh (omega arith)) has)).1)

pub grown_more : (states : List State) (a₀ : List Frame) (t₀ : State) (word : List ℕ) (i a : ℕ) (above : List Frame) (top : State) (above' : List Frame) (top' : State) →
    IsGrown states a₀ t₀ (take i word) above top → i < length word → a ≡ get_or word i a → above' ≡ above ++ record { state = top; letter = a } ∷ [] → top'.code ≡ None → top'.edges ≡ [] →
    ((b : ℕ) (e : Edge) → slice_get word 0 ≡ Some b → Contains t₀.edges e → e.letter < b) →
    IsGrown states a₀ t₀ (take (i + 1) word) above' top'
grown_more states a₀ t₀ word i a above top above' top' grown less here is code edges under =
    let more : take (i + 1) word ≡ take i word ++ a ∷ [] = take_more word i a less ∙ ap (λ b. take i word ++ b ∷ []) (sym here) in
    let top_is : top' ≡ bare = λ j. record { code = code j; edges = edges j } in
    let step = grown_step states a₀ t₀ (take i word) above top a grown
    (λ none e has. under a e (first word i a less none ∙ ap Some (sym here)) has) in
    subst (λ l. IsGrown states a₀ t₀ l above' top') (sym more)
    (subst (λ (t : State). IsGrown states a₀ t₀ (take i word ++ a ∷ []) above' t) (sym top_is)
    (subst (λ (l : List Frame). IsGrown states a₀ t₀ (take i word ++ a ∷ []) l bare) (sym is) step))
  where
    first : (word : List ℕ) (i a : ℕ) → i < length word → length (take i word) ≡ 0 → slice_get word 0 ≡ Some (get_or word i a)
    first [] i a less none = absurd (omega (arith, less))
    first (x ∷ word) zero a less none = refl
    first (x ∷ word) (suc i) a less none = absurd (omega (arith, none))

pub closed_less : (states : List State) (above : List Frame) (top : State) (states' : List State) (above' : List Frame) (top' : State) → IsClosed states above top states' above' top' → length above ≡ length above' + 1
closed_less states above top states' above' top' closed = ap (length {A = Frame}) closed.split ∙ length-append above' (closed.frame ∷ [])

-- a pair of equal letters
abbrev pub is_same : Frame × ℕ → Bool
is_same p = nat_eq p.0.letter p.1

module _ (f : Frame) (q : ℕ) (above : List Frame) (Q : List ℕ) where
  apart_here : f.letter < q → IsShared (f.letter ∷ letters above) (q ∷ Q) (prefix_len is_same (zip (f ∷ above) (q ∷ Q)))
  apart_here low =
      let no : nat_eq f.letter q ≡ false = elim (eqb_tells f.letter q) [ inl same ↦ absurd (let e = same.1 in omega (arith, low, e)) | inr other ↦ other.0 ] in
      subst (λ (b : Bool). IsShared (f.letter ∷ letters above) (q ∷ Q) (cond b (1 + prefix_len is_same (zip above Q)) 0)) (sym no)
      (record { most = omega arith; less = omega arith; same = refl; up = λ a b at there. subst (λ x. x < b) (same_Some f.letter a at) (subst (λ y. f.letter < y) (same_Some q b there) low) })

  same_here : f.letter ≡ q → IsShared (letters above) Q (prefix_len is_same (zip above Q)) → IsShared (f.letter ∷ letters above) (q ∷ Q) (prefix_len is_same (zip (f ∷ above) (q ∷ Q)))
  same_here same rest =
      let n = prefix_len is_same (zip above Q) in
      let one : 1 + n ≡ suc n = omega arith in
      subst (λ (b : Bool). IsShared (f.letter ∷ letters above) (q ∷ Q) (cond b (1 + n) 0)) (sym (eq-eqb f.letter q same))
      (subst (IsShared (f.letter ∷ letters above) (q ∷ Q)) (sym one) (record {
        most = let m = rest.most in omega (arith, m);
        less = let m = rest.less in omega (arith, m);
        same = ap (λ x. x ∷ take n (letters above)) same ∙ ap (λ l. q ∷ l) rest.same;
        up = rest.up;
      }))

-- how many letters a way and a word share
shared_front : (above : List Frame) (Q : List ℕ) → slice_cmp nat_cmp (letters above) Q ≡ Less → IsShared (letters above) Q (prefix_len is_same (zip above Q))
shared_front [] [] less = absurd (cc)
shared_front [] (q ∷ Q) less = record { most = omega arith; less = omega arith; same = refl; up = λ a b at there. absurd (none-some a at) }
shared_front (f ∷ above) [] less = absurd (cc)
shared_front (f ∷ above) (q ∷ Q) less = by (nat_cmp f.letter q) refl (λ h. shared_front above Q h)
  where
    by : (o : Ordering) → o ≡ nat_cmp f.letter q → (slice_cmp nat_cmp (letters above) Q ≡ Less → IsShared (letters above) Q (prefix_len is_same (zip above Q))) →
        IsShared (f.letter ∷ letters above) (q ∷ Q) (prefix_len is_same (zip (f ∷ above) (q ∷ Q)))
    by Less is rest = apart_here f q above Q (ranked f.letter q Less is)
    by Equal is rest = same_here f q above Q (ranked f.letter q Equal is) (rest (ap (λ o. ordering_then o (slice_cmp nat_cmp (letters above) Q)) is ∙ less))
    by Greater is rest = absurd (let e : Greater ≡ Less = ap (λ o. ordering_then o (slice_cmp nat_cmp (letters above) Q)) is ∙ less in cc)

pub shared_is : (above : List Frame) (Q : List ℕ) (n : ℕ) → n ≡ length (take_while is_same (zip above Q)) → slice_cmp nat_cmp (letters above) Q ≡ Less → IsShared (letters above) Q n
shared_is above Q n is less = subst (IsShared (letters above) Q) (sym (is ∙ length-prefix_len is_same (zip above Q))) (shared_front above Q less)

-- the letters that are counted are the same
front_same : (above : List Frame) (Q : List ℕ) →
    take (prefix_len is_same (zip above Q)) (letters above) ≡ take (prefix_len is_same (zip above Q)) Q
front_same [] [] = refl
front_same [] (q ∷ Q) = refl
front_same (f ∷ above) [] = refl
front_same (f ∷ above) (q ∷ Q) = elim (eqb_tells f.letter q) [
  | inl same ↦
      let n = prefix_len is_same (zip above Q) in
      let one : suc n ≡ 1 + n = omega arith in
      subst (λ (b : Bool). take (cond b (1 + n) 0) (f.letter ∷ letters above) ≡ take (cond b (1 + n) 0) (q ∷ Q))
      (sym same.0)
      (subst (λ m. take m (f.letter ∷ letters above) ≡ take m (q ∷ Q)) one
      (ap (λ x. x ∷ take n (letters above)) same.1 ∙ ap (λ l. q ∷ l) (front_same above Q)))
  | inr other ↦
      let n = prefix_len is_same (zip above Q) in
      subst (λ (b : Bool). take (cond b (1 + n) 0) (f.letter ∷ letters above) ≡ take (cond b (1 + n) 0) (q ∷ Q))
      (sym other.0) refl
]

letter_at : (above : List Frame) (n : ℕ) (f : Frame) → slice_get above n ≡ Some f →
    slice_get (letters above) n ≡ Some f.letter
letter_at [] n f at = absurd (none-some f at)
letter_at (g ∷ above) zero f at = ap (λ (h : Frame). Some h.letter) (same_Some g f at)
letter_at (g ∷ above) (suc n) f at = letter_at above n f at

-- there the way ends or goes on, and so does the word: the word comes next exactly where its letter is
-- the higher one, or where only the way ends
module _ (above : List Frame) (Q : List ℕ) (n : ℕ)
    (counted : n ≡ length (take_while is_same (zip above Q))) where
  decided : (b : ℕ) → slice_get Q n ≡ Some b →
      ((a : ℕ) → slice_get (letters above) n ≡ Some a → a < b) → slice_cmp nat_cmp (letters above) Q ≡ Less
  decided b at low = front_decides (letters above) Q n b
      (subst (λ m. take m (letters above) ≡ take m Q)
      (sym (counted ∙ length-prefix_len is_same (zip above Q))) (front_same above Q)) at low

  pub next_at : (f : Frame) (b : ℕ) → slice_get above n ≡ Some f → slice_get Q n ≡ Some b →
      (f.letter < b) ↔ (slice_cmp nat_cmp (letters above) Q ≡ Less)
  next_at f b here at = let letter = letter_at above n f here in (
    λ low. decided b at (λ a there. subst (λ x. x < b) (same_Some f.letter a (sym letter ∙ there)) low),
    λ less. (shared_is above Q n counted less).up f.letter b letter at,
  )

  pub next_past : (b : ℕ) → length above ≤ n → slice_get Q n ≡ Some b →
      slice_cmp nat_cmp (letters above) Q ≡ Less
  next_past b short at = decided b at (λ a there.
      absurd (let within = slice_get_within (letters above) n a there in
      omega (arith, within, short, length-letters above)))

  pub next_never : length Q ≤ n → slice_cmp nat_cmp (letters above) Q ≡ Less → ⊥
  next_never short less =
      absurd (let within = (shared_is above Q n counted less).less in omega (arith, within, short))
