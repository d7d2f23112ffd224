-- The text with single spaces, made front by front: what stays as it is is moved down, and then one
-- space stands for the white space after it.
use Rattle.std.proofs.Common.{◌≡◌, inl, inr, ℕ, ◌<◌, ◌+◌, zero, suc, true, false, List, [], ◌∷◌, ◌++◌, length, set, take, drop, refl, sym, ◌∙◌, ap, subst, append_assoc, arith}
use Rattle.std.specs.List.{prefix_len, slice_index}
use Rattle.std.proofs.lemmas.List.{length-drop, length-set, drop-drop, drop-set-lt, get_or-take, take_more_set}
use Rattle.std.proofs.Math.Seq.{take-add}
use Rattle.std.proofs.lemmas.List.Sums.{prefix_len-le-length}
use Rattle.std.proofs.lemmas.Bool.Decides.{nat_tests}
use Rattle.ux_alphabet.specs.Letters.{is_separator}
use Rattle.ux_tokens.specs.Spaces.{FirstStay, IsJoined, Stays}
use Rattle.ux_tokens.specs.Tokens.{with_single_spaces, begins_with_separator, SPACE}

pub separator_is_ascii : (b : ℕ) → is_separator b ≡ true → b < 128
separator_is_ascii b white = grind (arith, nat_tests)

-- how many separators stand at the front
abbrev pub run_len : List ℕ → ℕ
run_len text = prefix_len is_separator text

no_run : (text : List ℕ) → begins_with_separator text ≡ false → run_len text ≡ 0
no_run [] begins = refl
no_run (b ∷ text) begins = rw begins refl

some_run : (text : List ℕ) → begins_with_separator text ≡ true → 0 < run_len text
some_run [] begins = cc
some_run (b ∷ text) begins = rw begins (omega arith)

drop_behind : (n b : ℕ) (text : List ℕ) → drop (1 + n) (b ∷ text) ≡ drop n text
drop_behind n b text =
    let next : 1 + n ≡ suc n = omega arith in
    ap (λ (k : ℕ). drop k (b ∷ text)) next

-- a longest run of separators at the front is one space
run_is_space : (text : List ℕ) → begins_with_separator text ≡ true →
    with_single_spaces text ≡ SPACE ∷ with_single_spaces (drop (run_len text) text)
run_is_space [] begins = cc
run_is_space (b ∷ text) begins =
    let whole = b ∷ text in
    elim (begins_with_separator text) as (λ more. begins_with_separator text ≡ more →
    with_single_spaces whole ≡ SPACE ∷ with_single_spaces (drop (run_len whole) whole)) [
      | true ↦ λ more. (
          let behind = drop_behind (run_len text) b text in
          rw begins (rw more (rw behind (run_is_space text more))))
      | false ↦ λ last. rw begins (rw last (rw (no_run text last) refl))
    ] refl

-- a space is put for the white space at a place
pub joined_run : (text old : List ℕ) (joined place : ℕ) → IsJoined text old joined place →
    begins_with_separator (drop place old) ≡ true →
    IsJoined text (set old joined SPACE) (joined + 1) (place + run_len (drop place old))
joined_run text old joined place before begins =
    let rest = drop place old in
    let some = some_run rest begins in
    let fits = prefix_len-le-length is_separator rest in
    let room : joined < length old =
    omega (arith, before.in_order, some, fits, length-drop place old) in
    let behind : drop (run_len rest) rest ≡ drop (place + run_len rest) (set old joined SPACE) =
    drop-drop (run_len rest) place old
    ∙ sym (drop-set-lt (place + run_len rest) old joined SPACE
    (omega (arith, before.in_order, some))) in
    record {
      in_order = omega (arith, before.in_order, some);
      within =
          omega (
            arith,
            before.within,
            fits,
            length-drop place old,
            length-set old joined SPACE,
          );
      spaced =
          before.spaced
          ∙ ap (λ (l : List ℕ). take joined old ++ l) (run_is_space rest begins)
          ∙ sym (append_assoc (take joined old) (SPACE ∷ []) _)
          ∙ ap (λ (l : List ℕ). l ++ with_single_spaces (drop (run_len rest) rest))
          (sym (take_more_set old joined SPACE room))
          ∙ ap (λ (l : List ℕ). take (joined + 1) (set old joined SPACE) ++ with_single_spaces l)
          behind;
    }

-- a byte that stays as it is before the next one
one_stays : (byte : ℕ) (text : List ℕ) → 0 < length text → Stays byte (slice_index text 0) →
    with_single_spaces (byte ∷ text) ≡ byte ∷ with_single_spaces text
one_stays byte text some (inl other) = rw other refl
one_stays byte [] some (inr alone) = absurd (omega (arith, some))
one_stays byte (next ∷ text) some (inr alone) =
    subst (λ (b : ℕ). with_single_spaces (b ∷ (next ∷ text))
    ≡ b ∷ with_single_spaces (next ∷ text)) (sym alone.0) (rw alone.1 refl)

-- the first bytes that stay as they are
first_stays : (len : ℕ) (text : List ℕ) → len < length text → FirstStay len text →
    with_single_spaces text ≡ take len text ++ with_single_spaces (drop len text)
first_stays zero text within stay = refl
first_stays (suc len) [] within stay = absurd (omega (arith, within))
first_stays (suc len) (byte ∷ text) within stay =
    one_stays byte text (omega (arith, within)) (stay 0 (omega arith))
    ∙ ap (λ (l : List ℕ). byte ∷ l)
    (first_stays len text (omega (arith, within))
    (λ k below.
    let next : suc k + 1 ≡ suc (k + 1) = omega arith in
    subst (λ (n : ℕ). Stays (slice_index text k) (slice_index (byte ∷ text) n)) next
    (stay (suc k) (omega (arith, below)))))

-- a prefix that stays as it is, and a block after it
pub block_more : (text : List ℕ) (len block : ℕ) →
    with_single_spaces text ≡ take len text ++ with_single_spaces (drop len text) →
    len + block < length text → FirstStay block (drop len text) →
    with_single_spaces text
    ≡ take (len + block) text ++ with_single_spaces (drop (len + block) text)
block_more text len block stays within stay =
    let rest : with_single_spaces (drop len text)
    ≡ take block (drop len text) ++ with_single_spaces (drop block (drop len text)) =
    first_stays block (drop len text) (omega (arith, within, length-drop len text)) stay in
    stays
    ∙ ap (λ (l : List ℕ). take len text ++ l) rest
    ∙ ap (λ (l : List ℕ). take len text ++ (take block (drop len text) ++ with_single_spaces l))
    (drop-drop block len text)
    ∙ sym (append_assoc (take len text) (take block (drop len text))
    (with_single_spaces (drop (len + block) text)))
    ∙ ap (λ (l : List ℕ). l ++ with_single_spaces (drop (len + block) text))
    (sym (take-add len block text))

-- it is enough to look at a block and the byte after it
pub block_only : (len : ℕ) (text : List ℕ) → FirstStay len (take (len + 1) text) →
    FirstStay len text
block_only len text stay = λ k below.
    let here = get_or-take (len + 1) text k 0 (omega (arith, below)) in
    let next = get_or-take (len + 1) text (k + 1) 0 (omega (arith, below)) in
    subst (λ (b : ℕ). Stays b (slice_index text (k + 1))) here
    (subst (λ (b : ℕ). Stays (slice_index (take (len + 1) text) k) b) next (stay k below))
