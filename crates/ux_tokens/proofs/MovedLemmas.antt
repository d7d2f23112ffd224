-- Bytes are moved down part by part.
use Rattle.std.proofs.Common.{◌≡◌, ℕ, ◌+◌, ◌-◌, ◌≤◌, List, ◌++◌, length, take, drop, refl, sym, ◌∙◌, ap, append_assoc, arith}
use Rattle.std.proofs.lemmas.List.{append-nil, drop-drop}
use Rattle.std.proofs.lemmas.List.Edits.{length-paste, take-paste, drop-paste}
use Rattle.std.proofs.Math.Seq.{paste, take-add}
use Rattle.ux_tokens.specs.Spaces.{IsMoved}

-- what is put over a place from one after it is moved
pub put_moved : (old new source : List ℕ) (from to len : ℕ) → to ≤ from →
    from + len ≤ length old → len ≤ length source →
    take len source ≡ take len (drop from old) → new ≡ paste old to source len →
    IsMoved old new from to len
put_moved old new source from to len down within enough same put =
    let room : to ≤ length old = omega (arith, down, within) in
    let end : to + len + (from - to) ≡ from + len = omega (arith, down) in
    record {
      same_len =
          ap length put ∙ length-paste old to source len (omega (arith, down, within)) enough;
      front =
          ap (take (to + len)) put
          ∙ take-paste old to source len room enough
          ∙ ap (λ (l : List ℕ). take to old ++ l) same;
      behind =
          ap (drop (from + len)) put
          ∙ ap (λ (k : ℕ). drop k (paste old to source len)) (sym end)
          ∙ sym (drop-drop (from - to) (to + len) (paste old to source len))
          ∙ ap (drop (from - to)) (drop-paste old to source len room enough)
          ∙ drop-drop (from - to) (to + len) old
          ∙ ap (λ (k : ℕ). drop k old) end;
    }

-- none are moved yet
pub moved_none : (old : List ℕ) (from to : ℕ) → IsMoved old old from to 0
moved_none old from to =
    let none : to + 0 ≡ to = omega arith in
    record {
      same_len = refl;
      front = ap (λ (n : ℕ). take n old) none ∙ sym (append-nil (take to old));
      behind = refl;
    }

-- the next ones are moved after them
pub moved_on : (old mid new : List ℕ) (from to n m : ℕ) → IsMoved old mid from to n →
    IsMoved mid new (from + n) (to + n) m → IsMoved old new from to (n + m)
moved_on old mid new from to n m first next =
    let here = drop from old in
    let later : drop (from + n) mid ≡ drop n here =
    first.behind ∙ sym (drop-drop n from old) in
    let end : from + (n + m) ≡ from + n + m = omega arith in
    let end_to : to + (n + m) ≡ to + n + m = omega arith in
    record {
      same_len = next.same_len ∙ first.same_len;
      front =
          ap (λ (k : ℕ). take k new) end_to
          ∙ next.front
          ∙ ap (λ (l : List ℕ). l ++ take m (drop (from + n) mid)) first.front
          ∙ ap (λ (l : List ℕ). (take to old ++ take n here) ++ take m l) later
          ∙ append_assoc (take to old) (take n here) (take m (drop n here))
          ∙ ap (λ (l : List ℕ). take to old ++ l) (sym (take-add n m here));
      behind =
          ap (λ (k : ℕ). drop k new) end
          ∙ next.behind
          ∙ sym (drop-drop m (from + n) mid)
          ∙ ap (drop m) first.behind
          ∙ drop-drop m (from + n) old
          ∙ ap (λ (k : ℕ). drop k old) (sym end);
    }
