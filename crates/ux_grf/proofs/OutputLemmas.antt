-- The reader of an output goes on after each value.
use Rattle.std.proofs.Common.{◌≡◌, ℕ, ◌+◌, false, List, [], ◌∷◌, ◌++◌, sym, ◌∙◌, ap, subst, append_assoc, Some, None, take, drop}
use Rattle.ux_grf.specs.declared.item.Piece.{Piece}
use Rattle.ux_grf.specs.declared.item.Piece.TheVariants.{Value}
use Rattle.ux_grf.specs.Output.{value_len, first_value, chars_in, ArePieces, chars_only, value_then}

module _ (text left : List ℕ) (pieces : List Piece)
    (before : (later : List Piece) → ArePieces left later → ArePieces text (pieces ++ later)) where
  pub pieces_more : (k : ℕ) (front inside after : List ℕ) (now then : List Piece) →
      first_value false left ≡ Some k → front ≡ take k left → inside ≡ drop (k + 1) left →
      now ≡ pieces ++ chars_in front →
      then ≡ now ++ Value (take (value_len inside) inside) ∷ [] →
      after ≡ drop (value_len inside + 1) inside →
      (later : List Piece) → ArePieces after later → ArePieces text (then ++ later)
  pieces_more k front inside after now then place is_front is_inside put_chars put_value is_after later ps =
      subst (λ (p : List Piece). ArePieces text p) joined
      (before (chars_in (take k left) ++ Value (take (value_len (drop (k + 1) left)) (drop (k + 1)
      left)) ∷ later)
      (value_then place (subst (λ (i : List ℕ). ArePieces (drop (value_len i + 1) i) later) is_inside
      (subst (λ b. ArePieces b later) is_after ps))))
    where
      joined : pieces ++ (chars_in (take k left) ++ Value (take (value_len (drop (k + 1) left))
          (drop (k + 1) left)) ∷ later) ≡ then ++ later
      joined =
          ap (λ (i : List ℕ). pieces ++ (chars_in (take k left) ++ Value (take (value_len i) i)
          ∷ later)) (sym is_inside)
          ∙ (ap (λ (f : List ℕ). pieces ++ (chars_in f ++ Value (take (value_len inside) inside)
          ∷ later)) (sym is_front)
          ∙ (sym (append_assoc pieces (chars_in front) (Value (take (value_len inside) inside)
          ∷ later))
          ∙ (ap (λ (n : List Piece). n ++ Value (take (value_len inside) inside) ∷ later)
          (sym put_chars)
          ∙ (sym (append_assoc now (Value (take (value_len inside) inside) ∷ []) later)
          ∙ ap (λ (t : List Piece). t ++ later) (sym put_value)))))

  pub pieces_all : (now : List Piece) → first_value false left ≡ None →
      now ≡ pieces ++ chars_in left → ArePieces text now
  pieces_all now none put =
      subst (λ (p : List Piece). ArePieces text p) (sym put) (before (chars_in left) (chars_only none))
