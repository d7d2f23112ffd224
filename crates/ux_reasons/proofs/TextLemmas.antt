-- Texts that are written one after the other.
use Rattle.std.proofs.Common.{arith, ◌≡◌, ◌+◌, ℕ, suc, ◌<◌, List, [], ◌∷◌, ◌++◌, Option, Bor, map, take, drop, length, refl, sym, ◌∙◌, ap, subst, append_assoc}
use Rattle.std.specs.Prelude.{get_or}
use Rattle.std.proofs.Math.Seq.{take-suc}
use Rattle.std.proofs.lemmas.List.{append-nil, map-append, take-append-drop}
use Rattle.ux_base.specs.Outside.{Appended, AppendedFront}
use Rattle.ux_base.proofs.Fronts.{both_parts, front_first, front_second}
use Rattle.ux_reasons.specs.Reasons.{joined}

-- what the texts are
abbrev pub texts_of : List (Bor (List ℕ)) → List (List ℕ)
texts_of texts = map (λ (t : Bor (List ℕ)). t.now) texts

joined-append : (xs ys : List (List ℕ)) → joined (xs ++ ys) ≡ joined xs ++ joined ys
joined-append [] ys = refl
joined-append (x ∷ xs) ys =
    ap (λ (l : List ℕ). x ++ l) (joined-append xs ys) ∙ sym (append_assoc x (joined xs) (joined ys))

module _ (texts : List (Bor (List ℕ))) (i : ℕ) (default : Bor (List ℕ)) (low : i < length texts)
  where
    abbrev pub here : Bor (List ℕ)
    here = get_or texts i default

    -- the first texts with one more
    joined-more : joined (texts_of (take (i + 1) texts)) ≡ joined (texts_of (take i texts)) ++ here.now
    joined-more =
        let next : i + 1 ≡ suc i = omega arith in
        ap (λ (n : ℕ). joined (texts_of (take n texts))) next
        ∙ ap (λ (l : List (Bor (List ℕ))). joined (texts_of l)) (take-suc texts i default low)
        ∙ ap joined (map-append (λ (t : Bor (List ℕ)). t.now) (take i texts) (here ∷ []))
        ∙ joined-append (texts_of (take i texts)) (here.now ∷ [])
        ∙ ap (λ (l : List ℕ). joined (texts_of (take i texts)) ++ l) (append-nil here.now)

    -- and all of them
    joined-all : joined (texts_of texts)
        ≡ (joined (texts_of (take i texts)) ++ here.now) ++ joined (texts_of (drop (i + 1) texts))
    joined-all =
        ap (λ (l : List (Bor (List ℕ))). joined (texts_of l)) (sym (take-append-drop (i + 1) texts))
        ∙ ap joined (map-append (λ (t : Bor (List ℕ)). t.now) (take (i + 1) texts)
        (drop (i + 1) texts))
        ∙ joined-append (texts_of (take (i + 1) texts)) (texts_of (drop (i + 1) texts))
        ∙ ap (λ (l : List ℕ). l ++ joined (texts_of (drop (i + 1) texts))) joined-more

    module _ (old mid new : Option (List ℕ)) (text : List ℕ) (is : text ≡ here.now)
        (before : Appended old mid (joined (texts_of (take i texts)))) where
      -- the next text was written, too
      pub written_more : Appended mid new text →
          Appended old new (joined (texts_of (take (i + 1) texts)))
      written_more more =
          subst (λ (l : List ℕ). Appended old new l) (sym joined-more)
          (both_parts old mid new (joined (texts_of (take i texts))) here.now before
          (subst (λ (l : List ℕ). Appended mid new l) is more))

      -- the next text was cut
      pub written_front : AppendedFront mid new text → AppendedFront old new (joined (texts_of texts))
      written_front front =
          subst (λ (l : List ℕ). AppendedFront old new l) (sym joined-all)
          (front_first old new (joined (texts_of (take i texts)) ++ here.now)
          (joined (texts_of (drop (i + 1) texts)))
          (front_second old mid new (joined (texts_of (take i texts))) here.now before
          (subst (λ (l : List ℕ). AppendedFront mid new l) is front)))
