-- A graph's boxes and the places made of them have the same steps.
use Rattle.std.proofs.Common.{arith, ◌≡◌, ℕ, zero, suc, ◌+◌, List, [], ◌∷◌, ◌++◌, refl, sym, ◌∙◌, ap, subst, map}
use Rattle.std.specs.Prelude.{Contains}
use Rattle.std.specs.List.{AllZip}
use Rattle.ux_alphabet.specs.Letters.{Letters}
use Rattle.ux_tokens.specs.Tokens.{Token}
use Rattle.ux_tokens.proofs.UniqueLemmas.{plain_unique}
use Rattle.ux_grf.specs.declared.graph.GrfBox.{GrfBox}
use Rattle.ux_grf.specs.declared.item.Item.{Item}
use Rattle.ux_grf.specs.declared.item.Item.TheVariants.{Literal, Quoted, Mask, Brace, NoSpace, Empty, Call, Begin, End, Positive, Negative, ContextEnd, Cut}
use Rattle.ux_masks.specs.declared.mask.Mask as masks
use Rattle.ux_masks.proofs.UniqueLaws.{one_mask}
use Rattle.ux_boxes.specs.declared.place.Place.{Place}
use Rattle.ux_net.specs.declared.label.Label.{Label}
use Rattle.ux_net.specs.declared.label.Label.TheVariants as label
use Rattle.ux_base.specs.Distinct.{StandOnce}
use Rattle.ux_net.specs.Words.{Step}
use Rattle.ux_tokens.specs.declared.kind.Kind.{Kind}
use Rattle.ux_boxes.specs.Boxes.{fold_label, exact_label, IsCut, IsSplit, IsSplitLine, lines_at, IsBoxStep}
use Rattle.ux_boxes.specs.Places.{label_lines, ArePlaces, IsPlaceStep}

module _ {A B : Type 0} (R : A → B → Type 0) where
  -- an element has its partner
  pub partner : (xs : List A) (ys : List B) (x : A) → AllZip R xs ys → Contains xs x → (y : B) ×
      Contains ys y × R x y
  partner [] ys x z c = absurd (omega (arith, c.1))
  partner (x' ∷ xs) [] x z c = absurd z
  partner (x' ∷ xs) (y ∷ ys) x z (zero, lt, e) =
      (y, (0, omega arith, refl), subst (λ a. R a y) e z.0)
  partner (x' ∷ xs) (y ∷ ys) x z (suc k, lt, e) =
      let r = partner xs ys x z.1 (k, omega (arith, lt), e) in
      (r.0, (suc r.1.0, omega (arith, r.1.1), r.1.2), r.2)

  pub partner_back : (xs : List A) (ys : List B) (y : B) → AllZip R xs ys → Contains ys y → (x : A)
      × Contains xs x × R x y
  partner_back xs [] y z c = absurd (omega (arith, c.1))
  partner_back [] (y' ∷ ys) y z c = absurd z
  partner_back (x ∷ xs) (y' ∷ ys) y z (zero, lt, e) =
      (x, (0, omega arith, refl), subst (λ b. R x b) e z.0)
  partner_back (x ∷ xs) (y' ∷ ys) y z (suc k, lt, e) =
      let r = partner_back xs ys y z.1 (k, omega (arith, lt), e) in
      (r.0, (suc r.1.0, omega (arith, r.1.1), r.1.2), r.2)

module _ (alphabet : Letters) (names : List (List ℕ)) (once : StandOnce names) where
  cut_same : (label_of : Kind → List ℕ → Label) (text : List ℕ) (v w : List Label) →
      IsCut alphabet label_of text v → IsCut alphabet label_of text w → v ≡ w
  cut_same label_of text v w a b =
      a.2 ∙ (ap (λ tokens. map (λ (token : Token). label_of token.kind token.text) tokens)
      (plain_unique alphabet text a.0 b.0 a.1 b.1) ∙ sym b.2)

  -- an item is split in one way, since no name stands twice
  split_same : (item : Item) (v w : List Label) → IsSplit alphabet names item v →
      IsSplit alphabet names item w → v ≡ w
  split_same (Literal text) v w a b = cut_same fold_label text v w a b
  split_same (Quoted text) v w a b = cut_same exact_label text v w a b
  split_same NoSpace v w a b = a ∙ sym b
  split_same Empty v w a b = a ∙ sym b
  split_same (Call name) v w a b =
      a.2 ∙ (ap (λ (k : ℕ). label.Call (k + 1) ∷ []) (once a.0 b.0 name a.1 b.1) ∙ sym b.2)
  split_same (Mask text) v w a b =
      a.2 ∙ (ap (λ (mask : masks.Mask). label.Mask mask ∷ []) (one_mask text a.0 b.0 a.1 b.1) ∙ sym b.2)
  split_same (Brace text) v w a b = a ∙ sym b
  split_same (Begin name) v w a b = a ∙ sym b
  split_same (End name) v w a b = a ∙ sym b
  split_same Positive v w a b = a ∙ sym b
  split_same Negative v w a b = a ∙ sym b
  split_same ContextEnd v w a b = a ∙ sym b
  split_same Cut v w a b = a ∙ sym b

  -- a line has one list of labels
  pub split_line_same : (line : List Item) (v w : List Label) → IsSplitLine alphabet names line v →
      IsSplitLine alphabet names line w → v ≡ w
  split_line_same [] v w a b = a ∙ sym b
  split_line_same (item ∷ items) v w a b =
      a.4 ∙ (ap (λ x. x ++ a.1) (split_same item a.0 b.0 a.2 b.2)
      ∙ (ap (λ x. b.0 ++ x) (split_line_same items a.1 b.1 a.3 b.3) ∙ sym b.4))

module _ (alphabet : Letters) (names : List (List ℕ)) (boxes : List GrfBox)
    (places : List Place) (once : StandOnce names)
    (are : ArePlaces alphabet names boxes places) where
  -- a step of the boxes is one of the places
  pub place_step : (s : Step) → IsBoxStep alphabet names boxes s → IsPlaceStep places s
  place_step s b =
      let p = partner (IsSplitLine alphabet names) (lines_at boxes s.to) (label_lines places s.to)
      b.line (are.lines s.to) b.of_box in
      record {
        before_end = b.before_end;
        leads = subst (λ targets. Contains targets s.to) (sym (are.targets s.from)) b.leads;
        line = subst (λ v. Contains (label_lines places s.to) v)
            (split_line_same alphabet names once b.line p.0 s.labels p.2 b.splits) p.1;
        puts = b.puts ∙ sym (are.outputs s.to);
      }

  -- and back
  pub box_step : (s : Step) → IsPlaceStep places s → IsBoxStep alphabet names boxes s
  box_step s p =
      let b = partner_back (IsSplitLine alphabet names) (lines_at boxes s.to) (label_lines places s.to)
      s.labels (are.lines s.to) p.line in
      record {
        before_end = p.before_end;
        leads = subst (λ targets. Contains targets s.to) (are.targets s.from) p.leads;
        line = b.0;
        of_box = b.1;
        puts = p.puts ∙ are.outputs s.to;
        splits = b.2;
      }
