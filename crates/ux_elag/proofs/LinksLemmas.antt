-- Lists that are made link by link.
use Rattle.std.proofs.Common.{arith, ◌≡◌, ℕ, ◌+◌, ◌<◌, List, [], ◌∷◌, ◌++◌, refl, sym, ◌∙◌, ap, subst, length, get_or, take}
use Rattle.std.specs.Prelude.{All, map}
use Rattle.std.proofs.lemmas.List.{map-append, take_more}
use Rattle.std.proofs.lemmas.List.Elements.{All-push}
use Rattle.ux_sentence.specs.declared.sentence.Link.{Link}
use Rattle.ux_subsets.specs.declared.automaton.Link as placed
use Rattle.ux_reading_table.specs.Numbered.{text_of}
use Rattle.ux_reading_table.specs.declared.numbered.NumberedLink.{NumberedLink}
use Rattle.ux_elag.specs.Numbers.{IsWithin, state_at, stated}
use Rattle.ux_elag.specs.Numbering.{AreToldBy}

-- one more element on both sides
pub mapped-more : {A B C : Type 0} (f : A → C) (g : B → C) (old now : List A) (y : A) (xs : List B)
    (i : ℕ) (d : B) → i < length xs → now ≡ old ++ y ∷ [] → f y ≡ g (get_or xs i d) →
    map f old ≡ map g (take i xs) → map f now ≡ map g (take (i + 1) xs)
mapped-more f g old now y xs i d lt is here so_far =
    let front : take (i + 1) xs ≡ take i xs ++ get_or xs i d ∷ [] = take_more xs i d lt in
    ap (map f) is ∙ (map-append f old (y ∷ [])
    ∙ (ap (λ (zs : List _). zs ++ f y ∷ []) so_far
    ∙ (ap (λ (z : _). map g (take i xs) ++ z ∷ []) here
    ∙ (sym (map-append g (take i xs) (get_or xs i d ∷ [])) ∙ ap (map g) (sym front)))))

abbrev linked : (from to reading : ℕ) → NumberedLink
linked from to reading = record { from = from; to = to; reading = reading }

-- links with the same parts
pub same_told : (a b : NumberedLink) → a.from ≡ b.from → a.to ≡ b.to → a.reading ≡ b.reading → a ≡ b
same_told a b f t r = ap (λ (x : ℕ). linked x a.to a.reading) f
    ∙ (ap (λ (x : ℕ). linked b.from x a.reading) t ∙ ap (linked b.from b.to) r)

pub map-itself : {A : Type 0} (xs : List A) → map (λ (x : A). x) xs ≡ xs
map-itself [] = refl
map-itself (x ∷ xs) = ap (λ (rest : List _). x ∷ rest) (map-itself xs)

-- the first links between places
pub record ArePlaced (states : List ℕ) (links : List NumberedLink) (found : List placed.Link) :
    Type 0 where
  pub placed : map (stated states) found ≡ links
  pub within : All (IsWithin (length states)) found

pub placed-none : (states : List ℕ) → ArePlaced states [] []
placed-none states = record { placed = refl; within = λ k d lt. absurd (omega arith) }

pub placed-more : (states : List ℕ) (links : List NumberedLink) (old now : List placed.Link)
    (one : placed.Link) (i : ℕ) (link : NumberedLink) → i < length links → now ≡ old ++ one ∷ [] →
    link ≡ get_or links i link → state_at states one.from ≡ link.from →
    state_at states one.to ≡ link.to → one.reading ≡ link.reading → one.from < length states →
    one.to < length states → ArePlaced states (take i links) old →
    ArePlaced states (take (i + 1) links) now
placed-more states links old now one i link lt is link_is from to reading lf lo are = record {
  placed = mapped-more (stated states) (λ (x : NumberedLink). x) old now one links i link lt is
      (same_told (stated states one) link from to reading ∙ link_is)
      (are.placed ∙ sym (map-itself (take i links))) ∙ map-itself (take (i + 1) links);
  within = subst (All (IsWithin (length states))) (sym is)
      (All-push (IsWithin (length states)) old one are.within (record { from = lf; to = lo }));
}

-- texts that are told, with one more
pub told-none : (texts : List (List ℕ)) → AreToldBy texts [] []
told-none texts = record { told = refl; within = λ k d lt. absurd (omega arith) }

pub told-more : (texts : List (List ℕ)) (links : List Link) (old now : List ℕ) (place i : ℕ)
    (d : Link) → i < length links → now ≡ old ++ place ∷ [] →
    get_or texts place [] ≡ text_of (get_or links i d) → place < length texts →
    AreToldBy texts (take i links) old → AreToldBy texts (take (i + 1) links) now
told-more texts links old now place i d lt is here inside are = record {
  told = mapped-more (λ (p : ℕ). get_or texts p []) text_of old now place links i d lt is here
      are.told;
  within = subst (All (λ (p : ℕ). p < length texts)) (sym is)
      (All-push (λ (p : ℕ). p < length texts) old place are.within inside);
}
