-- A line says one link or is refused for one reason, and so are lines of links.
use Rattle.std.proofs.Common.{arith, ◌≡◌, ℕ, ◌+◌, ◌-◌, ◌<◌, ◌^◌, List, [], ◌∷◌, ◌++◌, refl, sym, ◌∙◌, ap, subst, ◌⊎◌, inl, inr, length}
use Rattle.ux_sentence.specs.declared.error.SentenceError.{SentenceError}
use Rattle.ux_sentence.specs.declared.error.SentenceError.TheVariants.{BadLine, BadEdge, Backward, NoMemory}
use Rattle.ux_sentence.specs.declared.sentence.Link.{Link}
use Rattle.ux_sentence.specs.declared.sentence.Reading.{Reading}
use Rattle.ux_sentence.specs.Written.{SPACE}
use Rattle.ux_sentence.specs.Readings.{IsReading}
use Rattle.ux_sentence.specs.Files.{IsLinkLine, LinkSays, RefusesLink, LinksSay, RefusesLinks}
use Rattle.ux_sentence.specs.Places.{RefusesNext}
use Rattle.ux_sentence.proofs.NumbersLemmas.{same_number}
use Rattle.ux_sentence.proofs.ReadingLemmas.{one_reading}
use Rattle.std.specs.Fmt.{decimal}

-- links with the same parts are the same
pub same_link : (a b : Link) → a.from ≡ b.from → a.to ≡ b.to → a.reading ≡ b.reading → a ≡ b
same_link a b from to reading =
    let make = λ (f t : ℕ) (r : Reading).
    (let made : Link = record { from = f; to = t; reading = r } in
    made) in
    ap (λ f. make f a.to a.reading) from ∙ ap (λ t. make b.from t a.reading) to
    ∙ ap (λ r. make b.from b.to r) reading

-- a line says one link
pub one_link : (states : ℕ) (line : List ℕ) (a b : Link) → states < 2 ^ 64 →
    IsLinkLine states line a → IsLinkLine states line b → a ≡ b
one_link states line a b fit is also =
    let first = same_number a.from b.from (decimal a.to ++ SPACE ∷ is.text)
    (decimal b.to ++ SPACE ∷ also.text) (omega arith) (omega arith) (sym is.whole ∙ also.whole) in
    let second = same_number a.to b.to is.text also.text (omega arith) (omega arith) first.1 in
    let reading = one_reading also.text a.reading b.reading
    (subst (λ (t : List ℕ). IsReading t a.reading) second.1 is.reading) also.reading in
    same_link a b first.0 second.0 reading

-- a line that says a link isn't refused
pub link_excluded : (states : ℕ) (line : List ℕ) (number : ℕ) (link : Link) (e : SentenceError) →
    states < 2 ^ 64 → LinkSays states line link → RefusesLink states line number e → ⊥
link_excluded states line number link (BadLine n) fit says r = r
link_excluded states line number link (BadEdge n) fit says r = r.1 link says.0
link_excluded states line number link (Backward n) fit says r =
    let same = one_link states line link r.1.0 fit says.0 r.1.1 in
    let from = ap (λ (l : Link). l.from) same in
    let to = ap (λ (l : Link). l.to) same in
    omega (arith, says.1, r.1.2, from, to)
link_excluded states line number link NoMemory fit says r = r

-- a line is refused for one reason
pub link_refused_once : (states : ℕ) (line : List ℕ) (number : ℕ) (e f : SentenceError) →
    RefusesLink states line number e → RefusesLink states line number f → e ≡ f
link_refused_once states line number (BadLine n) f r s = absurd r
link_refused_once states line number NoMemory f r s = absurd r
link_refused_once states line number (BadEdge n) (BadLine m) r s = absurd s
link_refused_once states line number (BadEdge n) NoMemory r s = absurd s
link_refused_once states line number (BadEdge n) (BadEdge m) r s = ap BadEdge (r.0 ∙ sym s.0)
link_refused_once states line number (BadEdge n) (Backward m) r s = absurd (r.1 s.1.0 s.1.1)
link_refused_once states line number (Backward n) (BadLine m) r s = absurd s
link_refused_once states line number (Backward n) NoMemory r s = absurd s
link_refused_once states line number (Backward n) (BadEdge m) r s = absurd (s.1 r.1.0 r.1.1)
link_refused_once states line number (Backward n) (Backward m) r s = ap Backward (r.0 ∙ sym s.0)

-- lines say one list of so many links
pub one_list : (states : ℕ) (lines : List (List ℕ)) (a b : List Link) (p q : List (List ℕ)) →
    states < 2 ^ 64 → length a ≡ length b → LinksSay states lines a p →
    LinksSay states lines b q → (a ≡ b) × (p ≡ q)
one_list states lines [] [] p q fit same says also = (refl, sym says ∙ also)
one_list states lines [] (y ∷ b) p q fit same says also = absurd (omega (arith, same))
one_list states lines (x ∷ a) [] p q fit same says also = absurd (omega (arith, same))
one_list states [] (x ∷ a) (y ∷ b) p q fit same says also = absurd says
one_list states (line ∷ lines) (x ∷ a) (y ∷ b) p q fit same says also =
    let here = one_link states line x y fit says.0.0 also.0.0 in
    let later = one_list states lines a b p q fit (omega (arith, same)) says.1 also.1 in
    (ap (λ (l : Link). l ∷ a) here ∙ ap (λ (l : List Link). y ∷ l) later.0, later.1)

-- lines that say so many links aren't refused
pub links_excluded : (states count : ℕ) (lines : List (List ℕ)) (links : List Link)
    (behind : List (List ℕ)) (number : ℕ) (e : SentenceError) → states < 2 ^ 64 →
    length links ≡ count → LinksSay states lines links behind →
    RefusesLinks states count lines number e → ⊥
links_excluded states count [] [] behind number e fit many says r = omega (arith, many, r.0)
links_excluded states count (line ∷ lines) [] behind number e fit many says r =
    omega (arith, many, r.0)
links_excluded states count [] (x ∷ links) behind number e fit many says r = says
links_excluded states count (line ∷ lines) (x ∷ links) behind number e fit many says r =
    elim r.1 [
      | inl here ↦ link_excluded states line number x e fit says.0 here
      | inr later ↦ links_excluded states (count - 1) lines links behind (number + 1) e fit
          (omega (arith, many)) says.1 later.2
    ]

-- lines of links are refused for one reason
pub links_refused_once : (states count : ℕ) (lines : List (List ℕ)) (number : ℕ)
    (e f : SentenceError) → states < 2 ^ 64 → RefusesLinks states count lines number e →
    RefusesLinks states count lines number f → e ≡ f
links_refused_once states count [] number e f fit r s = r.1 ∙ sym s.1
links_refused_once states count (line ∷ lines) number e f fit r s =
    elim r.1 [
      | inl here ↦ elim s.1 [
        | inl also ↦ link_refused_once states line number e f here also
        | inr after ↦ absurd (link_excluded states line number after.0 e fit after.1 here)
      ]
      | inr later ↦ elim s.1 [
        | inl also ↦ absurd (link_excluded states line number later.0 f fit later.1 also)
        | inr after ↦ links_refused_once states (count - 1) lines (number + 1) e f fit later.2
            after.2
      ]
    ]

-- one more link is said
pub LinksSay-push : (states : ℕ) (lines : List (List ℕ)) (links : List Link) (line : List ℕ)
    (behind left : List (List ℕ)) (link : Link) → LinksSay states lines links left →
    left ≡ line ∷ behind → LinkSays states line link →
    LinksSay states lines (links ++ link ∷ []) behind
LinksSay-push states [] [] line behind left link so_far is says =
    absurd (omega (arith, ap length (so_far ∙ is)))
LinksSay-push states (first ∷ lines) [] line behind left link so_far is says =
    let both : first ∷ lines ≡ line ∷ behind = so_far ∙ is in
    let here : first ≡ line = cc in
    let rest : lines ≡ behind = cc in
    (subst (λ (t : List ℕ). LinkSays states t link) (sym here) says, rest)
LinksSay-push states [] (x ∷ links) line behind left link so_far is says = absurd so_far
LinksSay-push states (first ∷ lines) (x ∷ links) line behind left link so_far is says =
    (so_far.0, LinksSay-push states lines links line behind left link so_far.1 is says)

-- the next line is refused behind links that are said
pub RefusesLinks-behind : (states count : ℕ) (lines : List (List ℕ)) (links : List Link)
    (left : List (List ℕ)) (number at : ℕ) (e : SentenceError) →
    LinksSay states lines links left → length links < count → at ≡ number + length links →
    RefusesNext states left at e → RefusesLinks states count lines number e
RefusesLinks-behind states count [] [] left number at e so_far more is r =
    let next : RefusesNext states [] at e =
    subst (λ (t : List (List ℕ)). RefusesNext states t at e) (sym so_far) r in
    (omega (arith, more), next ∙ ap BadLine (omega (arith, is)))
RefusesLinks-behind states count (first ∷ lines) [] left number at e so_far more is r =
    let next : RefusesNext states (first ∷ lines) at e =
    subst (λ (t : List (List ℕ)). RefusesNext states t at e) (sym so_far) r in
    let same : at ≡ number = omega (arith, is) in
    (omega (arith, more), inl (subst (λ (n : ℕ). RefusesLink states first n e) same next))
RefusesLinks-behind states count [] (x ∷ links) left number at e so_far more is r = absurd so_far
RefusesLinks-behind states count (first ∷ lines) (x ∷ links) left number at e so_far more is r = (
  omega (arith, more),
  inr (
    x,
    so_far.0,
    RefusesLinks-behind states (count - 1) lines links left (number + 1) at e so_far.1
        (omega (arith, more)) (omega (arith, is)) r,
  ),
)

-- the first field of a line is the state that its link leaves
pub first_field : (states from : ℕ) (line behind : List ℕ) → states < 2 ^ 64 → from < 2 ^ 64 →
    line ≡ decimal from ++ SPACE ∷ behind → (link : Link) → (is : IsLinkLine states line link) →
    (link.from ≡ from) × (decimal link.to ++ SPACE ∷ is.text ≡ behind)
first_field states from line behind fit small e link is =
    same_number link.from from (decimal link.to ++ SPACE ∷ is.text) behind (omega arith) small
    (sym is.whole ∙ e)

-- and the second the state to which it leads
pub second_field : (states from to : ℕ) (line behind text : List ℕ) → states < 2 ^ 64 →
    from < 2 ^ 64 → to < 2 ^ 64 → line ≡ decimal from ++ SPACE ∷ behind →
    behind ≡ decimal to ++ SPACE ∷ text → (link : Link) → (is : IsLinkLine states line link) →
    (link.from ≡ from) × (link.to ≡ to) × IsReading text link.reading
second_field states from to line behind text fit small few e f link is =
    let first = first_field states from line behind fit small e link is in
    let second = same_number link.to to is.text text (omega arith) few (first.1 ∙ f) in (
      first.0,
      second.0,
      subst (λ (t : List ℕ). IsReading t link.reading) second.1 is.reading,
    )

-- a line of these fields says the link
pub fields_say : (states from to : ℕ) (line behind text : List ℕ) (reading : Reading) →
    line ≡ decimal from ++ SPACE ∷ behind → behind ≡ decimal to ++ SPACE ∷ text →
    from < states → to < states → IsReading text reading →
    IsLinkLine states line (record { from = from; to = to; reading = reading })
fields_say states from to line behind text reading e f small few is = record {
  text = text;
  whole = e ∙ ap (λ (t : List ℕ). decimal from ++ SPACE ∷ t) f;
  reading = is;
  from_state = small;
  to_state = few;
}

-- the links with the next one are said
pub LinksSay-items : (states : ℕ) (lines : List (List ℕ)) (links items : List Link)
    (line : List ℕ) (behind left : List (List ℕ)) (link : Link) →
    LinksSay states lines links left → left ≡ line ∷ behind → LinkSays states line link →
    items ≡ links ++ link ∷ [] → LinksSay states lines items behind
LinksSay-items states lines links items line behind left link so_far is says same =
    subst (λ (ls : List Link). LinksSay states lines ls behind) (sym same)
    (LinksSay-push states lines links line behind left link so_far is says)

-- out of memory, or refused behind links that are said
pub err_behind : (states count : ℕ) (lines : List (List ℕ)) (links : List Link)
    (left : List (List ℕ)) (number at : ℕ) (e : SentenceError) →
    LinksSay states lines links left → length links < count → at ≡ number + length links →
    ((e ≡ NoMemory) ⊎ RefusesNext states left at e) →
    (e ≡ NoMemory) ⊎ RefusesLinks states count lines number e
err_behind states count lines links left number at e so_far more is r =
    elim r [
      | inl none ↦ inl none
      | inr next ↦ inr
          (RefusesLinks-behind states count lines links left number at e so_far more is next)
    ]
