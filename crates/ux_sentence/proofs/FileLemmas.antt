-- A file says one list of sentences, or is refused for one reason, and never both.
use Rattle.std.proofs.Common.{arith, ◌≡◌, ℕ, ◌+◌, List, [], ◌∷◌, ◌++◌, refl, sym, ◌∙◌, ap, subst, inl, inr, length}
use Rattle.std.specs.Prelude.{All, codes}
use Rattle.std.specs.Fmt.{decimal}
use Rattle.std.proofs.lemmas.Fmt.{decimal_injective}
use Rattle.std.proofs.lemmas.List.{append_cancel_left}
use Rattle.std.proofs.lemmas.List.Elements.{All-cons, All-nil}
use Rattle.ux_sentence.specs.declared.error.SentenceError.{SentenceError}
use Rattle.ux_sentence.specs.declared.sentence.Link.{Link}
use Rattle.ux_sentence.specs.declared.sentence.Sentence.{Sentence}
use Rattle.ux_sentence.specs.Paths.{LeadsOn, IsWellFormed}
use Rattle.ux_sentence.specs.Written.{SPACE, empty_line}
use Rattle.ux_sentence.specs.Files.{LinksSay, RefusesLinks, IsSentenceLine, SentenceSays, RefusesSentence, Place, Opens, Tells, behind_sentence, IsOver, Stops, Passes}
use Rattle.ux_sentence.proofs.NumbersLemmas.{same_number, no_field, HasNoSpace}
use Rattle.ux_sentence.proofs.LinkLemmas.{one_list, links_excluded, links_refused_once}

-- what stands behind the number of a sentence
behind_number : (n : ℕ) (xs ys : List ℕ) →
    codes "S " ++ (decimal n ++ SPACE ∷ xs) ≡ codes "S " ++ (decimal n ++ SPACE ∷ ys) → xs ≡ ys
behind_number n xs ys e =
    let inner = append_cancel_left (codes "S ") (decimal n ++ SPACE ∷ xs)
    (decimal n ++ SPACE ∷ ys) e in
    append_cancel_left (SPACE ∷ []) xs ys
    (append_cancel_left (decimal n) (SPACE ∷ xs) (SPACE ∷ ys) inner)

-- a sentence's line has one number of states and one of links
pub one_counts : (n : ℕ) (line : List ℕ) (s t l m : ℕ) → IsSentenceLine n line s l →
    IsSentenceLine n line t m → (s ≡ t) × (l ≡ m)
one_counts n line s t l m is also =
    let behind = behind_number n (decimal s ++ SPACE ∷ decimal l) (decimal t ++ SPACE ∷ decimal m)
    (sym is.whole ∙ also.whole) in
    let first = same_number s t (decimal l) (decimal m) is.states_fit also.states_fit behind in
    (first.0, decimal_injective l m is.links_fit also.links_fit first.1)

-- a line without states isn't one with states
pub not_both : (n : ℕ) (line : List ℕ) (s l : ℕ) → line ≡ empty_line n →
    IsSentenceLine n line s l → ⊥
not_both n line s l empty is =
    let same = behind_number n (codes "EMPTY") (decimal s ++ SPACE ∷ decimal l)
    (sym empty ∙ is.whole) in
    let none : HasNoSpace (codes "EMPTY") = refl in
    no_field (decimal s) (decimal l) (subst (λ (t : List ℕ). HasNoSpace t) same none)

-- sentences with the same parts are the same
pub same_sentence : (s t : Sentence) → s.number ≡ t.number → s.states ≡ t.states →
    s.links ≡ t.links → s ≡ t
same_sentence s t number states links =
    let make = λ (n m : ℕ) (ls : List Link).
    (let made : Sentence = record { number = n; states = m; links = ls } in
    made) in
    ap (λ n. make n s.states s.links) number ∙ ap (λ m. make t.number m s.links) states
    ∙ ap (λ ls. make t.number t.states ls) links

-- lines say one sentence of a number
pub one_sentence : (lines : List (List ℕ)) (s t : Sentence) (b c : List (List ℕ)) →
    s.number ≡ t.number → SentenceSays lines s b → SentenceSays lines t c → (s ≡ t) × (b ≡ c)
one_sentence [] s t b c same says also = absurd says
one_sentence (line ∷ lines) s t b c same says also =
    elim says [
      | inl e ↦ elim also [
        | inl f ↦ (
          same_sentence s t same (e.0.no_states ∙ sym f.0.no_states)
              (e.0.no_links ∙ sym f.0.no_links),
          sym e.1 ∙ f.1,
        )
        | inr f ↦ absurd (not_both t.number line t.states (length t.links)
            (e.0.whole ∙ ap empty_line same) f.0)
      ]
      | inr e ↦ elim also [
        | inl f ↦ absurd (not_both s.number line s.states (length s.links)
            (f.0.whole ∙ ap empty_line (sym same)) e.0)
        | inr f ↦
            let counts = one_counts t.number line s.states t.states (length s.links)
            (length t.links)
            (subst (λ (n : ℕ). IsSentenceLine n line s.states (length s.links)) same e.0) f.0 in
            let links = one_list t.states lines s.links t.links b c f.0.states_fit counts.1
            (subst (λ (n : ℕ). LinksSay n lines s.links b) counts.0 e.1) f.1 in
            (same_sentence s t same counts.0 links.0, links.1)
      ]
    ]

-- lines that say a sentence aren't refused
pub sentence_excluded : (lines : List (List ℕ)) (s : Sentence) (b : List (List ℕ)) (first : ℕ)
    (e : SentenceError) → SentenceSays lines s b → RefusesSentence s.number lines first e → ⊥
sentence_excluded [] s b first e says r = says
sentence_excluded (line ∷ lines) s b first e says r =
    elim says [
      | inl f ↦ elim r [
        | inl bare ↦ bare.0.no_empty f.0.whole
        | inr bad ↦ not_both s.number line bad.0 bad.1 f.0.whole bad.2
      ]
      | inr f ↦ elim r [
        | inl bare ↦ bare.0.no_states s.states (length s.links) f.0
        | inr bad ↦
            let counts = one_counts s.number line s.states bad.0 (length s.links) bad.1 f.0
            bad.2 in
            links_excluded bad.0 bad.1 lines s.links b (first + 1) e bad.2.states_fit counts.1
            (subst (λ (n : ℕ). LinksSay n lines s.links b) counts.0 f.1) bad.3
      ]
    ]

-- lines are refused for one reason
pub sentence_refused_once : (number : ℕ) (lines : List (List ℕ)) (first : ℕ)
    (e f : SentenceError) → RefusesSentence number lines first e →
    RefusesSentence number lines first f → e ≡ f
sentence_refused_once number [] first e f r s = r ∙ sym s
sentence_refused_once number (line ∷ lines) first e f r s =
    elim r [
      | inl bare ↦ elim s [
        | inl also ↦ bare.1 ∙ sym also.1
        | inr bad ↦ absurd (bare.0.no_states bad.0 bad.1 bad.2)
      ]
      | inr bad ↦ elim s [
        | inl also ↦ absurd (also.0.no_states bad.0 bad.1 bad.2)
        | inr other ↦
            let counts = one_counts number line bad.0 other.0 bad.1 other.1 bad.2 other.2 in
            let moved = subst (λ (n : ℕ). RefusesLinks n bad.1 lines (first + 1) e) counts.0
            bad.3 in
            let both = subst (λ (n : ℕ). RefusesLinks other.0 n lines (first + 1) e) counts.1
            moved in
            links_refused_once other.0 other.1 lines (first + 1) e f other.2.states_fit both
            other.3
      ]
    ]

-- one sentence is told from a place on
pub one_told : (place : Place) (s t : Sentence) (b c : List (List ℕ)) → Tells place s b →
    Tells place t c → (s ≡ t) × (b ≡ c)
one_told place s t b c is also =
    one_sentence place.lines s t b c (is.number ∙ sym also.number) is.says also.says

-- a place at which the file is over tells no sentence
pub over_tells : (place : Place) (s : Sentence) (b : List (List ℕ)) → IsOver place →
    Tells place s b → ⊥
over_tells place s b over is = omega (arith, over.told, is.due)

-- and none stops there
pub over_stops : (place : Place) (e : SentenceError) → IsOver place → Stops place e → ⊥
over_stops place e over stops =
    elim stops [
      | inl more ↦ omega (arith, more.1, ap length over.no_line)
      | inr due ↦ omega (arith, over.told, due.0)
    ]

-- a place that tells a sentence doesn't stop
pub tells_stops : (place : Place) (s : Sentence) (b : List (List ℕ)) (e : SentenceError) →
    Tells place s b → Stops place e → ⊥
tells_stops place s b e is stops =
    elim stops [
      | inl more ↦ omega (arith, more.0, is.due)
      | inr due ↦ sentence_excluded place.lines s b (place.passed + 1) e is.says
          (subst (λ (n : ℕ). RefusesSentence n place.lines (place.passed + 1) e) (sym is.number)
          due.1)
    ]

-- a place stops for one reason
pub stops_once : (place : Place) (e f : SentenceError) → Stops place e → Stops place f → e ≡ f
stops_once place e f r s =
    elim r [
      | inl more ↦ elim s [
        | inl also ↦ more.2 ∙ sym also.2
        | inr due ↦ absurd (omega (arith, more.0, due.0))
      ]
      | inr due ↦ elim s [
        | inl also ↦ absurd (omega (arith, also.0, due.0))
        | inr other ↦ sentence_refused_once (place.told + 1) place.lines (place.passed + 1) e f
            due.1 other.1
      ]
    ]

-- the same sentence leads to the same place
behind_same : (place : Place) (s t : Sentence) (b c : List (List ℕ)) → Tells place s b →
    Tells place t c → behind_sentence place s b ≡ behind_sentence place t c
behind_same place s t b c is also =
    let same = one_told place s t b c is also in
    ap (λ (x : Sentence). behind_sentence place x b) same.0
    ∙ ap (λ (y : List (List ℕ)). behind_sentence place t y) same.1

-- from a place to the end there is one list of sentences
pub one_rest : (place : Place) (all other : List Sentence) (end stop : Place) →
    Passes place all end → IsOver end → Passes place other stop → IsOver stop → all ≡ other
one_rest place [] [] end stop p over q also = refl
one_rest place [] (t ∷ other) end stop p over q also =
    absurd (over_tells place t q.0 (subst (λ (x : Place). IsOver x) (sym p) over) q.1)
one_rest place (s ∷ all) [] end stop p over q also =
    absurd (over_tells place s p.0 (subst (λ (x : Place). IsOver x) (sym q) also) p.1)
one_rest place (s ∷ all) (t ∷ other) end stop p over q also =
    let same = one_told place s t p.0 q.0 p.1 q.1 in
    let later = one_rest (behind_sentence place t q.0) all other end stop
    (subst (λ (x : Place). Passes x all end) (behind_same place s t p.0 q.0 p.1 q.1) p.2) over
    q.2 also in
    ap (λ (x : Sentence). x ∷ all) same.0 ∙ ap (λ (xs : List Sentence). t ∷ xs) later

-- a file that is read to its end stops nowhere
pub rest_excluded : (place : Place) (all front : List Sentence) (end stop : Place)
    (e : SentenceError) → Passes place all end → IsOver end → Passes place front stop →
    Stops stop e → ⊥
rest_excluded place [] [] end stop e p over q stops =
    over_stops place e (subst (λ (x : Place). IsOver x) (sym p) over)
    (subst (λ (x : Place). Stops x e) (sym q) stops)
rest_excluded place [] (t ∷ front) end stop e p over q stops =
    over_tells place t q.0 (subst (λ (x : Place). IsOver x) (sym p) over) q.1
rest_excluded place (s ∷ all) [] end stop e p over q stops =
    tells_stops place s p.0 e p.1 (subst (λ (x : Place). Stops x e) (sym q) stops)
rest_excluded place (s ∷ all) (t ∷ front) end stop e p over q stops =
    rest_excluded (behind_sentence place t q.0) all front end stop e
    (subst (λ (x : Place). Passes x all end) (behind_same place s t p.0 q.0 p.1 q.1) p.2) over
    q.2 stops

-- a file stops for one reason
pub rest_refused_once : (place : Place) (front other : List Sentence) (end stop : Place)
    (e f : SentenceError) → Passes place front end → Stops end e → Passes place other stop →
    Stops stop f → e ≡ f
rest_refused_once place [] [] end stop e f p r q s =
    stops_once place e f (subst (λ (x : Place). Stops x e) (sym p) r)
    (subst (λ (x : Place). Stops x f) (sym q) s)
rest_refused_once place [] (t ∷ other) end stop e f p r q s =
    absurd (tells_stops place t q.0 e q.1 (subst (λ (x : Place). Stops x e) (sym p) r))
rest_refused_once place (h ∷ front) [] end stop e f p r q s =
    absurd (tells_stops place h p.0 f p.1 (subst (λ (x : Place). Stops x f) (sym q) s))
rest_refused_once place (h ∷ front) (t ∷ other) end stop e f p r q s =
    rest_refused_once (behind_sentence place t q.0) front other end stop e f
    (subst (λ (x : Place). Passes x front end) (behind_same place h t p.0 q.0 p.1 q.1) p.2) r
    q.2 s

-- a file opens at one place
pub one_start : (text : List ℕ) (a b : Place) → Opens text a → Opens text b → a ≡ b
one_start text a b is also =
    let both : is.head ∷ a.lines ≡ also.head ∷ b.lines = sym is.lines ∙ also.lines in
    let heads : is.head ≡ also.head = cc in
    let lines : a.lines ≡ b.lines = cc in
    let written = append_cancel_left (codes "#TFST ") (decimal a.count) (decimal b.count)
    (sym is.is_head ∙ heads ∙ also.is_head) in
    let count = decimal_injective a.count b.count (omega arith) (omega arith) written in
    let make = λ (ls : List (List ℕ)) (p t c : ℕ).
    (let made : Place = record { lines = ls; passed = p; told = t; count = c } in
    made) in
    ap (λ ls. make ls a.passed a.told a.count) lines
    ∙ ap (λ p. make b.lines p a.told a.count) (is.passed ∙ sym also.passed)
    ∙ ap (λ t. make b.lines b.passed t a.count) (is.told ∙ sym also.told)
    ∙ ap (λ c. make b.lines b.passed b.told c) count

-- one more sentence is passed
pub Passes-push : (place : Place) (front : List Sentence) (end now : Place) (s : Sentence)
    (b : List (List ℕ)) → Passes place front end → Tells end s b →
    now ≡ behind_sentence end s b → Passes place (front ++ s ∷ []) now
Passes-push place [] end now s b p tells is =
    let told : Tells place s b = subst (λ (x : Place). Tells x s b) (sym p) tells in (
      b,
      told,
      ap (λ (x : Place). behind_sentence x s b) p ∙ sym is,
    )
Passes-push place (h ∷ front) end now s b p tells is =
    (p.0, p.1, Passes-push (behind_sentence place h p.0) front end now s b p.2 tells is)

-- the links of lines lead on
links_lead_on : (states : ℕ) (lines : List (List ℕ)) (links : List Link)
    (behind : List (List ℕ)) → LinksSay states lines links behind → All (LeadsOn states) links
links_lead_on states lines [] behind says = All-nil (LeadsOn states)
links_lead_on states [] (x ∷ links) behind says = absurd says
links_lead_on states (line ∷ lines) (x ∷ links) behind says =
    All-cons (LeadsOn states) x links (says.0.1, says.0.0.to_state)
    (links_lead_on states lines links behind says.1)

-- a sentence that is told is well formed
pub told_well_formed : (lines : List (List ℕ)) (s : Sentence) (b : List (List ℕ)) →
    SentenceSays lines s b → IsWellFormed s
told_well_formed [] s b says = absurd says
told_well_formed (line ∷ lines) s b says =
    elim says [
      | inl e ↦ inl (e.0.no_states, e.0.no_links)
      | inr e ↦ inr (e.0.some, links_lead_on s.states lines s.links b e.1)
    ]
