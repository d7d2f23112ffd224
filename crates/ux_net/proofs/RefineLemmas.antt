-- A graph that refines another, its ordinary steps taken apart and its places numbered, has the same
-- words and the same bodies of contexts, but for the numbers of places.
use Rattle.std.proofs.Common.{◌≡◌, ℕ, List, [], ◌∷◌, ◌++◌, map, refl, sym, ◌∙◌, ap, subst, ◌⊎◌, inl, inr, append_assoc, append-nil}
use Rattle.ux_grf.specs.declared.item.Piece.{Piece}
use Rattle.ux_net.specs.declared.label.Label.{Label}
use Rattle.ux_net.specs.declared.label.Label.TheVariants.{Empty}
use Rattle.ux_net.specs.Words.{Sign, Letter, piece, context, ordinary, opens, closes, mark_of, letter_of, letters, Step, put_by, StepGraph, Grammar, Run, stop, along, across, IsWord, IsBody, HasPlace, same_plain, same_piece, same_context, AreRenumbered, none, more, SayTheSame}
use Rattle.ux_net.proofs.RunLemmas.{run_joined}

-- the letters along a step
abbrev pub letters_along : Step → List Letter
letters_along step = put_by step ++ letters step.labels

module _ (old : Grammar) (number : (g place : ℕ) → ℕ) where
  -- words that are the same but for places are so joined
  pub renumbered_joined : {v w x y : List Letter} → AreRenumbered old number v w →
      AreRenumbered old number x y → AreRenumbered old number (v ++ x) (w ++ y)
  renumbered_joined none later = later
  renumbered_joined (more one rest) later = more one (renumbered_joined rest later)

  -- an output names no places
  pub put_same : (parts : List Piece) →
      AreRenumbered old number (map piece parts) (map piece parts)
  put_same [] = none
  put_same (part ∷ parts) = more same_piece (put_same parts)

  -- nor does a label
  label_same : (label : Label) → AreRenumbered old number (letter_of label) (letter_of label)
  label_same Empty = none
  label_same label = more same_plain none

  -- nor do labels
  pub line_same : (line : List Label) → AreRenumbered old number (letters line) (letters line)
  line_same [] = none
  line_same (label ∷ line) = renumbered_joined (label_same label) (line_same line)

  -- nor do the letters along a step
  along_same : (step : Step) →
      AreRenumbered old number (letters_along step) (letters_along step)
  along_same step = renumbered_joined (put_same step.output) (line_same step.labels)

  -- the words and bodies of one graph, in both grammars
  pub record IsSame (g : ℕ) (new : StepGraph) : Type 0 where
    pub words : (v : List Letter) → IsWord g (old.graph g) v →
        (w : List Letter) × AreRenumbered old number v w × IsWord g new w
    pub words_back : (w : List Letter) → IsWord g new w →
        (v : List Letter) × AreRenumbered old number v w × IsWord g (old.graph g) v
    pub bodies : (opening closing : ℕ) → HasPlace old g opening → HasPlace old g closing →
        (v : List Letter) → IsBody g (old.graph g) opening closing v →
        (w : List Letter) × AreRenumbered old number v w
        × IsBody g new (number g opening) (number g closing) w
    pub bodies_back : (opening closing : ℕ) → HasPlace old g opening → HasPlace old g closing →
        (w : List Letter) → IsBody g new (number g opening) (number g closing) w →
        (v : List Letter) × AreRenumbered old number v w
        × IsBody g (old.graph g) opening closing v

  -- grammars say the same where each of their graphs does
  pub each_same : (new : Grammar) → ((g : ℕ) → IsSame g (new.graph g)) → SayTheSame old new
  each_same new same = record {
    number = number;
    words = λ g v w. (same g).words v w;
    words_back = λ g v w. (same g).words_back v w;
    bodies = λ g opening closing a b v body. (same g).bodies opening closing a b v body;
    bodies_back = λ g opening closing a b v body. (same g).bodies_back opening closing a b v body;
  }

  -- a step that opens or closes a context, its places numbered
  pub record IsNumbered (g : ℕ) (s t : Step) : Type 0 where
    pub from : t.from ≡ number g s.from
    pub to : t.to ≡ number g s.to
    pub output : t.output ≡ s.output
    pub mark : mark_of t.labels ≡ mark_of s.labels

  -- Ahead n b u: from place n of the new graph the letters u lead to the old place b, and nothing
  -- else is there.
  pub record Refines (g : ℕ) (Ahead : ℕ → ℕ → List Letter → Type 0) (new : StepGraph) :
      Type 0 where
    pub start : HasPlace old g (old.graph g).start
    pub keeps : (s : Step) → HasPlace old g s.from → (old.graph g).IsStep s → HasPlace old g s.to
    pub apart : (a b : ℕ) → HasPlace old g a → HasPlace old g b → number g a ≡ number g b → a ≡ b
    pub here : (a : ℕ) → HasPlace old g a → Ahead (number g a) a []
    pub place : (n b : ℕ) (u : List Letter) → Ahead n b u → HasPlace old g b
    pub starts : new.start ≡ number g (old.graph g).start
    pub ends : (a : ℕ) → HasPlace old g a → (old.graph g).IsEnd a → new.IsEnd (number g a)
    pub ends_back : (n b : ℕ) (u : List Letter) → Ahead n b u → new.IsEnd n →
        (u ≡ []) × (old.graph g).IsEnd b
    -- each old ordinary step is a run of new ones
    pub forth : (s : Step) → HasPlace old g s.from → (old.graph g).IsStep s →
        mark_of s.labels ≡ ordinary →
        Run g new (number g s.from) (number g s.to) (letters_along s)
    pub forth_opens : (s : Step) (sign : Sign) → HasPlace old g s.from → (old.graph g).IsStep s →
        mark_of s.labels ≡ opens sign → (t : Step) × new.IsStep t × IsNumbered g s t
    pub forth_closes : (s : Step) → HasPlace old g s.from → (old.graph g).IsStep s →
        mark_of s.labels ≡ closes → (t : Step) × new.IsStep t × IsNumbered g s t
    -- each new ordinary step goes on in an old one, or begins one
    pub back : (t : Step) (b : ℕ) (u : List Letter) → new.IsStep t →
        mark_of t.labels ≡ ordinary → Ahead t.from b u →
        ((v : List Letter) × Ahead t.to b v × (u ≡ letters_along t ++ v))
        ⊎ ((u ≡ []) × (s : Step) × (old.graph g).IsStep s × (mark_of s.labels ≡ ordinary)
        × (s.from ≡ b) × (v : List Letter) × Ahead t.to s.to v
        × (letters_along s ≡ letters_along t ++ v))
    pub back_opens : (t : Step) (sign : Sign) (b : ℕ) (u : List Letter) → new.IsStep t →
        mark_of t.labels ≡ opens sign → Ahead t.from b u →
        (u ≡ []) × (s : Step) × (old.graph g).IsStep s × (s.from ≡ b) × IsNumbered g s t
    pub back_closes : (t : Step) (b : ℕ) (u : List Letter) → new.IsStep t →
        mark_of t.labels ≡ closes → Ahead t.from b u →
        (u ≡ []) × (s : Step) × (old.graph g).IsStep s × (s.from ≡ b) × IsNumbered g s t

  module _ (g : ℕ) (Ahead : ℕ → ℕ → List Letter → Type 0) (new : StepGraph)
      (refines : Refines g Ahead new) where
    abbrev Old : StepGraph
    Old = old.graph g

    abbrev state : ℕ → ℕ
    state a = number g a

    -- a context across a step that opens it and one that closes it, numbered
    put_across : (sign : Sign) (s t s' t' : Step) {b : ℕ} {v w : List Letter} → new.IsStep s' →
        mark_of s.labels ≡ opens sign → IsNumbered g s s' → new.IsStep t' →
        mark_of t.labels ≡ closes → IsNumbered g t t' → Run g new (state s.to) (state t.from) v →
        Run g new (state t.to) b w →
        Run g new (state s.from) b (put_by s ++ context sign g (state s.to) (state t.to) ∷ w)
    put_across sign s t s' t' {b} {v} {w} inside mark same inside' mark' same' body later =
        let body' : Run g new s'.to t'.from v = subst (λ n. Run g new n t'.from v) (sym same.to)
        (subst (λ n. Run g new (state s.to) n v) (sym same'.from) body) in
        let later' : Run g new t'.to b w = subst (λ n. Run g new n b w) (sym same'.to) later in
        let all : Run g new s'.from b (put_by s' ++ context sign g s'.to t'.to ∷ w) =
        across sign s' t' inside (same.mark ∙ mark) body' inside' (same'.mark ∙ mark') later' in
        subst (λ n. Run g new (state s.from) b (put_by s ++ context sign g (state s.to) n ∷ w))
        same'.to
        (subst (λ n. Run g new (state s.from) b (put_by s ++ context sign g n t'.to ∷ w)) same.to
        (subst (λ (o : List Piece). Run g new (state s.from) b
        (map piece o ++ context sign g s'.to t'.to ∷ w)) same.output
        (subst (λ n. Run g new n b (put_by s' ++ context sign g s'.to t'.to ∷ w)) same.from all)))

    -- an old run is a new one
    run_forth : {a b : ℕ} {v : List Letter} → Run g Old a b v → HasPlace old g a →
        (w : List Letter) × AreRenumbered old number v w × Run g new (state a) (state b) w
        × HasPlace old g b
    run_forth stop place = ([], none, stop, place)
    run_forth (along s inside mark run) place =
        let r = run_forth run (refines.keeps s place inside) in (
          letters_along s ++ r.0,
          renumbered_joined (along_same s) r.1,
          run_joined g new (refines.forth s place inside mark) r.2,
          r.3,
        )
    run_forth (across sign s t inside mark body inside' mark' run) place =
        let opening = refines.keeps s place inside in
        let i = run_forth body opening in
        let closing = refines.keeps t i.3 inside' in
        let r = run_forth run closing in
        let s' = refines.forth_opens s sign place inside mark in
        let t' = refines.forth_closes t i.3 inside' mark' in (
          put_by s ++ context sign g (state s.to) (state t.to) ∷ r.0,
          renumbered_joined (put_same s.output) (more (same_context opening closing) r.1),
          put_across sign s t s'.0 t'.0 s'.1 mark s'.2 t'.1 mark' t'.2 i.2 r.2,
          r.3,
        )

    -- what an old run from b is in the new graph, from where u leads to b: u and then the word of
    -- the old run, but for what leads on from its end
    record OldRun (m b : ℕ) (u w : List Letter) : Type 0 where
      last : ℕ
      rest : List Letter
      ahead : Ahead m last rest
      word : List Letter
      run : Run g Old b last word
      numbered : List Letter
      same : AreRenumbered old number word numbered
      is : w ++ rest ≡ u ++ numbered

    goes_on : (front v u rest w x : List Letter) → u ≡ front ++ v → w ++ rest ≡ v ++ x →
        (front ++ w) ++ rest ≡ u ++ x
    goes_on front v u rest w x is e =
        append_assoc front w rest ∙ (ap (λ y. front ++ y) e
        ∙ (sym (append_assoc front v x) ∙ ap (λ y. y ++ x) (sym is)))

    -- the context of two new steps is that of the old ones
    same_across : (sign : Sign) (s s' t t' : Step) (w rest x : List Letter) →
        IsNumbered g s t → IsNumbered g s' t' → w ++ rest ≡ x →
        (put_by t ++ context sign g t.to t'.to ∷ w) ++ rest
        ≡ put_by s ++ context sign g (state s.to) (state s'.to) ∷ x
    same_across sign s s' t t' w rest x one two e =
        append_assoc (put_by t) (context sign g t.to t'.to ∷ w) rest
        ∙ (ap (λ (o : List Piece). map piece o ++ context sign g t.to t'.to ∷ (w ++ rest)) one.output
        ∙ (ap (λ n. put_by s ++ context sign g n t'.to ∷ (w ++ rest)) one.to
        ∙ (ap (λ n. put_by s ++ context sign g (state s.to) n ∷ (w ++ rest)) two.to
        ∙ ap (λ y. put_by s ++ context sign g (state s.to) (state s'.to) ∷ y) e)))

    run_back : {n m : ℕ} {w : List Letter} → Run g new n m w → (b : ℕ) (u : List Letter) →
        Ahead n b u → OldRun m b u w
    run_back stop b u ahead = record {
      last = b;
      rest = u;
      ahead = ahead;
      word = [];
      run = stop;
      numbered = [];
      same = none;
      is = sym (append-nil u);
    }
    run_back (along {word = w} t inside mark run) b u ahead =
        elim (refines.back t b u inside mark ahead) [
          | inl h ↦
              let r = run_back run b h.0 h.1 in
              record {
                last = r.last;
                rest = r.rest;
                ahead = r.ahead;
                word = r.word;
                run = r.run;
                numbered = r.numbered;
                same = r.same;
                is = goes_on (letters_along t) h.0 u r.rest w r.numbered h.2 r.is;
              }
          | inr h ↦
              let s = h.1 in
              let r = run_back run s.to h.5 h.6 in
              let word = letters_along s ++ r.word in
              let numbered = letters_along s ++ r.numbered in
              record {
                last = r.last;
                rest = r.rest;
                ahead = r.ahead;
                word = word;
                run = subst (λ x. Run g Old x r.last word) h.4 (along s h.2 h.3 r.run);
                numbered = numbered;
                same = renumbered_joined (along_same s) r.same;
                is =
                    goes_on (letters_along t) h.5 (letters_along s) r.rest w r.numbered h.7 r.is
                    ∙ ap (λ (x : List Letter). x ++ numbered) (sym h.0);
              }
        ]
    run_back (across {word = w} sign t t' inside mark body inside' mark' run) b u ahead =
        let o = refines.back_opens t sign b u inside mark ahead in
        let s = o.1 in
        let from : HasPlace old g s.from =
        subst (λ n. HasPlace old g n) (sym o.3) (refines.place t.from b u ahead) in
        let opening = refines.keeps s from o.2 in
        let i = run_back body s.to []
        (subst (λ n. Ahead n s.to []) (sym o.4.to) (refines.here s.to opening)) in
        let c = refines.back_closes t' i.last i.rest inside' mark' i.ahead in
        let s' = c.1 in
        let from' : HasPlace old g s'.from =
        subst (λ n. HasPlace old g n) (sym c.3) (refines.place t'.from i.last i.rest i.ahead) in
        let closing = refines.keeps s' from' c.2 in
        let r = run_back run s'.to []
        (subst (λ n. Ahead n s'.to []) (sym c.4.to) (refines.here s'.to closing)) in
        let word = put_by s ++ context sign g s.to s'.to ∷ r.word in
        let numbered = put_by s ++ context sign g (state s.to) (state s'.to) ∷ r.numbered in
        record {
          last = r.last;
          rest = r.rest;
          ahead = r.ahead;
          word = word;
          run = subst (λ x. Run g Old x r.last word) o.3
              (across sign s s' o.2 (sym o.4.mark ∙ mark)
              (subst (λ x. Run g Old s.to x i.word) (sym c.3) i.run) c.2 (sym c.4.mark ∙ mark')
              r.run);
          numbered = numbered;
          same =
              renumbered_joined (put_same s.output) (more (same_context opening closing) r.same);
          is =
              same_across sign s s' t t' w r.rest r.numbered o.4 c.4 r.is
              ∙ ap (λ (x : List Letter). x ++ numbered) (sym o.0);
        }

    -- where nothing leads on from the end, the words are the same but for numbers
    whole : {m b : ℕ} {w : List Letter} (r : OldRun m b [] w) → r.rest ≡ [] →
        AreRenumbered old number r.word w
    whole {w = w} r none_left =
        subst (λ x. AreRenumbered old number r.word x)
        (sym r.is ∙ (ap (λ x. w ++ x) none_left ∙ append-nil w)) r.same

    words : (v : List Letter) → IsWord g Old v →
        (w : List Letter) × AreRenumbered old number v w × IsWord g new w
    words v word =
        let r = run_forth word.run refines.start in (
          r.0,
          r.1,
          record {
            last = state word.last;
            ends = refines.ends word.last r.3 word.ends;
            run = subst (λ n. Run g new n (state word.last) r.0) (sym refines.starts) r.2;
          },
        )

    words_back : (w : List Letter) → IsWord g new w →
        (v : List Letter) × AreRenumbered old number v w × IsWord g Old v
    words_back w word =
        let r = run_back word.run Old.start []
        (subst (λ n. Ahead n Old.start []) (sym refines.starts)
        (refines.here Old.start refines.start)) in
        let e = refines.ends_back word.last r.last r.rest r.ahead word.ends in
        (r.word, whole r e.0, record { last = r.last; ends = e.1; run = r.run })

    -- an old body is a new one
    pub body_forth : (opening closing : ℕ) → HasPlace old g opening → (v : List Letter) →
        IsBody g Old opening closing v →
        HasPlace old g closing × (w : List Letter) × AreRenumbered old number v w
        × IsBody g new (state opening) (state closing) w
    body_forth opening closing a v body =
        let r = run_forth body.run a in
        let t = refines.forth_closes body.step r.3 body.inside body.closed in (
          subst (λ n. HasPlace old g n) body.after (refines.keeps body.step r.3 body.inside),
          r.0,
          r.1,
          record {
            step = t.0;
            inside = t.1;
            closed = t.2.mark ∙ body.closed;
            after = t.2.to ∙ ap state body.after;
            run = subst (λ n. Run g new (state opening) n r.0) (sym t.2.from) r.2;
          },
        )

    -- and a new one from an old place is an old one
    pub body_back : (opening n : ℕ) → HasPlace old g opening → (w : List Letter) →
        IsBody g new (state opening) n w →
        (closing : ℕ) × HasPlace old g closing × (n ≡ state closing)
        × (v : List Letter) × AreRenumbered old number v w × IsBody g Old opening closing v
    body_back opening n a w body =
        let r = run_back body.run opening [] (refines.here opening a) in
        let c = refines.back_closes body.step r.last r.rest body.inside body.closed r.ahead in
        let s = c.1 in
        let from : HasPlace old g s.from = subst (λ n. HasPlace old g n) (sym c.3)
        (refines.place body.step.from r.last r.rest r.ahead) in (
          s.to,
          refines.keeps s from c.2,
          sym body.after ∙ c.4.to,
          r.word,
          whole r c.0,
          record {
            step = s;
            inside = c.2;
            closed = sym c.4.mark ∙ body.closed;
            after = refl;
            run = subst (λ x. Run g Old opening x r.word) (sym c.3) r.run;
          },
        )

    bodies_back : (opening closing : ℕ) → HasPlace old g opening → HasPlace old g closing →
        (w : List Letter) → IsBody g new (state opening) (state closing) w →
        (v : List Letter) × AreRenumbered old number v w × IsBody g Old opening closing v
    bodies_back opening closing a b w body =
        let r = body_back opening (state closing) a w body in
        let same = refines.apart r.0 closing r.1 b (sym r.2) in
        (r.3, r.4, subst (λ c. IsBody g Old opening c r.3) same r.5)

    -- the law: a graph that refines another says the same
    pub refined_same : IsSame g new
    refined_same = record {
      words = words;
      words_back = words_back;
      bodies = λ opening closing a b v body.
          let r = body_forth opening closing a v body in (r.1, r.2, r.3);
      bodies_back = bodies_back;
    }
