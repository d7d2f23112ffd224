-- What stands along the runs of a draft: words that lead to where a place stands.
use Rattle.std.proofs.Common.{◌≡◌, ℕ, ◌<◌, List, [], ◌∷◌, ◌++◌, refl, sym, ap, ◌∙◌, append_assoc, append-nil, subst, length}
use Rattle.std.specs.Prelude.{None}
use Rattle.ux_grf.specs.declared.graph.Graph.{Graph}
use Rattle.ux_grf.specs.declared.item.Item.{Item}
use Rattle.ux_rules.specs.declared.step.Sign.{Sign}
use Rattle.ux_rules.specs.declared.step.Step.{Step}
use Rattle.ux_rules.specs.Drafts.{said_by, Spot, before, behind, within, IsLineOf, Fits, enters, reads, leaves, passes, goes, IsDrawn}
use Rattle.ux_rules.specs.Runs.{Run, stop, free, along}
use Rattle.ux_rules.specs.Words.{AreSaid, IsSpelledBy, IsThrough, Leads, on, mark_of}
use Rattle.ux_rules.proofs.RunLemmas.{said_one}
use Rattle.ux_rules.proofs.SaidLemmas.{said_more}

-- the word leads into a line of the box, before these items
record IsWithin (graph : Graph) (node : ℕ) (rest : List Item) (word : List Sign) : Type 0 where
  front : List Sign
  leads : Leads graph node front
  line : List Item
  is_line : IsLineOf graph node line
  no_mark : mark_of line ≡ None
  read : List Item
  whole : line ≡ read ++ rest
  back : List Sign
  said : AreSaid read back
  all : word ≡ front ++ back

-- the word leads to behind the box
record IsBehind (graph : Graph) (node : ℕ) (word : List Sign) : Type 0 where
  front : List Sign
  leads : Leads graph node front
  back : List Sign
  through : IsThrough graph node back
  all : word ≡ front ++ back

-- the word leads to the spot
abbrev At : Graph → Spot → List Sign → Type 0
At graph (before node) word = Leads graph node word
At graph (behind node) word = IsBehind graph node word
At graph (within node rest) word = IsWithin graph node rest word

-- a step leads on
step_on : (graph : Graph) {p q : Spot} {sign : Sign} → Fits graph p sign q → (u : List Sign) →
    At graph p u → At graph q (u ++ said_by sign)
step_on graph (enters {line = line} is_line no_mark) u h = record {
  front = u;
  leads = h;
  line = line;
  is_line = is_line;
  no_mark = no_mark;
  read = [];
  whole = refl;
  back = [];
  said = refl;
  all = refl;
}
step_on graph (reads {rest = rest} item sign says) u h = record {
  front = h.front;
  leads = h.leads;
  line = h.line;
  is_line = h.is_line;
  no_mark = h.no_mark;
  read = h.read ++ item ∷ [];
  whole = h.whole ∙ sym (append_assoc h.read (item ∷ []) rest);
  back = h.back ++ said_by sign;
  said = said_more h.read item h.back (said_by sign) h.said says;
  all = ap (λ (x : List Sign). x ++ said_by sign) h.all
      ∙ append_assoc h.front h.back (said_by sign);
}
step_on graph leaves u h = record {
  front = h.front;
  leads = h.leads;
  back = h.back;
  through = record {
    before_end = h.is_line.inner;
    line = h.line;
    of_box = h.is_line.of_box;
    spelled = subst (λ mark. IsSpelledBy mark h.line h.back) (sym h.no_mark)
        (subst (λ (l : List Item). AreSaid l h.back)
        (sym (h.whole ∙ append-nil h.read)) h.said);
  };
  all = append-nil u ∙ h.all;
}
step_on graph (passes sign through) u h = record {
  front = u;
  leads = h;
  back = said_by sign;
  through = through;
  all = refl;
}
step_on graph (goes {target = target} leads) u h =
    subst (λ (w : List Sign). Leads graph target w) (sym (append-nil u ∙ h.all))
    (on h.leads h.through leads)

-- a run leads on
run_on : (graph : Graph) (places : ℕ) (steps : List Step) (spot : ℕ → Spot) →
    IsDrawn graph places steps spot → {a b : ℕ} {w : List Sign} → Run steps a b w →
    (u : List Sign) → At graph (spot a) u → At graph (spot b) (u ++ w)
run_on graph places steps spot drawn (stop {a = a}) u h =
    subst (λ (x : List Sign). At graph (spot a) x) (sym (append-nil u)) h
run_on graph places steps spot drawn (free {b = b} {word = word} s here is run) u h =
    let next = step_on graph (drawn.fits s here) u h in
    let same : u ++ said_by s.sign ≡ u =
    ap (λ (x : Sign). u ++ said_by x) is ∙ append-nil u in
    run_on graph places steps spot drawn run u
    (subst (λ (x : List Sign). At graph (spot s.to) x) same next)
run_on graph places steps spot drawn (along {b = b} {word = word} s here other run) u h =
    let next = step_on graph (drawn.fits s here) u h in
    let same : u ++ said_by s.sign ≡ u ++ s.sign ∷ [] =
    ap (λ (x : List Sign). u ++ x) (said_one s.sign other) in
    subst (λ (x : List Sign). At graph (spot b) x) (append_assoc u (s.sign ∷ []) word)
    (run_on graph places steps spot drawn run (u ++ s.sign ∷ [])
    (subst (λ (x : List Sign). At graph (spot s.to) x) same next))

-- a run from the start to before a box spells a word that leads there
pub run_leads : (graph : Graph) (places : ℕ) (steps : List Step) (spot : ℕ → Spot) →
    IsDrawn graph places steps spot → (node : ℕ) → 0 < length graph.boxes →
    node < length graph.boxes → (w : List Sign) → Run steps 0 node w →
    Leads graph 0 [] → Leads graph node w
run_leads graph places steps spot drawn node some inside w run begun =
    subst (λ (x : Spot). At graph x w) (drawn.first node inside)
    (run_on graph places steps spot drawn run []
    (subst (λ (x : Spot). At graph x []) (sym (drawn.first 0 some)) begun))
