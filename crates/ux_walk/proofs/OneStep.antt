-- A course completes as the courses one step on do, where contexts apply as they are meant.
use Rattle.std.proofs.Common.{◌≡◌, ℕ, List, [], ◌∷◌, ◌++◌, refl, sym, ◌∙◌, ap, subst, ◌⊎◌, inl, inr, append_assoc, append-nil, reverse}
use Rattle.std.specs.Prelude.{Some, slice_get, Contains, map}
use Rattle.std.proofs.lemmas.List.{reverse-append, reverse-reverse}
use Rattle.ux_alphabet.specs.Letters.{Letters}
use Rattle.ux_tokens.specs.Tokens.{Token}
use Rattle.ux_lexical_tables.specs.Tables.{Tables}
use Rattle.ux_grf.specs.declared.item.Piece.{Piece}
use Rattle.ux_grf.specs.declared.item.Piece.TheVariants.{Chars, Value}
use Rattle.ux_net.specs.declared.label.Label.{Label}
use Rattle.ux_net.specs.declared.label.Label.TheVariants.{Empty, CaseFolded, CaseExact, Mask, Brace, Space, NoSpace, Begin, End, Positive, Negative, Cut, Call}
use Rattle.ux_net.specs.declared.state.Edge.{Edge}
use Rattle.ux_net.specs.declared.state.State.{State}
use Rattle.ux_net.specs.declared.net_graph.NetGraph.{NetGraph}
use Rattle.ux_net.specs.Words.{Sign, positive, negative, Letter, plain, piece, context, ordinary, opens, mark_of, letters, Run, stop, along, across, IsBody}
use Rattle.ux_net.specs.Nets.{IsNetEnd, IsPlain, net_graph, net_grammar, states_of}
use Rattle.ux_outputs.specs.declared.event.Event.{Event}
use Rattle.ux_outputs.specs.declared.event.Event.TheVariants.{Take}
use Rattle.ux_meaning.specs.Contexts.{Holds}
use Rattle.ux_meaning.specs.Meaning.{Seq, done, takes, stays, calls, holds, refused, Stays, DerBy, RefusesBy}
use Rattle.ux_meaning.specs.Texts.{Takes}
use Rattle.ux_walk.specs.Settings.{applied_text}
use Rattle.ux_lexical_tables.specs.Accepting.{Accepts}
use Rattle.ux_walk.specs.declared.config.Frame.{Frame}
use Rattle.ux_walk.specs.Contexts.{Applying, ApplyAsMeant, Opens}
use Rattle.ux_walk.specs.Courses.{Course, GoesOn, Passes, TakesPlainly, passing, put_event, put_events}
use Rattle.ux_walk.proofs.ContextsLemmas.{plain_mark, refused_iff}

-- the events before, which are listed latest first, and the later ones
abbrev pub onto : List Event → List Event → List Event
onto [] later = later
onto (event ∷ before) later = onto before (event ∷ later)

onto-reverse : (before later : List Event) → onto before later ≡ reverse before ++ later
onto-reverse [] later = refl
onto-reverse (event ∷ before) later =
    onto-reverse before (event ∷ later)
    ∙ (sym (append_assoc (reverse before) (event ∷ []) later)
    ∙ ap (λ (l : List Event). l ++ later) (sym (reverse-append (event ∷ []) before)))

pub onto-none : (before : List Event) → onto before [] ≡ reverse before
onto-none before = onto-reverse before [] ∙ append-nil (reverse before)

-- events after those before come before the later ones
pub onto-put : (put before later : List Event) →
    onto (reverse put ++ before) later ≡ onto before (put ++ later)
onto-put put before later =
    onto-reverse (reverse put ++ before) later
    ∙ (ap (λ (l : List Event). l ++ later) (reverse-append (reverse put) before
    ∙ ap (λ (l : List Event). reverse before ++ l) (reverse-reverse put))
    ∙ (append_assoc (reverse before) put later ∙ sym (onto-reverse before (put ++ later))))

-- and so does what a label gives, which is one event at most
onto-passing : (x : Label) (before later : List Event) →
    onto (passing x ++ before) later ≡ onto before (passing x ++ later)
onto-passing (Begin name) before later = refl
onto-passing (End name) before later = refl
onto-passing Cut before later = refl
onto-passing other before later = refl

module _ (alphabet : Letters) (tokens : List Token) (tables : Tables) (applies : Applying)
    (graphs : List NetGraph) (meant : ApplyAsMeant (applied_text alphabet tokens tables) graphs
    applies) where
  -- a context is refused, as all levels tell
  abbrev pub Refuses : (g opening closing p : ℕ) → Type 0
  Refuses = RefusesBy (applied_text alphabet tokens tables) (net_grammar graphs) meant.levels

  -- the letters of the word apply one after another
  abbrev Applies : List Letter → ℕ → ℕ → List Event → Type 0
  Applies word i j events =
      Seq (applied_text alphabet tokens tables) (net_grammar graphs) Refuses word i j events

  -- a run of the graph leads from a state to a state
  abbrev Runs : (g a b : ℕ) → List Letter → Type 0
  Runs g a b word = Run g (net_graph (states_of graphs g)) a b word

  -- from this state of the graph an end is reached, from i to j with these events
  pub record Goes (g n i j : ℕ) (events : List Event) : Type 0 where
    pub last : ℕ
    pub ends : IsNetEnd (states_of graphs g) last
    pub word : List Letter
    pub run : Runs g n last word
    pub seq : Applies word i j events

  -- each frame is gone through in turn
  abbrev pub Through : List Frame → ℕ → ℕ → List Event → Type 0
  Through [] i j events = (i ≡ j) × (events ≡ [])
  Through (f ∷ fs) i j events =
      (k : ℕ) × (here later : List Event) × Goes f.graph f.state i k here × Through fs k j later
      × (events ≡ here ++ later)

  -- from this position, with these events before, latest first, all frames can be gone through
  abbrev pub Completes : List Frame → ℕ → List Event → ℕ → List Event → Type 0
  Completes frames i before j events =
      (later : List Event) × Through frames i j later × (events ≡ onto before later)

  -- the course completes so
  abbrev pub Ends : Course → ℕ → List Event → Type 0
  Ends w j events = Completes w.frames w.at w.before j events

  -- the first label of a word, and what the others derive after it
  abbrev First : Label → List Letter → ℕ → ℕ → List Event → Type 0
  First x word p j events =
      ((k : ℕ) × (later : List Event) × TakesPlainly alphabet tokens tables x p k
      × Applies word k j later × (events ≡ Take p k ∷ later))
      ⊎ (((later : List Event) × Passes tokens x p × Applies word p j later
      × (events ≡ passing x ++ later))
      ⊎ ((h k : ℕ) × (inside later : List Event) × (x ≡ Call h) × Goes h 0 p k inside
      × Applies word k j later × (events ≡ inside ++ later)))

  -- what takes something is plain
  takes_plain : (x : Label) (p k : ℕ) →
      Takes alphabet tokens (Accepts alphabet tokens tables) x p k → IsPlain x
  takes_plain (CaseFolded text) p k t = tt
  takes_plain (CaseExact text) p k t = tt
  takes_plain (Mask mask) p k t = tt
  takes_plain (Brace text) p k t = tt
  takes_plain Space p k t = tt
  takes_plain other p k t = absurd t

  -- of labels `#` stays, and gives no event, a variable begins or ends, and a cut is made
  stays_first : (x : Label) (word : List Letter) (p j : ℕ) (here later : List Event) →
      Stays (applied_text alphabet tokens tables) (plain x) p here →
      Applies word p j later → First x word p j (here ++ later)
  stays_first NoSpace word p j here later t s =
      inr (inl (later, t.0, s, ap (λ (l : List Event). l ++ later) t.1))
  stays_first (Begin name) word p j here later t s =
      inr (inl (later, tt, s, ap (λ (l : List Event). l ++ later) t))
  stays_first (End name) word p j here later t s =
      inr (inl (later, tt, s, ap (λ (l : List Event). l ++ later) t))
  stays_first Cut word p j here later t s =
      inr (inl (later, tt, s, ap (λ (l : List Event). l ++ later) t))
  stays_first other word p j here later t s = absurd t

  first_of : {x : Label} {word : List Letter} {p j : ℕ} {events : List Event} →
      Applies (plain x ∷ word) p j events → First x word p j events
  first_of {x = x} {p = p} (takes {k = k} {later = later} t s) =
      inl (k, later, (takes_plain x p k t, t), s, refl)
  first_of {x = x} {word = word} {p = p} {j = j} (stays {later = later} here t s) =
      stays_first x word p j here later t s
  first_of (calls {h = h} {called = called} {k = k} {inside = inside} {later = later} of i s) =
      inr (inr (
        h,
        k,
        inside,
        later,
        refl,
        record { last = of.last; ends = of.ends; word = called; run = of.run; seq = i },
        s,
        refl,
      ))

  -- the same of a label of an edge, of which the empty word is no letter
  first_letter : (x : Label) (word : List Letter) (p j : ℕ) (events : List Event) →
      Applies (letters (x ∷ []) ++ word) p j events → First x word p j events
  first_letter Empty word p j events s = inr (inl (events, tt, s, refl))
  first_letter other word p j events s = first_of s

  back_takes : (x : Label) (word : List Letter) (p j k : ℕ) (events later : List Event) →
      Takes alphabet tokens (Accepts alphabet tokens tables) x p k → Applies word k j later →
      events ≡ Take p k ∷ later → Applies (plain x ∷ word) p j events
  back_takes x word p j k events later t s is =
      subst (λ (e : List Event). Applies (plain x ∷ word) p j e) (sym is) (takes t s)

  back_calls : (x : Label) (word : List Letter) (p j h k : ℕ) (events inside later : List Event) →
      x ≡ Call h → Goes h 0 p k inside → Applies word k j later → events ≡ inside ++ later →
      Applies (plain x ∷ word) p j events
  back_calls x word p j h k events inside later label goes s is =
      subst (λ (e : List Event). Applies (plain x ∷ word) p j e) (sym is)
      (subst (λ (y : Label). Applies (plain y ∷ word) p j (inside ++ later)) (sym label)
      (calls (record { last = goes.last; ends = goes.ends; run = goes.run }) goes.seq s))

  letter_back : (x : Label) (word : List Letter) (p j : ℕ) (events : List Event) →
      First x word p j events → Applies (letters (x ∷ []) ++ word) p j events
  letter_back Empty word p j events (inl (k, later, t, s, is)) = absurd t.1
  letter_back Empty word p j events (inr (inl (later, t, s, is))) =
      subst (λ (e : List Event). Applies word p j e) (sym is) s
  letter_back Empty word p j events (inr (inr (h, k, inside, later, label, goes, s, is))) = cc
  letter_back NoSpace word p j events (inr (inl (later, t, s, is))) =
      subst (λ (e : List Event). Applies (plain NoSpace ∷ word) p j e) (sym is)
      (stays [] (t, refl) s)
  letter_back (Begin name) word p j events (inr (inl (later, t, s, is))) =
      subst (λ (e : List Event). Applies (plain (Begin name) ∷ word) p j e) (sym is)
      (stays (passing (Begin name)) refl s)
  letter_back (End name) word p j events (inr (inl (later, t, s, is))) =
      subst (λ (e : List Event). Applies (plain (End name) ∷ word) p j e) (sym is)
      (stays (passing (End name)) refl s)
  letter_back Cut word p j events (inr (inl (later, t, s, is))) =
      subst (λ (e : List Event). Applies (plain Cut ∷ word) p j e) (sym is)
      (stays (passing Cut) refl s)
  letter_back other word p j events (inr (inl (later, t, s, is))) = absurd t
  letter_back other word p j events (inl (k, later, t, s, is)) =
      back_takes other word p j k events later t.1 s is
  letter_back other word p j events (inr (inr (h, k, inside, later, label, goes, s, is))) =
      back_calls other word p j h k events inside later label goes s is

  -- a label that applies so opens and closes no context
  passes_mark : (x : Label) (p : ℕ) → Passes tokens x p → mark_of (x ∷ []) ≡ ordinary
  passes_mark Empty p t = refl
  passes_mark NoSpace p t = refl
  passes_mark (Begin name) p t = refl
  passes_mark (End name) p t = refl
  passes_mark Cut p t = refl
  passes_mark other p t = absurd t

  first_mark : (x : Label) (word : List Letter) (p j : ℕ) (events : List Event) →
      First x word p j events → mark_of (x ∷ []) ≡ ordinary
  first_mark x word p j events (inl (k, later, t, s, is)) = plain_mark x t.0
  first_mark x word p j events (inr (inl (later, t, s, is))) = passes_mark x p t
  first_mark x word p j events (inr (inr (h, k, inside, later, label, goes, s, is))) =
      subst (λ (y : Label). mark_of (y ∷ []) ≡ ordinary) (sym label) refl

  piece_event : (part : Piece) (p : ℕ) (here : List Event) →
      Stays (applied_text alphabet tokens tables) (piece part) p here →
      here ≡ put_event part ∷ []
  piece_event (Chars text) p here t = t
  piece_event (Value name) p here t = t

  -- a piece of an output gives its event
  after_piece : {part : Piece} {word : List Letter} {p j : ℕ} {events : List Event} →
      Applies (piece part ∷ word) p j events →
      (later : List Event) × Applies word p j later × (events ≡ put_event part ∷ later)
  after_piece {part = part} {p = p} (stays {later = later} here t s) =
      (later, s, ap (λ (l : List Event). l ++ later) (piece_event part p here t))

  -- the letters of an output give its events, one after another
  after_output : (output : List Piece) (word : List Letter) (p j : ℕ) (events : List Event) →
      Applies (map piece output ++ word) p j events →
      (later : List Event) × Applies word p j later × (events ≡ put_events output ++ later)
  after_output [] word p j events s = (events, s, refl)
  after_output (part ∷ output) word p j events s =
      let first = after_piece {part = part} s in
      let rest = after_output output word p j first.0 first.1 in (
        rest.0,
        rest.1,
        first.2 ∙ ap (λ (l : List Event). put_event part ∷ l) rest.2,
      )

  stays_piece : (part : Piece) (p : ℕ) →
      Stays (applied_text alphabet tokens tables) (piece part) p (put_event part ∷ [])
  stays_piece (Chars text) p = refl
  stays_piece (Value name) p = refl

  output_back : (output : List Piece) (word : List Letter) (p j : ℕ) (later : List Event) →
      Applies word p j later → Applies (map piece output ++ word) p j (put_events output ++ later)
  output_back [] word p j later s = s
  output_back (x ∷ output) word p j later s =
      stays (put_event x ∷ []) (stays_piece x p) (output_back output word p j later s)

  -- over a label to a state, and on from there
  abbrev pub Onward : Label → (g n i j : ℕ) → List Event → Type 0
  Onward x g n i j events =
      ((k : ℕ) × (later : List Event) × TakesPlainly alphabet tokens tables x i k
      × Goes g n k j later
      × (events ≡ Take i k ∷ later))
      ⊎ (((later : List Event) × Passes tokens x i × Goes g n i j later
      × (events ≡ passing x ++ later))
      ⊎ (((h k : ℕ) × (inside later : List Event) × (x ≡ Call h) × Goes h 0 i k inside
      × Goes g n k j later × (events ≡ inside ++ later))
      ⊎ ((c : ℕ) × Opens x × applies.contexts g x n i c × Goes g c i j events)))

  -- over an edge of the state, with its output first
  abbrev pub Ahead : (g n i j : ℕ) → List Event → Type 0
  Ahead g n i j events =
      (state : State) × (slice_get (states_of graphs g) n ≡ Some state)
      × (edge : Edge) × Contains state.edges edge
      × (rest : List Event) × Onward edge.label g edge.target i j rest
      × (events ≡ put_events edge.output ++ rest)

  abbrev pub Stops : (g n i j : ℕ) → List Event → Type 0
  Stops g n i j events = IsNetEnd (states_of graphs g) n × (i ≡ j) × (events ≡ [])

  none_left : {p j : ℕ} {events : List Event} →
      Applies [] p j events → (p ≡ j) × (events ≡ [])
  none_left done = (refl, refl)

  onward : (x : Label) (g n i j : ℕ) (events : List Event) (word : List Letter) (last : ℕ) →
      IsNetEnd (states_of graphs g) last → Runs g n last word →
      First x word i j events → Onward x g n i j events
  onward x g n i j events word last ends run (inl (k, later, t, s, is)) = inl (
    k,
    later,
    t,
    record { last = last; ends = ends; word = word; run = run; seq = s },
    is,
  )
  onward x g n i j events word last ends run (inr (inl (later, t, s, is))) = inr (inl (
    later,
    t,
    record { last = last; ends = ends; word = word; run = run; seq = s },
    is,
  ))
  onward x g n i j events word last ends run
      (inr (inr (h, k, inside, later, label, goes, s, is))) = inr (inr (inl (
        h,
        k,
        inside,
        later,
        label,
        goes,
        record { last = last; ends = ends; word = word; run = run; seq = s },
        is,
      )))

  -- a context that holds, and one that is refused
  first_holds : {g o c p j : ℕ} {word : List Letter} {events : List Event} →
      Applies (context positive g o c ∷ word) p j events →
      Holds (applied_text alphabet tokens tables) (net_grammar graphs) meant.levels g o c p
      × Applies word p j events
  first_holds (holds {body = body} {k = k} {inside = inside} is i s) =
      (record { word = body; body = is; end = k; events = inside; seq = i }, s)
  first_holds (stays here t s) = absurd t

  first_refused : {g o c p j : ℕ} {word : List Letter} {events : List Event} →
      Applies (context negative g o c ∷ word) p j events →
      Refuses g o c p × Applies word p j events
  first_refused (refused r s) = (r, s)
  first_refused (stays here t s) = absurd t

  -- where a word begins with a context, it applies
  first_context : (sign : Sign) (x : Label) → mark_of (x ∷ []) ≡ opens sign → (g o c p j : ℕ)
      (body word : List Letter) (events : List Event) →
      IsBody g (net_graph (states_of graphs g)) o c body →
      Applies (context sign g o c ∷ word) p j events →
      applies.contexts g x o p c × Applies word p j events
  first_context positive Positive mark g o c p j body word events is s =
      let first = first_holds s in
      ((meant.exact g Positive o p c (positive, mark)).1 first.0, first.1)
  first_context negative Negative mark g o c p j body word events is s =
      let first = first_refused s in (
        (meant.exact g Negative o p c (negative, mark)).1 (
          (body, is),
          (refused_iff (applied_text alphabet tokens tables) graphs applies meant g o c p).0
              first.0,
        ),
        first.1,
      )
  first_context sign other mark g o c p j body word events is s = cc

  pub goes_only : (g n i j : ℕ) (events : List Event) → Goes g n i j events →
      Stops g n i j events ⊎ Ahead g n i j events
  goes_only g n i j events goes = by_run goes.run goes.ends goes.seq
    where
      by_run : {a last : ℕ} {word : List Letter} → Runs g a last word →
          IsNetEnd (states_of graphs g) last → Applies word i j events →
          Stops g a i j events ⊎ Ahead g a i j events
      by_run stop ends seq = let e = none_left seq in inl (ends, e.0, e.1)
      by_run (along {b = b} {word = word} s is mark run) ends seq =
          let edge : Edge = is.edge in
          let at : Runs g edge.target b word = subst (λ m. Runs g m b word) is.to run in
          let after : List Letter = letters (edge.label ∷ []) ++ word in
          let split : Applies (map piece edge.output ++ after) i j events =
          subst (λ (l : List Letter). Applies l i j events)
          (append_assoc (map piece edge.output) (letters (edge.label ∷ [])) word)
          (subst (λ (l : List Label). Applies ((map piece edge.output ++ letters l) ++ word) i j
          events) is.label
          (subst (λ (o : List Piece). Applies ((map piece o ++ letters s.labels) ++ word) i j
          events) is.puts seq)) in
          let rest = after_output edge.output after i j events split in
          let first = first_letter edge.label word i j rest.0 rest.1 in
          inr (
            is.state,
            is.found,
            edge,
            is.inside,
            rest.0,
            onward edge.label g edge.target i j rest.0 word b ends at first,
            rest.2,
          )
      by_run (across {b = b} {body = body} {word = word} sign s t is mark inner closing closed run)
          ends seq =
          let edge : Edge = is.edge in
          let after : List Letter = context sign g s.to t.to ∷ word in
          let marked : mark_of (edge.label ∷ []) ≡ opens sign =
          ap mark_of (sym is.label) ∙ mark in
          let split : Applies (map piece edge.output ++ after) i j events =
          subst (λ (o : List Piece). Applies (map piece o ++ after) i j events) is.puts seq in
          let rest = after_output edge.output after i j events split in
          let first = first_context sign edge.label marked g s.to t.to i j body word rest.0
          (record {
            step = t;
            inside = closing;
            closed = closed;
            after = refl;
            run = inner;
          }) rest.1 in
          inr (
            is.state,
            is.found,
            edge,
            is.inside,
            rest.0,
            inr (inr (inr (
              t.to,
              (sign, marked),
              subst (λ o. applies.contexts g edge.label o i t.to) is.to first.0,
              record { last = b; ends = ends; word = word; run = run; seq = first.1 },
            ))),
            rest.2,
          )

  -- the run from where an edge leads, with the edge in front
  by_edge : (g n i j : ℕ) (rest : List Event) (state : State) →
      slice_get (states_of graphs g) n ≡ Some state → (edge : Edge) → Contains state.edges edge →
      (last : ℕ) → IsNetEnd (states_of graphs g) last → (word : List Letter) →
      Runs g edge.target last word → First edge.label word i j rest →
      Goes g n i j (put_events edge.output ++ rest)
  by_edge g n i j rest state found edge inside last ends word run first = record {
    last = last;
    ends = ends;
    word = (map piece edge.output ++ letters (edge.label ∷ [])) ++ word;
    run = along (record {
      from = n;
      to = edge.target;
      output = edge.output;
      labels = edge.label ∷ [];
    }) (record {
      state = state;
      found = found;
      edge = edge;
      inside = inside;
      to = refl;
      label = refl;
      puts = refl;
    }) (first_mark edge.label word i j rest first) run;
    seq = subst (λ (l : List Letter). Applies l i j (put_events edge.output ++ rest))
        (sym (append_assoc (map piece edge.output) (letters (edge.label ∷ [])) word))
        (output_back edge.output (letters (edge.label ∷ []) ++ word) i j rest
        (letter_back edge.label word i j rest first));
  }

  -- the same with a context in front
  by_context : (g n i j : ℕ) (rest : List Event) (state : State) →
      slice_get (states_of graphs g) n ≡ Some state → (edge : Edge) → Contains state.edges edge →
      (sign : Sign) → mark_of (edge.label ∷ []) ≡ opens sign → (c : ℕ) (body : List Letter) →
      IsBody g (net_graph (states_of graphs g)) edge.target c body → (on : Goes g c i j rest) →
      Applies (context sign g edge.target c ∷ on.word) i j rest →
      Goes g n i j (put_events edge.output ++ rest)
  by_context g n i j rest state found edge inside sign mark c body is on seq =
      let put : List Letter = map piece edge.output in
      record {
        last = on.last;
        ends = on.ends;
        word = put ++ context sign g edge.target c ∷ on.word;
        run = subst
            (λ m. Runs g n on.last (put ++ context sign g edge.target m ∷ on.word)) is.after
            (across sign (record {
              from = n;
              to = edge.target;
              output = edge.output;
              labels = edge.label ∷ [];
            }) is.step (record {
              state = state;
              found = found;
              edge = edge;
              inside = inside;
              to = refl;
              label = refl;
              puts = refl;
            }) mark is.run is.inside is.closed
            (subst (λ m. Runs g m on.last on.word) (sym is.after) on.run));
        seq = output_back edge.output (context sign g edge.target c ∷ on.word) i j rest seq;
      }

  goes_across : (g n i j : ℕ) (rest : List Event) (state : State) →
      slice_get (states_of graphs g) n ≡ Some state → (edge : Edge) → Contains state.edges edge →
      (x : Label) → edge.label ≡ x → Opens x → (c : ℕ) →
      applies.contexts g x edge.target i c → Goes g c i j rest →
      Goes g n i j (put_events edge.output ++ rest)
  goes_across g n i j rest state found edge inside Positive is opening c applied on =
      let h = (meant.exact g Positive edge.target i c opening).0 applied in
      by_context g n i j rest state found edge inside positive
      (ap (λ (x : Label). mark_of (x ∷ [])) is) c h.word h.body on (holds h.body h.seq on.seq)
  goes_across g n i j rest state found edge inside Negative is opening c applied on =
      let a = (meant.exact g Negative edge.target i c opening).0 applied in
      let r = (refused_iff (applied_text alphabet tokens tables) graphs applies meant g
      edge.target c i).1 a.1 in
      by_context g n i j rest state found edge inside negative
      (ap (λ (x : Label). mark_of (x ∷ [])) is) c a.0.0 a.0.1 on (refused r on.seq)
  goes_across g n i j rest state found edge inside other is opening c applied on =
      let mark = opening.1 in cc

  goes_by : (g n i j : ℕ) (rest : List Event) (state : State) →
      slice_get (states_of graphs g) n ≡ Some state → (edge : Edge) → Contains state.edges edge →
      Onward edge.label g edge.target i j rest → Goes g n i j (put_events edge.output ++ rest)
  goes_by g n i j rest state found edge inside (inl (k, later, t, on, is)) =
      by_edge g n i j rest state found edge inside on.last on.ends on.word on.run
      (inl (k, later, t, on.seq, is))
  goes_by g n i j rest state found edge inside (inr (inl (later, t, on, is))) =
      by_edge g n i j rest state found edge inside on.last on.ends on.word on.run
      (inr (inl (later, t, on.seq, is)))
  goes_by g n i j rest state found edge inside
      (inr (inr (inl (h, k, called, later, label, goes, on, is)))) =
      by_edge g n i j rest state found edge inside on.last on.ends on.word on.run
      (inr (inr (h, k, called, later, label, goes, on.seq, is)))
  goes_by g n i j rest state found edge inside (inr (inr (inr (c, opening, applied, on)))) =
      goes_across g n i j rest state found edge inside edge.label refl opening c applied on

  -- a graph that goes through from its start is entered
  pub goes_entered : (h i k : ℕ) (inside : List Event) → Goes h 0 i k inside → applies.enters h i
  goes_entered h i k inside goes = meant.entered h i k inside (record {
    word = goes.word;
    of_graph = record { last = goes.last; ends = goes.ends; run = goes.run };
    seq = goes.seq;
  })

  goes_at_end : (g n i : ℕ) → IsNetEnd (states_of graphs g) n → Goes g n i i []
  goes_at_end g n i ends =
      record { last = n; ends = ends; word = []; run = stop; seq = done }

  module _ (f : Frame) (fs : List Frame) (i : ℕ) (before : List Event) (j : ℕ)
      (events : List Event) where
    -- what an edge puts out comes after the events before it, and before the others
    put_first : (put rest later all : List Event) → all ≡ (put ++ rest) ++ later →
        events ≡ onto before all → events ≡ onto (reverse put ++ before) (rest ++ later)
    put_first put rest later all split is = is
        ∙ (ap (λ (l : List Event). onto before l) (split ∙ append_assoc put rest later)
        ∙ sym (onto-put put before (rest ++ later)))

    -- what completes a course completes one a step on
    pub step_forth : Completes (f ∷ fs) i before j events → (w : Course)
        × GoesOn alphabet tokens tables applies graphs f fs i before w × Ends w j events
    step_forth (all, (k, here, rest, goes, through, split), is) =
        elim (goes_only f.graph f.state i k here goes) [
          | inl s ↦ (
            record { frames = fs; at = i; before = before },
            (s.0.state, s.0.found, inr (s.0.final, refl)),
            (
              rest,
              subst (λ m. Through fs m j rest) (sym s.1) through,
              is ∙ ap (λ (l : List Event). onto before l)
                  (split ∙ ap (λ (l : List Event). l ++ rest) s.2),
            ),
          )
          | inr a ↦ over a.0 a.1 a.2 a.3 a.4 a.5
              (put_first (put_events a.2.output) a.4 rest all
              (split ∙ ap (λ (l : List Event). l ++ rest) a.6) is)
        ]
      where
        over : (state : State) → slice_get (states_of graphs f.graph) f.state ≡ Some state →
            (edge : Edge) → Contains state.edges edge → (after : List Event) →
            Onward edge.label f.graph edge.target i k after →
            events ≡ onto (reverse (put_events edge.output) ++ before) (after ++ rest) →
            (w : Course) × GoesOn alphabet tokens tables applies graphs f fs i before w
            × Ends w j events
        over state found edge inside after (inl (m, later, t, on, e)) whole =
            let next : Frame = record { graph = f.graph; state = edge.target } in
            let put : List Event = reverse (put_events edge.output) ++ before in (
              record { frames = next ∷ fs; at = m; before = Take i m ∷ put },
              (state, found, inl (edge, inside, inl (m, t, refl))),
              (
                later ++ rest,
                (k, later, rest, on, through, refl),
                whole ∙ ap (λ (l : List Event). onto put (l ++ rest)) e,
              ),
            )
        over state found edge inside after (inr (inl (later, t, on, e))) whole =
            let next : Frame = record { graph = f.graph; state = edge.target } in
            let put : List Event = reverse (put_events edge.output) ++ before in (
              record { frames = next ∷ fs; at = i; before = passing edge.label ++ put },
              (state, found, inl (edge, inside, inr (inl (t, refl)))),
              (
                later ++ rest,
                (k, later, rest, on, through, refl),
                whole ∙ (ap (λ (l : List Event). onto put l)
                    (ap (λ (l : List Event). l ++ rest) e
                    ∙ append_assoc (passing edge.label) later rest)
                    ∙ sym (onto-passing edge.label put (later ++ rest))),
              ),
            )
        over state found edge inside after
            (inr (inr (inl (h, m, called, later, label, goes, on, e)))) whole =
            let next : Frame = record { graph = f.graph; state = edge.target } in
            let start : Frame = record { graph = h; state = 0 } in
            let put : List Event = reverse (put_events edge.output) ++ before in (
              record { frames = start ∷ next ∷ fs; at = i; before = put },
              (
                state,
                found,
                inl (edge, inside, inr (inr (inl (h, label, goes_entered h i m called goes, refl)))),
              ),
              (
                called ++ (later ++ rest),
                (m, called, later ++ rest, goes, (k, later, rest, on, through, refl), refl),
                whole ∙ ap (λ (l : List Event). onto put l)
                    (ap (λ (l : List Event). l ++ rest) e ∙ append_assoc called later rest),
              ),
            )
        over state found edge inside after (inr (inr (inr (c, opening, applied, on)))) whole =
            let next : Frame = record { graph = f.graph; state = c } in
            let put : List Event = reverse (put_events edge.output) ++ before in (
              record { frames = next ∷ fs; at = i; before = put },
              (state, found, inl (edge, inside, inr (inr (inr (c, opening, applied, refl))))),
              (after ++ rest, (k, after, rest, on, through, refl), whole),
            )

    -- what an edge leads to, with what it puts out in front
    back_over : (state : State) → slice_get (states_of graphs f.graph) f.state ≡ Some state →
        (edge : Edge) → Contains state.edges edge → (k : ℕ) (after rest all : List Event) →
        Onward edge.label f.graph edge.target i k after → Through fs k j rest →
        events ≡ onto (reverse (put_events edge.output) ++ before) all → all ≡ after ++ rest →
        Completes (f ∷ fs) i before j events
    back_over state found edge inside k after rest all on through is split =
        let put : List Event = put_events edge.output in (
          (put ++ after) ++ rest,
          (
            k,
            put ++ after,
            rest,
            goes_by f.graph f.state i k after state found edge inside on,
            through,
            refl,
          ),
          is ∙ (onto-put put before all
              ∙ ap (λ (l : List Event). onto before l)
              (ap (λ (l : List Event). put ++ l) split ∙ sym (append_assoc put after rest))),
        )

    -- and the other way round
    pub step_back : (w : Course) → GoesOn alphabet tokens tables applies graphs f fs i before w →
        Ends w j events → Completes (f ∷ fs) i before j events
    step_back w (state, found, inr (final, is)) ends =
        let c : Completes fs i before j events =
        subst (λ (x : Course). Ends x j events) is ends in (
          c.0,
          (
            i,
            [],
            c.0,
            goes_at_end f.graph f.state i (record {
              state = state;
              found = found;
              final = final;
            }),
            c.1,
            refl,
          ),
          c.2,
        )
    step_back w (state, found, inl (edge, inside, inl (m, t, is))) ends =
        let next : Frame = record { graph = f.graph; state = edge.target } in
        let put : List Event = reverse (put_events edge.output) ++ before in
        let c : Completes (next ∷ fs) m (Take i m ∷ put) j events =
        subst (λ (x : Course). Ends x j events) is ends in
        let u = c.1 in
        back_over state found edge inside u.0 (Take i m ∷ u.1) u.2 (Take i m ∷ c.0)
        (inl (m, u.1, t, u.3, refl)) u.4 c.2 (ap (λ (l : List Event). Take i m ∷ l) u.5)
    step_back w (state, found, inl (edge, inside, inr (inl (t, is)))) ends =
        let next : Frame = record { graph = f.graph; state = edge.target } in
        let put : List Event = reverse (put_events edge.output) ++ before in
        let c : Completes (next ∷ fs) i (passing edge.label ++ put) j events =
        subst (λ (x : Course). Ends x j events) is ends in
        let u = c.1 in
        back_over state found edge inside u.0 (passing edge.label ++ u.1) u.2
        (passing edge.label ++ c.0) (inr (inl (u.1, t, u.3, refl))) u.4
        (c.2 ∙ onto-passing edge.label put c.0)
        (ap (λ (l : List Event). passing edge.label ++ l) u.5
        ∙ sym (append_assoc (passing edge.label) u.1 u.2))
    step_back w (state, found, inl (edge, inside, inr (inr (inr (c, opening, applied, is))))) ends =
        let next : Frame = record { graph = f.graph; state = c } in
        let put : List Event = reverse (put_events edge.output) ++ before in
        let whole : Completes (next ∷ fs) i put j events =
        subst (λ (x : Course). Ends x j events) is ends in
        let u = whole.1 in
        back_over state found edge inside u.0 u.1 u.2 whole.0
        (inr (inr (inr (c, opening, applied, u.3)))) u.4 whole.2 u.5
    step_back w (state, found, inl (edge, inside, inr (inr (inl (h, label, enters, is))))) ends =
        let next : Frame = record { graph = f.graph; state = edge.target } in
        let start : Frame = record { graph = h; state = 0 } in
        let put : List Event = reverse (put_events edge.output) ++ before in
        let c : Completes (start ∷ next ∷ fs) i put j events =
        subst (λ (x : Course). Ends x j events) is ends in
        let u = c.1 in
        let v = u.4 in
        back_over state found edge inside v.0 (u.1 ++ v.1) v.2 c.0
        (inr (inr (inl (h, u.0, u.1, v.1, label, u.3, v.3, refl)))) v.4 c.2
        (u.5 ∙ (ap (λ (l : List Event). u.1 ++ l) v.5 ∙ sym (append_assoc u.1 v.1 v.2)))

  -- a graph derives as the course from its start completes
  pub starts_forth : (g i j : ℕ) (events : List Event) →
      DerBy (applied_text alphabet tokens tables) (net_grammar graphs) meant.levels g i j events →
      Completes (record { graph = g; state = 0 } ∷ []) i [] j events
  starts_forth g i j events d = (
    events,
    (
      j,
      events,
      [],
      record {
        last = d.of_graph.last;
        ends = d.of_graph.ends;
        word = d.word;
        run = d.of_graph.run;
        seq = d.seq;
      },
      (refl, refl),
      sym (append-nil events),
    ),
    refl,
  )

  pub starts_back : (g i j : ℕ) (events : List Event) →
      Completes (record { graph = g; state = 0 } ∷ []) i [] j events →
      DerBy (applied_text alphabet tokens tables) (net_grammar graphs) meant.levels g i j events
  starts_back g i j events (all, (k, here, rest, goes, through, split), is) =
      let same : here ≡ events = sym (is ∙ (split
      ∙ (ap (λ (l : List Event). here ++ l) through.1 ∙ append-nil here))) in
      record {
        word = goes.word;
        of_graph = record { last = goes.last; ends = goes.ends; run = goes.run };
        seq = subst (λ m. Applies goes.word i m events) through.0
            (subst (λ (e : List Event). Applies goes.word i k e)
            same goes.seq);
      }
