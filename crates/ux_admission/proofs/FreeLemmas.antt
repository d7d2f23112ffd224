-- Words that may take nothing, and the runs along them, one move after another.
use Rattle.std.proofs.Common.{◌≡◌, ◌⊎◌, inl, inr, ℕ, List, [], ◌∷◌, ◌++◌, map, refl, sym, ◌∙◌, true, false}
use Rattle.std.specs.Prelude.{All}
use Rattle.std.proofs.lemmas.List.Elements.{All-head, All-tail}
use Rattle.ux_grf.specs.declared.item.Piece.{Piece}
use Rattle.ux_net.specs.declared.label.Label.{Label}
use Rattle.ux_net.specs.declared.label.Label.TheVariants.{Empty, CaseFolded, CaseExact, Mask, Brace, Space, NoSpace, Begin, End, Positive, Negative, ContextEnd, Cut, Call}
use Rattle.ux_net.specs.Words.{Sign, Step, Grammar, Letter, plain, piece, context, ordinary, mark_of, Run, stop, along, across, letters, put_by}
use Rattle.ux_boxes.specs.Fit.{is_call}
use Rattle.ux_net.specs.Nullable.{IsSilent, IsFree, none, silent, call, IsNullable}
use Rattle.ux_admission.specs.Admissible.{LeadsFreely, MovesFreely, along_step, over_context, IsOnMove, in_front, at_opening}
use Rattle.ux_net.specs.Silent.{is_silent, are_silent}
use Rattle.ux_net.proofs.RunLemmas.{run_joined, one_step, over_step}

module _ (grammar : Grammar) where
  pub free_append : {u v : List Letter} → IsFree grammar u → IsFree grammar v →
      IsFree grammar (u ++ v)
  free_append none g = g
  free_append (silent s f) g = silent s (free_append f g)
  free_append (call w c f) g = call w c (free_append f g)

  free_first : {x : Letter} {v : List Letter} → IsFree grammar (x ∷ v) →
      IsFree grammar (x ∷ []) × IsFree grammar v
  free_first (silent s f) = (silent s none, f)
  free_first (call w c f) = (call w c none, f)

  pub free_parts : (u v : List Letter) → IsFree grammar (u ++ v) →
      IsFree grammar u × IsFree grammar v
  free_parts [] v f = (none, f)
  free_parts (x ∷ u) v f =
      let p = free_first f in
      let r = free_parts u v p.1 in
      (free_append p.0 r.0, r.1)

  -- an output takes nothing
  put_free : (parts : List Piece) → IsFree grammar (map piece parts)
  put_free [] = none
  put_free (part ∷ parts) = silent {letter = piece part} tt (put_free parts)

  -- a step is free where its labels are
  pub along_free : (s : Step) → IsFree grammar (letters s.labels) →
      IsFree grammar (put_by s ++ letters s.labels)
  along_free s f = free_append (put_free s.output) f

  pub silent_free : (line : List Label) → are_silent line ≡ true → IsFree grammar (letters line)
  silent_free [] s = none
  silent_free (Empty ∷ line) s = silent_free line s
  silent_free (NoSpace ∷ line) s = silent {letter = plain NoSpace} refl (silent_free line s)
  silent_free (Begin name ∷ line) s =
      silent {letter = plain (Begin name)} refl (silent_free line s)
  silent_free (End name ∷ line) s = silent {letter = plain (End name)} refl (silent_free line s)
  silent_free (Cut ∷ line) s = silent {letter = plain Cut} refl (silent_free line s)
  silent_free (CaseFolded text ∷ line) s = cc
  silent_free (CaseExact text ∷ line) s = cc
  silent_free (Mask text ∷ line) s = cc
  silent_free (Brace text ∷ line) s = cc
  silent_free (Space ∷ line) s = cc
  silent_free (Positive ∷ line) s = cc
  silent_free (Negative ∷ line) s = cc
  silent_free (ContextEnd ∷ line) s = cc
  silent_free (Call h ∷ line) s = cc

  -- a letter that may take nothing is silent or a call
  takes_a_token : {x : Letter} → IsFree grammar (x ∷ []) →
      IsSilent x ⊎ ((h : ℕ) × (x ≡ plain (Call h)))
  takes_a_token (silent s f) = inl s
  takes_a_token (call {h = h} w c f) = inr (h, refl)

  no_token : (x : Label) → is_silent x ≡ false → is_call x ≡ false →
      IsFree grammar (plain x ∷ []) → ⊥
  no_token x loud calls f = elim (takes_a_token f) [
    | inl s ↦ let both : true ≡ false = sym s ∙ loud in cc
    | inr c ↦ called x c.0 calls c.1
  ]
    where
      called : (x : Label) (h : ℕ) → is_call x ≡ false → plain x ≡ plain (Call h) → ⊥
      called x h calls e = cc

  -- only a line with no call may be nullable without one
  pub free_silent : (line : List Label) → All (λ (x : Label). is_call x ≡ false) line →
      IsFree grammar (letters line) → are_silent line ≡ true
  free_silent [] calls f = refl
  free_silent (Empty ∷ line) calls f =
      free_silent line (All-tail (λ (x : Label). is_call x ≡ false) Empty line calls) f
  free_silent (NoSpace ∷ line) calls f =
      free_silent line (All-tail (λ (x : Label). is_call x ≡ false) NoSpace line calls)
      (free_first f).1
  free_silent (Begin name ∷ line) calls f =
      free_silent line (All-tail (λ (x : Label). is_call x ≡ false) (Begin name) line calls)
      (free_first f).1
  free_silent (End name ∷ line) calls f =
      free_silent line (All-tail (λ (x : Label). is_call x ≡ false) (End name) line calls)
      (free_first f).1
  free_silent (Cut ∷ line) calls f =
      free_silent line (All-tail (λ (x : Label). is_call x ≡ false) Cut line calls)
      (free_first f).1
  free_silent (CaseFolded text ∷ line) calls f =
      absurd (no_token (CaseFolded text) refl refl (free_first f).0)
  free_silent (CaseExact text ∷ line) calls f =
      absurd (no_token (CaseExact text) refl refl (free_first f).0)
  free_silent (Mask text ∷ line) calls f =
      absurd (no_token (Mask text) refl refl (free_first f).0)
  free_silent (Brace text ∷ line) calls f =
      absurd (no_token (Brace text) refl refl (free_first f).0)
  free_silent (Space ∷ line) calls f =
      absurd (no_token Space refl refl (free_first f).0)
  free_silent (Positive ∷ line) calls f =
      absurd (no_token Positive refl refl (free_first f).0)
  free_silent (Negative ∷ line) calls f =
      absurd (no_token Negative refl refl (free_first f).0)
  free_silent (ContextEnd ∷ line) calls f =
      absurd (no_token ContextEnd refl refl (free_first f).0)
  free_silent (Call h ∷ line) calls f =
      let no = All-head (λ (x : Label). is_call x ≡ false) (Call h) line calls in absurd (cc)

  -- a line that opens or closes a context takes something
  pub free_ordinary : (line : List Label) → IsFree grammar (letters line) →
      mark_of line ≡ ordinary
  free_ordinary [] f = refl
  free_ordinary (Empty ∷ line) f = refl
  free_ordinary (CaseFolded text ∷ line) f = refl
  free_ordinary (CaseExact text ∷ line) f = refl
  free_ordinary (Mask text ∷ line) f = refl
  free_ordinary (Brace text ∷ line) f = refl
  free_ordinary (Space ∷ line) f = refl
  free_ordinary (NoSpace ∷ line) f = refl
  free_ordinary (Begin name ∷ line) f = refl
  free_ordinary (End name ∷ line) f = refl
  free_ordinary (Positive ∷ line) f = absurd (no_token Positive refl refl (free_first f).0)
  free_ordinary (Negative ∷ line) f = absurd (no_token Negative refl refl (free_first f).0)
  free_ordinary (ContextEnd ∷ line) f = absurd (no_token ContextEnd refl refl (free_first f).0)
  free_ordinary (Cut ∷ line) f = refl
  free_ordinary (Call graph ∷ line) f = refl

  -- a context takes nothing
  context_free : (sign : Sign) (g opening closing : ℕ) →
      IsFree grammar (context sign g opening closing ∷ [])
  context_free sign g opening closing =
      silent {letter = context sign g opening closing} tt none

  -- an output before a context takes nothing
  pub over_free : (s : Step) (sign : Sign) (g opening closing : ℕ) →
      IsFree grammar (put_by s ++ context sign g opening closing ∷ [])
  over_free s sign g opening closing =
      free_append (put_free s.output) (context_free sign g opening closing)

  -- what follows a context is free where all is
  pub behind_context : (s : Step) (sign : Sign) (g opening closing : ℕ) (word : List Letter) →
      IsFree grammar (put_by s ++ context sign g opening closing ∷ word) → IsFree grammar word
  behind_context s sign g opening closing word f =
      (free_first (free_parts (put_by s) (context sign g opening closing ∷ word) f).1).1

  pub call_nullable : {h : ℕ} → IsFree grammar (plain (Call h) ∷ []) → IsNullable grammar h
  call_nullable (silent s f) = absurd (cc)
  call_nullable (call {called = called} w c f) = record { word = called; of_graph = w; free = c }

  pub nullable_call : (h : ℕ) → IsNullable grammar h → IsFree grammar (plain (Call h) ∷ [])
  nullable_call h n = call n.of_graph n.free none

module _ (grammar : Grammar) where
  pub leads_joined : (g : ℕ) {a b c : ℕ} → LeadsFreely grammar g a b → LeadsFreely grammar g b c →
      LeadsFreely grammar g a c
  leads_joined g p q =
      (p.0 ++ q.0, run_joined g (grammar.graph g) p.1 q.1, free_append grammar p.2 q.2)

  -- the move that a node is on
  pub move_of : (g : ℕ) {node a b : ℕ} → IsOnMove grammar g node a b → MovesFreely grammar g a b
  move_of g (in_front m) = m
  move_of g (at_opening sign s i m closes) = over_context sign s i m closes

  -- a move is a run that may take nothing
  pub move_leads : (g : ℕ) {a b : ℕ} → MovesFreely grammar g a b → LeadsFreely grammar g a b
  move_leads g (along_step s i f) = (
    put_by s ++ letters s.labels,
    one_step g (grammar.graph g) s i (free_ordinary grammar s.labels f),
    along_free grammar s f,
  )
  move_leads g (over_context sign s i m closes) = (
    put_by s ++ context sign g s.to _ ∷ [],
    over_step g (grammar.graph g) sign s i m closes.1,
    over_free grammar s sign g s.to _,
  )

  -- a run that may take nothing is one move after another
  pub data Moves (g : ℕ) : ℕ → ℕ → Type 0 where
    rest : {a : ℕ} → Moves g a a
    move : {a b c : ℕ} → MovesFreely grammar g a b → Moves g b c → Moves g a c

  run_moves : (g : ℕ) {a b : ℕ} {word : List Letter} → Run g (grammar.graph g) a b word →
      IsFree grammar word → Moves g a b
  run_moves g stop f = rest
  run_moves g (along {word = word} s i m r) f =
      let p = free_parts grammar (put_by s ++ letters s.labels) word f in
      let l = free_parts grammar (put_by s) (letters s.labels) p.0 in
      move (along_step s i l.1) (run_moves g r p.1)
  run_moves g (across {body = body} {word = word} sign s t i m r j n later) f =
      move (over_context sign s i m (
        body,
        record {
          step = t;
          inside = j;
          closed = n;
          after = refl;
          run = r;
        },
      )) (run_moves g later (behind_context grammar s sign g s.to t.to word f))

  pub leads_moves : (g : ℕ) {a b : ℕ} → LeadsFreely grammar g a b → Moves g a b
  leads_moves g l = run_moves g l.1 l.2
