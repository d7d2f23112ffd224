-- A rendering that sets a variable or puts a text out: its state is the one after that.
use Rattle.std.specs.Prelude.{◌≡◌, ℕ, ◌-◌, ◌≤◌, Bool, true, false, cond, List, ◌++◌, Option, Some, None, IfSome, refl, option_map, length, take, drop, slice_range, string_bytes}
use Rattle.std.specs.Str.{IsCharBoundary, IsUtf8, bytes_eq}
use Rattle.std.specs.Bool.{Decides}
use Rattle.std.specs.Option.{option_or}
use Rattle.std.proofs.Common.{◌∙◌, ap, sym, subst, arith}
use Rattle.std.proofs.Math.Path.{fun_ext}
use Rattle.std.proofs.Math.Seq.{drop-length, take-length}
use Rattle.std.proofs.lemmas.List.{take-append-le, drop-append-le, length-drop}
use Rattle.std.proofs.lemmas.Slice.Eq.{bytes_eq-Decides}
use Rattle.std.proofs.lemmas.Str.{IsCharBoundary-from_take, IsUtf8-string_bytes}
use Rattle.ux_base.specs.declared.settings.Mode.{Mode}
use Rattle.ux_tokens.specs.Tokens.{Token}
use Rattle.ux_outputs.specs.declared.known.Known.{Known}
use Rattle.ux_outputs.specs.declared.known.Place.{Place}
use Rattle.ux_outputs.specs.declared.known.Place.TheVariants.{Tokens, Collected}
use Rattle.ux_outputs.specs.declared.rendering.Rendering.{Rendering}
use Rattle.ux_outputs.specs.Variables.{Variable, Variables, changed_at, collecting, ended_output, opened}
use Rattle.ux_outputs.specs.Rendering.{State, after_put, changing, text_taken}
use Rattle.ux_outputs.specs.Kept.{IsCut, IsKept, IsKnown, IsPlace, IsWritten, known_in, state_of, text_at, variable_of}
use Rattle.ux_outputs.proofs.TextLemmas.{append-text_taken-none}

-- only one variable was set
abbrev pub IsSet : List ℕ → Known → (old new : Rendering) → Type 0
IsSet name known old new = (other : List ℕ) →
    known_in new.table other ≡ cond (bytes_eq name other) known (known_in old.table other)

module _ (tokens : List Token) (old new : Rendering) (name : List ℕ) (known : Known)
    (is_set : IsSet name known old new) where
  -- the variables, of which one has changed
  variables-set : (change : Variable → Variable) →
      variable_of tokens (string_bytes old.collected) known
      ≡ change (variable_of tokens (string_bytes old.collected) (known_in old.table name)) →
      (other : List ℕ) →
      variable_of tokens (string_bytes old.collected) (known_in new.table other)
      ≡ changed_at name change
      (λ n. variable_of tokens (string_bytes old.collected) (known_in old.table n)) other
  variables-set change same other =
      by (bytes_eq name other) refl (bytes_eq-Decides name other) (is_set other)
    where
      variable : Known → Variable
      variable = variable_of tokens (string_bytes old.collected)

      by : (here : Bool) → bytes_eq name other ≡ here → Decides here (name ≡ other) →
          known_in new.table other ≡ cond here known (known_in old.table other) →
          variable_of tokens (string_bytes old.collected) (known_in new.table other)
          ≡ cond here (change (variable_of tokens (string_bytes old.collected)
          (known_in old.table other)))
          (variable_of tokens (string_bytes old.collected) (known_in old.table other))
      by true here decides now =
          ap (λ (k : Known). variable_of tokens (string_bytes old.collected) k) now
          ∙ (same ∙ ap (λ (n : List ℕ). change (variable_of tokens (string_bytes old.collected)
          (known_in old.table n))) (decides.0 refl))
      by false here decides now =
          ap (λ (k : Known). variable_of tokens (string_bytes old.collected) k) now

  -- the state after a variable was set
  pub state_of-set : (mode : Mode) (change : Variable → Variable) →
      variable_of tokens (string_bytes old.collected) known
      ≡ change (variable_of tokens (string_bytes old.collected) (known_in old.table name)) →
      state_of mode tokens (record old { table = new.table })
      ≡ changing name change (state_of mode tokens old)
  state_of-set mode change same =
      ap (λ (v : Variables). record (state_of mode tokens old) { variables = v })
      (fun_ext (variables-set change same))

  -- a rendering is kept where what was set lies within it
  pub IsKept-set : (collects : Bool) → IsKept tokens old →
      IsKnown tokens (string_bytes old.collected) known →
      (collects ≡ false → (old.collects ≡ false) × (known.opened ≡ None)) →
      IsKept tokens (record old { table = new.table; collects = collects })
  IsKept-set collects kept within closed = record {
    within = kept.within;
    waiting = kept.waiting;
    fresh = kept.fresh;
    span = kept.span;
    known = λ other. subst (IsKnown tokens (string_bytes old.collected)) (sym (is_set other))
        (either (IsKnown tokens (string_bytes old.collected)) (bytes_eq name other) known
        (known_in old.table other) within (kept.known other));
    closed = λ silent other. ap (λ (k : Known). k.opened) (is_set other)
        ∙ either (λ (k : Known). k.opened ≡ None) (bytes_eq name other) known
        (known_in old.table other) (closed silent).1 (kept.closed (closed silent).0 other);
  }
    where
      either : (P : Known → Type 0) (b : Bool) (k l : Known) → P k → P l → P (cond b k l)
      either P true k l a b = a
      either P false k l a b = b

-- a text that was collected whole may be cut at its end
pub IsCut-end : (collected : List ℕ) → IsUtf8 collected → IsCut collected (length collected)
IsCut-end collected utf8 = record {
  within = omega arith;
  utf8 = subst IsUtf8 (sym (take-length collected)) utf8;
}

module _ (tokens : List Token) (collected put : List ℕ) where
  -- a part of what was collected stays the same
  part-append : (from to : ℕ) → from ≤ to → to ≤ length collected →
      slice_range (collected ++ put) from to ≡ slice_range collected from to
  part-append from to le within =
      ap (take (to - from)) (drop-append-le from collected put (omega arith))
      ∙ take-append-le (to - from) (drop from collected) put (omega (arith, length-drop {A = ℕ}))

  value-append : (value : Option Place) → IfSome value (IsPlace tokens collected) →
      option_map (text_at tokens (collected ++ put)) value
      ≡ option_map (text_at tokens collected) value
  value-append None place = refl
  value-append (Some (Tokens from to)) place = refl
  value-append (Some (Collected from to)) place =
      ap (λ (t : List ℕ). Some t) (part-append from to place.0 place.2.within)

  opened-append : (opened : Option ℕ) → IfSome opened (IsCut collected) →
      option_map (λ start. drop start (collected ++ put)) opened
      ≡ option_map (λ text. text ++ put) (option_map (λ start. drop start collected) opened)
  opened-append None cut = refl
  opened-append (Some start) cut =
      ap (λ (t : List ℕ). Some t) (drop-append-le start collected put cut.within)

  -- what is collected more belongs to the outputs that are open
  pub variable_of-append : (known : Known) → IsKnown tokens collected known →
      variable_of tokens (collected ++ put) known
      ≡ collecting put (variable_of tokens collected known)
  variable_of-append known within =
      let more : Variable = variable_of tokens (collected ++ put) known in
      ap (λ (o : Option (List ℕ)). record more { collected = o })
      (opened-append known.opened within.opened)
      ∙ ap (λ (o : Option (List ℕ)). record (collecting put (variable_of tokens collected known))
      { value = o })
      (value-append known.value within.value)

  -- without an open output nothing needs to be collected
  pub variable_of-closed : (known : Known) → known.opened ≡ None →
      variable_of tokens collected known ≡ collecting put (variable_of tokens collected known)
  variable_of-closed known none =
      let variable : Variable = variable_of tokens collected known in
      ap (λ (o : Option ℕ). record variable { collected = option_map (λ start. drop start collected) o })
      none
      ∙ ap (λ (o : Option ℕ). record variable {
        collected =
            option_map (λ text. text ++ put) (option_map (λ start. drop start collected) o);
      }) (sym none)

module _ (mode : Mode) (tokens : List Token) (old new : Rendering)
    (is_written : IsWritten mode tokens old new) where
  -- what waits to be written belongs to the state's text
  pub state_of-written : state_of mode tokens new ≡ state_of mode tokens old
  state_of-written =
      let text : string_bytes new.written ++ text_taken mode tokens old.position old.position
      ≡ string_bytes old.written ++ text_taken mode tokens old.unwritten old.position =
      append-text_taken-none tokens (string_bytes new.written) mode old.position
      ∙ is_written.bytes in
      ap (state_of mode tokens) is_written.rest
      ∙ ap (λ (t : List ℕ). record (state_of mode tokens old) { text = t }) text

  pub IsKept-written : IsKept tokens old → IsKept tokens new
  IsKept-written kept = subst (IsKept tokens) (sym is_written.rest) (record {
    within = kept.within;
    waiting = omega arith;
    fresh = λ none. refl;
    span = kept.span;
    known = kept.known;
    closed = kept.closed;
  })

module _ (mode : Mode) (tokens : List Token) (old new : Rendering) (put : List ℕ)
    (kept : IsKept tokens old) (empty : old.unwritten ≡ old.position)
    (written : string_bytes new.written ≡ string_bytes old.written ++ put) where
  text-put : string_bytes new.written ++ text_taken mode tokens old.unwritten old.position
      ≡ (string_bytes old.written ++ text_taken mode tokens old.unwritten old.position) ++ put
  text-put =
      ap (λ u. string_bytes new.written ++ text_taken mode tokens u old.position) empty
      ∙ (append-text_taken-none tokens (string_bytes new.written) mode old.position
      ∙ (written
      ∙ (ap (λ t. t ++ put) (sym (append-text_taken-none tokens (string_bytes old.written) mode
      old.position))
      ∙ ap (λ u. (string_bytes old.written ++ text_taken mode tokens u old.position) ++ put)
      (sym empty))))

  -- the state after a text was put out and collected
  pub state_of-put : string_bytes new.collected ≡ string_bytes old.collected ++ put →
      state_of mode tokens (record old { written = new.written; collected = new.collected })
      ≡ after_put (state_of mode tokens old) put
  state_of-put collected =
      let variables : (name : List ℕ) →
      variable_of tokens (string_bytes new.collected) (known_in old.table name)
      ≡ collecting put
      (variable_of tokens (string_bytes old.collected) (known_in old.table name)) =
      λ name. ap (λ (c : List ℕ). variable_of tokens c (known_in old.table name)) collected
      ∙ variable_of-append tokens (string_bytes old.collected) put (known_in old.table name)
      (kept.known name) in
      let next : State = state_of mode tokens (record old {
        written = new.written;
        collected = new.collected;
      }) in
      ap (λ (t : List ℕ). record next { text = t }) text-put
      ∙ ap (λ (v : Variables). record (after_put (state_of mode tokens old) put)
      { variables = v }) (fun_ext variables)

-- a text is cut between characters
pub IsCut-boundary : (collected bytes : List ℕ) (place : ℕ) → IsUtf8 collected →
    IsCut collected place → bytes ≡ collected → IsCharBoundary bytes place
IsCut-boundary collected bytes place utf8 cut same =
    subst (λ (l : List ℕ). IsCharBoundary l place) (sym same)
    (IsCharBoundary-from_take collected place utf8 cut.within cut.utf8)

module _ (mode : Mode) (tokens : List Token) (old new : Rendering)
    (is_written : IsWritten mode tokens old new) where
  -- no token waits once they were written
  pub unwritten-written : new.unwritten ≡ new.position
  unwritten-written =
      ap (λ (r : Rendering). r.unwritten) is_written.rest
      ∙ sym (ap (λ (r : Rendering). r.position) is_written.rest)

  -- what was collected stays
  pub collected-written : string_bytes new.collected ≡ string_bytes old.collected
  collected-written = ap (λ (r : Rendering). string_bytes r.collected) is_written.rest

-- an output is opened at the end of what was collected
abbrev pub opened_at_end : Rendering → List ℕ → Known
opened_at_end old name =
    record (known_in old.table name) { opened = Some (length (string_bytes old.collected)) }

-- an output is closed there, and what it collected is its value
abbrev pub closed_from : Rendering → List ℕ → ℕ → Known
closed_from old name start = record (known_in old.table name) {
  opened = None;
  value = Some (Collected start (length (string_bytes old.collected)));
}

module _ (tokens : List Token) (old new : Rendering) (name : List ℕ) where
  whole : IsCut (string_bytes old.collected) (length (string_bytes old.collected))
  whole = IsCut-end (string_bytes old.collected) (IsUtf8-string_bytes old.collected)

  pub IsKept-opened : IsKept tokens old → IsSet name (opened_at_end old name) old new →
      IsKept tokens (record old { table = new.table; collects = true })
  IsKept-opened kept is_set =
      IsKept-set tokens old new name (opened_at_end old name) is_set true kept (record {
        opened = whole;
        value = (kept.known name).value;
      }) (λ silent. cc)

  pub state_of-opened : (mode : Mode) → IsSet name (opened_at_end old name) old new →
      state_of mode tokens (record old { table = new.table; collects = true })
      ≡ changing name opened (state_of mode tokens old)
  state_of-opened mode is_set =
      let variable : Variable =
      variable_of tokens (string_bytes old.collected) (known_in old.table name) in
      state_of-set tokens old new name (opened_at_end old name) is_set mode opened
      (ap (λ (t : List ℕ). record variable { collected = Some t })
      (drop-length (string_bytes old.collected)))

  pub IsKept-closed : (start : ℕ) → (known_in old.table name).opened ≡ Some start →
      IsKept tokens old → IsSet name (closed_from old name start) old new →
      IsKept tokens (record old { table = new.table })
  IsKept-closed start is_open kept is_set =
      let begin : IsCut (string_bytes old.collected) start =
      subst (λ (o : Option ℕ). IfSome o (IsCut (string_bytes old.collected))) is_open
      (kept.known name).opened in
      IsKept-set tokens old new name (closed_from old name start) is_set old.collects kept (record {
        opened = tt;
        value = (begin.within, begin, whole);
      }) (λ silent. (silent, refl))

  pub state_of-closed : (mode : Mode) (start : ℕ) →
      (known_in old.table name).opened ≡ Some start → IsKept tokens old →
      IsSet name (closed_from old name start) old new →
      state_of mode tokens (record old { table = new.table })
      ≡ changing name ended_output (state_of mode tokens old)
  state_of-closed mode start is_open kept is_set =
      let begin : IsCut (string_bytes old.collected) start =
      subst (λ (o : Option ℕ). IfSome o (IsCut (string_bytes old.collected))) is_open
      (kept.known name).opened in
      let variable : Variable =
      variable_of tokens (string_bytes old.collected) (known_in old.table name) in
      state_of-set tokens old new name (closed_from old name start) is_set mode ended_output
      (ap (λ (t : List ℕ). record variable { collected = None; value = Some t })
      (to_end (string_bytes old.collected) start begin.within)
      ∙ ap (λ (o : Option ℕ). record variable {
        collected = None;
        value =
            option_or (option_map (λ place. drop place (string_bytes old.collected)) o)
            variable.value;
      }) (sym is_open))
    where
      to_end : (l : List ℕ) (start : ℕ) → start ≤ length l →
          slice_range l start (length l) ≡ drop start l
      to_end l start le =
          ap (λ n. take n (drop start l)) (sym (length-drop start l)) ∙ take-length (drop start l)
