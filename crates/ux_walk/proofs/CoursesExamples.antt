-- What edges give, by examples.
use Rattle.std.proofs.Common.{ℕ, List, [], ◌∷◌, inl, inr, refl}
use Rattle.ux_alphabet.specs.Letters.{Letters}
use Rattle.ux_tokens.specs.Tokens.{Token}
use Rattle.ux_lexical_tables.specs.Tables.{Tables}
use Rattle.ux_grf.specs.declared.item.Piece.TheVariants.{Chars, Value}
use Rattle.ux_net.specs.declared.label.Label.TheVariants.{Empty, Begin, End, Positive, Cut, Call}
use Rattle.ux_outputs.specs.declared.event.Event.{Event}
use Rattle.ux_outputs.specs.declared.event.Event.TheVariants as event
use Rattle.ux_walk.specs.declared.config.Frame.{Frame}
use Rattle.ux_net.specs.Words.{positive}
use Rattle.ux_walk.specs.Contexts.{Applying}
use Rattle.ux_walk.specs.Courses.{IsBehind, IsOver}

module _ (alphabet : Letters) (tokens : List Token) (tables : Tables) (applies : Applying)
    (frame : Frame) (back : List Frame) (at : ℕ) (before : List Event) (text name : List ℕ)
    (state graph : ℕ) where
  -- where an edge leads
  abbrev there : Frame
  there = record { graph = frame.graph; state = state }

  -- a variable's begin takes nothing, at any position, and its event comes last
  begin_gives_its_event : IsBehind alphabet tokens tables applies (Begin name) there back at before
      (record { frames = there ∷ back; at = at; before = event.Begin name ∷ before })
  begin_gives_its_event = inr (inl (tt, refl))

  -- `<E>/text$name$`: the pieces of an output come one after another
  pieces_in_order : IsOver alphabet tokens tables applies frame back at before
      (record { label = Empty; output = Chars text ∷ Value name ∷ []; target = state })
      (record {
        frames = there ∷ back;
        at = at;
        before = event.Value name ∷ event.Put text ∷ before;
      })
  pieces_in_order = inr (inl (tt, refl))

  -- an output comes before what its label gives
  output_before_end : IsOver alphabet tokens tables applies frame back at before
      (record { label = End name; output = Chars text ∷ []; target = state })
      (record {
        frames = there ∷ back;
        at = at;
        before = event.End name ∷ event.Put text ∷ before;
      })
  output_before_end = inr (inl (tt, refl))

  -- and before what a called graph gives, where that is entered
  output_before_call : applies.enters graph at → IsOver alphabet tokens tables applies frame back at before
      (record { label = Call graph; output = Chars text ∷ []; target = state })
      (record {
        frames = record { graph = graph; state = 0 } ∷ there ∷ back;
        at = at;
        before = event.Put text ∷ before;
      })
  output_before_call enters = inr (inr (inl (graph, refl, enters, refl)))

  -- a cut takes nothing, and its event comes last
  cut_gives_its_event : IsBehind alphabet tokens tables applies Cut there back at before
      (record { frames = there ∷ back; at = at; before = event.Cut ∷ before })
  cut_gives_its_event = inr (inl (tt, refl))

  -- a context takes nothing and gives no event: the walk goes on where it is closed
  context_leads_behind : (closing : ℕ) →
      applies.contexts frame.graph Positive state at closing →
      IsBehind alphabet tokens tables applies Positive there back at before (record {
        frames = record { graph = frame.graph; state = closing } ∷ back;
        at = at;
        before = before;
      })
  context_leads_behind closing applied =
      inr (inr (inr (closing, (positive, refl), applied, refl)))
