-- A course one step on stands further on, or weighs less.
use Rattle.std.proofs.Common.{arith, ◌≡◌, ℕ, ◌+◌, ◌-◌, ◌<◌, ◌≤◌, List, ◌∷◌, sym, subst, refl, inl, inr, length}
use Rattle.std.specs.Prelude.{Option, Some, None, slice_get}
use Rattle.std.proofs.lemmas.Option.{slice_get_within}
use Rattle.ux_alphabet.specs.Letters.{Letters}
use Rattle.ux_tokens.specs.Tokens.{Token}
use Rattle.ux_tokens.specs.declared.kind.Kind.{Kind}
use Rattle.ux_tokens.specs.declared.kind.Kind.TheVariants as kind
use Rattle.ux_masks.specs.declared.mask.Mask.{Mask}
use Rattle.ux_lexical_tables.specs.Accepting.{Accepts}
use Rattle.ux_lexical_tables.specs.Tables.{Tables}
use Rattle.ux_net.specs.declared.label.Label.{Label}
use Rattle.ux_net.specs.declared.label.Label.TheVariants as label
use Rattle.ux_net.specs.declared.net_graph.NetGraph.{NetGraph}
use Rattle.ux_net.specs.Measured.{IsLower, Falls, IsMeasured}
use Rattle.ux_outputs.specs.declared.event.Event.{Event}
use Rattle.ux_outputs.specs.Rendering.{kind_of, skip, skip_past}
use Rattle.ux_meaning.specs.Texts.{IsSpaceAt, Takes}
use Rattle.ux_walk.specs.declared.config.Frame.{Frame}
use Rattle.ux_walk.specs.Contexts.{Applying, ApplyAsMeant}
use Rattle.ux_walk.specs.Courses.{Course, GoesOn, Passes}
use Rattle.ux_walk.specs.Settings.{applied_text}
use Rattle.ux_walk.proofs.ContextsLemmas.{lower_behind}
use Rattle.ux_walk.proofs.Weights.{weight_of}
use Rattle.ux_walk.proofs.Lighter.{ended_lighter, stays_lighter, takes_lighter, calls_lighter}

-- positions move on within the text
pub skip_forward : (tokens : List Token) (p : ℕ) → p ≤ skip tokens p
skip_forward tokens p = go (kind_of (slice_get tokens p))
  where
    go : (o : Option Kind) → p ≤ skip_past o p
    go None = omega arith
    go (Some kind.Space) = omega arith
    go (Some kind.Word) = omega arith
    go (Some kind.Other) = omega arith
    go (Some kind.Sentence) = omega arith
    go (Some kind.Stop) = omega arith
    go (Some kind.Tag) = omega arith

space_within : (tokens : List Token) (p : ℕ) → IsSpaceAt tokens p → p < length tokens
space_within tokens p is = go (slice_get tokens p) refl is
  where
    go : (o : Option Token) → slice_get tokens p ≡ o → kind_of o ≡ Some kind.Space →
        p < length tokens
    go None at h = cc
    go (Some token) at h = slice_get_within tokens p token at

-- each mask accepts tokens, and within the text
abbrev pub AreForward : Letters → List Token → Tables → Type 0
AreForward alphabet tokens tables = (mask : Mask) (i k : ℕ) →
    Accepts alphabet tokens tables mask i k →
    (i < k) × (k ≤ length tokens)

module _ (alphabet : Letters) (tokens : List Token) (tables : Tables)
    (forward : AreForward alphabet tokens tables) where
  pub takes_forward : (x : Label) (p k : ℕ) →
      Takes alphabet tokens (Accepts alphabet tokens tables) x p k →
      (p < k) × (k ≤ length tokens)
  takes_forward (label.CaseFolded text) p k t =
      let within = slice_get_within tokens (skip tokens p) t.0 t.1 in
      let past = skip_forward tokens p in
      (omega (arith, past, t.3), omega (arith, within, t.3))
  takes_forward (label.CaseExact text) p k t =
      let within = slice_get_within tokens (skip tokens p) t.0 t.1 in
      let past = skip_forward tokens p in
      (omega (arith, past, t.3), omega (arith, within, t.3))
  takes_forward label.Space p k t =
      let within = space_within tokens p t.0 in (omega (arith, t.1), omega (arith, within, t.1))
  takes_forward (label.Brace text) p k t =
      let within = slice_get_within tokens (skip tokens p) t.0 t.1 in
      let past = skip_forward tokens p in
      (omega (arith, past, t.3), omega (arith, within, t.3))
  takes_forward (label.Mask mask) p k t =
      let ahead = forward mask (skip tokens p) k t in
      let past = skip_forward tokens p in (omega (arith, ahead.0, past), ahead.1)
  takes_forward _ p k t = absurd t

module _ (graphs : List NetGraph) where
  abbrev weight_at : ℕ → Course → ℕ
  weight_at len w = weight_of graphs ((len - w.at) + 1) w.frames

  module _ (alphabet : Letters) (tokens : List Token) (tables : Tables)
      (applies : Applying) (meant : ApplyAsMeant (applied_text alphabet tokens tables) graphs
      applies) (forward : AreForward alphabet tokens tables) (measured : IsMeasured graphs)
      (f : Frame) (fs : List Frame) (i : ℕ) (before : List Event) (inside : i ≤ length tokens)
    where
      -- inside the text, and lighter than the frames at the position
      abbrev IsLighter : Course → Type 0
      IsLighter w = (w.at ≤ length tokens)
          × (weight_at (length tokens) w < weight_of graphs ((length tokens - i) + 1) (f ∷ fs))

      lower_of : (x : Label) (to : ℕ) → Falls graphs f.graph f.state to x → Passes tokens x i →
          IsLower graphs f.graph f.state to
      lower_of label.Empty to falls s = falls
      lower_of label.NoSpace to falls s = falls
      lower_of (label.Begin name) to falls s = falls
      lower_of (label.End name) to falls s = falls
      lower_of label.Cut to falls s = falls
      lower_of _ to falls s = absurd s

      -- a course one step on is so
      pub next_lighter : (w : Course) →
          GoesOn alphabet tokens tables applies graphs f fs i before w → IsLighter w
      next_lighter w (state, found, inr (final, is)) =
          subst (λ (v : Course). IsLighter v) (sym is) (
            inside,
            ended_lighter graphs f fs ((length tokens - i) + 1)
                (measured.ends f.graph f.state state found final),
          )
      next_lighter w (state, found, inl (edge, of_state, inl (k, t, is))) =
          let ahead = takes_forward alphabet tokens tables forward edge.label i k t.1 in
          let further = ahead.0 in
          let within = ahead.1 in
          subst (λ (v : Course). IsLighter v) (sym is) (
            within,
            takes_lighter graphs f edge.target ((length tokens - k) + 1)
                ((length tokens - i) + 1) fs (omega (arith, further, within)),
          )
      next_lighter w (state, found, inl (edge, of_state, inr (inl (s, is)))) =
          subst (λ (v : Course). IsLighter v) (sym is) (
            inside,
            stays_lighter graphs f edge.target ((length tokens - i) + 1) fs
                (lower_of edge.label edge.target
                (measured.falls f.graph f.state state edge found of_state) s),
          )
      next_lighter w
          (state, found, inl (edge, of_state, inr (inr (inr (c, opening, applied, is))))) =
          subst (λ (v : Course). IsLighter v) (sym is) (
            inside,
            stays_lighter graphs f c ((length tokens - i) + 1) fs
                (lower_behind (applied_text alphabet tokens tables) graphs applies meant f.graph
                f.state edge.target edge.label i c opening
                (measured.falls f.graph f.state state edge found of_state) applied),
          )
      next_lighter w
          (state, found, inl (edge, of_state, inr (inr (inl (h, label, enters, is))))) =
          subst (λ (v : Course). IsLighter v) (sym is) (
            inside,
            calls_lighter graphs f edge.target h ((length tokens - i) + 1) fs (omega arith)
                (subst (λ (x : Label). Falls graphs f.graph f.state edge.target x) label
                (measured.falls f.graph f.state state edge found of_state)),
          )
