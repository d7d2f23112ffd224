-- A fold whose tables grow keeps what its states stand for, and what becomes of them.
use Rattle.std.proofs.Common.{◌≡◌, ℕ, ◌≤◌, List, refl, sym, subst, ◌∙◌, length}
use Rattle.std.specs.Prelude.{Some, None, Result, Ok, Err, IfOk, OnOk, slice_get}
use Rattle.std.proofs.lemmas.Option.{none-some, same_Some}
use Rattle.std.proofs.lemmas.Str.{IsUtf8-nil}
use Rattle.ux_tokens.specs.Tokens.{Token}
use Rattle.ux_outputs.specs.declared.event.Event.{Event}
use Rattle.ux_outputs.specs.Rendering.{State, state_at}
use Rattle.ux_folds.specs.declared.kept.Kept.{Kept}
use Rattle.ux_folds.specs.declared.rendering.RenderingFold.{RenderingFold}
use Rattle.ux_folds.specs.declared.tables.Tables.{Tables}
use Rattle.ux_folds.specs.Folding.{Grows}
use Rattle.ux_folds.specs.Following.{IsFollowed, Means, NextBy, Rendered, rendered_by}
use Rattle.ux_folds.specs.Tables.{AreTables, IsGrown, IsNothing, Stands, states_of}
use Rattle.ux_folds.proofs.FollowingLemmas.{dropped, next_kept, numbered, state_kept}
use Rattle.ux_folds.proofs.TablesLemmas.{started}

-- two facts of a value
pub if_both : {A E : Type 0} (r : Result A E) (P Q R : A → Type 0) →
    ((x : A) → P x → Q x → R x) → IfOk r P → IfOk r Q → IfOk r R
if_both (Ok x) P Q R f h k = f x h k
if_both (Err e) P Q R f h k = tt

-- what follows from a value's fact
pub if_on : {A E : Type 0} (r : Result A E) (P : A → Type 0) (Q : Type 0) →
    ((x : A) → P x → Q) → IfOk r P → OnOk r Q
if_on (Ok x) P Q f h = f x h
if_on (Err e) P Q f h = tt

-- the fold with other tables
abbrev pub with_tables : RenderingFold → Tables → RenderingFold
with_tables fold tables = record fold { tables = tables }

module _ (fold : RenderingFold) where
  pub fold_grows : (new : Tables) → IsGrown fold.names.now fold.tables new →
      Grows (NextBy fold) (NextBy (with_tables fold new)) (Means fold) (Means (with_tables fold new))
  fold_grows new grown = record {
    next = λ s e r h. next_kept fold.text.now fold.mode fold.novar fold.names.now fold.tables new
        grown s e r h;
    means = λ s m h. record {
      is = h.is;
      is_state = state_kept fold.text.now fold.names.now fold.tables new grown s m.state h.is_state;
    };
  }

  -- the state at a start
  pub fold_starts : (mid new : Tables) (start variables number : ℕ) →
      start ≤ length fold.text.now → IsGrown fold.names.now fold.tables mid →
      IsNothing fold.names.now mid variables →
      let kept : Kept =
      record { position = start; text = 0; first = None; variables = variables } in
      ((names : List (List ℕ)) → AreTables names mid → IsGrown names mid new
      × (slice_get (states_of new) number ≡ Some kept)) →
      ((tokens : List Token) (names : List (List ℕ)) (state : State) →
      Stands tokens names mid kept state → Stands tokens names new kept state) →
      Means (with_tables fold new) number (rendered_by fold (state_at start))
  fold_starts mid new start variables number inside grown nothing placed stands = record {
    is = refl;
    is_state = record {
      sound = (placed fold.names.now grown.tables).0.tables;
      kept = record { position = start; text = 0; first = None; variables = variables };
      at = (placed fold.names.now grown.tables).1;
      stands = stands fold.text.now fold.names.now (state_at start)
          (started fold.text.now fold.names.now mid start variables inside IsUtf8-nil nothing);
    };
  }

  module _ (number : ℕ) (is : (meant : Rendered) × Means fold number meant) where
    -- what is kept at a state that stands for something
    pub kept_stands : (kept : Kept) → slice_get (states_of fold.tables) number ≡ Some kept →
        Stands fold.text.now fold.names.now fold.tables kept is.0.state
    kept_stands kept at =
        let same : is.1.is_state.kept ≡ kept = same_Some _ _ (sym is.1.is_state.at ∙ at) in
        subst (λ (k : Kept). Stands fold.text.now fold.names.now fold.tables k is.0.state) same
        is.1.is_state.stands

    -- there is such a state
    pub is_there : slice_get (states_of fold.tables) number ≡ None → ⊥
    is_there none = absurd (none-some _ (sym none ∙ is.1.is_state.at))

    pub fold_numbered : (mid new : Tables) (after : ℕ) (kept next : Kept) (event : Event) →
        slice_get (states_of fold.tables) number ≡ Some kept →
        IsFollowed fold.text.now fold.mode fold.novar fold.names.now fold.tables mid kept event
        (Some next) →
        ((names : List (List ℕ)) → AreTables names mid → IsGrown names mid new
        × (slice_get (states_of new) after ≡ Some next)) →
        Grows (NextBy fold) (NextBy (with_tables fold new)) (Means fold)
        (Means (with_tables fold new))
        × NextBy (with_tables fold new) number event (Some after)
    fold_numbered mid new after kept next event at by placed =
        let done = numbered fold.text.now fold.mode fold.novar fold.names.now fold.tables mid new
        number after kept next event at by placed is.0.state is.1.is_state in
        (fold_grows new done.0, done.1)

    pub fold_dropped : (new : Tables) (kept : Kept) (event : Event) →
        slice_get (states_of fold.tables) number ≡ Some kept →
        IsFollowed fold.text.now fold.mode fold.novar fold.names.now fold.tables new kept event
        None →
        Grows (NextBy fold) (NextBy (with_tables fold new)) (Means fold)
        (Means (with_tables fold new))
        × NextBy (with_tables fold new) number event None
    fold_dropped new kept event at by =
        let done = dropped fold.text.now fold.mode fold.novar fold.names.now fold.tables new number
        kept event at by is.0.state is.1.is_state in
        (fold_grows new done.0, done.1)
