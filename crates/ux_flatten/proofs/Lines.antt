-- Words that apply letter by letter, by any meaning of letters: they split and join.
use Rattle.std.proofs.Common.{◌≡◌, ℕ, List, [], ◌∷◌, ◌++◌, ap, refl, ◌∙◌, append_assoc, map}
use Rattle.ux_net.specs.declared.label.Label.{Label}
use Rattle.ux_net.specs.declared.label.Label.TheVariants as label
use Rattle.ux_outputs.specs.declared.event.Event.{Event}
use Rattle.ux_grf.specs.declared.item.Piece.{Piece}
use Rattle.ux_net.specs.Words.{Letter, plain, piece, context, Grammar, letters}
use Rattle.ux_meaning.specs.Inputs.{Input}
use Rattle.ux_meaning.specs.Meaning.{Seq, done, takes, stays, calls, holds, refused}
use Rattle.ux_flatten.specs.Depths as to
use Rattle.ux_flatten.proofs.FlatGraphs.{IsUncalled}

pub data Line (Means : Letter → ℕ → ℕ → List Event → Type 0) : List Letter → ℕ → ℕ → List Event →
    Type 0 where
  none : {p : ℕ} → Line Means [] p p []
  one : {x : Letter} {word : List Letter} {p k j : ℕ} {here later : List Event} →
      Means x p k here → Line Means word k j later → Line Means (x ∷ word) p j (here ++ later)

-- a line of two parts
pub record Split (Means : Letter → ℕ → ℕ → List Event → Type 0) (v w : List Letter) (i j : ℕ)
    (events : List Event) : Type 0 where
  pub middle : ℕ
  pub first : List Event
  pub second : List Event
  pub line : Line Means v i middle first
  pub rest : Line Means w middle j second
  pub all : first ++ second ≡ events

module _ (Means : Letter → ℕ → ℕ → List Event → Type 0) where
  pub split : (v w : List Letter) {i j : ℕ} {events : List Event} → Line Means (v ++ w) i j events →
      Split Means v w i j events
  split [] w {i = i} {events = events} l = record {
    middle = i;
    first = [];
    second = events;
    line = none;
    rest = l;
    all = refl;
  }
  split (x ∷ v) w (one {here = here} m l) =
      let s = split v w l in
      record {
        middle = s.middle;
        first = here ++ s.first;
        second = s.second;
        line = one m s.line;
        rest = s.rest;
        all = append_assoc here s.first s.second ∙ ap (λ e. here ++ e) s.all;
      }

module _ (input : Input) (grammar : Grammar) where
  pub append : {Refuses : ℕ → ℕ → ℕ → ℕ → Type 0} {v w : List Letter} {i k j : ℕ}
      {first second : List Event} → Seq input grammar Refuses v i k first →
      Seq input grammar Refuses w k j second →
      Seq input grammar Refuses (v ++ w) i j (first ++ second)
  append done r = r
  append (takes t s) r = takes t (append s r)
  append {second = second} (stays {later = later} here t s) r =
      rw (append_assoc here later second)
      (stays here t (append s r))
  append {second = second} (calls {inside = inside} {later = later} is i s) r =
      rw (append_assoc inside later second)
      (calls is i (append s r))
  append (holds is i s) r = holds is i (append s r)
  append (refused t s) r = refused t (append s r)

  pub append_to : {Refuses : ℕ → ℕ → ℕ → ℕ → ℕ → Type 0} {d : ℕ} {v w : List Letter} {i k j : ℕ}
      {first second : List Event} → to.SeqTo input grammar Refuses d v i k first →
      to.SeqTo input grammar Refuses d w k j second →
      to.SeqTo input grammar Refuses d (v ++ w) i j (first ++ second)
  append_to to.done r = r
  append_to (to.takes t s) r = to.takes t (append_to s r)
  append_to {second = second} (to.stays {later = later} here t s) r =
      rw (append_assoc here later second)
      (to.stays here t (append_to s r))
  append_to {second = second} (to.calls {inside = inside} {later = later} is i s) r =
      rw (append_assoc inside later second)
      (to.calls is i (append_to s r))
  append_to (to.holds is i s) r = to.holds is i (append_to s r)
  append_to (to.refused t s) r = to.refused t (append_to s r)

-- neither a call nor a context
abbrev pub IsSimple : Letter → Type 0
IsSimple (plain x) = IsUncalled x
IsSimple (context sign g opening closing) = ⊥
IsSimple (piece x) = Unit {0}

abbrev pub AreSimple : List Letter → Type 0
AreSimple [] = Unit {0}
AreSimple (x ∷ word) = IsSimple x × AreSimple word

pub simple_append : (v w : List Letter) → AreSimple v → AreSimple w → AreSimple (v ++ w)
simple_append [] w a b = b
simple_append (x ∷ v) w a b = (a.0, simple_append v w a.1 b)

pub simple_pieces : (pieces : List Piece) → AreSimple (map piece pieces)
simple_pieces [] = tt
simple_pieces (x ∷ pieces) = (tt, simple_pieces pieces)

pub simple_label : (x : Label) → IsUncalled x → AreSimple (letters (x ∷ []))
simple_label label.Empty u = tt
simple_label (label.Call h) u = absurd u
simple_label (label.CaseFolded a) u = (u, tt)
simple_label (label.CaseExact a) u = (u, tt)
simple_label label.Space u = (u, tt)
simple_label label.NoSpace u = (u, tt)
simple_label (label.Mask a) u = (u, tt)
simple_label (label.Brace a) u = (u, tt)
simple_label (label.Begin a) u = (u, tt)
simple_label (label.End a) u = (u, tt)
simple_label label.Positive u = (u, tt)
simple_label label.Negative u = (u, tt)
simple_label label.ContextEnd u = (u, tt)
simple_label label.Cut u = (u, tt)
