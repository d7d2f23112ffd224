-- Derivations of a net cut nothing off, since none of its labels is a cut.
use Rattle.std.proofs.Common.{ℕ, List, [], ◌∷◌, ◌++◌, map, subst, sym}
use Rattle.ux_grf.specs.declared.item.Piece.{Piece}
use Rattle.ux_grf.specs.declared.item.Piece.TheVariants as pieces
use Rattle.ux_net.specs.declared.label.Label.{Label}
use Rattle.ux_net.specs.declared.label.Label.TheVariants as label
use Rattle.ux_net.specs.declared.net_graph.NetGraph.{NetGraph}
use Rattle.ux_net.specs.Nets.{CutNothing, CutsNothing, net_graph, net_grammar, states_of}
use Rattle.ux_net.specs.Words.{Letter, Run, across, along, context, letters, piece, plain, put_by, stop}
use Rattle.ux_outputs.specs.declared.event.Event.{Event}
use Rattle.ux_outputs.specs.declared.event.Event.TheVariants.{Take, Put, Value, Begin, End, Cut}
use Rattle.ux_outputs.proofs.TakesLemmas.{AreUncut}
use Rattle.ux_meaning.specs.Inputs.{Input}
use Rattle.ux_meaning.specs.Meaning.{RefusesBy, Seq, Stays, calls, done, holds, refused, stays, takes}
use Rattle.ux_walk.specs.Settings.{Derives, Setting, applied_text}
use Rattle.ux_walk.proofs.LevelsLemmas.{at_level}

-- the letter is no cut
abbrev IsNoCut : Letter → Type 0
IsNoCut (plain label.Cut) = ⊥
IsNoCut letter = Unit {0}

-- no letter of the word is
abbrev HasNoCut : List Letter → Type 0
HasNoCut [] = Unit {0}
HasNoCut (x ∷ word) = IsNoCut x × HasNoCut word

HasNoCut-append : (v w : List Letter) → HasNoCut v → HasNoCut w → HasNoCut (v ++ w)
HasNoCut-append [] w first second = second
HasNoCut-append (x ∷ v) w first second = (first.0, HasNoCut-append v w first.1 second)

-- outputs cut nothing off
pieces_uncut : (output : List Piece) → HasNoCut (map piece output)
pieces_uncut [] = tt
pieces_uncut (part ∷ output) = (tt, pieces_uncut output)

-- nor does a label that nets have
label_uncut : (x : Label) → CutsNothing x → HasNoCut (letters (x ∷ []))
label_uncut label.Empty is = tt
label_uncut label.Cut is = absurd is
label_uncut other is = (tt, tt)

AreUncut-append : (xs ys : List Event) → AreUncut xs → AreUncut ys → AreUncut (xs ++ ys)
AreUncut-append [] ys first second = second
AreUncut-append (Take from to ∷ xs) ys first second = AreUncut-append xs ys first second
AreUncut-append (Put text ∷ xs) ys first second = AreUncut-append xs ys first second
AreUncut-append (Value text ∷ xs) ys first second = AreUncut-append xs ys first second
AreUncut-append (Begin text ∷ xs) ys first second = AreUncut-append xs ys first second
AreUncut-append (End text ∷ xs) ys first second = AreUncut-append xs ys first second
AreUncut-append (Cut ∷ xs) ys first second = absurd first

-- a letter that takes nothing and is no cut gives no cut
stays_uncut : (input : Input) (x : Letter) (p : ℕ) (here : List Event) → Stays input x p here →
    IsNoCut x → AreUncut here
stays_uncut input (plain label.NoSpace) p here t is = subst AreUncut (sym t.1) tt
stays_uncut input (plain (label.Begin name)) p here t is = subst AreUncut (sym t) tt
stays_uncut input (plain (label.End name)) p here t is = subst AreUncut (sym t) tt
stays_uncut input (plain label.Cut) p here t is = absurd is
stays_uncut input (piece (pieces.Chars text)) p here t is = subst AreUncut (sym t) tt
stays_uncut input (piece (pieces.Value name)) p here t is = subst AreUncut (sym t) tt
stays_uncut input other p here t is = absurd t

module _ (net : List NetGraph) (are : CutNothing net) where
  -- the words of a net have no cut
  run_uncut : {g a b : ℕ} {word : List Letter} → Run g (net_graph (states_of net g)) a b word →
      HasNoCut word
  run_uncut stop = tt
  run_uncut {g = g} (along {word = word} s is mark run) =
      HasNoCut-append (put_by s ++ letters s.labels) word
      (HasNoCut-append (put_by s) (letters s.labels) (pieces_uncut s.output)
      (subst (λ (labels : List Label). HasNoCut (letters labels)) (sym is.label)
      (label_uncut is.edge.label (are g s.from is.state is.edge is.found is.inside))))
      (run_uncut run)
  run_uncut {g = g} (across {word = word} sign s t is mark body closes closed run) =
      HasNoCut-append (put_by s) (context sign g s.to t.to ∷ word) (pieces_uncut s.output)
      (tt, run_uncut run)

  module _ (input : Input) (Refuses : (g opening closing p : ℕ) → Type 0) where
    -- and so what they derive
    word_uncut : {word : List Letter} {i j : ℕ} {events : List Event} →
        Seq input (net_grammar net) Refuses word i j events → HasNoCut word → AreUncut events
    word_uncut done uncut = tt
    word_uncut (takes t s) uncut = word_uncut s uncut.1
    word_uncut (stays {x = x} {p = p} {later = later} here t s) uncut =
        AreUncut-append here later (stays_uncut input x p here t uncut.0) (word_uncut s uncut.1)
    word_uncut (calls {inside = called} {later = later} of i s) uncut =
        AreUncut-append called later (word_uncut i (run_uncut of.run)) (word_uncut s uncut.1)
    word_uncut (holds of i s) uncut = word_uncut s uncut.1
    word_uncut (refused r s) uncut = word_uncut s uncut.1

-- no derivation cuts anything off
pub derivation_uncut : (setting : Setting) → CutNothing setting.net → (start end : ℕ)
    (events : List Event) → Derives setting start end events → AreUncut events
derivation_uncut setting are start end events derives =
    let input = applied_text setting.alphabet setting.tokens setting.tables in
    let told = at_level input (net_grammar setting.net) 1 start end events derives in
    word_uncut setting.net are input (RefusesBy input (net_grammar setting.net) derives.0) told.seq
    (run_uncut setting.net are told.of_graph.run)
