-- The events of a derivation follow each other from its start, inside the text.
use Rattle.std.proofs.Common.{ℕ, ◌≤◌, List, [], ◌∷◌, ◌++◌, refl, sym, subst, length}
use Rattle.ux_grf.specs.declared.item.Piece.TheVariants.{Chars, Value}
use Rattle.ux_alphabet.specs.Letters.{Letters}
use Rattle.ux_tokens.specs.Tokens.{Token}
use Rattle.ux_lexical_tables.specs.Tables.{Tables}
use Rattle.ux_net.specs.declared.label.Label.TheVariants.{NoSpace, Begin, End, Cut}
use Rattle.ux_net.specs.Words.{Grammar, Letter, plain, piece}
use Rattle.ux_outputs.specs.declared.event.Event.{Event}
use Rattle.ux_outputs.specs.declared.event.Event.TheVariants.{Take}
use Rattle.ux_outputs.specs.Following.{Follows}
use Rattle.ux_meaning.specs.Meaning.{Seq, done, takes, stays, calls, holds, refused, Stays, Der, RefusesBy}
use Rattle.ux_walk.specs.Settings.{applied_text}
use Rattle.ux_walk.proofs.LevelsLemmas.{at_level}
use Rattle.ux_walk.proofs.Onward.{AreForward, takes_forward}

follows_append : (xs ys : List Event) (i k j : ℕ) → Follows i k xs → Follows k j ys →
    Follows i j (xs ++ ys)
follows_append [] ys i k j first second = subst (λ n. Follows n j ys) (sym first) second
follows_append (Take from to ∷ xs) ys i k j first second =
    (first.0, first.1, follows_append xs ys to k j first.2 second)
follows_append (other ∷ xs) ys i k j first second = follows_append xs ys i k j first second

module _ (alphabet : Letters) (tokens : List Token) (tables : Tables)
    (forward : AreForward alphabet tokens tables) (grammar : Grammar)
    (Refuses : (g opening closing p : ℕ) → Type 0) where
  -- what a letter that takes nothing gives comes in front
  stays_follows : (x : Letter) (p j : ℕ) (here later : List Event) →
      Stays (applied_text alphabet tokens tables) x p here → Follows p j later →
      Follows p j (here ++ later)
  stays_follows (plain NoSpace) p j here later t follows =
      subst (λ (l : List Event). Follows p j (l ++ later)) (sym t.1) follows
  stays_follows (plain (Begin name)) p j here later t follows =
      subst (λ (l : List Event). Follows p j (l ++ later)) (sym t) follows
  stays_follows (plain (End name)) p j here later t follows =
      subst (λ (l : List Event). Follows p j (l ++ later)) (sym t) follows
  stays_follows (plain Cut) p j here later t follows =
      subst (λ (l : List Event). Follows p j (l ++ later)) (sym t) follows
  stays_follows (piece (Chars text)) p j here later t follows =
      subst (λ (l : List Event). Follows p j (l ++ later)) (sym t) follows
  stays_follows (piece (Value name)) p j here later t follows =
      subst (λ (l : List Event). Follows p j (l ++ later)) (sym t) follows
  stays_follows other p j here later t follows = absurd t

  pub word_follows : {word : List Letter} {i j : ℕ} {events : List Event} →
      Seq (applied_text alphabet tokens tables) grammar Refuses word i j events →
      i ≤ length tokens →
      Follows i j events × (j ≤ length tokens)
  word_follows done inside = (refl, inside)
  word_follows (takes {x = x} {p = p} {k = k} t s) inside =
      let ahead = takes_forward alphabet tokens tables forward x p k t in
      let rest = word_follows s ahead.1 in
      ((refl, ahead.0, rest.0), rest.1)
  word_follows (stays {x = x} {p = p} {j = j} {later = later} here t s) inside =
      let rest = word_follows s inside in
      (stays_follows x p j here later t rest.0, rest.1)
  word_follows (calls {p = p} {k = k} {j = j} {inside = called} {later = later} is i s) inside =
      let first = word_follows i inside in
      let rest = word_follows s first.1 in
      (follows_append called later p k j first.0 rest.0, rest.1)
  word_follows (holds of i s) inside = word_follows s inside
  word_follows (refused r s) inside = word_follows s inside

module _ (alphabet : Letters) (tokens : List Token) (tables : Tables)
    (forward : AreForward alphabet tokens tables) (grammar : Grammar) where
  pub derivation_follows : (g start end : ℕ) (events : List Event) →
      Der (applied_text alphabet tokens tables) grammar g start end events → start ≤ length tokens →
      Follows start end events × (end ≤ length tokens)
  derivation_follows g start end events d inside = word_follows alphabet tokens tables
      forward grammar
      (RefusesBy (applied_text alphabet tokens tables) grammar d.0)
      (at_level (applied_text alphabet tokens tables) grammar g start end events d).seq inside
