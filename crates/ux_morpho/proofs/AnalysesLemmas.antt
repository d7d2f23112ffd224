-- What is put out for the letters of a token, as the entries of its lines.
use Rattle.std.proofs.Common.{◌≡◌, ◌⊎◌, inl, inr, ℕ, Global, List, Vec, subst}
use Rattle.std.specs.Prelude.{◌↔◌, Contains, Err, IfErr, IfOk, OnOk, Ok, Result}
use Rattle.std.proofs.lemmas.Result.{IfErr-weaker, IfOk-weaker}
use Rattle.std.specs.Cmp.Lexicographic.{slice_cmp}
use Rattle.std.specs.List.Sorted.{IsStrictlySortedBy}
use Rattle.std.specs.Ordering.{nat_cmp}
use Rattle.ux_alphabet.specs.Letters.{Letters}
use Rattle.ux_apply.specs.Applied.{AreApplied}
use Rattle.ux_apply.specs.declared.priority.Priority.{Priority}
use Rattle.ux_apply.proofs.OneTableLaws.{one_table}
use Rattle.ux_dela.specs.declared.entry.Entry.{Entry}
use Rattle.ux_lexical_tables.specs.Tables.{Tables}
use Rattle.ux_marks.specs.declared.error.MorphError.{MorphError}
use Rattle.ux_marks.specs.declared.error.MorphError.TheVariants.{BadOutput, NoMemory}
use Rattle.ux_net.specs.Words.{Grammar}
use Rattle.ux_tokens.specs.Tokens.{AreTokens, Token}
use Rattle.ux_tokens.proofs.UniqueLemmas.{tokens_unique}
use Rattle.ux_morpho.specs.Analyses.{AreEntryLines, GivesBadLine, PutsFor, PutsOut}
use Rattle.ux_morpho.specs.Putting.{AreLinesOf, HasBadAmong}

-- two facts of one value
both : {V E : Type 0} (r : Result V E) (P Q R : V → Type 0) → ((v : V) → P v → Q v → R v) →
    IfOk r P → IfOk r Q → IfOk r R
both (Ok v) P Q R make p q = make v p q
both (Err e) P Q R make p q = tt

module _ (alphabet : Letters) (dics : List (Priority × List Entry)) (grammar : Grammar)
    (token : List ℕ) (letters : List Token) (cut : AreTokens alphabet token letters)
    (tables : Tables) (applied : AreApplied alphabet dics letters tables)
    (outputs : List (List ℕ))
    (are : (output : List ℕ) → Contains outputs output
    ↔ PutsFor alphabet letters tables grammar output) where
  -- a token has one list of letters, and these have one table of entries
  puts_here : (output : List ℕ) → PutsOut alphabet dics grammar token output →
      PutsFor alphabet letters tables grammar output
  puts_here output puts =
      let same = tokens_unique alphabet token puts.letters letters puts.cut cut in
      let there : AreApplied alphabet dics letters puts.tables =
      subst (λ (l : List Token). AreApplied alphabet dics l puts.tables) same puts.applied in
      subst (λ (t : Tables). PutsFor alphabet letters t grammar output)
      (one_table alphabet dics letters puts.tables tables there applied)
      (subst (λ (l : List Token). PutsFor alphabet l puts.tables grammar output) same puts.puts)

  puts_there : (output : List ℕ) → Contains outputs output →
      PutsOut alphabet dics grammar token output
  puts_there output here = record {
    letters = letters;
    cut = cut;
    tables = tables;
    applied = applied;
    puts = (are output).0 here;
  }

  -- the lines of the outputs are those of the token's entries
  pub entry_lines : (lines : List (List ℕ)) → AreLinesOf token outputs lines →
      IsStrictlySortedBy (slice_cmp nat_cmp) lines → AreEntryLines alphabet dics grammar token lines
  entry_lines lines known ordered = record {
    exactly = λ line. (
      λ here. let of = (known.exactly line).0 here in (of.0, puts_there of.0 of.1, of.2),
      λ of. (known.exactly line).1 (of.0, (are of.0).1 (puts_here of.0 of.1), of.2),
    );
    ordered = ordered;
  }

  -- none of them is bad
  pub none_bad : (lines : List (List ℕ)) → AreLinesOf token outputs lines →
      GivesBadLine alphabet dics grammar token → ⊥
  none_bad lines known bad =
      let says = known.each bad.0 ((are bad.0).1 (puts_here bad.0 bad.1)) in
      bad.2 says.0 says.1

  -- or one is
  pub some_bad : HasBadAmong token outputs → GivesBadLine alphabet dics grammar token
  some_bad bad = (bad.0, puts_there bad.0 bad.1, bad.2)

  -- The result of a function that makes the lines of the outputs.
  module _ (lent : List (List ℕ)) (same : lent ≡ outputs)
      (result : Result (Vec (List ℕ) Global) MorphError) where
    here : (lines : List (List ℕ)) → AreLinesOf token lent lines → AreLinesOf token outputs lines
    here lines known = subst (λ (l : List (List ℕ)). AreLinesOf token l lines) same known

    pub answers_ok : IfOk result (λ lines. AreLinesOf token lent lines.items) →
        IfOk result (λ lines. IsStrictlySortedBy (slice_cmp nat_cmp) lines.items) →
        IfOk result (λ lines. AreEntryLines alphabet dics grammar token lines.items)
    answers_ok known ordered =
        both result (λ lines. AreLinesOf token lent lines.items)
        (λ lines. IsStrictlySortedBy (slice_cmp nat_cmp) lines.items)
        (λ lines. AreEntryLines alphabet dics grammar token lines.items)
        (λ lines k o. entry_lines lines.items (here lines.items k) o) known ordered

    pub answers_good : IfOk result (λ lines. AreLinesOf token lent lines.items) →
        OnOk result (GivesBadLine alphabet dics grammar token → ⊥)
    answers_good known =
        IfOk-weaker result (λ lines. AreLinesOf token lent lines.items)
        (λ _. GivesBadLine alphabet dics grammar token → ⊥)
        (λ lines k. none_bad lines.items (here lines.items k)) known

    pub answers_bad : IfErr result (λ error. (error ≡ NoMemory)
        ⊎ ((error ≡ BadOutput token) × HasBadAmong token lent)) →
        IfErr result (λ error. (error ≡ NoMemory)
        ⊎ ((error ≡ BadOutput token) × GivesBadLine alphabet dics grammar token))
    answers_bad known =
        IfErr-weaker result _ _ (λ error cause. elim cause [
          | inl memory ↦ inl memory
          | inr bad ↦ inr (
            bad.0,
            some_bad
                (subst (λ (l : List (List ℕ)). HasBadAmong token l) same bad.1),
          )
        ]) known
