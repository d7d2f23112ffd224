use Rattle.std.proofs.Common.{arith, refl, sym, ap, subst, ◌≡◌, ◌∙◌, ◌∷◌, [], List, ℕ, Option, Some, None, get_or, length}
use Rattle.std.specs.Prelude.{IfErr, MatchOption}
use Rattle.std.specs.Option.{ok_or}
use Rattle.ux_fst2_file.specs.Lines.{IsCount}
use Rattle.ux_fst2_file.specs.Reading.{IsFirst}
use Rattle.ux_fst2_file.specs.declared.error.Fst2Error.TheVariants.{BadCount}
use Rattle.ux_fst2_file.proofs.reading.read_first.Goals as goal

pub returns-in_default-clause-err : goal.returns-in_default-clause-err
returns-in_default-clause-err c =
    (refl, λ count new is. omega (arith, ap length (sym c.in_default.ensures.0 ∙ is.whole)))

-- the first line has no count
no_count : (all : List (List ℕ)) (line : List ℕ) (rest : List (List ℕ)) (count : Option ℕ) →
    all ≡ line ∷ rest → MatchOption count ((n : ℕ) → IsCount line n → ⊥) (IsCount line) →
    IfErr (ok_or count BadCount) (λ error. (error ≡ BadCount)
    × ((n : ℕ) (lines : List (List ℕ)) → IsFirst all lines n → ⊥))
no_count all line rest None whole none = (
  refl,
  λ n lines is. none n (subst (λ (t : List ℕ). IsCount t n)
      (ap (λ (ls : List (List ℕ)). get_or ls 0 []) (sym is.whole ∙ whole)) is.is_count),
)
no_count all line rest (Some count) whole is = tt

pub returns-clause-err : goal.returns-clause-err
returns-clause-err c =
    rw c.ok_or.ensures.value
    (no_count c.args.cursor.now.lines c.in-Some.line.now c.next_line.new.self.lines
    c.read_count.result c.in-Some.ensures.0 c.read_count.ensures)
