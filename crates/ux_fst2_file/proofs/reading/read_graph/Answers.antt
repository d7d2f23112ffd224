use Rattle.std.proofs.Common.{arith, sym, ap, subst, ◌≡◌, ◌+◌, ◌∷◌, ◌++◌, ◌∙◌, [], ℕ, List, length, inl, inr}
use Rattle.std.specs.Prelude.{Contains, ◌⊎◌}
use Rattle.std.proofs.lemmas.Result.{err_from_is_err_and}
use Rattle.ux_fst2_file.specs.Lines.{IsHead}
use Rattle.ux_fst2_file.specs.Files.{BeginStates, BeginsGraph}
use Rattle.ux_fst2_file.specs.Refusals.{StopStates, StopGraphs}
use Rattle.ux_fst2_file.specs.Refusals.StopGraphs.{no_line, no_head, in_states}
use Rattle.ux_fst2_file.specs.Reading.{StopsAtLine, StopsNextGraph}
use Rattle.ux_fst2_file.specs.declared.file.Fst2State.{Fst2State}
use Rattle.ux_fst2_file.specs.declared.error.Fst2Error.{Fst2Error}
use Rattle.ux_fst2_file.specs.declared.error.Fst2Error.TheVariants.{NoMemory}
use Rattle.ux_fst2_file.proofs.LineLaws.{head_once}
use Rattle.ux_fst2_file.proofs.NameLemmas.{texts_decide, added_new, added_not}
use Rattle.ux_fst2_file.proofs.ReadLemmas.{here_stops}
use Rattle.ux_fst2_file.proofs.reading.read_graph.Goals as goal

pub returns-in_default-clause-err : goal.returns-in_default-clause-err
returns-in_default-clause-err c =
    let old = c.args.cursor.now in
    let names = c.args.names.now.keys in
    here_stops (StopsNextGraph names (old.number + 1) old.lines)
    (c.next_line.new.self.number + 1) old.number (omega (arith, c.in_default.ensures.1))
    (λ wanted some. subst (λ (t : List (List ℕ)). StopGraphs wanted names (old.number + 1) t
    (old.number + 1))
    (sym c.in_default.ensures.0) (no_line wanted names (old.number + 1) some))

pub returns-in_default-read_head-clause-err : goal.returns-in_default-read_head-clause-err
returns-in_default-read_head-clause-err c =
    let old = c.args.cursor.now in
    let names = c.args.names.now.keys in
    here_stops (StopsNextGraph names (old.number + 1) old.lines)
    c.next_line.new.self.number old.number c.in-Some.ensures.1
    (λ wanted some. subst (λ (t : List (List ℕ)). StopGraphs wanted names (old.number + 1) t
    (old.number + 1))
    (sym c.in-Some.ensures.0) (no_head wanted names (old.number + 1) c.in-Some.line.now
    c.next_line.new.self.lines some
    (λ name begins. c.in_default-read_head.ensures name
    (subst (λ n. IsHead n c.in-Some.line.now name) (sym c.requires.number) begins.0))))

pub returns-then-not-branch-clause-err : goal.returns-then-not-branch-clause-err
returns-then-not-branch-clause-err c =
    let old = c.args.cursor.now in
    let names = c.args.names.now.keys in
    let line = c.in-Some.line.now in
    let known = added_not _ texts_decide names c.in_ok-known.known _ c.in_ok-insert.ensures.added
    c.if-not-branch.true in
    here_stops (StopsNextGraph names (old.number + 1) old.lines)
    c.next_line.new.self.number old.number c.in-Some.ensures.1
    (λ wanted some. subst (λ (t : List (List ℕ)). StopGraphs wanted names (old.number + 1) t
    (old.number + 1))
    (sym c.in-Some.ensures.0) (no_head wanted names (old.number + 1) line
    c.next_line.new.self.lines some
    (λ name begins. known (λ has. begins.1 (subst (λ (t : List ℕ). Contains names t)
    (c.in_ok-known.ensures ∙ head_once c.args.number line c.in-Some-read_head.name.now name
    c.in-Some-read_head.ensures
    (subst (λ n. IsHead n line name) (sym c.requires.number) begins.0)) has)))))

in_graph : (names lines rest : List (List ℕ)) (number told : ℕ) (line name : List ℕ)
    (error : Fst2Error) →
    lines ≡ line ∷ rest → told ≡ number + 1 → BeginsGraph names line name →
    (error ≡ NoMemory) ⊎ StopsAtLine (StopStates 0 (told + 1) rest) error →
    (error ≡ NoMemory) ⊎ StopsAtLine (StopsNextGraph names (number + 1) lines) error
in_graph names lines rest number told line name error is e begins (inl none) = inl none
in_graph names lines rest number told line name error is e begins (inr stop) =
    inr (
      stop.0,
      stop.1,
      λ wanted some.
          subst (λ (t : List (List ℕ)). StopGraphs wanted names (number + 1) t stop.0) (sym is)
          (in_states wanted names (number + 1) stop.0 line name rest some begins
          (subst (λ n. StopStates 0 (n + 1) rest stop.0) e stop.2)),
    )

pub returns-in_err-states-clause-err : goal.returns-in_err-states-clause-err
returns-in_err-states-clause-err c =
    let old = c.args.cursor.now in
    let names = c.args.names.now.keys in
    let line = c.in-Some.line.now in
    let added = added_new _ texts_decide names c.in_ok-known.known _ c.in_ok-insert.ensures.added
    c.insert.new.self.keys c.in_ok-insert.ensures.keys c.if-not-branch.false in
    let p = err_from_is_err_and c.from_residual-in_err-states.result
    c.from_residual-in_err-states.ensures.1 in
    rw (p.1, p.2) (in_graph names old.lines c.next_line.new.self.lines old.number
    c.next_line.new.self.number line c.in-Some-read_head.name.now _ c.in-Some.ensures.0
    c.in-Some.ensures.1 (
      subst (λ n. IsHead n line c.in-Some-read_head.name.now) c.requires.number
          c.in-Some-read_head.ensures,
      λ has. added.0 (subst (λ (t : List ℕ). Contains names t) (sym c.in_ok-known.ensures) has),
    )
    c.in_err-states.ensures.err)

pub returns-clause-ok : goal.returns-clause-ok
returns-clause-ok c =
    let old = c.args.cursor.now in
    let names = c.args.names.now.keys in
    let line = c.in-Some.line.now in
    let added = added_new _ texts_decide names c.in_ok-known.known _ c.in_ok-insert.ensures.added
    c.insert.new.self.keys c.in_ok-insert.ensures.keys c.if-not-branch.false in
    let same = c.in_ok-known.ensures ∙ sym c.in_ok-name.ensures in
    let from_name = c.in_ok-name.ensures in
    let next = c.in_ok-states.ensures.ok in
    let items = c.new.ensures in (
      record {
        line = line;
        lines = c.next_line.new.self.lines;
        whole = c.in-Some.ensures.0;
        head = (
          subst (λ n. IsHead n line c.in_ok-name.name) c.requires.number
              (subst (λ (t : List ℕ). IsHead c.args.number line t)
              (sym from_name) c.in-Some-read_head.ensures),
          λ has. added.0 (subst (λ (t : List ℕ). Contains names t) (sym same) has),
        );
        begin = subst (λ (t : List Fst2State). BeginStates 0 c.next_line.new.self.lines t
            c.read_states.new.cursor.lines)
            (sym items) next.begin;
        count = omega (arith, next.count, ap length items, c.in-Some.ensures.1);
      },
      added.1 ∙ ap (λ (t : List ℕ). names ++ t ∷ []) same,
    )
