use Rattle.std.proofs.Common.{arith, false, refl, sym, ap, subst, ◌≡◌, ◌<◌, ◌+◌, ◌∷◌, [], ℕ, List, Option, length, length-append}
use Rattle.std.specs.Prelude.{MatchOption}
use Rattle.std.proofs.lemmas.Bool.{both_ways}
use Rattle.std.proofs.lemmas.Grind.{common_steps}
use Rattle.ux_fst2_file.specs.Lines.{IsState}
use Rattle.ux_fst2_file.specs.Refusals.{StopStates}
use Rattle.ux_fst2_file.specs.Refusals.StopStates.{no_line, bad_line}
use Rattle.ux_fst2_file.specs.declared.file.Fst2State.{Fst2State}
use Rattle.ux_fst2_file.proofs.LineLaws.{end_no_state}
use Rattle.ux_fst2_file.proofs.ReadLemmas.{AreStatesTo, states_end, states_more, states_stop, here_stops}
use Rattle.ux_fst2_file.proofs.reading.read_states.Goals as goal

pub returns-then-is_empty-clause-err : goal.returns-then-is_empty-clause-err
returns-then-is_empty-clause-err c =
    let left = c.loop-line.cursor in
    let rest = c.next_line.new.self.lines in
    let line = c.in-Some.line.now in
    let none : 0 ≡ length c.loop-line.states.items = grind (arith, common_steps) in
    here_stops (StopStates 0 (c.args.cursor.now.number + 1) c.args.cursor.now.lines)
    c.next_line.new.self.number left.number c.in-Some.ensures.1
    (states_stop c.args.cursor.now.lines left.lines (c.args.cursor.now.number + 1) left.number
    c.loop-line.states.items c.loop-line.invariant.read line rest c.in-Some.ensures.0
    (bad_line (length c.loop-line.states.items) (left.number + 1) line rest
    (λ ends. omega (arith, ends.1, none))
    (λ state adds. end_no_state line state (c.if-is_end.ensures.0 refl) adds.0)))

pub returns-then-is_end-clause-ok : goal.returns-then-is_end-clause-ok
returns-then-is_end-clause-ok c =
    let left = c.loop-line.cursor in
    let some : 0 < length c.loop-line.states.items = grind (arith, common_steps) in
    record {
      begin = states_end c.args.cursor.now.lines left.lines (c.args.cursor.now.number + 1)
          left.number
          c.loop-line.states.items c.loop-line.invariant.read c.in-Some.line.now
          c.next_line.new.self.lines c.in-Some.ensures.0 (c.if-is_end.ensures.0 refl, some);
      count = omega (arith, c.loop-line.invariant.read.counted, c.in-Some.ensures.1);
    }

pub returns-in_default-2-clause-err : goal.returns-in_default-2-clause-err
returns-in_default-2-clause-err c =
    let left = c.loop-line.cursor in
    let rest = c.next_line.new.self.lines in
    let line = c.in-Some.line.now in
    here_stops (StopStates 0 (c.args.cursor.now.number + 1) c.args.cursor.now.lines)
    c.next_line.new.self.number left.number c.in-Some.ensures.1
    (states_stop c.args.cursor.now.lines left.lines (c.args.cursor.now.number + 1) left.number
    c.loop-line.states.items c.loop-line.invariant.read line rest c.in-Some.ensures.0
    (bad_line (length c.loop-line.states.items) (left.number + 1) line rest
    (λ ends. both_ways false refl (c.if-is_end.ensures.1 ends.0))
    (λ state adds. (subst
    (λ (o : Option Fst2State). MatchOption o ((s : Fst2State) → IsState line s → ⊥) (IsState line))
    c.in_default-2.is c.in_ok-state.ensures) state adds.0)))

pub returns-then-len-ge-MOST_STATES-clause-err : goal.returns-then-len-ge-MOST_STATES-clause-err
returns-then-len-ge-MOST_STATES-clause-err c =
    let left = c.loop-line.cursor in
    let rest = c.next_line.new.self.lines in
    let line = c.in-Some.line.now in
    here_stops (StopStates 0 (c.args.cursor.now.number + 1) c.args.cursor.now.lines)
    c.next_line.new.self.number left.number c.in-Some.ensures.1
    (states_stop c.args.cursor.now.lines left.lines (c.args.cursor.now.number + 1) left.number
    c.loop-line.states.items c.loop-line.invariant.read line rest c.in-Some.ensures.0
    (bad_line (length c.loop-line.states.items) (left.number + 1) line rest
    (λ ends. both_ways false refl (c.if-is_end.ensures.1 ends.0))
    (λ state adds. omega (arith, adds.1, c.if-len-ge-MOST_STATES.true, c.len.ensures))))

pub loop-line-preserved : goal.loop-line-preserved
loop-line-preserved c =
    let left = c.loop-line.cursor in
    let rest = c.next_line.new.self.lines in
    let line = c.in-Some.line.now in
    let few : length c.loop-line.states.items + 1 < 4294967296 =
    omega (arith, c.if-len-ge-MOST_STATES.false, c.len.ensures) in
    record {
      few = omega (
        arith,
        few,
        ap length c.in_ok-push.ensures.items,
        length-append c.loop-line.states.items (c.in-Some-2.state ∷ []),
      );
      read = subst (λ n. AreStatesTo c.args.cursor.now.lines rest (c.args.cursor.now.number + 1) n
          c.push.new.self.items) (sym c.in-Some.ensures.1)
          (states_more c.args.cursor.now.lines left.lines (c.args.cursor.now.number + 1) left.number
          c.loop-line.states.items c.loop-line.invariant.read line rest c.in-Some.ensures.0
          c.in-Some-2.state c.push.new.self.items (
            subst (λ (o : Option Fst2State). MatchOption o ((s : Fst2State) → IsState line s → ⊥)
                (IsState line))
                c.in-Some-2.is c.in_ok-state.ensures,
            few,
          ) c.in_ok-push.ensures.items);
    }

pub returns-clause-err : goal.returns-clause-err
returns-clause-err c =
    let left = c.loop-line.cursor in
    let items = c.loop-line.states.items in
    here_stops (StopStates 0 (c.args.cursor.now.number + 1) c.args.cursor.now.lines)
    (c.next_line.new.self.number + 1) left.number (omega (arith, c.in_default.ensures.1))
    (c.loop-line.invariant.read.stops (left.number + 1)
    (subst (λ (t : List (List ℕ)). StopStates (length items) (left.number + 1) t (left.number + 1))
    (sym c.in_default.ensures.0) (no_line (length items) (left.number + 1))))
