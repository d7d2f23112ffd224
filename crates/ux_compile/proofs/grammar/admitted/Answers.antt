use Rattle.std.proofs.Common.{arith, rules}
use Rattle.std.proofs.lemmas.Grind.{common_steps}
use Rattle.ux_admission.proofs.FirstLemmas.{loop_there, recursion_there}
use Rattle.ux_admission.proofs.UnitsLemmas.{loops_met}
use Rattle.ux_compile.proofs.grammar.admitted.Goals as goal

pub admit-requires-clause-met : goal.admit-requires-clause-met
admit-requires-clause-met c =
    loops_met c.args.places.now c.requires.opened c.requires.fit c.requires.reached

pub name_of-requires-clause-from : goal.name_of-requires-clause-from
name_of-requires-clause-from c =
    let e = c.in-Err-EmptyLoop in
    let there = loop_there c.args.places.now c.requires.few e.field-0 e.graph e.node e.field-0-is
    e.ensures.cause in
    there.from

pub returns-in_err-name_of-in-Err-EmptyLoop-clause-ranks : goal.returns-in_err-name_of-in-Err-EmptyLoop-clause-ranks
returns-in_err-name_of-in-Err-EmptyLoop-clause-ranks c = grind (arith, common_steps)

pub returns-in_err-name_of-in-Err-EmptyLoop-clause-admissible : goal.returns-in_err-name_of-in-Err-EmptyLoop-clause-admissible
returns-in_err-name_of-in-Err-EmptyLoop-clause-admissible c = grind (arith, common_steps)

pub returns-in_err-name_of-in-Err-EmptyLoop-clause-err : goal.returns-in_err-name_of-in-Err-EmptyLoop-clause-err
returns-in_err-name_of-in-Err-EmptyLoop-clause-err c = grind (arith, common_steps)

pub name_of-requires-in-Err-LeftRecursion-clause-from : goal.name_of-requires-in-Err-LeftRecursion-clause-from
name_of-requires-in-Err-LeftRecursion-clause-from c = grind (arith, common_steps)

pub returns-in_err-name_of-in-Err-LeftRecursion-clause-ranks : goal.returns-in_err-name_of-in-Err-LeftRecursion-clause-ranks
returns-in_err-name_of-in-Err-LeftRecursion-clause-ranks c = grind (arith, common_steps)

pub returns-in_err-name_of-in-Err-LeftRecursion-clause-admissible : goal.returns-in_err-name_of-in-Err-LeftRecursion-clause-admissible
returns-in_err-name_of-in-Err-LeftRecursion-clause-admissible c = grind (arith, common_steps)

pub returns-in_err-name_of-in-Err-LeftRecursion-clause-err : goal.returns-in_err-name_of-in-Err-LeftRecursion-clause-err
returns-in_err-name_of-in-Err-LeftRecursion-clause-err c = grind (arith, common_steps)

pub returns-in-Ok-clause-ranks : goal.returns-in-Ok-clause-ranks
returns-in-Ok-clause-ranks c = grind (arith, common_steps)

pub returns-in-Ok-clause-admissible : goal.returns-in-Ok-clause-admissible
returns-in-Ok-clause-admissible c = grind (arith, common_steps)

pub returns-in_ok-name_of-in-Err-EmptyLoop-clause-err : goal.returns-in_ok-name_of-in-Err-EmptyLoop-clause-err
returns-in_ok-name_of-in-Err-EmptyLoop-clause-err c = grind (arith, common_steps)

pub returns-in_ok-name_of-in-Err-LeftRecursion-clause-err : goal.returns-in_ok-name_of-in-Err-LeftRecursion-clause-err
returns-in_ok-name_of-in-Err-LeftRecursion-clause-err c = grind (arith, common_steps)

pub name_of-requires-clause-to : goal.name_of-requires-clause-to
name_of-requires-clause-to c =
    let e = c.in-Err-EmptyLoop in
    let there = loop_there c.args.places.now c.requires.few e.field-0 e.graph e.node e.field-0-is
    e.ensures.cause in
    let count = c.requires.count in
    omega (arith, there.to, count)

pub overflow_cast-result : goal.overflow_cast-result
overflow_cast-result c =
    let e = c.in-Err-EmptyLoop in
    let there = loop_there c.args.places.now c.requires.few e.field-0 e.graph e.node e.field-0-is
    e.ensures.cause in
    search (rules, there.narrow)

pub name_of-requires-in-Err-LeftRecursion-clause-to : goal.name_of-requires-in-Err-LeftRecursion-clause-to
name_of-requires-in-Err-LeftRecursion-clause-to c =
    let e = c.in-Err-LeftRecursion in
    let there = recursion_there c.args.places.now c.requires.few e.field-0 e.graph e.node e.field-0-is
    e.ensures.cause in
    let count = c.requires.count in
    omega (arith, there.to, count)

pub overflow_cast-result-in-Err-LeftRecursion : goal.overflow_cast-result-in-Err-LeftRecursion
overflow_cast-result-in-Err-LeftRecursion c =
    let e = c.in-Err-LeftRecursion in
    let there = recursion_there c.args.places.now c.requires.few e.field-0 e.graph e.node e.field-0-is
    e.ensures.cause in
    search (rules, there.narrow)
