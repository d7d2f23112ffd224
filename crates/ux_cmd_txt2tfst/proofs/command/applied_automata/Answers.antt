use Rattle.std.proofs.Common.{List, String, Global, string_bytes, ap, subst}
use Rattle.std.proofs.lemmas.Result.{IfOk-weaker}
use Rattle.ux_dela.specs.declared.entry.Entry.{Entry}
use Rattle.ux_apply.specs.declared.priority.Priority.{Priority}
use Rattle.ux_apply.specs.Applied.{AreApplied}
use Rattle.ux_dictionaries.specs.Dictionaries.{contents_of}
use Rattle.ux_cmd_txt2tfst.specs.Tfst.{AreAutomata, AreAutomataBy}
use Rattle.ux_cmd_txt2tfst.proofs.command.applied_automata.Goals as goal

-- the dictionaries are seen as their contents
pub returns : goal.returns
returns c =
    let letters = c.args.alphabet.now in
    let tokens = c.args.text.now in
    let tables = c.in_ok-applied.applied in
    let dics = contents_of c.args.dics.items in
    let are = subst (λ (l : List (Priority × List Entry)). AreApplied letters l tokens tables)
    (ap contents_of c.deref.ensures.value) c.in_ok-applied.ensures.applied in
    IfOk-weaker c.write_automata.result
    (λ (answer : String Global). AreAutomata tokens tables (string_bytes answer))
    (λ (answer : String Global). AreAutomataBy letters tokens dics (string_bytes answer))
    (λ answer is. record { tables = tables; applied = are; automata = is }) c.write_automata.ensures
