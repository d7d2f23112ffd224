use Rattle.std.proofs.Common.{arith}
use Rattle.std.proofs.lemmas.Grind.{common_steps}
use Rattle.ux_dict.proofs.ReadLemmas.{IsDictionary-file, content_not_refused}
use Rattle.ux_dict.proofs.list_lexicon.ListLexicon.read.Goals as goal

pub of_content-requires : goal.of_content-requires
of_content-requires c =
    IsDictionary-file c.args.text.now c.in_ok-content.content.items c.in_ok-content.ensures.ok

pub returns-clause-exact : goal.returns-clause-exact
returns-clause-exact c =
    content_not_refused c.args.text.now c.in_ok-content.content.items c.in_ok-content.ensures.ok

pub returns-in_err-content-clause-ok : goal.returns-in_err-content-clause-ok
returns-in_err-content-clause-ok c = grind (arith, common_steps)

pub returns-in_err-content-clause-refused : goal.returns-in_err-content-clause-refused
returns-in_err-content-clause-refused c = grind (arith, common_steps)

pub returns-in_err-content-clause-exact : goal.returns-in_err-content-clause-exact
returns-in_err-content-clause-exact c = grind (arith, common_steps)

pub returns-in_err-of_content-clause-ok : goal.returns-in_err-of_content-clause-ok
returns-in_err-of_content-clause-ok c = grind (arith, common_steps)

pub returns-in_err-of_content-clause-refused : goal.returns-in_err-of_content-clause-refused
returns-in_err-of_content-clause-refused c = grind (arith, common_steps)

pub returns-in_err-of_content-clause-exact : goal.returns-in_err-of_content-clause-exact
returns-in_err-of_content-clause-exact c = grind (arith, common_steps)

pub returns-clause-ok : goal.returns-clause-ok
returns-clause-ok c = grind (arith, common_steps)
