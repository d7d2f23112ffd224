use Rattle.std.proofs.Common.{List}
use Rattle.std.proofs.lemmas.Result.{err_from_is_err_and}
use Rattle.ux_alphabet.specs.Letters.{Letters}
use Rattle.ux_tokens.specs.Tokens.{Token}
use Rattle.ux_dictionaries.specs.Dictionaries.{contents_of}
use Rattle.ux_dictionaries.proofs.TextSteps.{dictionaries_come, dictionaries_halt, text_stops}
use Rattle.ux_dictionaries.proofs.texts.read_text_with_dictionaries.Goals as goal

-- the alphabet or the text stops the reading
pub returns-in_err-alphabet-clause-err : goal.returns-in_err-alphabet-clause-err
returns-in_err-alphabet-clause-err g c =
    let p = err_from_is_err_and c.from_residual.result c.from_residual.ensures.1 in
    let seen = g.F.Folder.seen in
    rw (p.1, p.2) (text_stops c.args.text.now c.args.alphabet.now c.args.dics.now c.args.chars
    (seen c.args.folder.now) (seen c.read_letters_and_text.new.folder)
    c.in_err-alphabet.field-0.0 c.in_err-alphabet.ensures.err)

-- the text was read, and a dictionary stops the reading
pub returns-in_err-dics-clause-err : goal.returns-in_err-dics-clause-err
returns-in_err-dics-clause-err g c =
    let r = c.from_residual-in_err-dics in
    let p = err_from_is_err_and r.result r.ensures.1 in
    let a = c.in_ok-alphabet.ensures in
    let seen = g.F.Folder.seen in
    rw (p.1, p.2) (dictionaries_halt c.args.text.now c.args.alphabet.now c.args.dics.now
    c.args.chars (seen c.args.folder.now) (seen c.read_letters_and_text.new.folder) a.later
    (c.in_ok-alphabet.alphabet, c.in_ok-alphabet.text) a.ok
    (seen c.read_dictionaries.new.folder) c.in_err-dics.field-0.0 c.in_err-dics.ensures.err)

-- all was read
pub returns-clause-ok : goal.returns-clause-ok
returns-clause-ok g c =
    let a = c.in_ok-alphabet.ensures in
    let seen = g.F.Folder.seen in
    let read : Letters × List Token = (c.in_ok-alphabet.alphabet, c.in_ok-alphabet.text) in
    dictionaries_come c.args.text.now c.args.alphabet.now c.args.dics.now c.args.chars
    (seen c.args.folder.now) (seen c.read_letters_and_text.new.folder) a.later read a.ok
    (contents_of c.in_ok-dics.dics.items) c.in_ok-dics.ensures.ok
