use Rattle.std.proofs.Common.{ℕ, List, ap, inl, inr, subst, sym}
use Rattle.ux_alphabet.specs.Letters.{Letters}
use Rattle.ux_dictionaries.specs.Dictionaries.{contents_of}
use Rattle.ux_morpho.specs.Analyses.{AreEntryLines, GivesBadLine}
use Rattle.ux_net.specs.Nets.{net_grammar}
use Rattle.ux_tokens.specs.Reading.{HasTooManyTokens}
use Rattle.ux_cmd_morpho.specs.Files.{IsBadIn}
use Rattle.ux_cmd_morpho.proofs.GoingLemmas.{of_files, word_refused}
use Rattle.ux_cmd_morpho.proofs.words.lines_of.Goals as goal

pub analyse-requires : goal.analyse-requires
analyse-requires c = record {
  ready = c.requires.analyser.ready;
  few = subst (λ (letters : Letters). HasTooManyTokens letters c.args.word.now → ⊥)
      (sym c.requires.analyser.alphabet_is) c.requires.few;
}

pub returns-in-Ok-clause-lines : goal.returns-in-Ok-clause-lines
returns-in-Ok-clause-lines c line =
    let are = of_files (λ letters dics net. AreEntryLines letters dics (net_grammar net)
    c.args.word.now c.in-Ok.lines.items) c.requires.analyser.alphabet_is
    (ap contents_of c.deref.ensures.value) c.requires.analyser.net_is c.in-Ok.ensures.ok in
    are.exactly line

pub returns-in-Ok-clause-good : goal.returns-in-Ok-clause-good
returns-in-Ok-clause-good c =
    of_files (λ letters dics net. GivesBadLine letters dics (net_grammar net) c.args.word.now → ⊥)
    c.requires.analyser.alphabet_is (ap contents_of c.deref.ensures.value)
    c.requires.analyser.net_is c.in-Ok.ensures.accepted

pub returns-in-Err-clause-err : goal.returns-in-Err-clause-err
returns-in-Err-clause-err c =
    let files = c.args.files.now in
    let word = c.args.word.now in
    word_refused c.args.graph.now word (IsBadIn files word) c.in-Err.error c.refused_word.result
    (elim c.in-Err.ensures.err [
      | inl memory ↦ inl memory
      | inr bad ↦ inr (
        bad.0,
        of_files (λ letters dics net. GivesBadLine letters dics (net_grammar net) word)
            c.requires.analyser.alphabet_is (ap contents_of c.deref.ensures.value)
            c.requires.analyser.net_is bad.1,
      )
    ]) c.refused_word.ensures
