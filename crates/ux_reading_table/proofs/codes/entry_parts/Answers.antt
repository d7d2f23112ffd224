use Rattle.std.proofs.Common.{ℕ, List, sym, ◌∙◌, ap, subst}
use Rattle.ux_dela.specs.Sound.{IsSound}
use Rattle.ux_dela.specs.declared.entry.Entry.{Entry}
use Rattle.ux_sentence.specs.Written.{reading_text}
use Rattle.ux_sentence.specs.declared.sentence.Reading.TheVariants.{Word}
use Rattle.ux_reading_table.proofs.BareLemmas.{bare_spellable, bare_text}
use Rattle.ux_reading_table.proofs.codes.entry_parts.Goals as goal

pub returns-clause-sound : goal.returns-clause-sound
returns-clause-sound c =
    let codes = c.in_ok-codes.codes.now in
    let with_lemma : List ℕ → Entry = λ lemma. record {
      form = c.in_ok-parts.parts.form.now;
      lemma = lemma;
      gram = codes.gram;
      sem = codes.sem;
      infl = codes.infl;
    } in
    subst (λ (lemma : List ℕ). IsSound (with_lemma lemma)) (sym c.lemma_of.ensures)
    (bare_spellable c.args.text.now c.in_ok-parts.parts codes c.in_ok-parts.ensures
    c.in_ok-codes.ensures)

pub returns-clause-text : goal.returns-clause-text
returns-clause-text c =
    let codes = c.in_ok-codes.codes.now in
    let with_lemma : List ℕ → Entry = λ lemma. record {
      form = c.in_ok-parts.parts.form.now;
      lemma = lemma;
      gram = codes.gram;
      sem = codes.sem;
      infl = codes.infl;
    } in
    bare_text c.args.text.now c.in_ok-parts.parts codes c.in_ok-parts.ensures
    c.in_ok-codes.ensures
    ∙ ap (λ (lemma : List ℕ). reading_text (Word (with_lemma lemma))) (sym c.lemma_of.ensures)
