use Rattle.std.proofs.Common.{refl}
use Rattle.ux_dict.proofs.FittingLemmas.{IsPart-whole}
use Rattle.ux_dict.proofs.list_lexicon.ListLexicon.whole.Goals as goal

pub returns-clause-part : goal.returns-clause-part
returns-clause-part c =
    let inside = c.self.inside in
    IsPart-whole inside.keys.items inside.letters.items inside.longest inside.entries.items
    (record { entries = c.deref.result; keys = c.deref-2.result; len = 0 }) c.self.invariant
    c.deref.ensures.value c.deref-2.ensures.value refl
