use Rattle.std.proofs.lemmas.Str.{IsCharBoundary-start}
use Rattle.ux_paradigm.proofs.letters.ending_place.Goals as goal

-- the lemma has no more letters
pub returns : goal.returns
returns c = IsCharBoundary-start c.args.lemma.now c.utf8.lemma
