-- A dictionary of any kind. Public: the crate's public contracts speak of it.
use Rattle.std.specs.Prelude.{List}
use Rattle.ux_dela.specs.declared.entry.Entry.{Entry}
use Rattle.ux_lexicon.specs.declared.any_lexicon.AnyLexicon.{AnyLexicon}
use Rattle.ux_lexicon.specs.declared.any_lexicon.AnyLexicon.TheVariants as any

-- the content is that of the dictionary in it
abbrev pub content_of : AnyLexicon → List Entry
content_of (any.List lexicon) = lexicon
content_of (any.Image lexicon) = lexicon
