-- Which readings pass the test of an item. The manual, on ELAG. Public: the crate's public
-- contracts speak of it.
use Rattle.std.specs.Prelude.{◌≡◌}
use Rattle.ux_masks.specs.Meets.{Meets}
use Rattle.ux_sentence.specs.declared.sentence.Reading.{Reading}
use Rattle.ux_sentence.specs.declared.sentence.Reading.TheVariants.{Word, Raw}
use Rattle.ux_rules.specs.declared.test.Test.{Test}
use Rattle.ux_rules.specs.declared.test.Test.TheVariants.{Form, Lexical, Known, Unknown, Any}

-- the reading passes the test
abbrev pub Passes : Test → Reading → Type 0
Passes (Form text) (Word entry) = entry.form ≡ text
Passes (Form text) (Raw raw) = raw ≡ text
Passes (Lexical mask) (Word entry) = Meets mask entry
Passes (Lexical mask) (Raw raw) = ⊥
Passes Known (Word entry) = Unit {0}
Passes Known (Raw raw) = ⊥
Passes Unknown (Word entry) = ⊥
Passes Unknown (Raw raw) = Unit {0}
Passes Any reading = Unit {0}
