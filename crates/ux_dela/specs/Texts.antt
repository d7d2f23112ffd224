-- Texts that stand one behind the other in one text, and where each of them ends. Inner: the crate's
-- own functions alone speak of it.
use Rattle.std.specs.Prelude.{◌≡◌, ℕ, ◌≤◌, ◌-◌, List, [], ◌∷◌, length, take, drop, Option, None, Some}
use Rattle.std.specs.Global.{Global}
use Rattle.std.specs.Str.{IsCharBoundary}
use Rattle.std.specs.declared.rc.Rc.{Rc}

-- the texts that end at these places, of which the first begins here
abbrev pub texts_from : (begin : ℕ) (ends text : List ℕ) → List (List ℕ)
texts_from begin [] text = []
texts_from begin (end ∷ ends) text = take (end - begin) (drop begin text) ∷ texts_from end ends text

-- such texts are all of the text from there on, and none is cut within a character
abbrev pub AreEnds : (begin : ℕ) (ends text : List ℕ) → Type 0
AreEnds begin [] text = begin ≡ length text
AreEnds begin (end ∷ ends) text = (begin ≤ end) × IsCharBoundary text end × AreEnds end ends text

-- the texts that are shared, or none
abbrev pub shared_texts : Option (Rc (List (List ℕ)) Global) → List (List ℕ)
shared_texts None = []
shared_texts (Some texts) = texts.value
