-- The definitions on small texts.
use Rattle.std.specs.Prelude.{◌≡◌, ℕ, List, [], ◌∷◌, codes, refl}
use Rattle.ux_tokens.specs.declared.kind.Kind.TheVariants.{Word, Space}
use Rattle.ux_tokens.specs.Tokens.{Token}
use Rattle.ux_outputs.specs.declared.hit.Hit.{Hit}
use Rattle.ux_cascade.specs.Cascades.{RoundResult, as_listed, left_by, until_alike}
use Rattle.ux_cascade.specs.Rewriting.{rewritten}

abbrev word : List ℕ → Token
word text = record { kind = Word; text = text }

abbrev space : Token
space = record { kind = Space; text = codes " " }

-- the tokens of `a b c d`, and of `b b`
abbrev letters : List Token
letters = word (codes "a") ∷ space ∷ word (codes "b") ∷ space ∷ word (codes "c") ∷ space
    ∷ word (codes "d") ∷ []

abbrev two : List Token
two = word (codes "b") ∷ space ∷ word (codes "b") ∷ []

abbrev hit : ℕ → ℕ → List ℕ → Hit
hit first last text = record { first = first; last = last; text = text }

-- without hits a text stays
none : rewritten letters [] ≡ record { text = codes "a b c d"; spans = 0 }
none = refl

-- each hit's text stands for its tokens, and the others stay
both : rewritten letters (hit 0 2 (codes "x") ∷ hit 4 4 (codes "yz") ∷ [])
    ≡ record { text = codes "x yz d"; spans = 2 }
both = refl

-- of the hits with one first token the first counts, even where a later one is longer
first : rewritten letters (hit 2 2 (codes "x") ∷ hit 2 4 (codes "y") ∷ hit 6 6 [] ∷ [])
    ≡ record { text = codes "a x c "; spans = 2 }
first = refl

-- a round that changes the text is listed, then one that leaves it, and no later one
abbrev three : List RoundResult
three = record { spans = 2; tokens = two } ∷ record { spans = 0; tokens = two }
    ∷ record { spans = 0; tokens = two } ∷ []

listed : as_listed 1 1 (until_alike letters three)
    ≡ record { step = 1; round = 1; spans = 2 } ∷ record { step = 1; round = 2; spans = 0 } ∷ []
listed = refl

left : left_by letters three ≡ two
left = refl
