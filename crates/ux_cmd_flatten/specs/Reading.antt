-- What the command `flatten` reads, in which order. Public, through `Flatten`.
use Rattle.std.specs.Prelude.{ℕ, false, List}
use Rattle.ux_alphabet.specs.Letters.{Letters}
use Rattle.ux_grammars.specs.Graphs.{grammar_plan}
use Rattle.ux_grammars.specs.Sources.{Source}
use Rattle.ux_plan.specs.Plans.{Plan, gives, reads, refusing, tests, then}
use Rattle.ux_reasons.specs.declared.reason.Reason.{Reason}
use Rattle.ux_texts.specs.Texts.{alphabet_format}
use Rattle.ux_cmd_flatten.specs.Refusing.{CanFlatten, RefusesGrammar}

-- the alphabet, then the grammar, which has a flat net to the depth
abbrev pub flat_plan : (graph alphabet : List ℕ) → (depth : ℕ) → Plan Reason (Letters × Source)
flat_plan graph alphabet depth =
    reads alphabet (alphabet_format false) (λ letters.
    then (grammar_plan graph letters) (λ source.
    tests (CanFlatten letters source depth)
    (refusing (RefusesGrammar graph letters source depth))
    (gives (letters, source))))
