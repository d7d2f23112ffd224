-- The definitions on small texts.
use Rattle.std.specs.Prelude.{◌≡◌, ℕ, List, [], ◌∷◌, Option, Some, None, codes, refl}
use Rattle.ux_base.specs.declared.settings.Mode.{Mode}
use Rattle.ux_base.specs.declared.settings.Mode.TheVariants.{Ignore, Merge, Replace}
use Rattle.ux_base.specs.declared.settings.NoVar.{NoVar}
use Rattle.ux_base.specs.declared.settings.NoVar.TheVariants.{Nothing, Drop}
use Rattle.ux_tokens.specs.declared.kind.Kind.TheVariants.{Word, Space}
use Rattle.ux_tokens.specs.Tokens.{Token}
use Rattle.ux_outputs.specs.declared.event.Event.{Event}
use Rattle.ux_outputs.specs.declared.event.Event.TheVariants.{Take, Put, Value, Begin, End, Cut}
use Rattle.ux_outputs.specs.declared.hit.Hit.{Hit}
use Rattle.ux_outputs.specs.Rendering.{render}

abbrev word : List ℕ → Token
word text = record { kind = Word; text = text }

abbrev space : Token
space = record { kind = Space; text = codes " " }

-- the tokens of `c a b`, and of `cat sees`
abbrev letters : List Token
letters = word (codes "c") ∷ space ∷ word (codes "a") ∷ space ∷ word (codes "b") ∷ []

abbrev cat_sees : List Token
cat_sees = word (codes "cat") ∷ space ∷ word (codes "sees") ∷ []

-- the hit of a list of events that begin at token 0
abbrev rendered : List Token → Mode → NoVar → List Event → Option Hit
rendered tokens mode novar events = render tokens mode novar 0 events

abbrev hit : ℕ → ℕ → List ℕ → Option Hit
hit first last text = Some (record { first = first; last = last; text = text })

abbrev x : List ℕ
x = codes "x"

-- tokens alone; a space that ends them is the last one
takes : rendered letters Ignore Nothing (Take 0 1 ∷ Take 1 3 ∷ []) ≡ hit 0 2 (codes "c a")
takes = refl

space_last : rendered letters Ignore Nothing (Take 0 1 ∷ Take 1 2 ∷ []) ≡ hit 0 1 (codes "c ")
space_last = refl

-- without a token there is no hit, nor with a space alone
takes_none : rendered letters Ignore Nothing [] ≡ None
takes_none = refl

takes_space : rendered letters Ignore Nothing (Take 0 1 ∷ Cut ∷ Take 1 2 ∷ []) ≡ None
takes_space = refl

-- what stands to the left of a mark is left out, with the space after it
abbrev marked : List Event
marked = Put (codes "<") ∷ Take 0 1 ∷ Cut ∷ Take 1 3 ∷ Put (codes ">") ∷ Take 3 5 ∷ []

marked_ignore : rendered letters Ignore Nothing marked ≡ hit 2 4 (codes "a b")
marked_ignore = refl

marked_merge : rendered letters Merge Nothing marked ≡ hit 2 4 (codes "a> b")
marked_merge = refl

marked_replace : rendered letters Replace Nothing marked ≡ hit 2 4 (codes ">")
marked_replace = refl

-- `$x(` `c` `$x)` `a/[$x$]`: outputs stand left of their input and before its space
abbrev bracketed : List Event
bracketed =
    Begin x ∷ Take 0 1 ∷ End x ∷ Put (codes "[") ∷ Value x ∷ Put (codes "]") ∷ Take 1 3 ∷ []

bracketed_ignore : rendered letters Ignore Drop bracketed ≡ hit 0 2 (codes "c a")
bracketed_ignore = refl

bracketed_merge : rendered letters Merge Drop bracketed ≡ hit 0 2 (codes "c[c] a")
bracketed_merge = refl

bracketed_replace : rendered letters Replace Drop bracketed ≡ hit 0 2 (codes "[c]")
bracketed_replace = refl

-- an output before the first token stays, and the space in front of that token is left out
put_first : rendered letters Merge Nothing (Take 0 1 ∷ Cut ∷ Put (codes "[") ∷ Take 1 3 ∷ [])
    ≡ hit 2 2 (codes "[a")
put_first = refl

-- a variable without a value drops the derivation, or puts nothing; ignored outputs drop nothing
valueless_drop : rendered letters Merge Drop (Take 0 1 ∷ Value x ∷ []) ≡ None
valueless_drop = refl

valueless_replace : rendered letters Replace Drop (Take 0 1 ∷ Value x ∷ []) ≡ None
valueless_replace = refl

valueless_nothing : rendered letters Merge Nothing (Take 0 1 ∷ Value x ∷ []) ≡ hit 0 0 (codes "c")
valueless_nothing = refl

valueless_ignore : rendered letters Ignore Drop (Take 0 1 ∷ Value x ∷ []) ≡ hit 0 0 (codes "c")
valueless_ignore = refl

-- where nothing was taken since the begin, the value is the empty text
empty_value : rendered letters Merge Drop (Begin x ∷ End x ∷ Take 0 1 ∷ Value x ∷ [])
    ≡ hit 0 0 (codes "c")
empty_value = refl

-- without a begin there is no end
lone_end : rendered letters Merge Drop (Take 0 1 ∷ End x ∷ Value x ∷ []) ≡ None
lone_end = refl

-- `$|x(` `cat/[N]` `$|x)` `sees/[$x$]`
abbrev collected : List Event
collected =
    Begin (codes "|x") ∷ Put (codes "[N]") ∷ Take 0 1 ∷ End (codes "|x")
    ∷ Put (codes "[") ∷ Value x ∷ Put (codes "]") ∷ Take 1 3 ∷ []

collected_merge : rendered cat_sees Merge Nothing collected ≡ hit 0 2 (codes "[N]cat[[N]] sees")
collected_merge = refl

collected_replace : rendered cat_sees Replace Nothing collected ≡ hit 0 2 (codes "[N][[N]]")
collected_replace = refl

collected_ignore : rendered cat_sees Ignore Drop collected ≡ hit 0 2 (codes "cat sees")
collected_ignore = refl

-- an output that is open collects the value of another one, and an input of its name shares the value
shared : rendered letters Replace Nothing
    (Begin (codes "|y") ∷ Begin x ∷ Take 0 1 ∷ End x ∷ Value x ∷ Put (codes "!")
    ∷ End (codes "|y") ∷ Begin (codes "y") ∷ Take 1 3 ∷ Value (codes "y") ∷ End (codes "y")
    ∷ Value (codes "y") ∷ [])
    ≡ hit 0 2 (codes "c!c!a")
shared = refl

-- `$x.SET$` and `$x.UNSET$`
abbrev tested : List ℕ → List Event
tested test = Begin x ∷ Take 0 1 ∷ End x ∷ Value test ∷ Put (codes "!") ∷ []

abbrev untested : List ℕ → List Event
untested test = Take 0 1 ∷ Value test ∷ Put (codes "!") ∷ []

set_holds : rendered letters Merge Nothing (tested (codes "x.SET")) ≡ hit 0 0 (codes "c!")
set_holds = refl

unset_fails : rendered letters Replace Nothing (tested (codes "x.UNSET")) ≡ None
unset_fails = refl

set_fails : rendered letters Merge Nothing (untested (codes "x.SET")) ≡ None
set_fails = refl

unset_holds : rendered letters Replace Drop (untested (codes "x.UNSET")) ≡ hit 0 0 (codes "!")
unset_holds = refl

test_ignored : rendered letters Ignore Nothing (untested (codes "x.SET")) ≡ hit 0 0 (codes "c")
test_ignored = refl

-- a value is kept over a cut, and so is an output that is open
kept : rendered letters Merge Drop
    (Begin x ∷ Begin (codes "|y") ∷ Put (codes "!") ∷ Take 0 1 ∷ End x ∷ Cut ∷ End (codes "|y")
    ∷ Value x ∷ Value (codes "y") ∷ Take 1 3 ∷ [])
    ≡ hit 2 2 (codes "c!a")
kept = refl

-- a second begin takes the place of the first, and its note stays at the end
again : rendered letters Replace Drop
    (Begin x ∷ Take 0 1 ∷ Begin x ∷ Take 1 3 ∷ End x ∷ Value x ∷ Take 3 5 ∷ End x ∷ Value x ∷ [])
    ≡ hit 0 4 (codes "aa b")
again = refl
