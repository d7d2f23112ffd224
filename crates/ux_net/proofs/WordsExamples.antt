-- Words and bodies of small graphs, worked out.
use Rattle.std.proofs.Common.{arith, ◌≡◌, ℕ, List, [], ◌∷◌, refl}
use Rattle.std.specs.Prelude.{Contains}
use Rattle.ux_grf.specs.declared.item.Piece.{Piece}
use Rattle.ux_net.specs.declared.label.Label.{Label}
use Rattle.ux_net.specs.declared.label.Label.TheVariants.{CaseFolded, Positive, Negative, ContextEnd, Call}
use Rattle.ux_net.specs.Words.{positive, negative, plain, piece, context, Step, StepGraph, Run, stop, along, across, IsWord, IsBody}

-- a graph of these steps, from place 0 to the last one
abbrev pub listed : List Step → ℕ → StepGraph
listed steps last = record {
  start = 0;
  IsPlace = λ n. Unit {0};
  IsEnd = λ n. n ≡ last;
  IsStep = Contains steps;
}

-- a step with these labels and no output
abbrev pub bare : (from to : ℕ) → List Label → Step
bare from to labels = record { from = from; to = to; output = []; labels = labels }

-- a step with these labels and one piece of an output
abbrev putting : (from to : ℕ) → Piece → List Label → Step
putting from to part labels =
    record { from = from; to = to; output = part ∷ []; labels = labels }

-- Two contexts, one in the other: 0 $[ 1 $![ 2 a 3 $] 4 $] 5 b 6.
module _ (a b : List ℕ) where
  abbrev outer_opens : Step
  outer_opens = bare 0 1 (Positive ∷ [])

  abbrev inner_opens : Step
  inner_opens = bare 1 2 (Negative ∷ [])

  abbrev middle : Step
  middle = bare 2 3 (CaseFolded a ∷ [])

  abbrev inner_closes : Step
  inner_closes = bare 3 4 (ContextEnd ∷ [])

  abbrev outer_closes : Step
  outer_closes = bare 4 5 (ContextEnd ∷ [])

  abbrev beyond : Step
  beyond = bare 5 6 (CaseFolded b ∷ [])

  -- a context in a context
  abbrev nested : List Step
  nested = outer_opens ∷ inner_opens ∷ middle ∷ inner_closes ∷ outer_closes ∷ beyond ∷ []

  abbrev Nested : StepGraph
  Nested = listed nested 6

  -- a run inside the inner context
  innermost : Run 1 Nested 2 3 (plain (CaseFolded a) ∷ [])
  innermost = along middle (2, omega arith, refl) refl stop

  -- the body of the outer context is the inner one
  outer_run : Run 1 Nested 1 4 (context negative 1 2 4 ∷ [])
  outer_run =
      across negative inner_opens inner_closes (1, omega arith, refl) refl innermost
      (3, omega arith, refl) refl stop

  -- the whole outer context is one letter of the word
  pub nested_word : IsWord 1 Nested (context positive 1 1 5 ∷ plain (CaseFolded b) ∷ [])
  nested_word = record {
    last = 6;
    ends = refl;
    run =
        across positive outer_opens outer_closes (0, omega arith, refl) refl outer_run
        (4, omega arith, refl) refl (along beyond (5, omega arith, refl) refl stop);
  }

  -- the body of the outer context has the inner one as a letter
  pub outer_body : IsBody 1 Nested 1 5 (context negative 1 2 4 ∷ [])
  outer_body = record {
    step = outer_closes;
    inside = (4, omega arith, refl);
    closed = refl;
    after = refl;
    run = outer_run;
  }

  -- the body of the inner context is its one label
  pub inner_body : IsBody 1 Nested 2 4 (plain (CaseFolded a) ∷ [])
  inner_body = record {
    step = inner_closes;
    inside = (3, omega arith, refl);
    closed = refl;
    after = refl;
    run = innermost;
  }

-- A step's output comes before its labels: before a call, and before a context that it opens.
module _ (part : Piece) (a : List ℕ) where
  abbrev calling : Step
  calling = putting 0 1 part (Call 2 ∷ [])

  -- the output stands before the call
  pub output_before_call :
      IsWord 1 (listed (calling ∷ []) 1) (piece part ∷ plain (Call 2) ∷ [])
  output_before_call = record {
    last = 1;
    ends = refl;
    run = along calling (0, omega arith, refl) refl stop;
  }

  abbrev opening : Step
  opening = putting 0 1 part (Positive ∷ [])

  abbrev found : Step
  found = bare 1 2 (CaseFolded a ∷ [])

  abbrev closing : Step
  closing = bare 2 3 (ContextEnd ∷ [])

  abbrev opened : List Step
  opened = opening ∷ found ∷ closing ∷ []

  -- the output stands before the context
  pub output_before_context :
      IsWord 1 (listed opened 3) (piece part ∷ context positive 1 1 3 ∷ [])
  output_before_context = record {
    last = 3;
    ends = refl;
    run =
        across positive opening closing (0, omega arith, refl) refl
        (along found (1, omega arith, refl) refl stop) (2, omega arith, refl) refl stop;
  }

-- A context that closes at two places, 3 and 4, is a letter for each, and each has its body.
module _ (a b : List ℕ) where
  abbrev opens_at : Step
  opens_at = bare 0 1 (Positive ∷ [])

  abbrev first : Step
  first = bare 1 2 (CaseFolded a ∷ [])

  abbrev second : Step
  second = bare 2 2 (CaseFolded b ∷ [])

  abbrev closes_here : Step
  closes_here = bare 2 3 (ContextEnd ∷ [])

  abbrev closes_there : Step
  closes_there = bare 2 4 (ContextEnd ∷ [])

  -- a context that is closed at two places
  abbrev forked : List Step
  forked = opens_at ∷ first ∷ second ∷ closes_here ∷ closes_there ∷ []

  abbrev Forked : StepGraph
  Forked = listed forked 4

  -- its body up to the first
  pub body_here : IsBody 1 Forked 1 3 (plain (CaseFolded a) ∷ [])
  body_here = record {
    step = closes_here;
    inside = (3, omega arith, refl);
    closed = refl;
    after = refl;
    run = along first (1, omega arith, refl) refl stop;
  }

  -- and up to the second
  pub body_there : IsBody 1 Forked 1 4 (plain (CaseFolded a) ∷ plain (CaseFolded b) ∷ [])
  body_there = record {
    step = closes_there;
    inside = (4, omega arith, refl);
    closed = refl;
    after = refl;
    run =
        along first (1, omega arith, refl) refl
        (along second (2, omega arith, refl) refl stop);
  }

  -- a word over the context to the second
  pub word_there : IsWord 1 Forked (context positive 1 1 4 ∷ [])
  word_there = record {
    last = 4;
    ends = refl;
    run =
        across positive opens_at closes_there (0, omega arith, refl) refl
        (along first (1, omega arith, refl) refl stop) (4, omega arith, refl) refl stop;
  }
