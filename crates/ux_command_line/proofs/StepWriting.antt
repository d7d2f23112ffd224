-- A step or a dictionary is read from exactly the words that write it.
use Rattle.std.proofs.Common.{arith, ◌≡◌, ◌≢◌, ◌∙◌, refl, sym, ap, subst, ℕ, Bool, true, false, ◌==◌, ◌&&◌, [], ◌∷◌, ◌++◌, codes, drop, length, nat_eq, Option, Some, None, option_map, bytes_eq, if◌then◌else◌}
use Rattle.std.specs.List.{list_all, before_first, after_first, starts_with}
use Rattle.std.proofs.lemmas.Bool.Decides.{nat_tests, Decides-eqb}
use Rattle.std.proofs.lemmas.Slice.Eq.{bytes_eq-Decides, starts_is}
use Rattle.clap.proofs.CutLemmas.{before_first-at, after_first-at, after_first-Lacks}
use Rattle.ux_base.specs.declared.settings.Mode.{Mode}
use Rattle.ux_base.specs.declared.settings.Mode.TheVariants.{Merge, Replace}
use Rattle.ux_command_line.specs.declared.steps.StepWord.{StepWord}
use Rattle.ux_command_line.specs.declared.steps.StepWord.TheVariants as word
use Rattle.ux_command_line.specs.Steps.{COLON, is_colon, times_of, rewriting_of, word_by, step_word_of, WritesStep, merges, replaces, names}
use Rattle.ux_command_line.specs.Tables.{Word, is_digit}
use Rattle.ux_command_line.proofs.BoolLemmas.{and_left, and_right}
use Rattle.ux_command_line.proofs.CutLemmas.{cut, has, lacks}

-- DIGITS

digit_no_colon : (d : ℕ) → is_digit d ≡ true → (d == COLON) ≡ false
digit_no_colon d e = grind (arith, nat_tests)

digits_lack : (digits : Word) → list_all is_digit digits ≡ true → has COLON digits ≡ false
digits_lack [] all = refl
digits_lack (d ∷ digits) all =
    rw (digit_no_colon d (and_left (is_digit d) (list_all is_digit digits) all))
    (digits_lack digits (and_right (is_digit d) (list_all is_digit digits) all))

number_digits : (b c : Bool) (digits : Word) (value times : ℕ) (d : Bool) →
    (if b && (c && (list_all is_digit digits && d)) then Some value else None) ≡ Some times →
    list_all is_digit digits ≡ true
number_digits false c digits value times d is = let wrong : None ≡ Some times = is in cc
number_digits true false digits value times d is = let wrong : None ≡ Some times = is in cc
number_digits true true digits value times d is = by_case (list_all is_digit digits) refl
  where
    by_case : (all : Bool) → list_all is_digit digits ≡ all → list_all is_digit digits ≡ true
    by_case true e = e
    by_case false e = let wrong : None ≡ Some times = rw e at is in cc

-- how often a step is applied is told without a colon
times_lack : (digits : Word) (times : ℕ) → times_of digits ≡ Some times →
    has COLON digits ≡ false
times_lack [] times is = refl
times_lack (d ∷ digits) times is =
    digits_lack (d ∷ digits) (number_digits _ _ (d ∷ digits) _ times _ is)

-- WRITTEN, THEN READ

-- a kind without a colon, and a name
cut_word : (kind name : Word) → has COLON kind ≡ false →
    step_word_of (kind ++ COLON ∷ name) ≡ word_by kind name
cut_word kind name none = rw (
  before_first-at COLON kind name (lacks COLON kind none),
  after_first-at COLON kind name (lacks COLON kind none),
) refl

named_dic : (dic : Word) → dic ≢ [] → word_by (codes "dic") dic ≡ Some (word.Dic dic)
named_dic [] full = absurd (full refl)
named_dic (x ∷ xs) full = refl

named_merge : (digits graph : Word) (times : ℕ) → times_of digits ≡ Some times → graph ≢ [] →
    word_by (codes "merge" ++ digits) graph
    ≡ Some (word.Step (record { graph = graph; mode = Merge; times = times }))
named_merge digits [] times is full = absurd (full refl)
named_merge digits (x ∷ xs) times is full = rw is refl

named_replace : (digits graph : Word) (times : ℕ) → times_of digits ≡ Some times → graph ≢ [] →
    word_by (codes "replace" ++ digits) graph
    ≡ Some (word.Step (record { graph = graph; mode = Replace; times = times }))
named_replace digits [] times is full = absurd (full refl)
named_replace digits (x ∷ xs) times is full = rw is refl

-- what is written is read
pub step_word_of-WritesStep : (text : Word) (step : StepWord) → WritesStep text step →
    step_word_of text ≡ Some step
step_word_of-WritesStep _ _ (merges digits {graph = graph} {times = times} is full) =
    cut_word (codes "merge" ++ digits) graph (times_lack digits times is)
    ∙ named_merge digits graph times is full
step_word_of-WritesStep _ _ (replaces digits {graph = graph} {times = times} is full) =
    cut_word (codes "replace" ++ digits) graph (times_lack digits times is)
    ∙ named_replace digits graph times is full
step_word_of-WritesStep _ _ (names {dic = dic} full) =
    cut_word (codes "dic") dic refl ∙ named_dic dic full

-- READ, SO WRITTEN

-- a kind that begins so
begins : (kind start : Word) → starts_with nat_eq kind start ≡ true →
    kind ≡ start ++ drop (length start) kind
begins kind start e = (starts_is Decides-eqb kind start (starts_with nat_eq kind start) refl).0 e

not_nothing : (first : ℕ) (rest : Word) → first ∷ rest ≢ []
not_nothing first rest = λ same. let wrong : first ∷ rest ≡ [] = same in cc

module _ (kind : Word) (first : ℕ) (rest : Word) (step : StepWord) where
  abbrev stepped : Option (Mode × ℕ) → Option StepWord
  stepped ways = option_map
      (λ way. word.Step (record { graph = first ∷ rest; mode = way.0; times = way.1 })) ways

  by_merge : starts_with nat_eq kind (codes "merge") ≡ true → (given : Option ℕ) →
      times_of (drop 5 kind) ≡ given → stepped (option_map (λ t. (Merge, t)) given) ≡ Some step →
      WritesStep (kind ++ COLON ∷ first ∷ rest) step
  by_merge starts None times is = let wrong : None ≡ Some step = is in cc
  by_merge starts (Some n) times is =
      let found : Some (word.Step (record { graph = first ∷ rest; mode = Merge; times = n }))
      ≡ Some step = is in
      let same : word.Step (record { graph = first ∷ rest; mode = Merge; times = n }) ≡ step = cc in
      subst (λ k. WritesStep (k ++ COLON ∷ first ∷ rest) step)
      (sym (begins kind (codes "merge") starts))
      (subst (WritesStep (codes "merge" ++ drop 5 kind ++ COLON ∷ first ∷ rest)) same
      (merges (drop 5 kind) times (not_nothing first rest)))

  by_replace : starts_with nat_eq kind (codes "replace") ≡ true → (given : Option ℕ) →
      times_of (drop 7 kind) ≡ given → stepped (option_map (λ t. (Replace, t)) given) ≡ Some step →
      WritesStep (kind ++ COLON ∷ first ∷ rest) step
  by_replace starts None times is = let wrong : None ≡ Some step = is in cc
  by_replace starts (Some n) times is =
      let found : Some (word.Step (record { graph = first ∷ rest; mode = Replace; times = n }))
      ≡ Some step = is in
      let same : word.Step (record { graph = first ∷ rest; mode = Replace; times = n }) ≡ step =
      cc in
      subst (λ k. WritesStep (k ++ COLON ∷ first ∷ rest) step)
      (sym (begins kind (codes "replace") starts))
      (subst (WritesStep (codes "replace" ++ drop 7 kind ++ COLON ∷ first ∷ rest)) same
      (replaces (drop 7 kind) times (not_nothing first rest)))

  by_other : (replaced : Bool) → starts_with nat_eq kind (codes "replace") ≡ replaced →
      stepped (if replaced then option_map (λ t. (Replace, t)) (times_of (drop 7 kind)) else None)
      ≡ Some step → WritesStep (kind ++ COLON ∷ first ∷ rest) step
  by_other true e is = by_replace e (times_of (drop 7 kind)) refl is
  by_other false e is = let wrong : None ≡ Some step = is in cc

  by_way : (merged : Bool) → starts_with nat_eq kind (codes "merge") ≡ merged →
      stepped (if merged then option_map (λ t. (Merge, t)) (times_of (drop 5 kind))
      else if starts_with nat_eq kind (codes "replace")
      then option_map (λ t. (Replace, t)) (times_of (drop 7 kind)) else None) ≡ Some step →
      WritesStep (kind ++ COLON ∷ first ∷ rest) step
  by_way true e is = by_merge e (times_of (drop 5 kind)) refl is
  by_way false e is = by_other (starts_with nat_eq kind (codes "replace")) refl is

  by_kind : (dic : Bool) → bytes_eq kind (codes "dic") ≡ dic →
      (if dic then Some (word.Dic (first ∷ rest)) else stepped (rewriting_of kind)) ≡ Some step →
      WritesStep (kind ++ COLON ∷ first ∷ rest) step
  by_kind true e is =
      let found : Some (word.Dic (first ∷ rest)) ≡ Some step = is in
      let same : word.Dic (first ∷ rest) ≡ step = cc in
      subst (λ k. WritesStep (k ++ COLON ∷ first ∷ rest) step)
      (sym ((bytes_eq-Decides kind (codes "dic")).0 e))
      (subst (WritesStep (codes "dic" ++ COLON ∷ first ∷ rest)) same
      (names (not_nothing first rest)))
  by_kind false e is = by_way (starts_with nat_eq kind (codes "merge")) refl is

by_name : (kind name : Word) (step : StepWord) → word_by kind name ≡ Some step →
    WritesStep (kind ++ COLON ∷ name) step
by_name kind [] step is = let wrong : None ≡ Some step = is in cc
by_name kind (first ∷ rest) step is =
    by_kind kind first rest step (bytes_eq kind (codes "dic")) refl is

-- what is read was written so
pub WritesStep-step_word_of : (text : Word) (step : StepWord) → step_word_of text ≡ Some step →
    WritesStep text step
WritesStep-step_word_of text step is = by_case (has COLON text) refl
  where
    by_case : (b : Bool) → has COLON text ≡ b → WritesStep text step
    by_case true e = subst (λ t. WritesStep t step) (sym (cut COLON text e))
        (by_name (before_first is_colon text) (after_first is_colon text) step is)
    by_case false e =
        let nothing : after_first is_colon text ≡ [] =
        after_first-Lacks COLON text (lacks COLON text e) in
        let wrong : None ≡ Some step =
        sym (ap (word_by (before_first is_colon text)) nothing) ∙ is in
        cc

-- a word that isn't read is written for nothing
pub unwritten : (text : Word) → step_word_of text ≡ None → (step : StepWord) →
    WritesStep text step → ⊥
unwritten text none step writes =
    let wrong : None ≡ Some step = sym none ∙ step_word_of-WritesStep text step writes in cc
