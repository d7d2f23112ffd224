-- A well formed sentence is printed with its links exactly where some reading list is spelled by a path.
use Rattle.std.proofs.Common.{arith, ℕ, ◌-◌, List, [], ◌∷◌, refl, inl, inr}
use Rattle.std.specs.Prelude.{All, map}
use Rattle.std.proofs.lemmas.List.Elements.{All-nil, All-cons, All-contains}
use Rattle.ux_sentence.specs.declared.sentence.Link.{Link}
use Rattle.ux_sentence.specs.declared.sentence.Reading.{Reading}
use Rattle.ux_sentence.specs.declared.sentence.Sentence.{Sentence}
use Rattle.ux_sentence.specs.Paths.{IsPath, IsReadAs, LeadsOn, IsWellFormed}
use Rattle.ux_sentence.specs.Written.{LeadsUp, HasPath}

-- the links of a path lead up where all links do
path_up : (states : ℕ) (links : List Link) → All (LeadsOn states) links → (from to : ℕ)
    (path : List Link) → IsPath links from to path → All LeadsUp path
path_up states links on from to [] is = All-nil LeadsUp
path_up states links on from to (link ∷ path) is =
    let leads = All-contains (LeadsOn states) links link on is.0 in
    All-cons LeadsUp link path leads.0 (path_up states links on link.to to path is.2)

-- a sentence with a path is read as something
pub path_is_read : (s : Sentence) → HasPath s → (readings : List Reading) × IsReadAs s readings
path_is_read s has =
    (map (λ (l : Link). l.reading) has.1.0, (has.0, (has.1.0, has.1.1, refl)))

-- and a well formed sentence that is read as something has a path
pub read_has_path : (s : Sentence) (readings : List Reading) → IsWellFormed s →
    IsReadAs s readings → HasPath s
read_has_path s readings well is =
    elim well [
      | inl none ↦ absurd (omega (arith, none.0, is.0))
      | inr some ↦ (
        is.0,
        (is.1.0, is.1.1, path_up s.states s.links some.1 0 (s.states - 1) is.1.0 is.1.1),
      )
    ]
