-- What the command `bench` tells of a search. This file carries public meaning.
use Rattle.std.specs.Prelude.{◌≡◌, ℕ, ◌+◌, ◌-◌, max, List, [], ◌∷◌, ◌++◌, codes, length}
use Rattle.std.specs.Fmt.{decimal}
use Rattle.ux_base.specs.declared.settings.Mode.TheVariants.{Ignore}
use Rattle.ux_base.specs.declared.settings.NoVar.TheVariants.{Nothing}
use Rattle.ux_alphabet.specs.Letters.{Letters}
use Rattle.ux_dela.specs.declared.entry.Entry.{Entry}
use Rattle.ux_tokens.specs.Tokens.{AreTokens, Token}
use Rattle.ux_apply.specs.Applied.{AreApplied}
use Rattle.ux_lexical_tables.specs.Tables.{Tables}
use Rattle.ux_apply.specs.declared.priority.Priority.{Priority}
use Rattle.ux_net.specs.Words.{Grammar}
use Rattle.ux_outputs.specs.declared.hit.Hit.{Hit}
use Rattle.ux_locate.specs.Hits.{IsHit}
use Rattle.ux_locate.specs.Index.{IsListing}
use Rattle.ux_cmd_bench.specs.MadeText.{made_text}

-- how many tokens a hit has
abbrev pub tokens_in : Hit → ℕ
tokens_in hit = hit.last - hit.first + 1

-- the greatest number of tokens of a hit, 0 without one
abbrev pub longest_of : List Hit → ℕ
longest_of [] = 0
longest_of (hit ∷ hits) = max (tokens_in hit) (longest_of hits)

-- a count with its name
abbrev pub count_line : (name : List ℕ) → ℕ → List ℕ
count_line name count = name ++ codes " " ++ decimal count ++ codes "\n"

-- how many words and tokens were searched, how many hits there are, and the length of the longest
abbrev pub summary : (words tokens hits longest : ℕ) → List ℕ
summary words tokens hits longest =
    count_line (codes "words") words ++ count_line (codes "tokens") tokens
    ++ count_line (codes "hits") hits ++ count_line (codes "longest") longest

-- the text tells of all hits of a grammar in a made text, to which the dictionaries' entries are applied
pub record IsSummary (n : ℕ) (letters : Letters) (dics : List (Priority × List Entry))
    (grammar : Grammar) (text : List ℕ) : Type 0 where
  pub tokens : List Token
  pub of_text : AreTokens letters (made_text n) tokens
  pub tables : Tables
  pub applied : AreApplied letters dics tokens tables
  pub hits : List Hit
  pub listing : IsListing (IsHit letters tokens tables grammar Ignore Nothing) hits
  pub written : text ≡ summary n (length tokens) (length hits) (longest_of hits)
