-- A line of forms is refused in one way only, and so is a file of forms.
use Rattle.std.proofs.Common.{◌≡◌, ℕ, List}
use Rattle.ux_base.specs.Lines.{lines_of}
use Rattle.ux_dela.specs.Delaf.{DelafSays, RefusesDelaf}
use Rattle.ux_dela.specs.Files.{Refuses}
use Rattle.ux_dela.specs.declared.error.DelaError.{DelaError}
use Rattle.ux_dela.proofs.ExclusionLemmas.{says_excluded}
use Rattle.ux_base.proofs.EachLineLemmas.{refused_in_one_way}
use Rattle.ux_dela.proofs.RefusalLemmas.{one_fault}

-- no line of forms is refused in two ways
pub delaf_refused_once : (line : List ℕ) (number : ℕ) (one other : DelaError) →
    RefusesDelaf line number one → RefusesDelaf line number other → one ≡ other
delaf_refused_once line number one other r s = one_fault line number one other r.fault s.fault

-- no file of forms is refused in two ways
pub refused_once : (text : List ℕ) (one other : DelaError) →
    Refuses text one → Refuses text other → one ≡ other
refused_once text one other r s =
    refused_in_one_way DelafSays RefusesDelaf says_excluded delaf_refused_once (lines_of text) 1
    one other r s
