use Rattle.std.proofs.Common.{ℕ, List, subst}
use Rattle.std.specs.Prelude.{Option}
use Rattle.ux_inflect.specs.declared.refusing.Fault.TheVariants.{Miscoded, Stuck}
use Rattle.ux_inflect.specs.declared.stroke.Detail.TheVariants.{Outline}
use Rattle.ux_inflect.specs.Faults.{IsFaulty}
use Rattle.ux_inflect.specs.Searches.{start_place}
use Rattle.ux_inflect.specs.Ways.{IsLeastOf}
use Rattle.ux_inflect.proofs.RefusingLemmas.{clean_good, least_word, no_word}
use Rattle.ux_inflect.proofs.inflecting.check_paths.Goals as goal

pub returns-in-Some-clause-refused : goal.returns-in-Some-clause-refused
returns-in-Some-clause-refused c =
    let net = c.args.net.now in
    let stem = c.args.stem.now in
    let start = start_place Outline stem.lemma in
    let stuck = subst (λ (o : Option (List ℕ)). IsLeastOf (IsFaulty Outline net start Stuck) o)
    c.in-Some.is (c.in_ok-stuck.ensures Outline net start c.in_ok-explored.ensures) in (
      c.requires.clean,
      least_word Outline net stem (clean_good Outline net c.requires.clean) Stuck c.in-Some.path stuck,
    )

pub returns-in-Some-miscoded-clause-refused : goal.returns-in-Some-miscoded-clause-refused
returns-in-Some-miscoded-clause-refused c =
    let net = c.args.net.now in
    let stem = c.args.stem.now in
    let start = start_place Outline stem.lemma in
    let good = clean_good Outline net c.requires.clean in
    let none = subst (λ (o : Option (List ℕ)). IsLeastOf (IsFaulty Outline net start Stuck) o)
    c.in-None.is (c.in_ok-stuck.ensures Outline net start c.in_ok-explored.ensures) in
    let miscoded = subst (λ (o : Option (List ℕ)). IsLeastOf (IsFaulty Outline net start Miscoded) o)
    c.in-Some-miscoded.is
    (c.in_ok-miscoded-in-None.ensures Outline net start c.in_ok-explored.ensures) in (
      record {
        clean = c.requires.clean;
        doable = no_word Outline net stem good Stuck none;
      },
      least_word Outline net stem good Miscoded c.in-Some-miscoded.path miscoded,
    )

pub returns-clause-accepted : goal.returns-clause-accepted
returns-clause-accepted c =
    let net = c.args.net.now in
    let stem = c.args.stem.now in
    let start = start_place Outline stem.lemma in
    let good = clean_good Outline net c.requires.clean in
    let none = subst (λ (o : Option (List ℕ)). IsLeastOf (IsFaulty Outline net start Stuck) o)
    c.in-None.is (c.in_ok-stuck.ensures Outline net start c.in_ok-explored.ensures) in
    let coded = subst (λ (o : Option (List ℕ)). IsLeastOf (IsFaulty Outline net start Miscoded) o)
    c.in-None-miscoded.is
    (c.in_ok-miscoded-in-None.ensures Outline net start c.in_ok-explored.ensures) in
    record {
      doable = record {
        clean = c.requires.clean;
        doable = no_word Outline net stem good Stuck none;
      };
      coded = no_word Outline net stem good Miscoded coded;
    }
