use Rattle.std.proofs.Common.{List, subst, sym}
use Rattle.std.specs.Prelude.{Contains}
use Rattle.ux_inflect.specs.declared.config.Config.{Config}
use Rattle.ux_inflect.specs.Outcomes.{AreListed, IsCodedAt}
use Rattle.ux_inflect.specs.Places.{place_of}
use Rattle.ux_inflect.specs.Refusing.{Refuses}
use Rattle.ux_inflect.specs.Ways.{lists_of}
use Rattle.ux_inflect.proofs.InflectedLemmas.{all_coded, are_inflected}
use Rattle.ux_inflect.proofs.RefusingLemmas.{if_err}
use Rattle.ux_inflect.proofs.inflecting.inflect.Goals as goal

pub entries_of-requires : goal.entries_of-requires
entries_of-requires c =
    let explored = c.in_ok-explored.explored in
    subst (λ (keys : List Config). (config : Config) → Contains keys config → IsCodedAt (place_of config))
    (sym c.as_slice.ensures.keys)
    (all_coded c.args.net.now c.args.stem.now explored.configs.keys (lists_of explored.links.items)
    c.in_ok-check_paths.ensures.accepted c.in_ok-explored.ensures)

pub returns-clause-entries : goal.returns-clause-entries
returns-clause-entries c =
    let explored = c.in_ok-explored.explored in
    let entries = c.in_ok-entries.entries.items in
    are_inflected c.args.net.now c.args.stem.now explored.configs.keys (lists_of explored.links.items)
    c.in_ok-check_paths.ensures.accepted c.in_ok-explored.ensures entries
    (subst (λ (keys : List Config). AreListed c.args.stem.now keys entries) c.as_slice.ensures.keys
    c.in_ok-entries.ensures)

pub returns-in_err-ranks-clause-refused : goal.returns-in_err-ranks-clause-refused
returns-in_err-ranks-clause-refused c =
    if_err c.from_residual.result _ (Refuses c.args.stem.now c.args.net.now)
    c.from_residual.ensures.1
    (λ e same. subst (Refuses c.args.stem.now c.args.net.now) (sym same)
    (c.in_err-ranks.ensures.refused c.args.stem.now))

pub returns-in_err-check_items-clause-refused : goal.returns-in_err-check_items-clause-refused
returns-in_err-check_items-clause-refused c =
    if_err c.from_residual-in_err-check_items.result _ (Refuses c.args.stem.now c.args.net.now)
    c.from_residual-in_err-check_items.ensures.1
    (λ e same. subst (Refuses c.args.stem.now c.args.net.now) (sym same)
    (c.in_err-check_items.ensures.refused c.args.stem.now))
