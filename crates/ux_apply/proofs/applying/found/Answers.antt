use Rattle.std.proofs.lemmas.List.Elements.{All-contains, All-contains_itself, All-weaker}
use Rattle.std.proofs.lemmas.Result.{IfOk-weaker}
use Rattle.std.specs.Prelude.{Contains}
use Rattle.ux_dela.specs.Sound.{IsSound}
use Rattle.ux_apply.proofs.applying.found.Goals as goal

pub returns : goal.returns
returns c = record {
  found = IfOk-weaker c.each_once.result _ _
      (λ entries is dics led. record {
        fitting = c.in_ok-fitting.fitting.items;
        fit = c.in_ok-fitting.ensures.fitting dics led;
        once = is;
      }) c.each_once.ensures;
  sound = IfOk-weaker c.each_once.result _ _
      (λ entries is dics led. All-weaker (Contains entries.items) IsSound
      (λ entry has. All-contains IsSound c.in_ok-fitting.fitting.items entry
      (c.in_ok-fitting.ensures.sound dics led) ((is.members entry).0 has))
      entries.items (All-contains_itself entries.items)) c.each_once.ensures;
}
