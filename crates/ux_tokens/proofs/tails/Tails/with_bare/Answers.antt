use Rattle.std.proofs.Common.{arith}
use Rattle.std.proofs.lemmas.Bool.{ne_eqb}
use Rattle.ux_tokens.proofs.TailLemmas.{not_on}
use Rattle.ux_tokens.proofs.TailsLemmas.{own_tails}
use Rattle.ux_tokens.proofs.tails.Tails.with_bare.Goals as goal

pub returns-in-44 : goal.returns-in-44
returns-in-44 c = λ w h.
    let own = c.with_own-own.ensures 44 w h in
    rw c.in-44.is (record {
      is_before_form = not_on w;
      is_form = h.is_lemma;
      is_lemma = own.is_lemma;
      is_before_code = own.is_before_code;
      is_code = own.is_code;
      is_before_feature = own.is_before_feature;
      is_feature = own.is_feature;
    })

pub returns-in-46 : goal.returns-in-46
returns-in-46 c = λ w h.
    let own = c.with_own-own.ensures 46 w h in
    rw c.in-46.is (record {
      is_before_form = own.is_before_form;
      is_form = own.is_form;
      is_lemma = h.is_before_code;
      is_before_code = own.is_before_code;
      is_code = own.is_code;
      is_before_feature = own.is_before_feature;
      is_feature = own.is_feature;
    })

pub returns-in-61 : goal.returns-in-61
returns-in-61 c = λ w h.
    let own = c.with_own-own.ensures 61 w h in
    rw c.in-61.is (record {
      is_before_form = not_on w;
      is_form = not_on w;
      is_lemma = not_on w;
      is_before_code = own.is_before_code;
      is_code = own.is_code;
      is_before_feature = own.is_before_feature;
      is_feature = own.is_feature;
    })

pub returns-in-43 : goal.returns-in-43
returns-in-43 c = λ w h.
    let own = c.with_own-own.ensures 43 w h in
    rw c.in-43.is (record {
      is_before_form = own.is_before_form;
      is_form = own.is_form;
      is_lemma = own.is_lemma;
      is_before_code = not_on w;
      is_code = h.is_before_code;
      is_before_feature = own.is_before_feature;
      is_feature = own.is_feature;
    })

pub returns-in-58 : goal.returns-in-58
returns-in-58 c = λ w h.
    let own = c.with_own-own.ensures 58 w h in
    rw c.in-58.is (record {
      is_before_form = own.is_before_form;
      is_form = own.is_form;
      is_lemma = own.is_lemma;
      is_before_code = not_on w;
      is_code = h.is_before_feature;
      is_before_feature = not_on w;
      is_feature = h.is_before_feature;
    })

pub returns-in-47 : goal.returns-in-47
returns-in-47 c = λ w h.
    let own = c.with_own-own.ensures 47 w h in
    rw c.in-47.is (record {
      is_before_form = not_on w;
      is_form = own.is_form;
      is_lemma = own.is_lemma;
      is_before_code = not_on w;
      is_code = not_on w;
      is_before_feature = not_on w;
      is_feature = not_on w;
    })

pub returns-in_default : goal.returns-in_default
returns-in_default c = λ w h.
    own_tails c.with_own-own.result c.args.byte w
    (record {
      comma = ne_eqb c.args.byte 44 (λ is. omega (arith, is));
      dot = ne_eqb c.args.byte 46 (λ is. omega (arith, is));
      equals = ne_eqb c.args.byte 61 (λ is. omega (arith, is));
      plus = ne_eqb c.args.byte 43 (λ is. omega (arith, is));
      colon = ne_eqb c.args.byte 58 (λ is. omega (arith, is));
      slash = ne_eqb c.args.byte 47 (λ is. omega (arith, is));
    }) (c.with_own-own.ensures c.args.byte w h)
