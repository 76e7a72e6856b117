use Rattle.office.proofs.Common.{◌∙◌, List, ap, sym, subst, on_ok_weaker, IsAt, IsGap, LiveMessage}
use Rattle.office.specs.Indexed.{live_number}
use Rattle.office.proofs.Changed.{put_insert, put_set}
use Rattle.office.proofs.changing.set_message.Goals as goal

pub returns-in-Ok-clause-ok : goal.returns-in-Ok-clause-ok
returns-in-Ok-clause-ok c =
    let net = c.args.net.now in
    let m = c.args.message in
    let at = c.in-Ok.at in
    let there : IsAt live_number net.live (live_number m) at =
    subst (λ (l : List LiveMessage). IsAt live_number l (live_number m) at) c.as_slice.ensures
    (subst (λ k. IsAt live_number c.as_slice.result.now k at) c.number.ensures c.in-Ok.ensures.found) in
    c.replace_message.ensures.net
    ∙ ap (λ (l : List LiveMessage). record net { live = l }) (sym (put_set net.live m at c.requires.rising there))

pub returns-in-Err-clause-ok : goal.returns-in-Err-clause-ok
returns-in-Err-clause-ok c =
    let net = c.args.net.now in
    let m = c.args.message in
    let at = c.in-Err.at in
    let gap : IsGap live_number net.live (live_number m) at =
    subst (λ (l : List LiveMessage). IsGap live_number l (live_number m) at) c.as_slice.ensures
    (subst (λ k. IsGap live_number c.as_slice.result.now k at) c.number.ensures c.in-Err.ensures.absent) in
    on_ok_weaker c.insert_message.result
    (λ e. e ∙ ap (λ (l : List LiveMessage). record net { live = l }) (sym (put_insert net.live m at gap)))
    c.insert_message.ensures.ok
