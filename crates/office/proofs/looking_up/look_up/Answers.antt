use Rattle.office.proofs.Common.{◌∙◌, sym, ap, subst, IsAt, IsGap}
use Rattle.std.specs.Option.{option_copied}
use Rattle.office.specs.Indexed.{live_number}
use Rattle.office.proofs.Looked.{leads_there, never_gap, not_named}
use Rattle.office.proofs.looking_up.look_up.Goals as goal

pub returns-in-None : goal.returns-in-None
returns-in-None c =
    let live = c.args.net.now.live in
    let name = c.args.name.now in
    not_named live name (sym (ap option_copied c.in-None.is) ∙ c.get.ensures.value ∙ c.requires.index.names name)

pub returns-in-Ok : goal.returns-in-Ok
returns-in-Ok c =
    let live = c.args.net.now.live in
    let name = c.args.name.now in
    let k = c.in-Some.number.now in
    leads_there live name k c.in-Ok.at
    (sym (ap option_copied c.in-Some.is) ∙ c.get.ensures.value ∙ c.requires.index.names name)
    (subst (λ ms. IsAt live_number ms k c.in-Ok.at) c.as_slice.ensures c.in-Ok.ensures.found)

pub returns-in-Err : goal.returns-in-Err
returns-in-Err c =
    let live = c.args.net.now.live in
    let name = c.args.name.now in
    let k = c.in-Some.number.now in
    absurd (never_gap live name k c.in-Err.field-0
    (sym (ap option_copied c.in-Some.is) ∙ c.get.ensures.value ∙ c.requires.index.names name)
    (subst (λ ms. IsGap live_number ms k c.in-Err.field-0) c.as_slice.ensures c.in-Err.ensures.absent))
