use Rattle.office.proofs.Common.{◌∙◌, List, sym, at_signal, LiveMessage, Signal}
use Rattle.office.proofs.Changed.{index-with_signals}
use Rattle.office.proofs.InPlace.{changed_in_place, is_within, none_changed}
use Rattle.office.proofs.changing.set_spn_in.Goals as goal

pub returns-in-None-clause-net : goal.returns-in-None-clause-net
returns-in-None-clause-net c =
    let path = c.args.path.now in
    let signals : LiveMessage → List Signal =
    λ m. at_signal (λ s. record s { spn = c.args.spn }) path.signal m.message.signals in
    none_changed c.args.net.now path.message signals (sym c.find_named.ensures ∙ c.in-None.is)

pub set_spn_at-requires : goal.set_spn_at-requires
set_spn_at-requires c =
    let path = c.args.path.now in
    let signals : LiveMessage → List Signal =
    λ m. at_signal (λ s. record s { spn = c.args.spn }) path.signal m.message.signals in
    is_within c.args.net.now path.message signals c.in-Some.at (sym c.find_named.ensures ∙ c.in-Some.is)

pub returns-in-Some-clause-net : goal.returns-in-Some-clause-net
returns-in-Some-clause-net c =
    let path = c.args.path.now in
    let signals : LiveMessage → List Signal =
    λ m. at_signal (λ s. record s { spn = c.args.spn }) path.signal m.message.signals in
    changed_in_place c.args.net.now path.message signals c.in-Some.at (sym c.find_named.ensures ∙ c.in-Some.is)
    c.set_spn_at.new.live c.requires.net c.set_spn_at.ensures

pub returns-in-Some-clause-index : goal.returns-in-Some-clause-index
returns-in-Some-clause-index c =
    let path = c.args.path.now in
    let signals : LiveMessage → List Signal =
    λ m. at_signal (λ s. record s { spn = c.args.spn }) path.signal m.message.signals in
    index-with_signals c.args.index.now c.args.net.now c.in-Some.at signals c.set_spn_at.new.live
    (is_within c.args.net.now path.message signals c.in-Some.at (sym c.find_named.ensures ∙ c.in-Some.is))
    c.set_spn_at.ensures c.requires.index
