use Rattle.office.proofs.Common.{◌∙◌, List, sym, LiveMessage, Signal}
use Rattle.dbc_sheet.specs.Signals.{without_signal}
use Rattle.office.proofs.Changed.{index-with_signals}
use Rattle.office.proofs.InPlace.{changed_in_place, is_within, none_changed}
use Rattle.office.proofs.changing.remove_signal_in.Goals as goal

pub returns-in-None-clause-net : goal.returns-in-None-clause-net
returns-in-None-clause-net c =
    let path = c.args.path.now in
    let signals : LiveMessage → List Signal = λ m. without_signal m.message.signals path.signal in
    none_changed c.args.net.now path.message signals (sym c.find_named.ensures ∙ c.in-None.is)

pub take_out_at-requires : goal.take_out_at-requires
take_out_at-requires c =
    let path = c.args.path.now in
    let signals : LiveMessage → List Signal = λ m. without_signal m.message.signals path.signal in
    is_within c.args.net.now path.message signals c.in-Some.at (sym c.find_named.ensures ∙ c.in-Some.is)

pub returns-in-Some-clause-net : goal.returns-in-Some-clause-net
returns-in-Some-clause-net c =
    let path = c.args.path.now in
    let signals : LiveMessage → List Signal = λ m. without_signal m.message.signals path.signal in
    changed_in_place c.args.net.now path.message signals c.in-Some.at (sym c.find_named.ensures ∙ c.in-Some.is)
    c.take_out_at.new.live c.requires.net c.take_out_at.ensures

pub returns-in-Some-clause-index : goal.returns-in-Some-clause-index
returns-in-Some-clause-index c =
    let path = c.args.path.now in
    let signals : LiveMessage → List Signal = λ m. without_signal m.message.signals path.signal in
    index-with_signals c.args.index.now c.args.net.now c.in-Some.at signals c.take_out_at.new.live
    (is_within c.args.net.now path.message signals c.in-Some.at (sym c.find_named.ensures ∙ c.in-Some.is))
    c.take_out_at.ensures c.requires.index
