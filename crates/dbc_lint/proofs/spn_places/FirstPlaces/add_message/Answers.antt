use Rattle.dbc_lint.proofs.Common.{◌++◌, List, map, subst, sym, take}
use Rattle.std.proofs.lemmas.List.{append-nil}
use Rattle.dbc_lint.specs.OfSpn.{SpnPlace, place_of}
use Rattle.dbc_lint.specs.SpnPlaces.{HasFirsts}
use Rattle.dbc_lint.proofs.FirstSpns.{signals_more}
use Rattle.dbc_lint.proofs.spn_places.FirstPlaces.add_message.Goals as goal

pub loop-signal-init : goal.loop-signal-init
loop-signal-init c = λ ps has. subst (λ (qs : List SpnPlace). HasFirsts qs c.args.self.now) (sym (append-nil ps)) has

pub loop-signal-preserved : goal.loop-signal-preserved
loop-signal-preserved c = λ ps has.
    let m = c.args.message.now in
    let signals = c.as_slice-signal-items.result.now in
    let i = c.loop-signal.signal-index in
    let s = c.signal-item.result in
    subst (λ (qs : List SpnPlace). HasFirsts qs c.add.new.self)
    (signals_more ps m signals i s c.loop-signal-test.true c.signal-item.is)
    (c.in_ok-add.ensures (ps ++ map (place_of m) (take i signals)) (c.loop-signal.invariant ps has))
