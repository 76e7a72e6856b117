use Rattle.office.proofs.Common.{◌<◌, ◌≤◌, List, Some, length, get_or, set, sym, subst, arith, IfOk-weaker, Net, Office}
use Rattle.office.proofs.Common.{Two, Step}
use Rattle.office.specs.OfficeApplied.{IsNetFound}
use Rattle.office.specs.Indexed.{AreIndexes, IsIndexIfThere}
use Rattle.office.proofs.Runs.{done_step, indexes-at, indexes-past, indexes-set}
use Rattle.office.proofs.stepping.step.Goals as goal

pub step_on_net-requires-clause-index : goal.step_on_net-requires-clause-index
step_on_net-requires-clause-index c =
    let at = c.in-Some.at in
    let nets = c.args.nets.now.items in
    let xs = c.make_room.new.indexes.items in
    let are = subst (λ (ns : List Net). AreIndexes xs ns) c.as_slice-in-Some.ensures.value c.make_room.ensures.are in
    let w = c.make_room.ensures.room c.if-make_room.true in
    let within : at < length xs = omega (arith, w, c.make_room.new.indexes.ok.0) in
    let x = c.index_mut-then-make_room.result.now in
    let y = c.index_mut.result.now in
    subst (λ v. IsIndexIfThere v y) (sym c.index_mut-then-make_room.ensures.value)
    (subst (λ (v : Net). IsIndexIfThere (get_or xs at x) v) (sym c.index_mut.ensures.value)
    (indexes-at xs nets at x y are within))

pub returns-then-make_room-clause-step : goal.returns-then-make_room-clause-step
returns-then-make_room-clause-step c =
    let o : Office = record { nets = c.args.nets.now.items; book = c.args.book.now } in
    let command = c.args.command.now in
    let at = c.in-Some.at in
    let index : IsNetFound o command.net (Some at) =
    subst (IsNetFound o command.net) c.in-Some.is
    (subst (λ (ns : List Net). IsNetFound (record { nets = ns; book = o.book }) command.net c.find_net.result)
    c.as_slice.ensures.value c.find_net.ensures) in
    let y = c.index_mut.result.now in
    let n = c.step_on_net.new.net in
    let b = c.step_on_net.new.book in
    IfOk-weaker c.step_on_net.result _
    (λ both. Step Two o c.args.team.now command both.0 (record { nets = set o.nets at n; book = b }))
    (λ both h. done_step o at y n b c.args.team.now command both.0 c.requires.office.rising index
    c.index_mut.ensures.value c.step_on_net.ensures.name h)
    c.step_on_net.ensures.done

pub returns-then-make_room-clause-indexes : goal.returns-then-make_room-clause-indexes
returns-then-make_room-clause-indexes c =
    let at = c.in-Some.at in
    let nets = c.args.nets.now.items in
    let xs = c.make_room.new.indexes.items in
    let are = subst (λ (ns : List Net). AreIndexes xs ns) c.as_slice-in-Some.ensures.value c.make_room.ensures.are in
    let w = c.make_room.ensures.room c.if-make_room.true in
    let within : at < length xs = omega (arith, w, c.make_room.new.indexes.ok.0) in
    indexes-set xs nets at c.step_on_net.new.index c.step_on_net.new.net are within c.step_on_net.ensures.index

pub returns-else-make_room-clause-step : goal.returns-else-make_room-clause-step
returns-else-make_room-clause-step c =
    let o : Office = record { nets = c.args.nets.now.items; book = c.args.book.now } in
    let command = c.args.command.now in
    let at = c.in-Some.at in
    let index : IsNetFound o command.net (Some at) =
    subst (IsNetFound o command.net) c.in-Some.is
    (subst (λ (ns : List Net). IsNetFound (record { nets = ns; book = o.book }) command.net c.find_net.result)
    c.as_slice.ensures.value c.find_net.ensures) in
    let y = c.index_mut-else-make_room.result.now in
    let n = c.step_on_net-else-make_room.new.net in
    let b = c.step_on_net-else-make_room.new.book in
    IfOk-weaker c.step_on_net-else-make_room.result _
    (λ both. Step Two o c.args.team.now command both.0 (record { nets = set o.nets at n; book = b }))
    (λ both h. done_step o at y n b c.args.team.now command both.0 c.requires.office.rising index
    c.index_mut-else-make_room.ensures.value c.step_on_net-else-make_room.ensures.name h)
    c.step_on_net-else-make_room.ensures.done

pub returns-else-make_room-clause-indexes : goal.returns-else-make_room-clause-indexes
returns-else-make_room-clause-indexes c =
    let at = c.in-Some.at in
    let nets = c.args.nets.now.items in
    let xs = c.make_room.new.indexes.items in
    let are = subst (λ (ns : List Net). AreIndexes xs ns) c.as_slice-in-Some.ensures.value c.make_room.ensures.are in
    let w = c.make_room.ensures.full c.if-make_room.false in
    let past : length xs ≤ at = omega (arith, w, c.make_room.new.indexes.ok.0) in
    indexes-past xs nets at c.step_on_net-else-make_room.new.net are past
