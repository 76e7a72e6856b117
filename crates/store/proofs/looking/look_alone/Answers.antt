use Rattle.store.proofs.Common.{refl, subst, arith, IsTrue, Database, state, HasCleanDisk}
use Rattle.store.specs.Holding.{Keeps}
use Rattle.store.specs.Looking.{IsShown, bytes_of}
use Rattle.store.proofs.looking.look_alone.Goals as goal

pub returns-clause-found : goal.returns-clause-found
returns-clause-found g c clean h holds =
    let first = state g.S.Store c.is_open.new.conn in
    let second = state g.S.Store c.look_once.new.conn in
    let clean_second : HasCleanDisk second = omega (arith, c.is_open-2.ensures.frame.survives.clean, clean) in
    let clean_first : HasCleanDisk first = omega (arith, c.look_once.ensures.frame.survives.clean, clean_second) in
    let opened : IsTrue first.is_open = c.if-not-is_open.ensures.open clean_first refl in
    let same = (c.is_open.ensures.frame.same clean_first opened).0 in
    subst (λ (db : Database). (keeps : Keeps h db.trees)
    → IsShown h keeps.holds.holds.office c.args.look.now (bytes_of c.in_ok-text.text)) same
    (λ keeps. c.in_ok-text.ensures.found clean_second h (record { is_open = opened; keeps = keeps })) holds.keeps
