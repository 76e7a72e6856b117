use Rattle.store_changes.proofs.Common.{◌∙◌, ap, option_map, dbc_number, state, LiveMessage, tables_of}
use Rattle.std.proofs.Common.{slice_get}
use Rattle.store_rows.proofs.OneMessage.{named_number, none_named}
use Rattle.store_changes.proofs.one_signal.number_named.Goals as goal

pub returns-in-None-clause-found : goal.returns-in-None-clause-found
returns-in-None-clause-found g c clean office live h =
    ap (option_map (λ (m : LiveMessage). dbc_number m.message.ident))
    (none_named c.args.name.now (tables_of (state g.S.Store c.args.tx.now.conn.now).now.trees) live c.args.message.now
    c.in_ok-rows.rows.items h
    (rw (c.as_bytes.ensures.bytes, c.as_bytes-2.ensures.bytes) at (c.in_ok-rows.ensures.found clean office))
    (c.in-None.ensures.value ∙ ap (λ l. slice_get l 0) c.deref.ensures.value))

pub returns-clause-found : goal.returns-clause-found
returns-clause-found g c clean office live h =
    named_number c.args.name.now (tables_of (state g.S.Store c.args.tx.now.conn.now).now.trees) live c.args.message.now
    c.in_ok-rows.rows.items h
    (rw (c.as_bytes.ensures.bytes, c.as_bytes-2.ensures.bytes) at (c.in_ok-rows.ensures.found clean office))
    c.in-Some.row.now c.in_ok-number_at-in-Some.field-0
    (c.in-Some.ensures.value ∙ ap (λ l. slice_get l 0) c.deref.ensures.value) c.in_ok-number_at-in-Some.ensures
