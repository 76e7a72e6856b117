use Rattle.store_changes.proofs.Common.{sym, subst, Reads, edits_end}
use Rattle.store_changes.proofs.change_rows.write_release.Goals as goal

pub returns-clause-written : goal.returns-clause-written
returns-clause-written g c clean office net next =
    let made = c.in_ok-insert_frozen.ensures.added clean office in
    let body = subst (λ text. Reads text c.in_ok-sheet.sheet) (sym c.deref.ensures.value)
    c.in_ok-body.ensures.reads.reads in (
      record { net = c.as_bytes.result; number = c.args.number; body = c.deref.result },
      record {
        net = c.as_bytes.ensures.bytes;
        number = next;
        body =
            subst (Reads c.deref.result.now) c.in_ok-sheet.ensures body;
      },
      made.tables_are,
    )

pub returns-clause-frame : goal.returns-clause-frame
returns-clause-frame g c = edits_end g.S.Store c.args.tx.now c.insert_frozen.new.tx _ c.insert_frozen.ensures.frame
    c.in_ok-insert_frozen.ensures.added
