use Rattle.store.proofs.Common.{Err, Ok, Result, IfOk, IfOk-weaker, state, Error, net_named, tables_of}
use Rattle.store_looks.specs.Read.{AreNamesRead, IsRead}
use Rattle.store_looks.specs.Seen.{OnNetAndBook}
use Rattle.store_looks.specs.declared.reading.ReadNet.{ReadNet}
use Rattle.store.proofs.seeing.read_inside.Goals as goal

-- two facts of one answer
both : (r : Result ReadNet Error) (P Q : ReadNet → Type 0) → IfOk r P → IfOk r Q → IfOk r (λ read. P read × Q read)
both (Ok read) P Q p q = (p, q)
both (Err e) P Q p q = tt

pub returns-clause-found : goal.returns-clause-found
returns-clause-found g c clean office =
    let name = c.args.name.now in
    let t = tables_of (state g.S.Store c.args.tx.now.conn.now).now.trees in
    IfOk-weaker c.read_net_at.result
    (λ read. OnNetAndBook name (IsRead c.args.releases) read t × AreNamesRead name read t) _
    (λ read is h holds.
    let it = holds.holds in
    let kept = c.histories_leave_offices.ensures.kept h it.office it.in_range it.legal in
    record {
      found = is.0 (net_named it.office name) (it.nets name) it.office.book it.book;
      names = is.1 (net_named it.office name) (it.nets name) it.office.nets
          (record { ascending = kept.rising; each = λ other. (it.nets other).rest });
    })
    (both c.read_net_at.result (λ read. OnNetAndBook name (IsRead c.args.releases) read t)
    (λ read. AreNamesRead name read t) (c.read_net_at.ensures.found clean office)
    (c.read_net_at.ensures.names clean office))
