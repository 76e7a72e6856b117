use Rattle.std.proofs.Common.{rules}
use Rattle.can_id.proofs.Packing.{packed_number, packed_identifier}
use Rattle.can_id.proofs.Splits.{fields_of-number_of}
use Rattle.can_id.proofs.j1939.J1939.ident.Goals as goal

pub unwrap-requires : goal.unwrap-requires
unwrap-requires c =
    let whole = packed_number _ _ _ _ _ _ _ c.self.invariant c.from.ensures c.from-2.ensures c.from-3.ensures
    c.from-4.ensures c.from-5.ensures c.from-6.ensures in
    rw (packed_identifier _ _ c.new.result c.self.invariant whole c.new.ensures) (search rules)

pub returns-clause-number : goal.returns-clause-number
returns-clause-number c =
    let whole = packed_number _ _ _ _ _ _ _ c.self.invariant c.from.ensures c.from-2.ensures c.from-3.ensures
    c.from-4.ensures c.from-5.ensures c.from-6.ensures in
    let made = packed_identifier _ _ c.new.result c.self.invariant whole c.new.ensures in
    rw (← c.self.view_is) (cc)

pub returns-clause-fields : goal.returns-clause-fields
returns-clause-fields c =
    let whole = packed_number _ _ _ _ _ _ _ c.self.invariant c.from.ensures c.from-2.ensures c.from-3.ensures
    c.from-4.ensures c.from-5.ensures c.from-6.ensures in
    let made = packed_identifier _ _ c.new.result c.self.invariant whole c.new.ensures in
    rw (← c.self.view_is) (record { ranges = c.self.invariant; number = cc })

pub returns-clause-back : goal.returns-clause-back
returns-clause-back c = rw (← c.self.view_is) (fields_of-number_of _ c.self.invariant)
