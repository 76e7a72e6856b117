-- The values of an action's fields give that action.
use Rattle.desk_send.proofs.Common.{◌≡◌, ◌≢◌, ◌≤◌, ◌<◌, ◌^◌, ◌&&◌, ℕ, true, List, [], ◌∷◌, Some, refl, arith, nat_le}
use Rattle.desk_send.proofs.Common.{and_parts, nat_tests, IfSome, Mux, Always, Multiplexor, Under, IsMux, IsAction}
use Rattle.desk_send.proofs.Common.{IsPlainName, BlockForm, Action, Pdu, NamedValue, action_fields, fields_of, kind_of}
use Rattle.std.specs.Prelude.{unwrap_or}
use Rattle.office_types.specs.Block.{IsRange, Range, greatest_of, least_of}
use Rattle.office_types.specs.Command.{IsPdu}
use Rattle.office_types.specs.declared.block.BlockForm.TheVariants as block
use Rattle.office_types.specs.declared.command.Action.TheVariants as act
use Rattle.office_types.specs.declared.command.Pdu.TheVariants as pdu
use Rattle.office_types.specs.declared.command.Task.TheVariants as task
use Rattle.office_fields.specs.Kind.{action_of, addressed_to, range_of}
use Rattle.office_fields.specs.Requested.{command_of, part_of}
use Rattle.office_fields.specs.declared.field.Field.TheVariants as field
use Rattle.office_fields.specs.declared.kind.CommandKind.TheVariants.{Act}
use Rattle.desk_send.specs.Texts.{addressing_of}
use Rattle.desk_send.specs.Fields.{ActionsComeBack, all_named, destination_of, entries_of, filled, mark_of}
use Rattle.desk_send.proofs.Entries.{AreEntries, AreGiven, all_given, all_known, are_apart, are_fields}

-- ---- what a reader makes of the fields

mux_back : (mux : Mux) → unwrap_or (mark_of mux) Always ≡ mux
mux_back Always = refl
mux_back it = refl

pdu_back : (p : Pdu) → addressed_to (addressing_of p) (destination_of p) ≡ Some p
pdu_back (pdu.Addressed destination) = refl
pdu_back pdu.Broadcast = refl

range_back : (r : Range) → IsRange r → range_of r.form r.first r.last ≡ Some r
range_back r is =
    let tests : (nat_le (least_of r.form) r.first && nat_le r.first r.last && nat_le r.last (greatest_of r.form))
    ≡ true = grind (arith, nat_tests, is.0, is.1, is.2) in
    rw tests refl

pub given_back : (a : Action) → IsAction a → (values : List NamedValue) → AreGiven (entries_of a) values
    → action_of (kind_of a) values ≡ Some a
given_back (act.OpenNet c) is values h = rw (h.0, h.1.0) refl
given_back (act.Grant c) is values h =
    rw (h.0, h.1.0, h.1.1.0, h.1.1.1.0, range_back c.block is.1) refl
given_back (act.AddNode name) is values h = rw h.0 refl
given_back (act.TakeIdent c) is values h = rw (h.0, h.1.0, h.1.1.0, h.1.1.1.0, h.1.1.1.1.0) refl
given_back (act.TakePgn c) is values h =
    rw (
      h.0,
      h.1.0,
      h.1.1.0,
      h.1.1.1.0,
      h.1.1.1.1.0,
      h.1.1.1.1.1.0,
      h.1.1.1.1.1.1.0,
      pdu_back c.pdu,
    )
    refl
given_back (act.TakeSpn c) is values h = rw (h.0, h.1.0, h.1.1.0) refl
given_back (act.TakeBits c) is values h =
    rw (
      h.0,
      h.1.0,
      h.1.1.0,
      h.1.1.1.0,
      h.1.1.1.1.0,
      h.1.1.1.1.1.0,
      h.1.1.1.1.1.1.0,
      h.1.1.1.1.1.1.1.0,
      h.1.1.1.1.1.1.1.1.0,
      h.1.1.1.1.1.1.1.1.1.0,
      h.1.1.1.1.1.1.1.1.1.1.0,
      h.1.1.1.1.1.1.1.1.1.1.1.0,
      h.1.1.1.1.1.1.1.1.1.1.1.1.0,
      mux_back c.mux,
    )
    refl
given_back (act.SetValues c) is values h = rw (h.0, h.1.0, h.1.1.0) refl
given_back (act.RemoveSignal path) is values h = rw (h.0, h.1.0) refl
given_back (act.Retire name) is values h = rw h.0 refl
given_back a is values h = refl

-- ---- each value is one that its field may have

is_mark : (mux : Mux) → IsMux mux → IfSome (mark_of mux) (λ m. IsMux m × (m ≢ Always))
is_mark Always is = tt
is_mark Multiplexor is = (tt, λ e. cc)
is_mark (Under n) is = (is, λ e. cc)

is_destination : (p : Pdu) → IsPdu p → IfSome (destination_of p) (λ d. d < 256)
is_destination (pdu.Addressed destination) is = is
is_destination pdu.Broadcast is = tt

greatest_is : (form : BlockForm) → greatest_of form ≤ 536870911
greatest_is block.Std = omega arith
greatest_is b = omega arith

greatest_small : (r : Range) → IsRange r → (r.first < 2 ^ 32) × (r.last < 2 ^ 32)
greatest_small r is = (
  omega (arith, is.1, is.2, greatest_is r.form),
  omega (arith, is.2, greatest_is r.form),
)

pub are_entries : (a : Action) → IsAction a → AreEntries (entries_of a)
are_entries (act.OpenNet c) is = (tt, (is, tt))
are_entries (act.Grant c) is =
    let small = greatest_small c.block is.1 in (is.0, (tt, (small.0, (small.1, tt))))
are_entries (act.AddNode name) is = (is, tt)
are_entries (act.TakeIdent c) is = (tt, (is.0.named, (is.0.length, (is.0.node, (is.1, tt)))))
are_entries (act.TakePgn c) is = (
  is.0.named,
  (is.0.length, (is.0.node, ((c.pdu, refl), (is.2, (is.3, (is_destination c.pdu is.1, tt)))))),
)
are_entries (act.TakeSpn c) is = (is.0.message, (is.0.signal, (is.1, tt)))
are_entries (act.TakeBits c) is = (
  is.path.message,
  (
    is.path.signal,
    (
      (is.least, is.most),
      (
        tt,
        (
          tt,
          (
            is_mark c.mux is.mux,
            (is.factor, (is.offset, (is.minimum, (is.maximum, (is.unit, (is.receivers, (is.start, tt))))))),
          ),
        ),
      ),
    ),
  ),
)
are_entries (act.SetValues c) is = (is.0.message, (is.0.signal, (is.1, tt)))
are_entries (act.RemoveSignal path) is = (is.message, (is.signal, tt))
are_entries (act.Retire name) is = (is, tt)
are_entries a is = tt

-- ---- the names are apart, and those of the command's fields

pub names_apart : (a : Action) (net : List ℕ) → are_apart (filled field.Net net ∷ entries_of a) ≡ true
names_apart (act.OpenNet c) net = refl
names_apart a net = refl

pub are_known_fields : (a : Action) (net : List ℕ)
    → are_fields (fields_of (Act (kind_of a))) (filled field.Net net ∷ entries_of a) ≡ true
are_known_fields (act.OpenNet c) net = refl
are_known_fields a net = refl

are_part_fields : (a : Action) → are_fields (action_fields (kind_of a)) (entries_of a) ≡ true
are_part_fields (act.OpenNet c) = refl
are_part_fields a = refl

-- ---- the whole command, and a part of a bundle

pub command_back : (net : List ℕ) (a : Action) → IsPlainName net → IsAction a
    → command_of (kind_of a) (all_named (filled field.Net net ∷ entries_of a))
    ≡ Some (record { net = net; task = task.Act a })
command_back net a named is =
    let es = filled field.Net net ∷ entries_of a in
    let given = all_given es (names_apart a net) (named, are_entries a is) in
    rw (
      all_known (fields_of (Act (kind_of a))) es (are_known_fields a net),
      given.0,
      given_back a is (all_named es) given.1,
    )
    refl

entries_apart : (a : Action) → are_apart (entries_of a) ≡ true
entries_apart a = (and_parts _ _ (names_apart a [])).1

pub actions_come_back : ActionsComeBack
actions_come_back a is =
    given_back a is (all_named (entries_of a)) (all_given (entries_of a) (entries_apart a) (are_entries a is))

pub part_back : (a : Action) → IsAction a → part_of (kind_of a) (all_named (entries_of a)) ≡ Some a
part_back a is =
    rw (
      all_known (action_fields (kind_of a)) (entries_of a) (are_part_fields a),
      actions_come_back a is,
    )
    refl
