-- The fields of a 29-bit identifier, and parameter group numbers (SAE J1939-21, the protocol data unit).
use Rattle.std.specs.Prelude.{◌≡◌, ◌≢◌, ◌≤◌, ◌<◌, ◌+◌, ◌*◌, ◌/◌, ◌%◌, ◌==◌, ◌&&◌, ◌||◌, not, nat_lt, ℕ, Bool, true}
use Rattle.std.specs.Prelude.{false, Option, Some, None, Result, Ok, Err, count_by, if◌then◌else◌}
use Rattle.std.specs.List.{range_with_len}
use Rattle.can_id.specs.declared.fault.IdFault.{IdFault}
use Rattle.can_id.specs.declared.fault.IdFault.TheVariants.{NotIdentifier, Priority, NotPgn, Destination}
use Rattle.can_id.specs.declared.ident.Ident.{Ident}
use Rattle.can_id.specs.declared.ident.Ident.TheVariants.{Std, Ext}

-- the fields of an identifier, from its top bits down
pub record Fields : Type 0 where
  pub priority : ℕ
  pub extended_page : Bool
  pub data_page : Bool
  pub pf : ℕ
  pub ps : ℕ
  pub source : ℕ

-- 3 bits of priority, and 8 of PDU format, of PDU specific and of source address
pub record AreInRange (f : Fields) : Type 0 where
  pub priority : f.priority ≤ 7
  pub pf : f.pf ≤ 255
  pub ps : f.ps ≤ 255
  pub source : f.source ≤ 255

abbrev pub page_bit : Bool → ℕ
page_bit false = 0
page_bit true = 1

-- the identifier that has these fields
abbrev pub number_of : Fields → ℕ
number_of f =
    f.priority * 67108864 + page_bit f.extended_page * 33554432 + page_bit f.data_page * 16777216 + f.pf * 65536 + f.ps
    * 256 + f.source

-- the PDU specific byte is a destination address (PDU1), and no group extension (PDU2)
abbrev pub is_pdu1 : ℕ → Bool
is_pdu1 pf = nat_lt pf 240

-- the parameter group number, whose low byte is the group extension, or 0 where there is none
abbrev pub pgn_of : Fields → ℕ
pgn_of f =
    page_bit f.extended_page * 131072 + page_bit f.data_page * 65536 + f.pf * 256 + (if is_pdu1 f.pf then 0 else f.ps)

-- where the message goes: 255 is every node
abbrev pub destination_of : Fields → ℕ
destination_of f = if is_pdu1 f.pf then f.ps else 255

-- these are the fields of the 29-bit identifier of this number
pub record AreFieldsOf (n : ℕ) (f : Fields) : Type 0 where
  pub ranges : AreInRange f
  pub number : number_of f ≡ n

-- the fields of the identifier; one of 11 bits has none
abbrev pub HasFields : Ident → Option Fields → Type 0
HasFields (Std n) found = found ≡ None
HasFields (Ext n) None = ⊥
HasFields (Ext n) (Some f) = AreFieldsOf n f

-- a message with these fields is of the group of this number
pub record IsOfGroup (n : ℕ) (f : Fields) : Type 0 where
  pub ranges : AreInRange f
  pub pgn : pgn_of f ≡ n

-- the number is that of a parameter group
abbrev pub IsPgn : ℕ → Type 0
IsPgn pgn = (f : Fields) × IsOfGroup pgn f

-- the number is that of a group without destination (PDU2)
abbrev pub IsPdu2Pgn : ℕ → Type 0
IsPdu2Pgn pgn = (f : Fields) × (IsOfGroup pgn f × (240 ≤ f.pf))

-- a message of this group has these fields
pub record IsBuilt (wanted pgn address sender : ℕ) (f : Fields) : Type 0 where
  pub group : IsOfGroup pgn f
  pub priority : f.priority ≡ wanted
  pub destination : destination_of f ≡ address
  pub source : f.source ≡ sender

-- why no message can have them, in the order of the tests
abbrev pub IsBuildFault : ℕ → ℕ → ℕ → IdFault → Type 0
IsBuildFault priority pgn destination NotIdentifier = ⊥
IsBuildFault priority pgn destination Priority = 7 < priority
IsBuildFault priority pgn destination NotPgn = (priority ≤ 7) × (IsPgn pgn → ⊥)
IsBuildFault priority pgn destination Destination = (priority ≤ 7) × IsPdu2Pgn pgn × (destination ≢ 255)

-- The same, computed.

abbrev pub page_of : ℕ → Bool
page_of n = n % 2 == 1

-- the fields of the 29-bit identifier of this number
abbrev pub fields_of : ℕ → Fields
fields_of n = record {
  priority = n / 67108864;
  extended_page = page_of (n / 33554432);
  data_page = page_of (n / 16777216);
  pf = (n / 65536) % 256;
  ps = (n / 256) % 256;
  source = n % 256;
}

abbrev pub ident_fields : Ident → Option Fields
ident_fields (Std n) = None
ident_fields (Ext n) = Some (fields_of n)

-- the PDU format of a parameter group number
abbrev pub format_of : ℕ → ℕ
format_of pgn = (pgn / 256) % 256

abbrev pub is_pgn : ℕ → Bool
is_pgn n = nat_lt n 262144 && (not (is_pdu1 (format_of n)) || n % 256 == 0)

-- the fields of a message of this group
abbrev pub fields_with : ℕ → ℕ → ℕ → ℕ → Fields
fields_with priority pgn destination source = record {
  priority = priority;
  extended_page = page_of (pgn / 131072);
  data_page = page_of (pgn / 65536);
  pf = format_of pgn;
  ps = if is_pdu1 (format_of pgn) then destination else pgn % 256;
  source = source;
}

abbrev pub build_fault : ℕ → ℕ → ℕ → Option IdFault
build_fault priority pgn destination =
    if nat_lt 7 priority then Some Priority
    else (if not (is_pgn pgn) then Some NotPgn
    else (if not (is_pdu1 (format_of pgn)) && not (destination == 255) then Some Destination else None))

abbrev pub fields_or_fault : Option IdFault → Fields → Result Fields IdFault
fields_or_fault None f = Ok f
fields_or_fault (Some fault) f = Err fault

abbrev pub build_result : ℕ → ℕ → ℕ → ℕ → Result Fields IdFault
build_result priority pgn destination source =
    fields_or_fault (build_fault priority pgn destination) (fields_with priority pgn destination source)

-- how many of the numbers below the limit are parameter group numbers
unfoldable pub pgn_count : ℕ → ℕ
pgn_count limit = count_by is_pgn (range_with_len 0 limit)
