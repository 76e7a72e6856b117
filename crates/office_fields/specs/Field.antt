-- The table of fields.
use Rattle.std.specs.Prelude.{ℕ, List, codes}
use Rattle.office_fields.specs.declared.field.Field.{Field}
use Rattle.office_fields.specs.declared.field.Field.TheVariants as field
use Rattle.office_fields.specs.declared.field.FieldKind.{FieldKind}
use Rattle.office_fields.specs.declared.field.FieldKind.TheVariants as kind
use Rattle.office_fields.specs.declared.field.Occurrence.{Occurrence}
use Rattle.office_fields.specs.declared.field.Occurrence.TheVariants.{Required, Optional, Repeated}

-- a field: its name, the kind of its values, and how often it may be given
pub record Row : Type 0 where
  pub name : List ℕ
  pub kind : FieldKind
  pub occurrence : Occurrence

-- exactly once
abbrev required : List ℕ → FieldKind → Row
required name k = record { name = name; kind = k; occurrence = Required }

-- at most once
abbrev optional : List ℕ → FieldKind → Row
optional name k = record { name = name; kind = k; occurrence = Optional }

-- any number of times, none too
abbrev repeated : List ℕ → FieldKind → Row
repeated name k = record { name = name; kind = k; occurrence = Repeated }

abbrev pub row_of : Field → Row
row_of field.Net = required (codes "net") kind.NetName
row_of field.Kind = required (codes "kind") kind.NetKind
row_of field.Reviews = required (codes "reviews") kind.Reviews
row_of field.Team = required (codes "team") kind.Team
row_of field.BlockForm = required (codes "form") kind.BlockForm
row_of field.First = required (codes "first") kind.Number
row_of field.Last = required (codes "last") kind.Number
row_of field.Name = required (codes "name") kind.Name
row_of field.IdentForm = required (codes "form") kind.IdentForm
row_of field.Length = required (codes "length") kind.Length
row_of field.Node = optional (codes "node") kind.Name
row_of field.Want = optional (codes "want") kind.Number
row_of field.Pdu = required (codes "pdu") kind.Addressing
row_of field.Priority = required (codes "priority") kind.Priority
row_of field.Source = required (codes "source") kind.Address
row_of field.Destination = optional (codes "destination") kind.Address
row_of field.Message = required (codes "message") kind.Name
row_of field.Signal = required (codes "signal") kind.Name
row_of field.Same = optional (codes "same") kind.Number
row_of field.Size = required (codes "size") kind.Size
row_of field.Order = required (codes "order") kind.ByteOrder
row_of field.Signed = required (codes "signed") kind.Truth
row_of field.Mux = optional (codes "mux") kind.Mark
row_of field.Factor = required (codes "factor") kind.Decimal
row_of field.Offset = required (codes "offset") kind.Decimal
row_of field.Minimum = required (codes "minimum") kind.Decimal
row_of field.Maximum = required (codes "maximum") kind.Decimal
row_of field.Unit = required (codes "unit") kind.Text
row_of field.Receiver = repeated (codes "receiver") kind.Name
row_of field.Start = optional (codes "start") kind.Start
row_of field.Value = repeated (codes "value") kind.ValueText
row_of field.File = required (codes "file") kind.Path
