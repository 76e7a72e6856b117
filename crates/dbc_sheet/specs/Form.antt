-- The forms of a sheet's parts (Vector's DBC File Format Documentation, in the ranges of this project's dialect).
use Rattle.std.specs.Prelude.{◌^◌, ◌<◌, ◌≤◌, ⊤, List, All, IfSome}
use Rattle.bitlayout.specs.declared.layout.Layout.{Layout}
use Rattle.bitlayout.specs.declared.place.Mux.{Mux}
use Rattle.bitlayout.specs.declared.place.Mux.TheVariants.{Always, Multiplexor, Under}
use Rattle.can_id.specs.Ident.{IsIdentifier}
use Rattle.decimal.specs.Number.{IsDecimal}
use Rattle.dbc_words.specs.Limits.{length_limit, size_limit, spn_limit, start_limit}
use Rattle.dbc_words.specs.Name.{IsName}
use Rattle.dbc_words.specs.Text.{IsText}
use Rattle.dbc_sheet.specs.WellFormed.{AreFewTexts, IsWellFormed, IsWellFormedMessage}
use Rattle.dbc_sheet.specs.declared.message.Message.{Message}
use Rattle.dbc_sheet.specs.declared.node.Node.{Node}
use Rattle.dbc_sheet.specs.declared.sheet.Sheet.{Sheet}
use Rattle.dbc_sheet.specs.declared.signal.Signal.{Signal}
use Rattle.dbc_sheet.specs.declared.value_table.ValueTable.{ValueTable}
use Rattle.dbc_sheet.specs.declared.value_texts.ValueText.{ValueText}

pub record IsValueText (v : ValueText) : Type 0 where
  pub value : IsDecimal v.value
  pub text : IsText v.text

-- a start that a DBC file may write, and 1 to 64 bits
pub record IsLayout (l : Layout) : Type 0 where
  pub start : l.start ≤ start_limit
  pub least : 1 ≤ l.size
  pub most : l.size ≤ size_limit

-- a value of the multiplexor that a DBC file may write
abbrev pub IsMux : Mux → Type 0
IsMux Always = ⊤
IsMux Multiplexor = ⊤
IsMux (Under n) = n < 2 ^ 32

pub record IsSignal (s : Signal) : Type 0 where
  pub named : IsName s.name
  pub layout : IsLayout s.layout
  pub mux : IsMux s.mux
  pub factor : IsDecimal s.factor
  pub offset : IsDecimal s.offset
  pub minimum : IsDecimal s.minimum
  pub maximum : IsDecimal s.maximum
  pub unit : IsText s.unit
  pub receivers : All IsName s.receivers
  pub comment : IsText s.comment
  pub spn : s.spn ≤ spn_limit
  pub values : All IsValueText s.values

pub record IsMessage (m : Message) : Type 0 where
  pub ident : IsIdentifier m.ident
  pub named : IsName m.name
  pub length : m.length ≤ length_limit
  pub transmitter : IfSome m.transmitter IsName
  pub comment : IsText m.comment
  pub signals : All IsSignal m.signals

pub record IsNode (n : Node) : Type 0 where
  pub named : IsName n.name
  pub comment : IsText n.comment

pub record IsTable (t : ValueTable) : Type 0 where
  pub named : IsName t.name
  pub entries : All IsValueText t.entries

-- A sheet: it is well formed, and each part has its form.
pub record IsSheet (s : Sheet) : Type 0 where
  pub well_formed : IsWellFormed s
  pub version : IsText s.version
  pub comment : IsText s.comment
  pub nodes : All IsNode s.nodes
  pub tables : All IsTable s.tables
  pub messages : All IsMessage s.messages

-- What the type of each part guarantees: its form, and its share of what makes a sheet well formed.

pub record KeepsTexts (entries : List ValueText) : Type 0 where
  pub few : AreFewTexts entries
  pub each : All IsValueText entries

pub record KeepsSignal (s : Signal) : Type 0 where
  pub form : IsSignal s
  pub few : AreFewTexts s.values

pub record KeepsTable (t : ValueTable) : Type 0 where
  pub form : IsTable t
  pub few : AreFewTexts t.entries

pub record KeepsMessage (m : Message) : Type 0 where
  pub form : IsMessage m
  pub well_formed : IsWellFormedMessage m
