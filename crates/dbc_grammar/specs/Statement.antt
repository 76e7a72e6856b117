-- What one statement of a DBC file says (Vector's DBC File Format Documentation, in this project's dialect).
use Rattle.std.specs.Prelude.{ℕ, Bool, List, Option}
use Rattle.bitlayout.specs.declared.layout.Layout.{Layout}
use Rattle.bitlayout.specs.declared.place.Mux.{Mux}
use Rattle.can_id.specs.declared.ident.Ident.{Ident}
use Rattle.decimal.specs.Number.{Number}
use Rattle.dbc_words.specs.declared.keyword.Keyword.{Keyword}
use Rattle.dbc_words.specs.declared.value_type.ValueType.{ValueType}
use Rattle.dbc_sheet.specs.declared.value_texts.ValueText.{ValueText}

-- a signal as the statement of its message describes it: without comment, suspect parameter number and the like
pub record SignalLine : Type 0 where
  pub name : List ℕ
  pub layout : Layout
  pub signed : Bool
  pub mux : Mux
  pub factor : Number
  pub offset : Number
  pub minimum : Number
  pub maximum : Number
  pub unit : List ℕ
  pub receivers : List (List ℕ)

pub record MessageLine : Type 0 where
  pub ident : Ident
  pub name : List ℕ
  pub length : ℕ
  pub transmitter : Option (List ℕ)
  pub signals : List SignalLine

-- A statement about a message of the file cites its DBC number. None is a number above 4294967295, which no message
-- has.
abbrev pub Cited : Type 0
Cited = Option ℕ

pub data Content : Type 0 where
  VersionIs : List ℕ → Content
  NodesAre : List (List ℕ) → Content
  TableIs : List ℕ → List ValueText → Content
  MessageIs : MessageLine → Content
  CommentIs : List ℕ → Content
  NodeCommentIs : List ℕ → List ℕ → Content
  MessageCommentIs : Cited → List ℕ → Content
  SignalCommentIs : Cited → List ℕ → List ℕ → Content
  ValueTextsAre : Cited → List ℕ → List ValueText → Content
  ValueTypeIs : Cited → List ℕ → ValueType → Content
  SpnIs : Cited → List ℕ → ℕ → Content
  -- `NS_` and `BS_`: nothing of them is kept, and they aren't reported
  Dropped : Content
  -- skipped and reported
  PassedOver : Content

-- the offset of its first keyword, that keyword, and its content
pub record Statement : Type 0 where
  pub start : ℕ
  pub keyword : Keyword
  pub content : Content
