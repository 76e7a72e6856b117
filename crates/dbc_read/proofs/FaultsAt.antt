-- The fault at an item of a list.
use Rattle.dbc_read.proofs.Common.{◌≡◌, ◌<◌, ◌+◌, ℕ, List, Option, Some, None, length, take, drop, get_or, IfNone}
use Rattle.dbc_read.proofs.Common.{IfSome, ReadCode, ReadFault, MessageLine}
use Rattle.dbc_read.specs.Described.{described}
use Rattle.dbc_read.specs.Faults.{HaveSignalLines, IsFaultAt, IsFaultOfSignals, IsSignalsFault}
use Rattle.dbc_read.proofs.IteratorItems.{item_parts}

module _ {A : Type 0} (offset : A → ℕ) (IsRefused : List A → A → ReadCode → Type 0) (items : List A) where
  -- at the item at i, which is refused after those before it
  pub fault_at : (i : ℕ) (item : A) (fault : ReadFault) → i < length items → item ≡ get_or items i item
      → fault.at ≡ offset item
      → IsRefused (take i items) item fault.code → IsFaultAt offset IsRefused items fault
  fault_at i item fault lt is at refused = record {
    before = take i items;
    item = item;
    after = drop (i + 1) items;
    parts = item_parts items i item lt is;
    at = at;
    refused = refused;
  }

-- the fault of the signals of the message at i
pub signals_fault_at : (messages : List MessageLine) (i : ℕ) (line : MessageLine) (found : Option ReadFault)
    → i < length messages → line ≡ get_or messages i line
    → HaveSignalLines (take i messages) → IfSome found (IsFaultOfSignals (described line))
    → IfSome found (IsSignalsFault messages)
signals_fault_at messages i line None lt is first h = tt
signals_fault_at messages i line (Some fault) lt is first h = record {
  before = take i messages;
  line = line;
  after = drop (i + 1) messages;
  parts = item_parts messages i line lt is;
  first = first;
  is = h;
}

pub none_weaker : {A : Type 0} (found : Option A) (P Q : Type 0) → (P → Q) → IfNone found P → IfNone found Q
none_weaker None P Q f h = f h
none_weaker (Some x) P Q f h = tt

pub at_none : {A : Type 0} (found : Option A) (P : Type 0) → found ≡ None → IfNone found P → P
at_none None P e h = h
at_none (Some x) P e h = absurd cc
