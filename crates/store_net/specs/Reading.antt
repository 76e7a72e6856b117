-- Words for what is read: whatever the tables have under a name, this holds of it and of what is read.
use Rattle.std.specs.Prelude.{◌≡◌, ℕ, true, List, IfOk, IfSome, Option, Some, Result}
use Rattle.dbc_sheet.specs.declared.signal.Signal.{Signal}
use Rattle.office_facts.specs.Excerpt.{fits}
use Rattle.office_facts.specs.FactsOf.{facts_in}
use Rattle.office_facts.specs.Scope.{Scope}
use Rattle.office_facts.specs.declared.excerpt.Excerpt.{Excerpt}
use Rattle.store_tables.specs.Tables.{Tables}
use Rattle.office_types.specs.declared.state.Net.{Net}
use Rattle.store_rows.specs.Live.{AreSignalsOf, live_rows}
use Rattle.store_rows.specs.NetIn.{IsNetAt}
use Rattle.store_net.specs.Excerpts.{IsReadIn}

-- the network under the name, if there is one
abbrev pub OnNet : {X : Type 0} → List ℕ → (Option Net → X → Type 0) → X → Tables → Type 0
OnNet name Holds found t = (net : Option Net) → IsNetAt name t net → Holds net found

-- the network under the name, where there is one
abbrev pub OnNetThere : {X : Type 0} → List ℕ → (Net → X → Type 0) → X → Tables → Type 0
OnNetThere name Holds found t = (net : Net) → IsNetAt name t (Some net) → Holds net found

-- the parts of the network under the name that an excerpt reads
abbrev pub OnParts : {X : Type 0} → List ℕ → (Option Net → X → Type 0) → X → Tables → Type 0
OnParts name Holds found t = (net : Option Net) → IsReadIn name t net → Holds net found

-- the signals of the network's message of the number
abbrev pub OnSignals : {X : Type 0} → List ℕ → ℕ → (List Signal → X → Type 0) → X → Tables → Type 0
OnSignals name number Holds found t = (signals : List Signal) → AreSignalsOf name number (live_rows name t) signals
    → Holds signals found

-- if an excerpt is read, it fits the scope
abbrev pub IfReadFits : {E : Type 0} → Scope → Result (Option Excerpt) E → Type 0
IfReadFits scope result = IfOk result (λ found. IfSome found (λ e. fits scope (facts_in e) ≡ true))
