-- The live message that a command names.
use Rattle.office_law.proofs.Common.{◌≡◌, ℕ, List, Option, Some, subst, Contains, bytes_eq, All-contains, Test}
use Rattle.office_law.proofs.Common.{KeepsMessage, IsClearMessage, Node, sheet_of, Refusal, LiveMessage, Net, Phase}
use Rattle.office_law.proofs.Common.{live_named, IsNet, on_message}
use Rattle.office_law.proofs.Lists.{Contains-found}
use Rattle.office_law.proofs.NoTestHolds.{NoneHolds}
use Rattle.office_law.proofs.Sheets.{Contains-map, keeps_message}

-- the live message of a name is live
pub found_there : (net : Net) (name : List ℕ) (m : LiveMessage) → live_named net.live name ≡ Some m
    → Contains net.live m
found_there net called m e = Contains-found (λ l. bytes_eq l.message.name called) net.live m e

-- the tests of the message that is found
pub passed_on : (team : List ℕ) (phase : Phase) (nodes : List Node) (o : Option LiveMessage)
    (tests : LiveMessage → List (Test Refusal)) (m : LiveMessage) → o ≡ Some m
    → NoneHolds (on_message team (record { phase = phase; nodes = nodes; found = o }) tests) → NoneHolds (tests m)
passed_on team phase nodes o tests m e h =
    (subst (λ (v : Option LiveMessage). NoneHolds
    (on_message team (record { phase = phase; nodes = nodes; found = v }) tests)) e h).1.1.1

pub live_kept : (net : Net) (m : LiveMessage) → IsNet net → Contains net.live m → KeepsMessage m.message
live_kept net m h c = keeps_message (sheet_of net) m.message h.live.sheet
    (Contains-map (λ (l : LiveMessage). l.message) net.live m c)

pub live_clear : (net : Net) (m : LiveMessage) → IsNet net → Contains net.live m → IsClearMessage m.message
live_clear net m h c = All-contains IsClearMessage (sheet_of net).messages m.message h.live.clear
    (Contains-map (λ (l : LiveMessage). l.message) net.live m c)
