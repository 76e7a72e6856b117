-- What is shown of what is remembered.
use Rattle.store.proofs.Common.{ℕ, List, Option, Answered, net_named, Look, Tables}
use Rattle.office_types.specs.declared.look.Look.TheVariants as look
use Rattle.store_looks.specs.Seen.{IsTextOn}
use Rattle.store.specs.Holds.{Holds}
use Rattle.store.specs.Looking.{IsShown}

-- on tables that hold a history, the text of a look at a network is that of the office
pub remembered_shown : (h : List Answered) (t : Tables) (holds : Holds h t) (l : Look) (text : Option (List ℕ))
    → IsTextOn l text t → IsShown h holds.holds.office l text
remembered_shown h t holds (look.Net net l form) text on =
    on (net_named holds.holds.office net) (holds.holds.nets net) holds.holds.office.book holds.holds.book
remembered_shown h t holds (look.Page net) text on =
    on (net_named holds.holds.office net) (holds.holds.nets net) holds.holds.office.book holds.holds.book
remembered_shown h t holds (look.ReleasePage net number) text on =
    on (net_named holds.holds.office net) (holds.holds.nets net) holds.holds.office.book holds.holds.book
remembered_shown h t holds l text on = absurd on
