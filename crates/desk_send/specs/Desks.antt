-- What is known of the desks of this machine, and of what they are sent.
use Rattle.std.specs.Prelude.{◌≡◌, ℕ, List, ◌++◌, Result, Err}
use Rattle.desk_client.specs.Received.{Reception}
use Rattle.office_types.specs.declared.look.LookForm.{LookForm}
use Rattle.desk_client.specs.declared.fault.AskFault.{AskFault}
use Rattle.desk_client.specs.declared.fault.AskFault.TheVariants.{Connect}

-- what came of asking or sending: what was received, or why nothing is known of it
abbrev pub Asked : Type 0
Asked = Result Reception AskFault

-- A turn: a connection to the desk on the port was tried, to send it these bytes and nothing else, and this came of it.
-- Where no connection was made, or it failed, nothing of the bytes or a beginning of them went out.
pub record Turn : Type 0 where
  pub port : ℕ
  pub bytes : List ℕ
  pub came : Asked

abbrev pub turn : ℕ → List ℕ → Asked → Turn
turn port bytes came = record { port = port; bytes = bytes; came = came }

-- what may come of asking the desk on a port for a target in a form, and of sending it the bytes of a request; and the
-- record: the turns that were taken so far, the first one first
pub record Desks : Type 1 where
  pub asked : ℕ → List ℕ → LookForm → Asked → Type 0
  pub sent : ℕ → List ℕ → Asked → Type 0
  pub taken : List Turn → Type 0

-- of a request nothing may come after that could not come before
abbrev pub AreStill : Desks → Desks → Type 0
AreStill before after = (port : ℕ) (request : List ℕ) (came : Asked) → after.sent port request came
    → before.sent port request came

-- just these turns were taken: the record is what it was, and then these
abbrev pub Takes : Desks → Desks → List Turn → Type 0
Takes before after turns = (earlier : List Turn) → before.taken earlier → after.taken (earlier ++ turns)

-- no turn was taken
abbrev pub TakesNone : Desks → Desks → Type 0
TakesNone before after = (earlier : List Turn) → before.taken earlier → after.taken earlier

-- nothing is known of any desk, nor of what it is sent
abbrev pub unknown_desks : Desks
unknown_desks = record {
  asked = λ port target form came. Unit {0};
  sent = λ port request came. Unit {0};
  taken = λ turns. Unit {0};
}

-- no desk can be connected to, and no record is kept of what is tried
abbrev pub no_desk : Desks
no_desk = record {
  asked = λ port target form came. came ≡ Err Connect;
  sent = λ port request came. came ≡ Err Connect;
  taken = λ turns. Unit {0};
}
