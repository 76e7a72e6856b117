-- Why a call is lost.
use Rattle.std.specs.Prelude.{◌≢◌, ℕ, List, ◌++◌, codes, decimal}
use Rattle.sqlite.specs.declared.error.Error.{Error}
use Rattle.sqlite.specs.declared.error.Error.TheVariants.{SqliteFailure}
use Rattle.sqlite.specs.declared.error.ErrorCode.TheVariants.{OutOfMemory}
use Rattle.store.specs.declared.lost.Lost.{Lost}
use Rattle.store.specs.declared.lost.Lost.TheVariants.{Memory, Store, NewerProfile, OlderProfile}

abbrev pub lost_number : Lost → ℕ
lost_number Memory = 71
lost_number Store = 72
lost_number NewerProfile = 73
lost_number OlderProfile = 74

abbrev pub lost_text : Lost → List ℕ
lost_text lost = codes "lost " ++ decimal (lost_number lost)

-- an error of the database is that memory ran out, or else one of the store
abbrev pub lost_by : Error → Lost
lost_by (SqliteFailure OutOfMemory) = Memory
lost_by e = Store

-- the loss isn't that the tables are of another profile, which only opening finds
abbrev pub IsOfCall : Lost → Type 0
IsOfCall lost = (lost ≢ NewerProfile) × (lost ≢ OlderProfile)
