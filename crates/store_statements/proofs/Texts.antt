-- What a text that writes makes of the tables, and what one that reads finds in them.
use Rattle.store_statements.proofs.Common.{◌≡◌, ℕ, List, false, Result, IfOk, Error, Row, Shown, State, IsCurrentSchema}
use Rattle.store_statements.proofs.Common.{tables_of}
use Rattle.std.proofs.Common.{Err}
use Rattle.std.specs.Prelude.{IsTrue, ◌⊎◌, IfErr}
use Rattle.sqlite.specs.declared.error.Error.TheVariants.{SqliteFailure}
use Rattle.sqlite.specs.declared.error.ErrorCode.TheVariants.{TransactionState}
use Rattle.sqlite.specs.Held.{state}
use Rattle.sqlite.specs.Listing.{understood}
use Rattle.sqlite.specs.Schema.{Schema}
use Rattle.sqlite.specs.State.{ExecutesInside, FailsToQuery, HasCleanDisk, IsTooLate}
use Rattle.sqlite.proofs.Callers.{IsPlain}
use Rattle.sqlite.specs.declared.transaction.Transaction.{Transaction}
use Rattle.sqlite_trees.specs.declared.store.Store.{Ghosts}
use Rattle.store_tables.specs.Frames.{Asks, Edits, ReadsOnly}
use Rattle.store_tables.proofs.Changing.{only_made, only_rows}
use Rattle.store_tables.proofs.Keeping.{reads_only}
use Rattle.store_tables.specs.Statements.{LeavesNothing, Makes}
use Rattle.store_tables.specs.Tables.{IsOffice, Tables}

-- inside a transaction, if the text ran, it made these tables of those that there were, and says so many rows
unfoldable pub Runs : List ℕ → Row → (Tables → Tables) → (Tables → ℕ) → Type 1
Runs sql params change count = (old new : State) (r : Result ℕ Error) → IsOffice old.now
    → (old.in_transaction ≡ false → r ≡ Err (SqliteFailure TransactionState))
    → (IsTrue old.in_transaction → ExecutesInside 0 sql params old new r)
    → IfOk r (λ rows. Makes change old new × (rows ≡ count (tables_of old.now.trees)))

-- if the text was read, this holds of the tables and of the rows that it shows
unfoldable pub Queries : {X : Type 0} → (X → List Row) → List ℕ → Row → (Tables → List Row → Type 0) → Type 1
Queries {X} rows_of sql params IsFound = (old new : State) (r : Result X Error) → IsCurrentSchema old.now.schema
    → IfOk r (λ x. Shown sql params old new (rows_of x)) → IfOk r (λ x. IsFound (tables_of old.now.trees) (rows_of x))

-- on a transaction: what a text that ran made of the tables, and how many rows it says
pub edits : {S : Type 0} (g : Ghosts S) (old new : Transaction S) (r : Result ℕ Error) (sql : List ℕ) (params : Row)
    (change : Tables → Tables) (count : Tables → ℕ) → Runs sql params change count
    → ((state g old.conn.now).in_transaction ≡ false
    → (r ≡ Err (SqliteFailure TransactionState)) × (new.conn.now ≡ old.conn.now))
    → (HasCleanDisk (state g new.conn.now) → IsTrue (state g old.conn.now).in_transaction
    → ExecutesInside 0 sql params (state g old.conn.now) (state g new.conn.now) r)
    → Edits g old new r change × Asks g old new r (λ rows t. rows ≡ count t)
unfolding Runs
edits g old new r sql params change count does ended ran = (
  λ clean office. only_made _ _ r (does _ _ r office (λ no. (ended no).0) (ran clean)),
  λ clean office. only_rows _ _ r (does _ _ r office (λ no. (ended no).0) (ran clean)),
)

-- what one that was read finds, and that it only reads
pub shows : {S X : Type 0} (g : Ghosts S) (old new : Transaction S) (rows_of : X → List Row) (r : Result X Error)
    (sql : List ℕ) (params : Row) (IsFound : Tables → List Row → Type 0) → Queries rows_of sql params IsFound
    → ((s : Schema) → IsCurrentSchema s → IsPlain (understood s sql)) → new.conn.ghost_name ≡ old.conn.ghost_name
    → (HasCleanDisk (state g new.conn.now)
    → IfOk r (λ x. Shown sql params (state g old.conn.now) (state g new.conn.now) (rows_of x)))
    → (HasCleanDisk (state g new.conn.now)
    → IfErr r (λ e. FailsToQuery sql params (state g old.conn.now) (state g new.conn.now) e
    ⊎ IsTooLate sql params (state g old.conn.now) (state g new.conn.now) e))
    → LeavesNothing (state g old.conn.now) (state g new.conn.now)
    → Asks g old new r (λ x t. IsFound t (rows_of x)) × ReadsOnly g old new r
unfolding Queries
shows g old new rows_of r sql params IsFound found plain name ok err left = (
  λ clean office. found _ _ r office.schema (ok clean),
  reads_only g old new rows_of sql params r plain name ok err left,
)
