-- Worked examples, computed from the definitions.
use Rattle.store.proofs.Common.{◌≡◌, ◌∙◌, ℕ, true, false, [], ◌∷◌, Err, Ok, ap, arith, inl, inr, length, refl}
use Rattle.store.proofs.Common.{IsPermutation-refl, false≢true, Database, Schema, no_schema, opening, Answer, Arrival}
use Rattle.store.proofs.Common.{reported}
use Rattle.std.specs.Fmt.{digits}
use Rattle.std.specs.List.Sorted.{IsStrictlySortedBy}
use Rattle.std.specs.Prelude.{List, None, Result, Some, codes}
use Rattle.sqlite_schema.specs.declared.schema.View.{View}
use Rattle.sqlite.specs.declared.error.Error.TheVariants.{InvalidQuery, SqliteFailure}
use Rattle.sqlite.specs.declared.error.ErrorCode.TheVariants.{DiskFull, OutOfMemory}
use Rattle.store_tables.specs.Schema.{analyzed_schema, office_schema, schema_13, schema_9}
use Rattle.office_types.specs.declared.look.Look.TheVariants as look
use Rattle.office_types.specs.declared.look.LookForm.{LookForm}
use Rattle.office_types.specs.declared.look.LookForm.TheVariants.{Lines}
use Rattle.office_types.specs.declared.look.NetLook.{NetLook}
use Rattle.office_history.specs.declared.arrival.Answer.TheVariants.{KeyReused}
use Rattle.store.specs.declared.lost.Lost.{Lost}
use Rattle.store.specs.declared.lost.Lost.TheVariants.{Memory, Store}
use Rattle.store.specs.Looking.{IsShown}
use Rattle.store.specs.Lost.{lost_by, lost_number}
use Rattle.store.specs.Opening.{HasSameStatistics, MayMigrateFrom, MayOpen}
use Rattle.store.specs.Running.{FailsBy, answered_of, lost_of}

-- a lost arrival isn't in the history, one that is sent again is there twice, with both answers
the_answered : (a b : Arrival) (x : Answer)
    → answered_of (a ∷ b ∷ a ∷ b ∷ []) (Err Memory ∷ Ok x ∷ Ok x ∷ Ok KeyReused ∷ []) ≡ reported b x ∷ reported a x ∷
    reported b KeyReused ∷ []
the_answered a b x = refl

the_lost : (a b : Arrival) (x : Answer) → lost_of (a ∷ b ∷ a ∷ []) (Err Memory ∷ Ok x ∷ Err Store ∷ []) ≡ a ∷ a ∷ []
the_lost a b x = refl

-- after the first failure each arrival is lost by it, and the office has failed; out of memory is no failure
the_failed : (x : Answer) → FailsBy false (Err Memory ∷ Ok x ∷ Err Store ∷ Err Store ∷ []) true
the_failed x = (
  (λ was. absurd (false≢true was)),
  ((λ was. absurd (false≢true was)), ((λ was. absurd (false≢true was)), ((λ was. refl), refl))),
)

-- it answers nothing after that, nor is it well again
never_again : (x : Answer) → FailsBy true (Ok x ∷ []) false → ⊥
never_again x by = let wrong : ◌≡◌ {A = Result Answer Lost} (Ok x) (Err Store) = by.0 refl in cc

by_memory : lost_by (SqliteFailure OutOfMemory) ≡ Memory
by_memory = refl

by_disk : lost_by (SqliteFailure DiskFull) ≡ Store
by_disk = refl

by_rows : lost_by InvalidQuery ≡ Store
by_rows = refl

of_memory : lost_number Memory ≡ 71
of_memory = refl

-- ---- which tables are taken

none_is_taken : MayOpen no_schema × MayMigrateFrom no_schema
none_is_taken = (inl refl, inl refl)

those_without_parts_are_opened : MayOpen schema_13
those_without_parts_are_opened = inr (inl refl)

-- so are all tables after somebody ran ANALYZE on them
those_with_statistics_are_opened : MayOpen analyzed_schema
those_with_statistics_are_opened = inr (inr (inr refl))

-- those of the first offices are for `migrate` alone
nine_are_migrated : MayMigrateFrom schema_9
nine_are_migrated = inr (inl refl)

nine_are_not_opened : MayOpen schema_9 → ⊥
unfolding schema_9 schema_13 office_schema analyzed_schema
nine_are_not_opened (inl same) =
    let counts : ◌≡◌ {A = ℕ} 9 0 = ap (λ (s : Schema). length s.tables) same in omega (arith, counts)
nine_are_not_opened (inr (inl same)) =
    let counts : ◌≡◌ {A = ℕ} 9 13 = ap (λ (s : Schema). length s.tables) same in omega (arith, counts)
nine_are_not_opened (inr (inr (inl same))) =
    let counts : ◌≡◌ {A = ℕ} 9 14 = ap (λ (s : Schema). length s.tables) same in omega (arith, counts)
nine_are_not_opened (inr (inr (inr same))) =
    let counts : ◌≡◌ {A = ℕ} 9 15 = ap (λ (s : Schema). length s.tables) same in omega (arith, counts)

-- the office's tables with a view beside them aren't taken
one_view_more : (view : View) → MayMigrateFrom (record office_schema { views = view ∷ [] }) → ⊥
unfolding schema_9 schema_13 office_schema analyzed_schema
one_view_more view (inl same) = let views = ap (λ (s : Schema). s.views) same in cc
one_view_more view (inr (inl same)) = let views = ap (λ (s : Schema). s.views) same in cc
one_view_more view (inr (inr (inl same))) = let views = ap (λ (s : Schema). s.views) same in cc
one_view_more view (inr (inr (inr (inl same)))) = let views = ap (λ (s : Schema). s.views) same in cc
one_view_more view (inr (inr (inr (inr same)))) = let views = ap (λ (s : Schema). s.views) same in cc

-- ---- statistics

-- an office that had no statistics has none
none_came : (before after : Database) → before.schema ≡ office_schema → HasSameStatistics before after
    → after.schema ≡ office_schema
none_came before after none same = same.same_schema ∙ none

-- and those that there were are there
none_went : (before after : Database) → before.schema ≡ analyzed_schema → HasSameStatistics before after
    → after.schema ≡ analyzed_schema
none_went before after some same = same.same_schema ∙ some

-- ---- what is shown where nothing has come

no_network : (net : List ℕ) (l : NetLook) (form : LookForm) → IsShown [] opening (look.Net net l form) None
no_network net l form = refl

no_request : (team : List ℕ) → IsShown [] opening (look.Requests team Lines) (Some (codes "requests 0 refused 0\n"))
unfolding IsStrictlySortedBy digits
no_request team = (
  codes "requests 0 refused 0\n",
  refl,
  (
    [],
    record {
      listed = [];
      same = IsPermutation-refl [];
      ascending = tt;
      replied = λ k d below. absurd (omega arith);
      are = refl;
    },
    refl,
  ),
)
