-- Worked examples, computed from the definitions.
use Rattle.store_tables.proofs.Common.{◌≡◌, ℕ, List, [], ◌∷◌, pos, map, codes, false, true, slice_index_or, Err, Ok}
use Rattle.store_tables.proofs.Common.{Result, refl, ap, Null, Int, Text, Binary, table_defined_by, Table, Trees}
use Rattle.std.specs.Prelude.{◌≢◌}
use Rattle.sqlite.specs.Collation.TheVariants.{NoCase}
use Rattle.sqlite_schema.specs.declared.schema.Column.{Column}
use Rattle.sqlite_tied.specs.Compute.{everything}
use Rattle.store_tables.specs.Comparing.{IsBegun}
use Rattle.store_tables.specs.Schema.{analyzed_schema, office_schema, schema_13, held, integer, message, net, profile}
use Rattle.store_tables.specs.Schema.{receiver, reply, spn, statistics}
use Rattle.store_tables.specs.Statements.{statistics_in}
use Rattle.store_tables.specs.Tables.{values, keyed_values}

-- the tables in their order, and the trees that they get; those between are indexes of their keys
names : map (λ (t : Table). t.name) office_schema.tables
    ≡ codes "profile" ∷ codes "net" ∷ codes "message" ∷ codes "block" ∷ codes "held" ∷ codes "spn" ∷ codes "approval"
    ∷ codes "frozen" ∷ codes "reply" ∷ codes "msg" ∷ codes "sig" ∷ codes "receiver" ∷ codes "sigvalue"
    ∷ codes "part" ∷ []
unfolding office_schema
names = refl

trees : map (λ (t : Table). t.tree) office_schema.tables ≡ 0 ∷ 1 ∷ 3 ∷ 6 ∷ 8 ∷ 10 ∷ 11 ∷ 13 ∷ 15 ∷ 17 ∷ 20 ∷ 23 ∷ 25
    ∷ 27 ∷ []
unfolding office_schema
trees = refl

columns_of_message : map (λ (c : Column). c.name) message.columns ≡ codes "net" ∷ codes "number" ∷ codes "name"
    ∷ codes "owner" ∷ codes "body" ∷ []
columns_of_message = refl

-- a held number with rowid 3, and a used number, whose rowid it is
held_values : values (Int (pos 3) ∷ Text (codes "truck") ∷ Int (pos 256) ∷ []) ≡ Text (codes "truck") ∷ Int (pos 256)
    ∷ []
held_values = refl

used_values : keyed_values (Int (pos 500) ∷ Null ∷ []) ≡ Int (pos 500) ∷ []
used_values = refl

-- the tables of an office are the first ones of an office, and so are those of one before there were bundles
all_are_first : IsBegun office_schema
unfolding office_schema analyzed_schema
all_are_first = (refl, refl, refl)

those_before_bundles_are_first : IsBegun schema_13
unfolding analyzed_schema schema_13
those_before_bundles_are_first = (refl, refl, refl)

those_after_analyze_are_first : IsBegun analyzed_schema
unfolding analyzed_schema
those_after_analyze_are_first = (refl, refl, refl)

-- an office has no table after its fourteen, and the statistics are one more
none_after : (db : Trees) → statistics_in office_schema db ≡ []
unfolding office_schema
none_after db = refl

one_after : (db : Trees) → statistics_in analyzed_schema db ≡ map values (db 29) ∷ []
unfolding analyzed_schema
one_after db = refl

-- the text by which SQLite makes the statistics
statistics_defined : table_defined_by (codes "CREATE TABLE sqlite_stat1(tbl,idx,stat)") ≡ Ok statistics
unfolding everything
statistics_defined = refl

-- ---- texts of other tables than an office's

abbrev the_table : {E : Type 0} → Result Table E → Table
the_table (Ok table) = table
the_table (Err e) = profile

-- the table that the text defines isn't that one
abbrev IsOther : List ℕ → Table → Type 0
IsOther sql office = table_defined_by sql ≢ Ok office

-- its rows go with their network
held_with_a_foreign_key : IsOther
    (codes "CREATE TABLE held (net TEXT REFERENCES net (name) ON DELETE CASCADE, number INTEGER, PRIMARY KEY (net, number)) STRICT") held
unfolding everything
held_with_a_foreign_key same = let references = ap (λ r. (the_table r).references) same in cc

-- the keys A1 and a1 are one
reply_of_keys_in_any_case : IsOther
    (codes "CREATE TABLE reply (team TEXT, key TEXT COLLATE NOCASE, content BLOB, kind INTEGER, a INTEGER, b INTEGER, c INTEGER, PRIMARY KEY (team, key)) STRICT") reply
unfolding everything
reply_of_keys_in_any_case same =
    let collations : Binary ∷ NoCase ∷ Binary ∷ Binary ∷ Binary ∷ Binary ∷ Binary ∷ [] ≡ Binary ∷ Binary ∷ Binary
    ∷ Binary ∷ Binary ∷ Binary ∷ Binary ∷ [] =
    ap (λ r. map (λ (c : Column). c.collation) (the_table r).columns) same in
    cc

-- a number may be a text
held_of_any_values : IsOther (codes "CREATE TABLE held (net TEXT, number INTEGER, PRIMARY KEY (net, number))") held
unfolding everything
held_of_any_values same = let strict : false ∷ false ∷ [] ≡ true ∷ true ∷ [] =
    ap (λ r. map (λ (c : Column). c.is_strict) (the_table r).columns) same in cc

net_with_two_columns_exchanged : IsOther
    (codes "CREATE TABLE net (name TEXT PRIMARY KEY, reviews INTEGER, kind INTEGER, phase INTEGER, submitter TEXT, frame BLOB) STRICT") net
unfolding everything
net_with_two_columns_exchanged same =
    let second : codes "reviews" ≡ codes "kind" =
    ap (λ r. (slice_index_or (the_table r).columns 1 (integer [])).name) same in
    cc

receiver_without_its_key : IsOther
    (codes "CREATE TABLE receiver (net TEXT, number INTEGER, place INTEGER, seat INTEGER, name TEXT) STRICT") receiver
unfolding everything
receiver_without_its_key same = let uniques = ap (λ r. (the_table r).uniques) same in cc

spn_with_a_check : IsOther (codes "CREATE TABLE spn (number INTEGER PRIMARY KEY CHECK (number > 0)) STRICT") spn
unfolding everything
spn_with_a_check same = let checks = ap (λ r. (the_table r).checks) same in cc

-- the same table in another spelling
held_spelled_otherwise : table_defined_by
    (codes "create table [held](\"net\" text not null, number int not null, primary key(net, number))strict") ≡ Ok held
unfolding everything
held_spelled_otherwise = refl
