-- How many tables and indexes each form has, and that they are the first ones of an office with statistics.
use Rattle.store_migrate.proofs.Common.{◌≡◌, ℕ, length, take, refl, sym, subst, ap, ◌∙◌, arith, Schema}
use Rattle.std.specs.Prelude.{◌≢◌}
use Rattle.store_tables.specs.Schema.{analyzed_schema, office_schema, schema_13, schema_9}
use Rattle.store_migrate.specs.FormSchema.{schema_of}
use Rattle.store_tables.specs.Comparing.{IsBegun}
use Rattle.store_tables.proofs.OneSchema.{schema_is}
use Rattle.store_migrate.specs.declared.forms.SchemaForm.{SchemaForm}
use Rattle.store_migrate.specs.declared.forms.SchemaForm.TheVariants.{All, Analyzed, Bodies, Foreign, Rows}

nine : length schema_9.tables ≡ 9
unfolding schema_9
nine = refl

thirteen : length schema_13.tables ≡ 13
unfolding schema_13
thirteen = refl

fourteen : length office_schema.tables ≡ 14
unfolding office_schema
fourteen = refl

fifteen : length analyzed_schema.tables ≡ 15
unfolding analyzed_schema office_schema
fifteen = refl

eight_indexes : length schema_9.indexes ≡ 8
unfolding schema_9
eight_indexes = refl

fourteen_indexes : length schema_13.indexes ≡ 14
unfolding schema_13
fourteen_indexes = refl

fifteen_indexes : length office_schema.indexes ≡ 15
unfolding office_schema
fifteen_indexes = refl

as_many_indexes : length analyzed_schema.indexes ≡ 15
unfolding analyzed_schema office_schema
as_many_indexes = refl

-- the forms that have so many tables and indexes
abbrev pub HasCounts : ℕ → ℕ → SchemaForm → Type 0
HasCounts n k Bodies = (n ≡ 9) × (k ≡ 8)
HasCounts n k Rows = (n ≡ 13) × (k ≡ 14)
HasCounts n k All = (n ≡ 14) × (k ≡ 15)
HasCounts n k Analyzed = (n ≡ 15) × (k ≡ 15)
HasCounts n k Foreign = Unit {0}

pub counted : (form : SchemaForm) (schema : Schema) (n k : ℕ) → schema ≡ schema_of form → n ≡ length schema.tables
    → k ≡ length schema.indexes → HasCounts n k form
counted Bodies schema n k same tables indexes = (
  tables ∙ ap (λ (s : Schema). length s.tables) same ∙ nine,
  indexes ∙ ap (λ (s : Schema). length s.indexes) same
      ∙ eight_indexes,
)
counted Rows schema n k same tables indexes = (
  tables ∙ ap (λ (s : Schema). length s.tables) same ∙ thirteen,
  indexes ∙ ap (λ (s : Schema). length s.indexes) same
      ∙ fourteen_indexes,
)
counted All schema n k same tables indexes = (
  tables ∙ ap (λ (s : Schema). length s.tables) same ∙ fourteen,
  indexes ∙ ap (λ (s : Schema). length s.indexes) same
      ∙ fifteen_indexes,
)
counted Analyzed schema n k same tables indexes = (
  tables ∙ ap (λ (s : Schema). length s.tables) same ∙ fifteen,
  indexes ∙ ap (λ (s : Schema). length s.indexes) same
      ∙ as_many_indexes,
)
counted Foreign schema n k same tables indexes = tt

-- the form that is none is excluded, and each number of tables is that of one
pub bodies_counted : (form : SchemaForm) (n k : ℕ) → n ≡ 9 → form ≢ Foreign → HasCounts n k form → Bodies ≡ form
bodies_counted Bodies n k is other has = refl
bodies_counted Foreign n k is other has = absurd (other refl)
bodies_counted it n k is other has = absurd (omega (arith, is, has.0))

pub rows_counted : (form : SchemaForm) (n k : ℕ) → n ≡ 13 → form ≢ Foreign → HasCounts n k form → Rows ≡ form
rows_counted Rows n k is other has = refl
rows_counted Foreign n k is other has = absurd (other refl)
rows_counted it n k is other has = absurd (omega (arith, is, has.0))

pub all_counted : (form : SchemaForm) (n k : ℕ) → n ≡ 14 → form ≢ Foreign → HasCounts n k form → All ≡ form
all_counted All n k is other has = refl
all_counted Foreign n k is other has = absurd (other refl)
all_counted it n k is other has = absurd (omega (arith, is, has.0))

pub analyzed_counted : (form : SchemaForm) (n k : ℕ) → n ≡ 15 → form ≢ Foreign → HasCounts n k form → Analyzed ≡ form
analyzed_counted Analyzed n k is other has = refl
analyzed_counted Foreign n k is other has = absurd (other refl)
analyzed_counted it n k is other has = absurd (omega (arith, is, has.0))

-- so each pair of counts that is no form's
pub none_counted : (form : SchemaForm) (n k : ℕ) → ((n ≡ 9) × (k ≡ 8) → ⊥) → ((n ≡ 13) × (k ≡ 14) → ⊥)
    → ((n ≡ 14) × (k ≡ 15) → ⊥) → ((n ≡ 15) × (k ≡ 15) → ⊥) → form ≢ Foreign → HasCounts n k form
    → Foreign ≡ form
none_counted Bodies n k a b c d other has = absurd (a has)
none_counted Rows n k a b c d other has = absurd (b has)
none_counted All n k a b c d other has = absurd (c has)
none_counted Analyzed n k a b c d other has = absurd (d has)
none_counted Foreign n k a b c d other has = absurd (other refl)

-- each form's tables are the first ones of an office

first_9 : IsBegun schema_9
unfolding schema_9 office_schema analyzed_schema
first_9 = (refl, refl, refl)

first_13 : IsBegun schema_13
unfolding schema_13 office_schema analyzed_schema
first_13 = (refl, refl, refl)

first_14 : IsBegun office_schema
unfolding office_schema analyzed_schema
first_14 = (refl, refl, refl)

first_15 : IsBegun analyzed_schema
unfolding office_schema analyzed_schema
first_15 = (refl, refl, refl)

begun_of : (form : SchemaForm) → IsBegun (schema_of form)
begun_of Bodies = first_9
begun_of Rows = first_13
begun_of All = first_14
begun_of Analyzed = first_15
begun_of Foreign = (refl, refl, refl)

pub begun : (form : SchemaForm) (schema : Schema) → schema ≡ schema_of form → IsBegun schema
begun form schema same = subst IsBegun (sym same) (begun_of form)

-- the first ones, as many as a form has, are its own
same_counts : (schema office : Schema) → IsBegun schema → IsBegun office → length schema.tables ≡ length office.tables
    → length schema.indexes ≡ length office.indexes → schema ≡ office
same_counts schema office is own tables indexes =
    schema_is schema office (is.0 ∙ ap (λ n. take n analyzed_schema.tables) tables ∙ sym own.0)
    (is.1 ∙ ap (λ n. take n analyzed_schema.indexes) indexes ∙ sym own.1) (is.2 ∙ sym own.2)

pub bodies_are : (schema : Schema) → IsBegun schema → length schema.tables ≡ 9 → length schema.indexes ≡ 8
    → schema ≡ schema_of Bodies
bodies_are schema is tables indexes =
    same_counts schema schema_9 is first_9 (tables ∙ sym nine) (indexes ∙ sym eight_indexes)

pub rows_are : (schema : Schema) → IsBegun schema → length schema.tables ≡ 13 → length schema.indexes ≡ 14
    → schema ≡ schema_of Rows
rows_are schema is tables indexes =
    same_counts schema schema_13 is first_13 (tables ∙ sym thirteen) (indexes ∙ sym fourteen_indexes)

pub all_are : (schema : Schema) → IsBegun schema → length schema.tables ≡ 14 → length schema.indexes ≡ 15
    → schema ≡ schema_of All
all_are schema is tables indexes =
    same_counts schema office_schema is first_14 (tables ∙ sym fourteen) (indexes ∙ sym fifteen_indexes)

pub analyzed_are : (schema : Schema) → IsBegun schema → length schema.tables ≡ 15 → length schema.indexes ≡ 15
    → schema ≡ schema_of Analyzed
analyzed_are schema is tables indexes =
    same_counts schema analyzed_schema is first_15 (tables ∙ sym fifteen) (indexes ∙ sym as_many_indexes)
