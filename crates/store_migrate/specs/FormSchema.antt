-- The tables of each form.
use Rattle.sqlite.specs.Schema.{Schema}
use Rattle.store_tables.specs.Schema.{analyzed_schema, no_schema, office_schema, schema_13, schema_9}
use Rattle.store_migrate.specs.declared.forms.SchemaForm.{SchemaForm}
use Rattle.store_migrate.specs.declared.forms.SchemaForm.TheVariants.{All, Analyzed, Bodies, Foreign, Rows}

-- those of no office are none
abbrev pub schema_of : SchemaForm → Schema
schema_of Bodies = schema_9
schema_of Rows = schema_13
schema_of All = office_schema
schema_of Analyzed = analyzed_schema
schema_of Foreign = no_schema

-- those of a form once all tables of an office are made: statistics are there only if they were there
abbrev pub current_schema_of : SchemaForm → Schema
current_schema_of Analyzed = analyzed_schema
current_schema_of form = office_schema
