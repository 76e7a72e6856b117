-- What holds under each schema that all tables of an office have: without statistics, and with them.
use Rattle.store_tables.proofs.Common.{inl, inr, sym, subst, Schema}
use Rattle.store_tables.specs.Schema.{IsCurrentSchema, analyzed_schema, office_schema}

pub record InEach (P : Schema → Type 0) : Type 0 where
  pub usual : P office_schema
  pub analyzed : P analyzed_schema

pub in_each : {P : Schema → Type 0} → InEach P → (s : Schema) → IsCurrentSchema s → P s
in_each {P} each s (inl is) = subst P (sym is) each.usual
in_each {P} each s (inr is) = subst P (sym is) each.analyzed
