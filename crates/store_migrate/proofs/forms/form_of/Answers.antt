use Rattle.store_migrate.proofs.Common.{rules, ◌∙◌, sym}
use Rattle.std.proofs.lemmas.Bool.{false≢true}
use Rattle.store_migrate.proofs.Formed.{all_are, all_counted, analyzed_are, analyzed_counted, begun, bodies_are}
use Rattle.store_migrate.proofs.Formed.{bodies_counted, counted, none_counted, rows_are, rows_counted}
use Rattle.store_migrate.proofs.forms.form_of.Goals as goal

pub returns-then-not-is_begun-clause-known : goal.returns-then-not-is_begun-clause-known
returns-then-not-is_begun-clause-known g c form other same =
    absurd (false≢true (sym c.if-not-is_begun.true
    ∙ c.is_begun.ensures.1 (begun form c.schema-schema.result.now (c.schema-schema.ensures.value ∙ same))))

pub returns-in-9-eq8-clause-known : goal.returns-in-9-eq8-clause-known
returns-in-9-eq8-clause-known g c form other same =
    bodies_counted form c.len.result c.len-2.result c.in-9-eq8.is-0 other
    (counted form c.schema-schema.result.now c.len.result c.len-2.result (c.schema-schema.ensures.value ∙ same)
    c.len.ensures c.len-2.ensures)

pub returns-in-9-eq8-clause-exact : goal.returns-in-9-eq8-clause-exact
returns-in-9-eq8-clause-exact g c _ =
    sym c.schema-schema.ensures.value
    ∙ bodies_are c.schema-schema.result.now (c.is_begun.ensures.0 c.if-not-is_begun.false)
    (sym c.len.ensures ∙ c.in-9-eq8.is-0) (sym c.len-2.ensures ∙ c.in-9-eq8.is-1)

pub returns-in-13-eq14-clause-known : goal.returns-in-13-eq14-clause-known
returns-in-13-eq14-clause-known g c form other same =
    rows_counted form c.len.result c.len-2.result c.in-13-eq14.is-0 other
    (counted form c.schema-schema.result.now c.len.result c.len-2.result (c.schema-schema.ensures.value ∙ same)
    c.len.ensures c.len-2.ensures)

pub returns-in-13-eq14-clause-exact : goal.returns-in-13-eq14-clause-exact
returns-in-13-eq14-clause-exact g c _ =
    sym c.schema-schema.ensures.value
    ∙ rows_are c.schema-schema.result.now (c.is_begun.ensures.0 c.if-not-is_begun.false)
    (sym c.len.ensures ∙ c.in-13-eq14.is-0) (sym c.len-2.ensures ∙ c.in-13-eq14.is-1)

pub returns-in-14-eq15-clause-known : goal.returns-in-14-eq15-clause-known
returns-in-14-eq15-clause-known g c form other same =
    all_counted form c.len.result c.len-2.result c.in-14-eq15.is-0 other
    (counted form c.schema-schema.result.now c.len.result c.len-2.result (c.schema-schema.ensures.value ∙ same)
    c.len.ensures c.len-2.ensures)

pub returns-in-14-eq15-clause-exact : goal.returns-in-14-eq15-clause-exact
returns-in-14-eq15-clause-exact g c _ =
    sym c.schema-schema.ensures.value
    ∙ all_are c.schema-schema.result.now (c.is_begun.ensures.0 c.if-not-is_begun.false)
    (sym c.len.ensures ∙ c.in-14-eq15.is-0) (sym c.len-2.ensures ∙ c.in-14-eq15.is-1)

pub returns-in-15-eq15-clause-known : goal.returns-in-15-eq15-clause-known
returns-in-15-eq15-clause-known g c form other same =
    analyzed_counted form c.len.result c.len-2.result c.in-15-eq15.is-0 other
    (counted form c.schema-schema.result.now c.len.result c.len-2.result (c.schema-schema.ensures.value ∙ same)
    c.len.ensures c.len-2.ensures)

pub returns-in-15-eq15-clause-exact : goal.returns-in-15-eq15-clause-exact
returns-in-15-eq15-clause-exact g c _ =
    sym c.schema-schema.ensures.value
    ∙ analyzed_are c.schema-schema.result.now (c.is_begun.ensures.0 c.if-not-is_begun.false)
    (sym c.len.ensures ∙ c.in-15-eq15.is-0) (sym c.len-2.ensures ∙ c.in-15-eq15.is-1)

pub returns-in_default-clause-known : goal.returns-in_default-clause-known
returns-in_default-clause-known g c form other same =
    none_counted form c.len.result c.len-2.result (search rules) (search rules) (search rules) (search rules) other
    (counted form c.schema-schema.result.now c.len.result c.len-2.result (c.schema-schema.ensures.value ∙ same)
    c.len.ensures c.len-2.ensures)

pub returns-in_default-2-clause-known : goal.returns-in_default-2-clause-known
returns-in_default-2-clause-known g c form other same =
    none_counted form c.len.result c.len-2.result (search rules) (search rules) (search rules) (search rules) other
    (counted form c.schema-schema.result.now c.len.result c.len-2.result (c.schema-schema.ensures.value ∙ same)
    c.len.ensures c.len-2.ensures)

pub returns-in_default-3-clause-known : goal.returns-in_default-3-clause-known
returns-in_default-3-clause-known g c form other same =
    none_counted form c.len.result c.len-2.result (search rules) (search rules) (search rules) (search rules) other
    (counted form c.schema-schema.result.now c.len.result c.len-2.result (c.schema-schema.ensures.value ∙ same)
    c.len.ensures c.len-2.ensures)

pub returns-in_default-4-clause-known : goal.returns-in_default-4-clause-known
returns-in_default-4-clause-known g c form other same =
    none_counted form c.len.result c.len-2.result (search rules) (search rules) (search rules) (search rules) other
    (counted form c.schema-schema.result.now c.len.result c.len-2.result (c.schema-schema.ensures.value ∙ same)
    c.len.ensures c.len-2.ensures)

pub returns-in_default-5-clause-known : goal.returns-in_default-5-clause-known
returns-in_default-5-clause-known g c form other same =
    none_counted form c.len.result c.len-2.result (search rules) (search rules) (search rules) (search rules) other
    (counted form c.schema-schema.result.now c.len.result c.len-2.result (c.schema-schema.ensures.value ∙ same)
    c.len.ensures c.len-2.ensures)
