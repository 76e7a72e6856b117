use Rattle.store.proofs.Common.{List, ap, arith, ◌∙◌, state, Row, HasCleanDisk, Tables, no_rows}
use Rattle.sqlite.specs.Tree.{put_row}
use Rattle.store_statements.specs.Rows.{mark_row}
use Rattle.store_migrate.proofs.AllCarried.{marks_put}
use Rattle.store.proofs.opening.make_all.Goals as goal

pub returns-clause-made : goal.returns-clause-made
returns-clause-made g c clean no_table =
    let s1 = state g.S.Store c.make_tables.new.tx.conn.now in
    let s2 = state g.S.Store c.insert_profile.new.tx.conn.now in
    let clean2 : HasCleanDisk s2 = omega (arith, c.insert_profile-2.ensures.frame.survives.clean, clean) in
    let clean1 : HasCleanDisk s1 = omega (arith, c.insert_profile.ensures.frame.survives.clean, clean2) in
    let made = c.in_ok-make_tables.ensures.made clean1 no_table in
    let first = c.in_ok-insert_profile.ensures.added clean2 made.office in
    let second = c.in_ok-insert_profile-2.ensures.added clean first.office in (
      record {
        office = second.office;
        schema_is = second.same_schema ∙ first.same_schema ∙ made.schema_is;
        tables_are =
            second.tables_are ∙ ap (λ (t : Tables). record t { profile = put_row (mark_row 2 2) t.profile })
            first.tables_are
            ∙ ap (λ (t : Tables). record t { profile = put_row (mark_row 2 2) (put_row (mark_row 1 2) t.profile) })
            made.tables_are
            ∙ ap (λ (rows : List Row). record no_rows { profile = rows }) marks_put;
      },
      second.inside,
    )
