use Rattle.store_statements.proofs.Common.{rules, state, IsOfficeSchema}
use Rattle.std.specs.Prelude.{OnOk}
use Rattle.sqlite.specs.State.{HasCleanDisk, IsUnchanged}
use Rattle.store_tables.proofs.Keeping.{query_inside_same, query_alone_keeps, query_survives}
use Rattle.store_statements.proofs.ProfileTexts.{profile_found, profile_text, profile_plain}
use Rattle.store_statements.proofs.profile.select_profile.Goals as goal

pub returns-clause-found : goal.returns-clause-found
returns-clause-found g c clean schema =
    profile_found (λ rows. rows.items) (state g.S.Store c.args.conn.now) (state g.S.Store c.query_all.new.self)
    c.query_all.result schema (c.query_all.ensures.ok clean)

pub returns-clause-frame : goal.returns-clause-frame
returns-clause-frame g c =
    let old = state g.S.Store c.args.conn.now in
    let new = state g.S.Store c.query_all.new.self in
    let same : HasCleanDisk new → IsOfficeSchema old.now.schema → OnOk c.query_all.result (IsUnchanged old new) =
    λ clean schema. query_inside_same (λ rows. rows.items) profile_text _ old new c.query_all.result
    (profile_plain _ schema) (c.query_all.ensures.ok clean) in
    record {
      same = same;
      kept = λ clean schema. query_alone_keeps profile_text _ old new c.query_all.result (same clean schema)
          (c.query_all.ensures.err clean);
      mode = search rules;
      survives = λ schema. query_survives profile_text _ old new (profile_plain _ schema) c.query_all.ensures.survives;
      clean = search rules;
    }
