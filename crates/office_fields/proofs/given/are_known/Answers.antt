use Rattle.std.proofs.Common.{rules, tests, ◌∙◌}
use Rattle.std.proofs.lemmas.Iterator.{YieldsList-from_slice}
use Rattle.std.proofs.lemmas.Iterator.Search.{all_from_yields_List}
use Rattle.office_fields.specs.Given.{is_name_of}
use Rattle.office_fields.proofs.GivenNames.{known_views}
use Rattle.office_fields.proofs.given.are_known.Goals as goal

pub returns : goal.returns
returns c =
    all_from_yields_List (λ v. is_name_of c.args.fields.now v.name.now) _ _ c.all.result c.all.ensures.ran
    (YieldsList-from_slice c.args.values.now cc) (λ x b q k. search (rules, tests))
    ∙ known_views c.args.fields.now c.args.values.now
