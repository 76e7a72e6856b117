-- Worked examples: the rows of the profile, and tables as each office made them, which hold the empty history.
use Rattle.store_migrate.proofs.Common.{◌≡◌, [], ◌∷◌, pos, refl, IsPermutation-refl, Int, One, Two, Answered}
use Rattle.store_migrate.proofs.Common.{none_listed}
use Rattle.std.proofs.lemmas.List.Elements.{All-nil}
use Rattle.office_rules.specs.Step.{opening}
use Rattle.store_tables.specs.Tables.{no_rows}
use Rattle.office_history.specs.Laws.{IsInRange}
use Rattle.office_history.proofs.Histories.{histories_grow}
use Rattle.store_changes.proofs.Kept.{none_kept}
use Rattle.store_migrate.specs.Carried.{but_live}
use Rattle.store_migrate.specs.Forms.{HoldsAsBodies, HoldsAsRows, body_marks, row_marks}
use Rattle.store_migrate.proofs.AllCarried.{no_rows_listed}

rows_of_the_first : row_marks One ≡ (Int (pos 1) ∷ Int (pos 1) ∷ []) ∷ (Int (pos 2) ∷ Int (pos 2) ∷ []) ∷ []
rows_of_the_first = refl

rows_of_the_second : row_marks Two ≡ (Int (pos 1) ∷ Int (pos 2) ∷ []) ∷ (Int (pos 2) ∷ Int (pos 2) ∷ []) ∷ []
rows_of_the_second = refl

-- the row of the profile is no live message's
profile_is_no_live_message : but_live (record no_rows { msg = [] ∷ []; profile = body_marks })
    ≡ (record no_rows { profile = body_marks })
profile_is_no_live_message = refl

first_office : HoldsAsBodies [] (record no_rows { profile = body_marks })
first_office = record {
  holds = record {
    office = opening;
    legal = histories_grow.begins;
    in_range = All-nil IsInRange;
    book = record { blocks = none_listed; used = none_listed };
    nets = λ name. record { rest = refl; live = none_listed };
    replies = none_kept;
    parts = IsPermutation-refl [];
    profile = refl;
  };
  alone = record { msg = refl; sig = refl; receiver = refl; sigvalue = refl; part = refl };
  under = All-nil (λ (a : Answered). a.profile ≡ One);
}

office_of_today : HoldsAsRows Two [] (record no_rows { profile = row_marks Two })
office_of_today = record {
  holds = record {
    office = opening;
    legal = histories_grow.begins;
    in_range = All-nil IsInRange;
    book = record { blocks = none_listed; used = none_listed };
    nets = λ name. record { rest = refl; live = no_rows_listed name };
    replies = none_kept;
    parts = IsPermutation-refl [];
    profile = refl;
  };
  emptied = refl;
  under = tt;
}
