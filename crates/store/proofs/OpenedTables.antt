-- Tables as an office is opened on them.
use Rattle.store.proofs.Common.{◌≡◌, ◌⊎◌, ℕ, [], None, refl, sym, ap, subst, inl, inr, length, ◌∙◌, arith, IsTrue}
use Rattle.store.proofs.Common.{All-nil, IsPermutation-refl, Database, Schema, State, IsCurrentSchema, IsOfficeSchema}
use Rattle.store.proofs.Common.{no_schema, opening, IsInRange, histories_grow, no_rows, same_net}
use Rattle.store_tables.specs.Schema.{analyzed_schema, office_schema, schema_13, schema_9}
use Rattle.store_rows.proofs.Fresh.{no_net}
use Rattle.store_rows.proofs.Listing.{none_listed}
use Rattle.store_changes.proofs.Kept.{none_kept}
use Rattle.store.specs.Holds.{Holds}
use Rattle.store.specs.Holding.{Holding, Keeps}
use Rattle.store.specs.Opening.{IsNew, MayOpen, new_tables}

-- no table is not those of an office, and those of one time aren't those of another
pub apart_9 : no_schema ≡ schema_9 → ⊥
unfolding schema_9
apart_9 same = let tables = ap (λ (s : Schema). s.tables) same in cc

pub apart_13 : no_schema ≡ schema_13 → ⊥
unfolding schema_13
apart_13 same = let tables = ap (λ (s : Schema). s.tables) same in cc

apart_14 : no_schema ≡ office_schema → ⊥
unfolding office_schema
apart_14 same = let tables = ap (λ (s : Schema). s.tables) same in cc

apart_15 : no_schema ≡ analyzed_schema → ⊥
unfolding office_schema analyzed_schema
apart_15 same = let tables = ap (λ (s : Schema). s.tables) same in cc

pub apart : (s : Schema) → s ≡ no_schema → IsCurrentSchema s → ⊥
apart s none (inl all) = apart_14 (sym none ∙ all)
apart s none (inr analyzed) = apart_15 (sym none ∙ analyzed)

pub none_of_office : (s : Schema) → s ≡ no_schema → IsOfficeSchema s → ⊥
none_of_office s no_table office = elim office [
  | inl nine ↦ apart_9 (sym no_table ∙ nine)
  | inr rest ↦ elim rest [ inl thirteen ↦ apart_13 (sym no_table ∙ thirteen) | inr all ↦ apart s no_table all ]
]

nine_or_13 : schema_9 ≡ schema_13 → ⊥
unfolding schema_9 schema_13
nine_or_13 same =
    let counts : ◌≡◌ {A = ℕ} 9 13 = ap (λ (s : Schema). length s.tables) same in omega (arith, counts)

nine_or_all : schema_9 ≡ office_schema → ⊥
unfolding schema_9 office_schema
nine_or_all same =
    let counts : ◌≡◌ {A = ℕ} 9 14 = ap (λ (s : Schema). length s.tables) same in omega (arith, counts)

pub nine_or_15 : schema_9 ≡ analyzed_schema → ⊥
unfolding schema_9 office_schema analyzed_schema
nine_or_15 same =
    let counts : ◌≡◌ {A = ℕ} 9 15 = ap (λ (s : Schema). length s.tables) same in omega (arith, counts)

-- tables with live messages as bodies are never completed, and never opened
pub never_completed_9 : (s : Schema) → s ≡ schema_9 → (s ≡ schema_13) ⊎ IsCurrentSchema s → ⊥
never_completed_9 s nine (inl thirteen) = nine_or_13 (sym nine ∙ thirteen)
never_completed_9 s nine (inr (inl all)) = nine_or_all (sym nine ∙ all)
never_completed_9 s nine (inr (inr analyzed)) = nine_or_15 (sym nine ∙ analyzed)

pub never_opened_9 : (s : Schema) → s ≡ schema_9 → MayOpen s → ⊥
never_opened_9 s nine (inl no_table) = apart_9 (sym no_table ∙ nine)
never_opened_9 s nine (inr later) = never_completed_9 s nine later

-- tables that were just made hold the empty history
new_hold : Holds [] new_tables
new_hold = record {
  holds = record {
    office = opening;
    legal = histories_grow.begins;
    in_range = All-nil IsInRange;
    book = record { blocks = none_listed; used = none_listed };
    nets = λ name. same_net name no_rows new_tables None (record { rest = refl; live = refl }) (no_net name);
    replies = none_kept;
    parts = IsPermutation-refl [];
    profile = refl;
  };
  emptied = refl;
  under = tt;
}

pub new_keeps : (db : Database) → IsNew db → Keeps [] db.trees
new_keeps db new = record { office = new.office.trees; holds = subst (Holds []) (sym new.tables_are) new_hold }

pub new_holding : (s : State) → IsNew s.now → IsTrue s.is_open → Holding [] s
new_holding s new is_open = record { is_open = is_open; keeps = new_keeps s.now new }
