-- Each difference has its opposite the other way round.
use Rattle.dbc_compare.proofs.Common.{◌≡◌, None, inl, inr, refl, subst, IsSheet, node_name, table_name, Node, Sheet}
use Rattle.dbc_compare.proofs.Common.{ValueTable}
use Rattle.dbc_compare.specs.Differences.{differences, node_changes, sheet_changes, sheet_differences, table_changes}
use Rattle.dbc_compare.specs.Differences.{thing_differences}
use Rattle.dbc_compare.specs.Fields.{node_fields, none_breaks, sheet_fields, table_fields}
use Rattle.dbc_compare.specs.Laws.{IsSwapped, swapped, swapped_change, swapped_place}
use Rattle.dbc_compare.specs.declared.difference.Alteration.{Alteration}
use Rattle.dbc_compare.specs.declared.difference.Alteration.TheVariants as change
use Rattle.dbc_compare.specs.declared.difference.Difference.{Difference}
use Rattle.dbc_compare.specs.declared.place.Region.{Region}
use Rattle.dbc_compare.specs.declared.place.Region.TheVariants as place
use Rattle.dbc_compare.proofs.ChangeLists.{list_swapped}
use Rattle.dbc_compare.proofs.Members.{In, in_either, in_from, in_left, in_right, in_to}
use Rattle.dbc_compare.proofs.MessageLists.{messages_swapped}
use Rattle.dbc_compare.proofs.ThingLists.{about_swapped, things_swapped}
use Rattle.dbc_compare.proofs.ToldSheets.{all_keep}

-- ---- twice the other way round

place_twice : (p : Region) → swapped_place (swapped_place p) ≡ p
place_twice place.Sheet = refl
place_twice place.Nodes = refl
place_twice place.Tables = refl
place_twice (place.Message old new) = refl

change_twice : (c : Alteration) → swapped_change (swapped_change c) ≡ c
change_twice change.Added = refl
change_twice change.Removed = refl
change_twice change.Reordered = refl
change_twice (change.Changed f breaks old new) = refl

twice : (d : Difference) → swapped (swapped d) ≡ d
twice d = λ i. record { place = place_twice d.place i; name = d.name; change = change_twice d.change i }

-- ---- sheets

sheet_swapped : (old new : Sheet) (d : Difference) → In d (sheet_differences old new)
    → In (swapped d) (sheet_differences new old)
sheet_swapped old new d h =
    about_swapped place.Sheet None (sheet_changes old new) (sheet_changes new old) d h
    (list_swapped none_breaks none_breaks (λ f. refl) (sheet_fields old) (sheet_fields new) (refl, (refl, tt)))

module _ (old new : Sheet) (is_old : IsSheet old) (is_new : IsSheet new) where
  nodes_swapped : (d : Difference)
      → In d (thing_differences place.Nodes node_name node_changes old.nodes new.nodes)
      → In (swapped d) (thing_differences place.Nodes node_name node_changes new.nodes old.nodes)
  nodes_swapped d h =
      things_swapped node_name node_changes place.Nodes old.nodes new.nodes is_new.well_formed.nodes.apart
      (λ (a b : Node). list_swapped none_breaks none_breaks (λ f. refl) (node_fields a) (node_fields b) (refl, tt)) d h

  tables_swapped : (d : Difference)
      → In d (thing_differences place.Tables table_name table_changes old.tables new.tables)
      → In (swapped d) (thing_differences place.Tables table_name table_changes new.tables old.tables)
  tables_swapped d h =
      things_swapped table_name table_changes place.Tables old.tables new.tables is_new.well_formed.tables.apart
      (λ (a b : ValueTable). list_swapped none_breaks none_breaks (λ f. refl) (table_fields a) (table_fields b)
      (refl, tt)) d h

  swapped_in : (d : Difference) → In d (differences old new) → In (swapped d) (differences new old)
  swapped_in d h = elim (in_either (sheet_differences old new) _ d h) [
    | inl own ↦ in_left (sheet_differences new old) _ (swapped d) (sheet_swapped old new d own)
    | inr first ↦ in_right (sheet_differences new old) _ (swapped d)
        (elim (in_either (thing_differences place.Nodes node_name node_changes old.nodes new.nodes) _ d first) [
          | inl nodes ↦ in_left (thing_differences place.Nodes node_name node_changes new.nodes old.nodes) _ (swapped d)
              (nodes_swapped d nodes)
          | inr second ↦ in_right (thing_differences place.Nodes node_name node_changes new.nodes old.nodes) _
              (swapped d)
              (elim
              (in_either (thing_differences place.Tables table_name table_changes old.tables new.tables) _ d second) [
                | inl tables ↦ in_left (thing_differences place.Tables table_name table_changes new.tables old.tables) _
                    (swapped d) (tables_swapped d tables)
                | inr third ↦ in_right (thing_differences place.Tables table_name table_changes new.tables old.tables) _
                    (swapped d)
                    (messages_swapped old.messages new.messages is_old.well_formed.together
                    is_new.well_formed.together (all_keep old is_old) (all_keep new is_new) d third)
              ])
        ])
  ]

pub is_swapped : (old new : Sheet) → IsSheet old → IsSheet new → IsSwapped old new
is_swapped old new is_old is_new d = (
  λ h. in_to (differences new old) (swapped d) (swapped_in old new is_old is_new d (in_from (differences old new) d h)),
  λ h. in_to (differences old new) d
      (subst (λ v. In v (differences old new)) (twice d)
      (swapped_in new old is_new is_old (swapped d) (in_from (differences new old) (swapped d) h))),
)
