-- There is no difference if and only if the sheets are equal.
use Rattle.dbc_compare.proofs.Common.{◌≡◌, [], None, subst, IsSheet, node_name, table_name, Sheet}
use Rattle.dbc_sheet.specs.Form.{IsMessage}
use Rattle.dbc_sheet.specs.WellFormed.{IsWellFormedMessage}
use Rattle.dbc_compare.specs.Differences.{differences, node_changes, sheet_differences, table_changes, thing_differences}
use Rattle.dbc_compare.specs.Fields.{node_fields, none_breaks, sheet_fields, table_fields}
use Rattle.dbc_compare.specs.Laws.{TellsApart}
use Rattle.dbc_compare.specs.declared.place.Region.TheVariants as place
use Rattle.dbc_compare.proofs.ChangeLists.{both_empty, list_same, list_told}
use Rattle.dbc_compare.proofs.FieldsTold.{node_told, table_told, word_is}
use Rattle.dbc_compare.proofs.Members.{all_in, each_in}
use Rattle.dbc_compare.proofs.MessageLists.{AllKeep, messages_same, messages_told}
use Rattle.dbc_compare.proofs.ThingLists.{about_empty, about_told, joined_empty, things_same, things_told}

pub all_keep : (s : Sheet) → IsSheet s → AllKeep s.messages
all_keep s is m h = record {
  form = all_in IsMessage s.messages m is.messages h;
  well_formed = each_in IsWellFormedMessage s.messages m is.well_formed.messages h;
}

told : (old new : Sheet) → IsSheet old → IsSheet new → differences old new ≡ [] → old ≡ new
told old new is_old is_new empty =
    let first = both_empty (sheet_differences old new) _ empty in
    let second = both_empty (thing_differences place.Nodes node_name node_changes old.nodes new.nodes) _ first.1 in
    let third = both_empty (thing_differences place.Tables table_name table_changes old.tables new.tables) _ second.1 in
    let own = list_told none_breaks (sheet_fields old) (sheet_fields new) (about_told place.Sheet None _ first.0) in
    let version : old.version ≡ new.version = word_is _ _ own.0 in
    let comment : old.comment ≡ new.comment = word_is _ _ own.1.0 in
    let nodes : old.nodes ≡ new.nodes =
    things_told node_name node_changes place.Nodes old.nodes new.nodes is_old.well_formed.nodes.apart
    (λ x y h k named e. node_told x y named e) second.0 in
    let tables : old.tables ≡ new.tables =
    things_told table_name table_changes place.Tables old.tables new.tables is_old.well_formed.tables.apart
    (λ x y h k named e. table_told x y named e) third.0 in
    let messages : old.messages ≡ new.messages =
    messages_told old.messages new.messages is_old.well_formed.together is_new.well_formed.together
    (all_keep old is_old) (all_keep new is_new) third.1 in
    λ i. record {
      version = version i;
      comment = comment i;
      nodes = nodes i;
      tables = tables i;
      messages = messages i;
    }

same : (s : Sheet) → IsSheet s → differences s s ≡ []
same s is =
    joined_empty (sheet_differences s s) _ (about_empty place.Sheet None _ (list_same none_breaks (sheet_fields s)))
    (joined_empty (thing_differences place.Nodes node_name node_changes s.nodes s.nodes) _
    (things_same node_name node_changes place.Nodes s.nodes is.well_formed.nodes.apart
    (λ x. list_same none_breaks (node_fields x)))
    (joined_empty (thing_differences place.Tables table_name table_changes s.tables s.tables) _
    (things_same table_name table_changes place.Tables s.tables is.well_formed.tables.apart
    (λ x. list_same none_breaks (table_fields x)))
    (messages_same s.messages is.well_formed.together (all_keep s is))))

pub tells_apart : (old new : Sheet) → IsSheet old → IsSheet new → TellsApart old new
tells_apart old new is_old is_new =
    (told old new is_old is_new, λ e. subst (λ s. differences old s ≡ []) e (same old is_old))
