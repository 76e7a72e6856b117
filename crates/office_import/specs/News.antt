-- What a file brings to a network's frame.
use Rattle.std.specs.Prelude.{◌++◌}
use Rattle.dbc_sheet.specs.Sheet.{node_name, table_name}
use Rattle.dbc_sheet.specs.WellFormed.{AreRostered}
use Rattle.dbc_sheet.specs.declared.sheet.Sheet.{Sheet}
use Rattle.office_rules.specs.Importing.{new_named}
use Rattle.office_import.specs.declared.news.FrameNews.{FrameNews}

-- the file's nodes and value tables of new names
abbrev pub frame_news : Sheet → Sheet → FrameNews
frame_news frame file = record {
  nodes = new_named node_name frame.nodes file.nodes;
  tables =
      new_named table_name frame.tables file.tables;
}

-- the nodes and the value tables of a sheet have names of their own, and are no more than the limit
pub record HasRosters (s : Sheet) : Type 0 where
  pub nodes : AreRostered node_name s.nodes
  pub tables : AreRostered table_name s.tables

-- those of the frame with what is new do
pub record CanWiden (frame : Sheet) (news : FrameNews) : Type 0 where
  pub nodes : AreRostered node_name (frame.nodes ++ news.nodes)
  pub tables : AreRostered table_name (frame.tables ++ news.tables)
