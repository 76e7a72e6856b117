use Rattle.dbc_decode.proofs.Frames.{frames_read}
use Rattle.dbc_decode.proofs.Quiet.{breaking_none}
use Rattle.dbc_decode.proofs.Unmarked.{unmarked_read}
use Rattle.dbc_decode.proofs.laws.unmarked_sheets_are_read.Goals as goal

pub returns : goal.returns
returns c = record {
  printed = breaking_none c.args.old.now c.args.new.now;
  messages =
      unmarked_read c.args.old.now c.args.new.now c.sheets_are_well_formed.ensures c.sheets_are_well_formed-2.ensures;
  frames =
      frames_read c.args.old.now c.args.new.now c.sheets_are_well_formed.ensures c.sheets_are_well_formed-2.ensures;
}
