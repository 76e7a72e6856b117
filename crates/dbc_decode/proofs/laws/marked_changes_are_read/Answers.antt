use Rattle.dbc_decode.proofs.Seen.{unmarked_read}
use Rattle.dbc_decode.proofs.SeenOnly.{marked_read, read_unmarked}
use Rattle.dbc_decode.proofs.laws.marked_changes_are_read.Goals as goal

pub returns : goal.returns
returns c = record { unmarked = unmarked_read; same = read_unmarked; marked = marked_read }
