-- The rows of the tables, by the names of their columns, and which rows a statement selects.
use Rattle.std.specs.Prelude.{ℕ, List, [], ◌∷◌, Bool, true, false, ◌&&◌, filter, not, pos}
use Rattle.sqlite.specs.declared.types.Value.TheVariants.{Null, Int, Text, Blob}
use Rattle.std.specs.Ordering.{is_ge, is_gt, is_le, is_lt}
use Rattle.sqlite.specs.declared.types.Value.{Value}
use Rattle.sqlite.specs.Order.{Row, column, value_cmp}
use Rattle.sqlite.specs.Tree.{Trees}
use Rattle.store_tables.specs.Selected.{has_text, has_number}
use Rattle.store_statements.specs.declared.row.NetRow.{NetRow}
use Rattle.store_statements.specs.declared.row.BodyRow.{BodyRow}
use Rattle.store_statements.specs.declared.row.BlockRow.{BlockRow}
use Rattle.store_statements.specs.declared.row.FrozenRow.{FrozenRow}
use Rattle.store_statements.specs.declared.row.ReplyRow.{ReplyRow}
use Rattle.store_statements.specs.Mux.{mux_number}
use Rattle.store_statements.specs.declared.row.LiveRow.{LiveRow}
use Rattle.store_statements.specs.declared.row.SigRow.{SigRow}
use Rattle.store_statements.specs.declared.row.ReceiverRow.{ReceiverRow}
use Rattle.store_statements.specs.declared.row.SigValueRow.{SigValueRow}
use Rattle.store_statements.specs.declared.row.PartRow.{PartRow}

-- the rows but those of which the test holds
abbrev pub without : (Row → Bool) → List Row → List Row
without test rows = filter (λ row. not (test row)) rows

-- a row of `profile`: 1 and the number of the profile, or 2 and 2 where live messages have rows of their own
abbrev pub mark_row : ℕ → ℕ → Row
mark_row one number = Int (pos one) ∷ Int (pos number) ∷ []

abbrev pub profile_row : Row
profile_row = mark_row 1 1

abbrev pub net_row : NetRow → Row
net_row it = Text it.name.now ∷ Int (pos it.kind) ∷ Int (pos it.reviews) ∷ Int (pos it.phase) ∷ Text it.submitter.now
    ∷ Blob it.frame.now ∷ []

abbrev pub message_row : BodyRow → Row
message_row it = Text it.net.now ∷ Int (pos it.number) ∷ Text it.name.now ∷ Text it.owner.now ∷ Blob it.body.now ∷ []

abbrev pub block_row : BlockRow → Row
block_row it = Text it.net.now ∷ Int (pos it.form) ∷ Int (pos it.first) ∷ Int (pos it.last) ∷ Text it.team.now ∷ []

abbrev pub held_row : List ℕ → ℕ → Row
held_row net number = Text net ∷ Int (pos number) ∷ []

abbrev pub spn_row : ℕ → Row
spn_row number = Int (pos number) ∷ []

abbrev pub approval_row : List ℕ → List ℕ → Row
approval_row net team = Text net ∷ Text team ∷ []

abbrev pub frozen_row : FrozenRow → Row
frozen_row it = Text it.net.now ∷ Int (pos it.number) ∷ Blob it.body.now ∷ []

abbrev pub reply_row : ReplyRow → Row
reply_row it = Text it.team.now ∷ Text it.key.now ∷ Blob it.content.now ∷ Int (pos it.kind) ∷ Int (pos it.a)
    ∷ Int (pos it.b) ∷ Int (pos it.c) ∷ []

abbrev pub msg_row : LiveRow → Row
msg_row it =
    Text it.net.now ∷ Int (pos it.number) ∷ Text it.name.now ∷ Text it.owner.now ∷ Int (pos it.length)
    ∷ Text it.transmitter.now ∷ Blob it.comment.now ∷ []

abbrev pub sig_row : SigRow → Row
sig_row it =
    Text it.net.now ∷ Int (pos it.number) ∷ Int (pos it.place) ∷ Text it.name.now ∷ Int (pos it.start)
    ∷ Int (pos it.size) ∷ Int (pos it.motorola) ∷ Int (pos it.signed) ∷ Int (mux_number it.mux) ∷ Text it.factor.now
    ∷ Text it.offset.now ∷ Text it.minimum.now ∷ Text it.maximum.now ∷ Blob it.unit.now ∷ Blob it.comment.now
    ∷ Int (pos it.spn) ∷ Int (pos it.value_type) ∷ []

abbrev pub receiver_row : ReceiverRow → Row
receiver_row it =
    Text it.net.now ∷ Int (pos it.number) ∷ Int (pos it.place) ∷ Int (pos it.index) ∷ Text it.name.now ∷ []

abbrev pub sigvalue_row : SigValueRow → Row
sigvalue_row it =
    Text it.net.now ∷ Int (pos it.number) ∷ Int (pos it.place) ∷ Int (pos it.index) ∷ Text it.value.now
    ∷ Blob it.text.now ∷ []

abbrev pub part_row : PartRow → Row
part_row it = Text it.team.now ∷ Text it.key.now ∷ Int (pos it.place) ∷ Int (pos it.kind) ∷ Int (pos it.a)
    ∷ Int (pos it.b) ∷ []

-- ---- which rows a statement selects

abbrev pub is_between : ℕ → ℕ → Value → Bool
is_between first last v = is_ge (value_cmp v (Int (pos first))) && is_le (value_cmp v (Int (pos last)))

-- NULL isn't below any number
abbrev pub is_below : ℕ → Value → Bool
is_below number Null = false
is_below number v = is_lt (value_cmp v (Int (pos number)))

-- the row of a network, or a row that is the network's: its first column has the name
abbrev pub is_of_net : List ℕ → Row → Bool
is_of_net name row = has_text 0 name row

abbrev pub has_net_and_number : List ℕ → ℕ → Row → Bool
has_net_and_number net number row = has_text 0 net row && has_number 1 number row

-- a row of a signal: its message's network and number, and its place
abbrev pub has_place_of : List ℕ → ℕ → ℕ → Row → Bool
has_place_of net number place row = has_text 0 net row && (has_number 1 number row && has_number 2 place row)

-- a signal's message's network and number, and its name
abbrev pub has_name_of : List ℕ → ℕ → List ℕ → Row → Bool
has_name_of net number name row = has_text 0 net row && (has_number 1 number row && has_text 3 name row)

-- a live message's network and name
abbrev pub has_net_and_name : List ℕ → List ℕ → Row → Bool
has_net_and_name net name row = has_text 0 net row && has_text 2 name row

-- a row of the network with a number from the first to the last
abbrev pub has_number_between : List ℕ → ℕ → ℕ → Row → Bool
has_number_between net first last row = has_text 0 net row && is_between first last (column row 1)

-- the rows of `msg` in its tree
abbrev pub msg_entries : Trees → List Row
msg_entries db = db 17

-- a row of a tree, which has its rowid first, whose rowid is above the number, or below it
abbrev pub has_rowid_above : ℕ → Row → Bool
has_rowid_above number entry = is_gt (value_cmp (column entry 0) (Int (pos number)))

abbrev pub has_rowid_below : ℕ → Row → Bool
has_rowid_below number entry = is_below number (column entry 0)

abbrev pub is_block : List ℕ → ℕ → ℕ → Row → Bool
is_block net form first row = has_text 0 net row && (has_number 1 form row && has_number 2 first row)

abbrev pub is_of_form : ℕ → Row → Bool
is_of_form form row = has_number 1 form row

-- the key is two texts: an approval's network and team, a reply's team and key
abbrev pub has_two_texts : List ℕ → List ℕ → Row → Bool
has_two_texts first second row = has_text 0 first row && has_text 1 second row

-- the row of a team's request: its first column has the team
abbrev pub is_of_team : List ℕ → Row → Bool
is_of_team team row = has_text 0 team row

abbrev pub is_number : ℕ → Row → Bool
is_number number row = has_number 0 number row

-- every row
abbrev pub is_any : Row → Bool
is_any row = true
