-- What a look reads of a network: all of it but its live messages and its releases, and so much of these.
use Rattle.std.specs.Prelude.{◌≡◌, List, [], length, map}
use Rattle.dbc_sheet.specs.declared.sheet.Sheet.{Sheet}
use Rattle.dbc_sheet.specs.declared.signal.Signal.{Signal}
use Rattle.office_types.specs.declared.look.NetLook.{NetLook}
use Rattle.office_types.specs.declared.look.NetLook.TheVariants as look
use Rattle.office_types.specs.declared.overview.Overview.{Overview}
use Rattle.office_types.specs.declared.overview.Overview.TheVariants as overview
use Rattle.office_types.specs.declared.overview.TeamOverview.TheVariants as of_team
use Rattle.office_types.specs.declared.state.LiveMessage.{LiveMessage}
use Rattle.office_types.specs.declared.state.Net.{Net}
use Rattle.office_seen.specs.Since.{last_release}
use Rattle.office_looks.specs.declared.reads.MessagesRead.{MessagesRead}
use Rattle.office_looks.specs.declared.reads.MessagesRead.TheVariants as messages
use Rattle.office_looks.specs.declared.reads.Reads.{Reads}
use Rattle.office_looks.specs.declared.reads.ReleasesRead.{ReleasesRead}
use Rattle.office_looks.specs.declared.reads.ReleasesRead.TheVariants as releases

abbrev pub overview_reads : Overview → Reads
overview_reads overview.State = record { messages = messages.Whole; releases = releases.Last }
overview_reads overview.Blocks = record { messages = messages.Rows; releases = releases.Nothing }
overview_reads overview.Nodes = record { messages = messages.Received; releases = releases.Nothing }
overview_reads overview.Held = record { messages = messages.Nothing; releases = releases.All }
overview_reads overview.Releases = record { messages = messages.Nothing; releases = releases.All }
overview_reads o = record { messages = messages.Whole; releases = releases.All }

-- what the text of a look depends on
abbrev pub reads_of : NetLook → Reads
reads_of (look.Overview o) = overview_reads o
reads_of (look.OfTeam of_team.Blocks team) = overview_reads overview.Blocks
reads_of (look.Node name) = overview_reads overview.Nodes
reads_of l = overview_reads overview.Messages

-- a signal without its receivers and value texts, and one without its value texts
abbrev pub row_of : Signal → Signal
row_of s = record s { receivers = []; values = [] }

abbrev pub received_of : Signal → Signal
received_of s = record s { values = [] }

-- the message, each of its signals so
abbrev pub with_signals : (Signal → Signal) → LiveMessage → LiveMessage
with_signals part m = record m { message = record m.message { signals = map part m.message.signals } }

-- live messages, as far as they are read
abbrev pub messages_read : MessagesRead → List LiveMessage → List LiveMessage
messages_read messages.Nothing live = []
messages_read messages.Rows live = map (with_signals row_of) live
messages_read messages.Received live = map (with_signals received_of) live
messages_read messages.Whole live = live

-- what is read of all releases: nothing; as many, the last of which is the same; or all
abbrev pub AreRead : ReleasesRead → (all read : List Sheet) → Type 0
AreRead releases.Nothing all read = read ≡ []
AreRead releases.Last all read = (length read ≡ length all) × (last_release read ≡ last_release all)
AreRead releases.All all read = read ≡ all

-- the network with its live messages as far as they are read, and these releases
abbrev pub net_read : MessagesRead → List Sheet → Net → Net
net_read messages releases net = record net { live = messages_read messages net.live; releases = releases }
