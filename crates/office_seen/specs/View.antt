-- What a look sees of a network: all that it has, with its suspect parameter numbers from the book.
use Rattle.std.specs.Prelude.{ℕ, List, ◌++◌, map, filter}
use Rattle.std.specs.List.{zip}
use Rattle.std.specs.Str.{bytes_eq}
use Rattle.dbc_sheet.specs.declared.message.Message.{Message}
use Rattle.office_rules.specs.Facts.{spn_range}
use Rattle.office_types.specs.State.{sheet_of}
use Rattle.office_types.specs.declared.book.SpnBlock.{SpnBlock}
use Rattle.office_types.specs.declared.book.SpnBook.{SpnBook}
use Rattle.office_types.specs.declared.state.GrantedBlock.{GrantedBlock}
use Rattle.office_types.specs.declared.state.Net.{Net}
use Rattle.office_seen.specs.declared.view.View.{View}

abbrev pub spn_block : SpnBlock → GrantedBlock
spn_block b = record { block = spn_range b; team = b.team }

-- the network's blocks, those of suspect parameter numbers last
abbrev pub blocks_of : Net → SpnBook → List GrantedBlock
blocks_of net book = net.blocks ++ map spn_block (filter (λ b. bytes_eq b.net net.name) book.blocks)

abbrev pub view_of : Net → SpnBook → View
view_of net book = record {
  name = net.name;
  kind = net.head.kind;
  reviews = net.head.reviews;
  phase = net.head.phase;
  sheet = sheet_of net;
  owners = map (λ m. m.owner) net.live;
  blocks = blocks_of net book;
  held = net.held;
  approvals = net.approvals;
  releases = net.releases;
  used = book.used;
}

-- each live message with the team that owns it
abbrev pub owned : View → List (Message × List ℕ)
owned view = zip view.sheet.messages view.owners
