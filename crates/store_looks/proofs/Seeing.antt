-- A network that is seen as far as a look reads it is that of the tables, and its text is that of the look.
use Rattle.store_looks.proofs.Common.{◌≡◌, ℕ, List, [], Option, Some, None, refl, sym, ap, subst, ◌∙◌, option_map}
use Rattle.store_looks.proofs.Common.{Sheet, SpnBook, LookForm, NetLook, Net, with_releases, view_of, View, net_shown}
use Rattle.store_looks.proofs.Common.{AreRead, net_read, Tables, IsNetAt, HasLast}
use Rattle.std.proofs.Common.{unwrap_or}
use Rattle.std.specs.List.Sorted.{IsStrictlySortedBy}
use Rattle.dbc_sheet.specs.Messages.{by_number}
use Rattle.dbc_sheet.specs.Sheet.{empty_sheet}
use Rattle.office_types.specs.State.{live_messages}
use Rattle.office_types.specs.declared.state.LiveMessage.{LiveMessage}
use Rattle.office_looks.specs.Reads.{messages_read, reads_of}
use Rattle.office_looks.specs.declared.reads.MessagesRead.{MessagesRead}
use Rattle.office_looks.specs.declared.reads.MessagesRead.TheVariants.{Nothing, Received, Rows, Whole}
use Rattle.office_looks.specs.declared.reads.Reads.{Reads}
use Rattle.office_looks.specs.declared.reads.ReleasesRead.TheVariants as releases
use Rattle.office_looks.proofs.Unread.{unread}
use Rattle.store_net.specs.NetParts.{partial_net}
use Rattle.store_net.specs.declared.signal_parts.SignalParts.TheVariants.{All, RowOnly}
use Rattle.store_net.specs.declared.signal_parts.SignalParts.TheVariants as of
use Rattle.store_net.proofs.Bare.{numbers_ascend, whole_live}
use Rattle.store_net.proofs.LiveSheet.{live_ascends}
use Rattle.store_looks.specs.Seen.{IsSeen, reads_whole, seen_text, whole_view}

-- ---- what is read

pub last_read : (all found : List Sheet) → HasLast all found → AreRead releases.Last all found
last_read all found has = (has.0, ap (λ (o : Option Sheet). unwrap_or o empty_sheet) has.1)

pub whole_read : (net : Option Net) → option_map (partial_net All) net ≡ option_map (net_read Whole []) net
whole_read None = refl
whole_read (Some net) =
    ap (λ (live : List LiveMessage). Some (record net { live = live; releases = [] })) (whole_live net.live)

-- live messages ascend as far as they are read
read_ascend : (messages : MessagesRead) (live : List LiveMessage) → IsStrictlySortedBy by_number (live_messages live)
    → IsStrictlySortedBy by_number (live_messages (messages_read messages live))
unfolding IsStrictlySortedBy
read_ascend Nothing live ascend = tt
read_ascend Rows live ascend = numbers_ascend RowOnly live ascend
read_ascend Received live ascend = numbers_ascend of.Received live ascend
read_ascend Whole live ascend = ascend

-- ---- what is seen

pub nothing_seen : (reads : Reads) (net : Option Net) (book : SpnBook)
    → None ≡ option_map (net_read reads.messages []) net → IsSeen reads net book None
nothing_seen reads None book none = refl
nothing_seen reads (Some net) book none = absurd (cc)

-- with these releases
pub seen_with : (name : List ℕ) (t : Tables) (net : Option Net) (reads : Reads) (read : Net) (found : List Sheet)
    (books one : SpnBook) (view : View) → IsNetAt name t net → Some read ≡ option_map (net_read reads.messages []) net
    → ((n : Net) → net ≡ Some n → AreRead reads.releases n.releases found) → one ≡ books
    → (IsStrictlySortedBy by_number (live_messages read.live) → view ≡ view_of (with_releases found read) one)
    → IsSeen reads net books (Some view)
seen_with name t None reads read found books one view at is has same made = absurd (cc)
seen_with name t (Some net) reads read found books one view at is has same made =
    let so : read ≡ net_read reads.messages [] net = cc in
    let sorted = subst (λ (n : Net). IsStrictlySortedBy by_number (live_messages n.live)) (sym so)
    (read_ascend reads.messages net.live (live_ascends name t net.live at.live)) in
    let view_is = made sorted ∙ ap (λ (n : Net). view_of (with_releases found n) one) so
    ∙ ap (view_of (net_read reads.messages found net)) same in
    (found, has net refl, ap Some view_is)

pub whole_seen : (net : Option Net) (book : SpnBook) (found : Option View)
    → IsSeen reads_whole net book found → found ≡ whole_view net book
whole_seen None book found seen = seen
whole_seen (Some net) book found seen =
    seen.2 ∙ ap (λ (all : List Sheet). Some (view_of (record net { releases = all }) book)) seen.1

-- ---- the text

pub look_text : (form : LookForm) (look : NetLook) (net : Option Net) (book : SpnBook) (found : Option View)
    → IsSeen (reads_of look) net book found → seen_text form look found ≡ net_shown form net book look
look_text form look None book found seen = ap (seen_text form look) seen
look_text form look (Some net) book found seen =
    ap (seen_text form look) seen.2 ∙ unread form look net book seen.0 seen.1
