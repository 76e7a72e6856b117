-- What is shown for a look is the same where no more is read of the network than it depends on.
use Rattle.office_looks.proofs.Common.{◌≡◌, ◌+◌, ◌++◌, ℕ, Bool, true, false, cond, List, [], ◌∷◌, Some, None, length}
use Rattle.office_looks.proofs.Common.{map, filter, codes, refl, ap, ◌∙◌, count_by, option_map, flat_map, length-map}
use Rattle.office_looks.proofs.Common.{counts_of, Message, Node, Sheet, Signal, BlockForm, Lines, GrantedBlock}
use Rattle.office_looks.proofs.Common.{last_release, View, block_row, sends, Fact}
use Rattle.std.proofs.Common.{Option, nat_lt}
use Rattle.std.specs.Prelude.{fold, sum, not, ◌==◌, if◌then◌else◌}
use Rattle.office_rules.specs.Facts.{has_node}
use Rattle.office_types.specs.Block.{same_form}
use Rattle.office_types.specs.State.{live_messages}
use Rattle.office_types.specs.declared.block.BlockForm.TheVariants as form
use Rattle.office_types.specs.declared.book.SpnBook.{SpnBook}
use Rattle.office_types.specs.declared.look.LookForm.{LookForm}
use Rattle.office_types.specs.declared.look.LookForm.TheVariants.{Json}
use Rattle.office_types.specs.declared.look.NetLook.{NetLook}
use Rattle.office_types.specs.declared.look.NetLook.TheVariants as look
use Rattle.office_types.specs.declared.overview.Overview.TheVariants as overview
use Rattle.office_types.specs.declared.overview.TeamOverview.TheVariants as of_team
use Rattle.office_types.specs.declared.state.LiveMessage.{LiveMessage}
use Rattle.office_types.specs.declared.state.Net.{Net}
use Rattle.office_seen.specs.View.{blocks_of, view_of}
use Rattle.office_blocks.specs.Blocks.{blocks_table, free_count, free_of_form, ident_numbers, is_wanted, live_idents}
use Rattle.office_blocks.specs.Blocks.{live_numbers, row_with, spns_of, taken_numbers}
use Rattle.office_blocks.specs.declared.blocks.TheConstants.{BLOCKS, BLOCK_TOTALS}
use Rattle.office_looks.specs.Looks.{list_in, shown_of, table_of, text_of}
use Rattle.office_views.specs.Sending.{received, receives, receives_some}
use Rattle.office_looks.specs.Nodes.{counts_row, node_row, received_rows, sent_rows, use_row, uses_table}
use Rattle.office_looks.specs.Reads.{AreRead, net_read, reads_of, received_of, row_of, with_signals}
use Rattle.office_looks.specs.State.{state_row}
use Rattle.office_looks.specs.declared.nodes.TheConstants.{NODES, NODE_TOTALS, USES, USE_TOTALS}
use Rattle.office_looks.specs.declared.state.TheConstants.{STATE}
use Rattle.office_looks.specs.declared.reads.MessagesRead.TheVariants.{Nothing, Rows, Whole}
use Rattle.rows.specs.Fact.{of_number}
use Rattle.rows.specs.Table.{Listing, headed, plain}

-- ---- lists

map_same : {A B : Type 0} (f g : A → B) → ((a : A) → f a ≡ g a) → (items : List A) → map f items ≡ map g items
map_same f g same [] = refl
map_same f g same (a ∷ items) = ap (λ b. b ∷ map f items) (same a) ∙ ap (λ bs. g a ∷ bs) (map_same f g same items)

count_from : {A : Type 0} (part : A → A) (p : A → Bool) → ((a : A) → p (part a) ≡ p a) → (n : ℕ) (items : List A)
    → fold (λ k a. k + cond (p a) 1 0) n (map part items) ≡ fold (λ k a. k + cond (p a) 1 0) n items
count_from part p same n [] = refl
count_from part p same n (a ∷ items) =
    ap (λ b. fold (λ k x. k + cond (p x) 1 0) (n + cond b 1 0) (map part items)) (same a)
    ∙ count_from part p same (n + cond (p a) 1 0) items

-- as many pass the test
count_same : {A : Type 0} (part : A → A) (p : A → Bool) → ((a : A) → p (part a) ≡ p a) → (items : List A)
    → count_by p (map part items) ≡ count_by p items
count_same part p same items = count_from part p same 0 items

-- the rows of those that pass the test are the same
rows_of_same : {A B : Type 0} (part : A → A) (p : A → Bool) (f : A → B) → ((a : A) → p (part a) ≡ p a)
    → ((a : A) → f (part a) ≡ f a) → (items : List A) → map f (filter p (map part items)) ≡ map f (filter p items)
rows_of_same part p f tests rows [] = refl
rows_of_same part p f tests rows (a ∷ items) =
    ap (λ b. map f (cond b (part a ∷ filter p (map part items)) (filter p (map part items)))) (tests a)
    ∙ by_test (p a) (rows_of_same part p f tests rows items)
  where
    by_test : (b : Bool) → map f (filter p (map part items)) ≡ map f (filter p items)
        → map f (cond b (part a ∷ filter p (map part items)) (filter p (map part items)))
        ≡ map f (cond b (a ∷ filter p items) (filter p items))
    by_test true rest = ap (λ r. r ∷ map f (filter p (map part items))) (rows a) ∙ ap (λ rs. f a ∷ rs) rest
    by_test false rest = rest

-- ---- messages with parts of their signals

abbrev message_with : (Signal → Signal) → Message → Message
message_with part m = record m { signals = map part m.signals }

messages_with : (part : Signal → Signal) (live : List LiveMessage)
    → live_messages (map (with_signals part) live) ≡ map (message_with part) (live_messages live)
messages_with part [] = refl
messages_with part (m ∷ live) =
    ap (λ (ms : List Message). message_with part m.message ∷ ms) (messages_with part live)

-- ---- blocks

idents_same : (part : Signal → Signal) (ms : List Message)
    → map (λ (m : Message). m.ident) (map (message_with part) ms) ≡ map (λ (m : Message). m.ident) ms
idents_same part [] = refl
idents_same part (m ∷ ms) = ap (λ is. m.ident ∷ is) (idents_same part ms)

numbers_same : (ss : List Signal) → map (λ (s : Signal). s.spn) (map row_of ss) ≡ map (λ (s : Signal). s.spn) ss
numbers_same [] = refl
numbers_same (s ∷ ss) = ap (λ (ns : List ℕ). s.spn ∷ ns) (numbers_same ss)

spns_same : (ms : List Message) → flat_map spns_of (map (message_with row_of) ms) ≡ flat_map spns_of ms
spns_same [] = refl
spns_same (m ∷ ms) =
    ap (λ (ns : List ℕ). filter (λ n. not (n == 0)) ns ++ flat_map spns_of (map (message_with row_of) ms))
    (numbers_same m.signals)
    ∙ ap (λ (t : List ℕ). spns_of m ++ t) (spns_same ms)

-- views that agree on what blocks show
record AreAlike (v w : View) : Type 0 where
  idents : live_idents v ≡ live_idents w
  spns : flat_map spns_of v.sheet.messages ≡ flat_map spns_of w.sheet.messages
  held : v.held ≡ w.held
  used : v.used ≡ w.used

live_same : (f : BlockForm) (v w : View) → AreAlike v w → live_numbers f v ≡ live_numbers f w
live_same form.Std v w a = ap (ident_numbers form.Std) a.idents
live_same form.Ext v w a = ap (ident_numbers form.Ext) a.idents
live_same form.Pgn v w a = ap (ident_numbers form.Pgn) a.idents
live_same form.Spn v w a = a.spns

both_same : (f : BlockForm) (v w : View) → AreAlike v w
    → ident_numbers f (live_idents v ++ v.held) ≡ ident_numbers f (live_idents w ++ w.held)
both_same f v w a = ap (λ is. ident_numbers f (is ++ v.held)) a.idents
    ∙ ap (λ hs. ident_numbers f (live_idents w ++ hs)) a.held

taken_same : (f : BlockForm) (v w : View) → AreAlike v w → taken_numbers f v ≡ taken_numbers f w
taken_same form.Std v w a = both_same form.Std v w a
taken_same form.Ext v w a = both_same form.Ext v w a
taken_same form.Pgn v w a = both_same form.Pgn v w a
taken_same form.Spn v w a = a.used

row_same : (v w : View) → AreAlike v w → (g : GrantedBlock) → block_row v g ≡ block_row w g
row_same v w a g =
    ap (λ l. row_with l (taken_numbers g.block.form v) g) (live_same g.block.form v w a)
    ∙ ap (λ t. row_with (live_numbers g.block.form w) t g) (taken_same g.block.form v w a)

free_same : (v w : View) → AreAlike v w → (blocks : List GrantedBlock) (f : BlockForm)
    → free_of_form v blocks f ≡ free_of_form w blocks f
free_same v w a blocks f =
    ap (λ t. sum (map (λ (g : GrantedBlock). free_count t g.block)
    (filter (λ (g : GrantedBlock). same_form g.block.form f) blocks)))
    (taken_same f v w a)

-- the list of these blocks
abbrev blocks_list : View → List GrantedBlock → Listing
blocks_list v blocks =
    let free = free_of_form v blocks in
    plain BLOCKS (map (block_row v) blocks) BLOCK_TOTALS
    (of_number (length blocks) ∷ of_number (free form.Std) ∷ of_number (free form.Ext) ∷ of_number (free form.Pgn)
    ∷ of_number (free form.Spn) ∷ [])

abbrev counted_list : List GrantedBlock → List (List Fact) → (std ext pgn spn : ℕ) → Listing
counted_list blocks rows std ext pgn spn = plain BLOCKS rows BLOCK_TOTALS
    (of_number (length blocks) ∷ of_number std ∷ of_number ext ∷ of_number pgn ∷ of_number spn ∷ [])

blocks_same : (v w : View) → AreAlike v w → (blocks : List GrantedBlock) → blocks_list v blocks ≡ blocks_list w blocks
blocks_same v w a blocks =
    let free = free_of_form v blocks in
    let free_w = free_of_form w blocks in
    let list = counted_list blocks in
    let rows = map (block_row w) blocks in
    ap (λ r. list r (free form.Std) (free form.Ext) (free form.Pgn) (free form.Spn))
    (map_same (block_row v) (block_row w) (row_same v w a) blocks)
    ∙ ap (λ n. list rows n (free form.Ext) (free form.Pgn) (free form.Spn)) (free_same v w a blocks form.Std)
    ∙ ap (λ n. list rows (free_w form.Std) n (free form.Pgn) (free form.Spn)) (free_same v w a blocks form.Ext)
    ∙ ap (λ n. list rows (free_w form.Std) (free_w form.Ext) n (free form.Spn)) (free_same v w a blocks form.Pgn)
    ∙ ap (list rows (free_w form.Std) (free_w form.Ext) (free_w form.Pgn)) (free_same v w a blocks form.Spn)

rows_alike : (rs : List Sheet) (net : Net) (book : SpnBook)
    → AreAlike (view_of (net_read Rows rs net) book) (view_of net book)
rows_alike rs net book =
    let is = messages_with row_of net.live in
    let ms = live_messages net.live in
    record {
      idents = ap (map (λ (m : Message). m.ident)) is ∙ idents_same row_of ms;
      spns = ap (flat_map spns_of) is ∙ spns_same ms;
      held = refl;
      used = refl;
    }

-- ---- nodes

received_same : (node : List ℕ) (m : Message) → received node (message_with received_of m) ≡ received node m
received_same node m = count_same received_of (receives node) (λ s. refl) m.signals

some_same : (node : List ℕ) (m : Message) → receives_some node (message_with received_of m) ≡ receives_some node m
some_same node m = ap (nat_lt 0) (received_same node m)

node_same : (ms : List Message) (node : Node) → node_row (map (message_with received_of) ms) node ≡ node_row ms node
node_same ms node =
    ap (λ n. counts_row n (count_by (receives_some node.name) (map (message_with received_of) ms)) node)
    (count_same (message_with received_of) (sends node.name) (λ m. refl) ms)
    ∙ ap (λ n. counts_row (count_by (sends node.name) ms) n node)
    (count_same (message_with received_of) (receives_some node.name) (some_same node.name) ms)

sent_same : (node : List ℕ) (ms : List Message)
    → sent_rows node (map (message_with received_of) ms) ≡ sent_rows node ms
sent_same node ms =
    rows_of_same (message_with received_of) (sends node)
    (λ (m : Message). use_row (codes "sends") m (length m.signals)) (λ m. refl)
    (λ m. ap (use_row (codes "sends") m) (length-map m.signals received_of)) ms

receiving_same : (node : List ℕ) (ms : List Message)
    → received_rows node (map (message_with received_of) ms) ≡ received_rows node ms
receiving_same node ms =
    rows_of_same (message_with received_of) (receives_some node)
    (λ (m : Message). use_row (codes "receives") m (received node m)) (some_same node)
    (λ m. ap (use_row (codes "receives") m) (received_same node m)) ms

abbrev uses_list : (sent got : List (List Fact)) → (sends receives : ℕ) → Listing
uses_list sent got sends receives =
    plain USES (sent ++ got) USE_TOTALS (of_number sends ∷ of_number receives ∷ [])

uses_same : (node : List ℕ) (ms : List Message)
    → uses_table node (map (message_with received_of) ms) ≡ uses_table node ms
uses_same node ms =
    let all = map (message_with received_of) ms in
    let list = uses_list in
    ap (λ sent. list sent (received_rows node all) (count_by (sends node) all) (count_by (receives_some node) all))
    (sent_same node ms)
    ∙ ap (λ got. list (sent_rows node ms) got (count_by (sends node) all) (count_by (receives_some node) all))
    (receiving_same node ms)
    ∙ ap (λ n. list (sent_rows node ms) (received_rows node ms) n (count_by (receives_some node) all))
    (count_same (message_with received_of) (sends node) (λ m. refl) ms)
    ∙ ap (list (sent_rows node ms) (received_rows node ms) (count_by (sends node) ms))
    (count_same (message_with received_of) (receives_some node) (some_same node) ms)

-- ---- the state

-- of a network that has so many releases, and this as the last one
abbrev state_with : View → ℕ → Sheet → Listing
state_with view count last =
    headed STATE (state_row view count (counts_of last.messages view.sheet.messages)) []

-- ---- each look

-- where all is read
all_read : (l : NetLook) (net : Net) (book : SpnBook) (rs : List Sheet) → rs ≡ net.releases
    → text_of l (view_of (net_read Whole rs net) book) ≡ text_of l (view_of net book)
all_read l net book rs all =
    ap (λ (releases : List Sheet). text_of l (view_of (net_read Whole releases net) book)) all

all_listed : (l : NetLook) (net : Net) (book : SpnBook) (rs : List Sheet) → rs ≡ net.releases
    → table_of l (view_of (net_read Whole rs net) book) ≡ table_of l (view_of net book)
all_listed l net book rs all =
    ap (λ (releases : List Sheet). table_of l (view_of (net_read Whole releases net) book)) all

-- blocks: all, or those of the team
blocks_listed : (team : Option (List ℕ)) (net : Net) (book : SpnBook) (rs : List Sheet)
    → Some (blocks_table team (view_of (net_read Rows rs net) book)) ≡ Some (blocks_table team (view_of net book))
blocks_listed team net book rs =
    ap Some
    (blocks_same (view_of (net_read Rows rs net) book) (view_of net book) (rows_alike rs net book)
    (filter (is_wanted team) (blocks_of net book)))

-- the list
listed : (l : NetLook) (net : Net) (book : SpnBook) (rs : List Sheet) → AreRead (reads_of l).releases net.releases rs
    → table_of l (view_of (net_read (reads_of l).messages rs net) book) ≡ table_of l (view_of net book)
listed (look.Overview overview.State) net book rs read =
    ap (λ n. Some (state_with (view_of net book) n (last_release rs))) read.0
    ∙ ap (λ s. Some (state_with (view_of net book) (length net.releases) s)) read.1
listed (look.Overview overview.Blocks) net book rs read = blocks_listed None net book rs
listed (look.OfTeam of_team.Blocks team) net book rs read = blocks_listed (Some team) net book rs
listed (look.Overview overview.Held) net book rs read =
    ap (λ (releases : List Sheet). table_of (look.Overview overview.Held) (view_of (net_read Nothing releases net) book)) read
listed (look.Overview overview.Releases) net book rs read =
    ap (λ (releases : List Sheet). table_of (look.Overview overview.Releases) (view_of (net_read Nothing releases net) book)) read
listed (look.Overview overview.Nodes) net book rs read =
    let nodes = net.head.frame.nodes in
    let list = λ (rows : List (List Fact)). Some (plain NODES rows NODE_TOTALS (of_number (length nodes) ∷ [])) in
    ap (λ ms. list (map (node_row ms) nodes)) (messages_with received_of net.live)
    ∙ ap list
    (map_same (node_row (map (message_with received_of) (live_messages net.live)))
    (node_row (live_messages net.live)) (node_same (live_messages net.live)) nodes)
listed (look.Node name) net book rs read =
    let there = has_node net.head.frame.nodes name in
    ap (λ ms. if there then Some (uses_table name ms) else None) (messages_with received_of net.live)
    ∙ ap (λ (t : Listing). if there then Some t else None) (uses_same name (live_messages net.live))
listed l net book rs read = all_listed l net book rs read

-- its lines
as_lines : (l : NetLook) (net : Net) (book : SpnBook) (rs : List Sheet) → AreRead (reads_of l).releases net.releases rs
    → text_of l (view_of (net_read (reads_of l).messages rs net) book) ≡ text_of l (view_of net book)
as_lines (look.Message name) net book rs read = all_read (look.Message name) net book rs read
as_lines l net book rs read = ap (option_map (list_in Lines)) (listed l net book rs read)

pub unread : (form : LookForm) (l : NetLook) (net : Net) (book : SpnBook) (rs : List Sheet)
    → AreRead (reads_of l).releases net.releases rs
    → shown_of form l (view_of (net_read (reads_of l).messages rs net) book) ≡ shown_of form l (view_of net book)
unread Lines l net book rs read = as_lines l net book rs read
unread Json l net book rs read = ap (option_map (list_in Json)) (listed l net book rs read)
