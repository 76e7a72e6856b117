-- All of each message.
use Rattle.std.specs.Prelude.{◌≡◌, ℕ, ◌*◌, ◌==◌, nat_lt, Bool, List, [], ◌++◌, Option, Some}
use Rattle.std.specs.Prelude.{None, codes, decimal, length, map, if◌then◌else◌}
use Rattle.std.specs.Bool.{MatchBool}
use Rattle.std.specs.List.{enumerate_from}
use Rattle.can_id.specs.J1939.{Fields, format_of, ident_fields, is_pdu1, pgn_of}
use Rattle.can_id.specs.declared.ident.Ident.{Ident}
use Rattle.dbc_sheet.specs.Messages.{number_of}
use Rattle.dbc_sheet.specs.declared.message.Message.{Message}
use Rattle.dbc_sheet.specs.declared.signal.Signal.{Signal}
use Rattle.markup.specs.Html.{element_html, end_tag, escaped, start_tag, valued}
use Rattle.markup.specs.declared.tag.Tag.{Tag}
use Rattle.markup.specs.declared.tag.Tag.TheVariants as tag
use Rattle.page_parts.specs.Frames.{heading_html, wide}
use Rattle.page_parts.specs.Letters.{badge}
use Rattle.page_parts.specs.Marks.{state_at}
use Rattle.page_parts.specs.Numbers.{ident_hex}
use Rattle.page_parts.specs.Subjects.{messages_of, names_of, owner_at}
use Rattle.page_parts.specs.Words.{counted, dot, isolated}
use Rattle.page_parts.specs.declared.marks.Marks.{Marks}
use Rattle.page_parts.specs.declared.marks.State.{State}
use Rattle.page_parts.specs.declared.marks.State.TheVariants.{New, Same}
use Rattle.page_parts.specs.declared.subject.Subject.{Subject}
use Rattle.page_messages.specs.Layouts.{AreFor, AreLayouts}
use Rattle.page_messages.specs.Signals.{Listed, first_coding, has_common_coding, listed, listed_of, signals_html}
use Rattle.page_messages.specs.Used.{used_bits}
use Rattle.page_messages.specs.declared.each.TheConstants.{SHOWN_MESSAGES}
use Rattle.page_messages.specs.declared.shown.Shown.{Shown}

-- ---- the title

abbrev pub state_word : State → List ℕ
state_word Same = []
state_word New = codes "new"
state_word state = codes "changed"

abbrev pub state_mark : List ℕ → List ℕ
state_mark word = if length word == 0 then [] else codes " " ++ element_html tag.Emphasis [] word

-- the name, and whose the message is
abbrev pub owned_name : List (List ℕ) → List ℕ → List ℕ → List ℕ
owned_name names owner name = element_html tag.Bold [] name ++ (codes " " ++ badge names owner)

-- the same, and what has become of it
abbrev pub title_html : List (List ℕ) → List ℕ → State → List ℕ → List ℕ
title_html names owner state name =
    start_tag tag.H3 [] ++ (owned_name names owner name ++ (state_mark (state_word state) ++ end_tag tag.H3))

-- ---- facts, each after a dot but for the first

abbrev pub fact : List ℕ → ℕ → List ℕ
fact word n = dot ++ (word ++ decimal n)

abbrev pub destination_fact : Fields → List ℕ
destination_fact f = if is_pdu1 (format_of (pgn_of f)) then fact (codes "destination ") f.ps else []

abbrev pub fields_facts : Fields → List ℕ
fields_facts f =
    fact (codes "PGN ") (pgn_of f) ++ (fact (codes "priority ") f.priority ++ (fact (codes "source ") f.source
    ++ destination_fact f))

abbrev pub fields_facts_if : Option Fields → List ℕ
fields_facts_if None = []
fields_facts_if (Some f) = fields_facts f

abbrev pub group_facts : Bool → Ident → List ℕ
group_facts is_j1939 i = if is_j1939 then fields_facts_if (ident_fields i) else []

-- `40 of 64 bits used`
abbrev pub used_words : Message → List ℕ
used_words m = decimal (used_bits m) ++ (codes " of " ++ (decimal (8 * m.length) ++ codes " bits used"))

abbrev pub size_facts : Message → List ℕ
size_facts m = dot ++ (counted m.length (codes "byte") ++ (dot ++ used_words m))

-- how all signals are coded, if they are coded alike
abbrev pub coding_fact : List Signal → List ℕ
coding_fact signals = if has_common_coding signals then dot ++ escaped (first_coding signals) else []

abbrev pub ident_code : Ident → List ℕ
ident_code i = start_tag tag.Code [] ++ (ident_hex i ++ end_tag tag.Code)

abbrev pub facts_html : Bool → Message → List ℕ
facts_html is_j1939 m =
    ident_code m.ident ++ (fact [] (number_of m) ++ (group_facts is_j1939 m.ident
    ++ (size_facts m ++ coding_fact m.signals)))

-- ---- from whom to whom

abbrev pub sender_html : Option (List ℕ) → List ℕ
sender_html (Some name) = element_html tag.Bold [] name
sender_html None = codes "nobody named"

-- `receivers` is who receives the message
abbrev pub route_html : Option (List ℕ) → List ℕ → List ℕ
route_html sender receivers = codes "from " ++ (sender_html sender ++ (codes ", to " ++ receivers))

-- ---- a card

abbrev pub paragraph : List ℕ → List ℕ → List ℕ
paragraph attributes content = start_tag tag.Paragraph attributes ++ (content ++ end_tag tag.Paragraph)

abbrev pub comment_html : List ℕ → List ℕ
comment_html comment = if length comment == 0 then [] else paragraph [] (isolated comment)

-- the class and the id of a message's facts: `m-NAME`
abbrev pub facts_id : List ℕ → List ℕ
facts_id name = codes " class=\"q\"" ++ valued (codes " id=\"") (codes "m-" ++ escaped name)

-- facts, from whom to whom, comment
abbrev pub words_html : Bool → Message → List ℕ → List ℕ
words_html is_j1939 m receivers =
    paragraph (facts_id m.name) (facts_html is_j1939 m)
    ++ (paragraph [] (route_html m.transmitter receivers) ++ comment_html m.comment)

-- the table of signals, in a region that scrolls by itself
abbrev pub wide_signals : Message → List Listed → List ℕ
wide_signals m rows =
    start_tag tag.Division (wide (codes "Signals of " ++ escaped m.name))
    ++ (signals_html m rows ++ end_tag tag.Division)

-- a card is a section; of many messages it is folded, and the title is its summary
abbrev pub card_tag : Bool → Tag
card_tag is_folded = if is_folded then tag.Details else tag.Section

abbrev pub card_title : Bool → List ℕ → List ℕ
card_title is_folded title =
    if is_folded then start_tag tag.Summary [] ++ (title ++ end_tag tag.Summary) else title

-- a card with this title and content
abbrev pub card_html : Bool → List ℕ → List ℕ → List ℕ
card_html is_folded title content =
    start_tag (card_tag is_folded) (codes " class=\"card\"")
    ++ (card_title is_folded title ++ (content ++ end_tag (card_tag is_folded)))

abbrev pub is_folded : Subject → Bool
is_folded subject = nat_lt SHOWN_MESSAGES (length (messages_of subject))

abbrev pub title_of : Subject → Marks → ℕ → Message → List ℕ
title_of subject marks i m = title_html (names_of subject) (owner_at subject i) (state_at marks i) m.name

-- the layouts of the message, and the table of its signals, of which each is shown once, in order
pub record HasTables (marks : Marks) (i : ℕ) (m : Message) (bytes : List ℕ) : Type 0 where
  pub shown : List Shown
  pub layouts : List ℕ
  pub are_shown : map listed_of shown ≡ listed marks i m.signals
  pub are_layouts : AreLayouts m shown layouts
  pub is : bytes ≡ layouts ++ wide_signals m (listed marks i m.signals)

-- the card of the message at the index: title, facts, from whom to whom, comment, layouts, table of signals
pub record IsCard (subject : Subject) (marks : Marks) (i : ℕ) (m : Message) (card : List ℕ) : Type 0 where
  pub receivers : List ℕ
  pub tables : List ℕ
  pub has_tables : HasTables marks i m tables
  pub is : card ≡ card_html (is_folded subject) (title_of subject marks i m)
      (words_html subject.is_j1939 m receivers ++ tables)

-- ---- the part

-- a card for each message, in order
abbrev pub AreCards : Subject → Marks → List (ℕ × Message) → List ℕ → Type 0
AreCards subject marks messages bytes = AreFor (λ p. IsCard subject marks p.0 p.1) messages bytes

-- the part with these cards
abbrev pub each_html : List ℕ → List ℕ
each_html cards =
    start_tag tag.Section (codes " id=\"each\"") ++ (heading_html (codes "Each message")
    (Some (codes "signals by their number in the table; 15:8 are bits of the raw value"))
    ++ (cards ++ end_tag tag.Section))

-- the part with all of each message, if there are some
abbrev pub IsEach : Subject → Marks → List ℕ → Type 0
IsEach subject marks bytes = MatchBool (length (messages_of subject) == 0) (bytes ≡ [])
    ((cards : List ℕ) × AreCards subject marks (enumerate_from 0 (messages_of subject)) cards
    × (bytes ≡ each_html cards))
