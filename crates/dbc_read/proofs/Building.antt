-- Messages built of lines: the signals of these have what is attached to them.
use Rattle.dbc_read.proofs.Common.{◌≡◌, ◌∙◌, ◌++◌, ℕ, List, [], ◌∷◌, Option, length, map, replicate, IsPermutation}
use Rattle.dbc_read.proofs.Common.{refl, sym, ap, subst, AllByRecursion, Integer, Message, Sheet, Signal, message_with}
use Rattle.dbc_read.proofs.Common.{HasNothingAttached, HaveNothingAttached, message_of, signals_of, Content}
use Rattle.dbc_read.proofs.Common.{MessageLine}
use Rattle.std.specs.Prelude.{drop}
use Rattle.std.proofs.lemmas.List.Sorted.{IsPermutation-map}
use Rattle.dbc_grammar.specs.Statement as dbc
use Rattle.dbc_read.specs.Attaching.{all_signals, commented, each_fed, feeds_of, in_signals, line_signals}
use Rattle.dbc_read.specs.Attaching.{messages_of_lines, messages_with}
use Rattle.dbc_read.specs.Built.{CanBeSheet, IsBuilt, feeds_after, feeds_in, first_or, messages_from, messages_in}
use Rattle.dbc_read.specs.Built.{signals_from}
use Rattle.dbc_read.specs.Fit.{CanShareSheet, HaveFewTexts, IsFit}
use Rattle.dbc_read.specs.Gathered.{gathered_after}
use Rattle.dbc_read.specs.Gathering.{AreBare, HaveNothing}
use Rattle.dbc_read.specs.declared.feed.Feeds.{Feeds}
use Rattle.dbc_read.specs.declared.gathered.Gathered.{Gathered}
use Rattle.dbc_read.specs.declared.passed.Passed.{Passed}
use Rattle.dbc_statements.specs.Statement.{NothingIsAttached}
use Rattle.dbc_statements.specs.declared.statement.Content.TheVariants as content

-- the messages take what is attached, message by message
pub each_takes : (ms : List dbc.MessageLine) (comments : List (List ℕ)) (f : Feeds)
    → messages_with ms comments (each_fed ms f) ≡ messages_from ms comments f
each_takes [] comments f = refl
each_takes (m ∷ ms) comments f = ap (λ l. message_with m (first_or [] comments) (signals_from m.signals f) ∷ l)
    (each_takes ms (drop 1 comments) (feeds_after m.signals f))

-- What is attached in the lines, taken by these.

takes_own : (items rest : List Signal) → signals_from (signals_of items) (feeds_of (items ++ rest)) ≡ items
takes_own [] rest = refl
takes_own (s ∷ items) rest = ap (λ l. s ∷ l) (takes_own items rest)

leaves_others : (items rest : List Signal) → feeds_after (signals_of items) (feeds_of (items ++ rest)) ≡ feeds_of rest
leaves_others [] rest = refl
leaves_others (s ∷ items) rest = leaves_others items rest

each_takes_own : (lines : List MessageLine) → each_fed (map message_of lines) (feeds_of (all_signals lines))
    ≡ map line_signals lines
each_takes_own [] = refl
each_takes_own (line ∷ lines) =
    λ i. takes_own line.signals.items (all_signals lines) i
    ∷ (ap (each_fed (map message_of lines)) (leaves_others line.signals.items (all_signals lines))
    ∙ each_takes_own lines) i

-- so the messages of the lines are those with what is attached there
pub lines_built : (lines : List MessageLine) (comments : List (List ℕ))
    → messages_from (map message_of lines) comments (feeds_of (all_signals lines)) ≡ messages_of_lines lines comments
lines_built lines comments = sym (each_takes (map message_of lines) comments (feeds_of (all_signals lines)))
    ∙ ap (messages_with (map message_of lines) comments) (each_takes_own lines)

-- and they are those with what was listed, where the lines took that
pub fed_built : (old new : List MessageLine) (comments : List (List ℕ)) (f : Feeds)
    → map message_of new ≡ map message_of old → map line_signals new ≡ each_fed (map message_of old) f
    → messages_of_lines new comments ≡ messages_from (map message_of old) comments f
fed_built old new comments f same fed = (λ i. messages_with (same i) comments (fed i))
    ∙ each_takes (map message_of old) comments f

-- where the messages are fit, no signal has too many texts
pub fit_few : (ms : List dbc.MessageLine) (comments : List (List ℕ)) (f : Feeds)
    → AllByRecursion IsFit (messages_from ms comments f) → AllByRecursion (AllByRecursion HaveFewTexts) (each_fed ms f)
fit_few [] comments f h = tt
fit_few (m ∷ ms) comments f h = (h.0.values, fit_few ms (drop 1 comments) (feeds_after m.signals f) h.1)

-- What is gathered, once these lines took what was listed of signals.
abbrev pub in_lines : List MessageLine → Gathered → Gathered
in_lines lines g = record g {
  messages = lines;
  signal_comments = [];
  signal_values = [];
  signal_types = [];
  signal_spns = [];
}

module _ (g : Gathered) (lines : List MessageLine) (same : map message_of lines ≡ map message_of g.messages)
    (fed : map line_signals lines ≡ each_fed (map message_of g.messages) (feeds_in g)) where
  same_messages : messages_in (in_signals (in_lines lines g)) ≡ messages_in g
  same_messages = lines_built lines g.message_comments ∙ fed_built g.messages lines g.message_comments (feeds_in g) same
      fed

  pub built_of_lists : (s : Sheet) → IsBuilt (in_signals (in_lines lines g)) s → IsBuilt g s
  built_of_lists s h = record {
    is_sheet = h.is_sheet;
    version = h.version;
    comment = h.comment;
    nodes = h.nodes;
    tables = h.tables;
    messages = subst (λ (ms : List Message). IsPermutation ms s.messages) same_messages h.messages;
  }

  pub sheet_of_lists : CanBeSheet g → CanBeSheet (in_signals (in_lines lines g))
  sheet_of_lists h = record {
    nodes = h.nodes;
    tables = h.tables;
    messages = subst (AllByRecursion IsFit) (sym same_messages) h.messages;
    together = subst CanShareSheet (sym same_messages) h.together;
  }

-- Lines whose signals have nothing attached.

bare_together : (xs ys : List Signal) → HaveNothingAttached xs → HaveNothingAttached ys → HaveNothingAttached (xs ++ ys)
bare_together [] ys h k = k
bare_together (x ∷ xs) ys h k = (h.0, bare_together xs ys h.1 k)

all_bare : (lines : List MessageLine) → AreBare lines → HaveNothingAttached (all_signals lines)
all_bare [] h = tt
all_bare (line ∷ lines) h = bare_together line.signals.items (all_signals lines) h.0 (all_bare lines h.1)

each_has : {V : Type 0} (get : Signal → V) (d : V) → ((s : Signal) → HasNothingAttached s → get s ≡ d)
    → (signals : List Signal) → HaveNothingAttached signals → map get signals ≡ replicate (length signals) d
each_has get d has [] h = refl
each_has get d has (s ∷ signals) h = λ i. has s h.0 i ∷ each_has get d has signals h.1 i

pub have_nothing : (lines : List MessageLine) → AreBare lines → HaveNothing lines
have_nothing lines bare = λ g.
    let signals = all_signals lines in
    let nothing = all_bare lines bare in
    let comments = each_has (λ (s : Signal). s.comment) [] (λ s h. h.comment) signals nothing in
    let values = each_has (λ (s : Signal). s.values) [] (λ s h. h.values) signals nothing in
    let types = each_has (λ (s : Signal). s.value_type) Integer (λ s h. h.value_type) signals nothing in
    let spns = each_has (λ (s : Signal). s.spn) 0 (λ s h. h.spn) signals nothing in
    λ i. record g {
      signal_comments = comments i;
      signal_values = values i;
      signal_types = types i;
      signal_spns =
          spns i;
    }

-- one statement more
bare_with_one : (lines : List MessageLine) (line : MessageLine) → AreBare lines → HaveNothingAttached line.signals.items
    → AreBare (lines ++ line ∷ [])
bare_with_one [] line h k = (k, tt)
bare_with_one (l ∷ lines) line h k = (h.0, bare_with_one lines line h.1 k)

pub bare_after : (index : Option ℕ) (p : Passed) (c : Content) (g : Gathered) → NothingIsAttached c → AreBare g.messages
    → AreBare (gathered_after index p c g).messages
bare_after index p (content.Message line) g k h = bare_with_one g.messages line.value h k
bare_after index p c g k h = h

-- the first of the lines, and those that are left
pub first_line : (lines : List MessageLine) (line : MessageLine) (rest : List MessageLine)
    (comments left : List (List ℕ)) (other comment : List ℕ) (m : Message)
    → lines ≡ line ∷ rest → other ≡ [] → comment ≡ first_or other comments → left ≡ drop 1 comments
    → m ≡ message_with (message_of line) comment (line_signals line)
    → messages_of_lines lines comments ≡ m ∷ messages_of_lines rest left
first_line lines line rest comments left other comment m first none value others is =
    ap (λ l. messages_of_lines l comments) first
    ∙ ap (λ (x : Message). x ∷ messages_of_lines rest (drop 1 comments))
    (sym (is ∙ ap (λ t. message_with (message_of line) t (line_signals line))
    (value ∙ ap (λ o. first_or o comments) none)))
    ∙ ap (λ l. m ∷ messages_of_lines rest l) (sym others)

-- Lines with the comments on them, in pairs.
abbrev message_of_pair : MessageLine × List ℕ → Message
message_of_pair p = message_with (message_of p.0) p.1 (line_signals p.0)

in_pairs : (lines : List MessageLine) (comments : List (List ℕ)) → map message_of_pair (commented lines comments)
    ≡ messages_of_lines lines comments
in_pairs [] comments = refl
in_pairs (line ∷ lines) comments =
    ap (λ l. message_with (message_of line) (first_or [] comments) (line_signals line) ∷ l)
    (in_pairs lines (drop 1 comments))

in_parts : (ps : List (MessageLine × List ℕ))
    → map message_of_pair ps ≡ messages_of_lines (map (λ p. p.0) ps) (map (λ p. p.1) ps)
in_parts [] = refl
in_parts (p ∷ ps) = ap (λ l. message_of_pair p ∷ l) (in_parts ps)

-- the same messages in another order
pub pairs_moved : (lines sorted_lines : List MessageLine) (comments sorted_comments : List (List ℕ))
    (pairs sorted : List (MessageLine × List ℕ))
    → pairs ≡ commented lines comments → IsPermutation pairs sorted → sorted_lines ≡ map (λ p. p.0) sorted
    → sorted_comments ≡ map (λ p. p.1) sorted
    → IsPermutation (messages_of_lines lines comments) (messages_of_lines sorted_lines sorted_comments)
pairs_moved lines sorted_lines comments sorted_comments pairs sorted are moved lines_are comments_are =
    subst (λ l. IsPermutation l (messages_of_lines sorted_lines sorted_comments))
    (ap (map message_of_pair) are ∙ in_pairs lines comments)
    (subst (λ l. IsPermutation (map message_of_pair pairs) l)
    (in_parts sorted ∙ (λ i. messages_of_lines (sym lines_are i) (sym comments_are i)))
    (IsPermutation-map message_of_pair pairs sorted moved))
