-- What the changes of an import lead to.
use Rattle.office_import.proofs.Common.{◌≡◌, ℕ, List, [], ◌∷◌, ◌++◌, map, Some, refl, sym, ap, subst, ◌∙◌, Message}
use Rattle.office_import.proofs.Common.{Sheet, SpnBook, SetMessage, EnterSpn, Decision, Net, Decides, import_sheet}
use Rattle.office_import.proofs.Common.{new_messages, owned_by, spns_of}
use Rattle.std.specs.Ordering.{nat_cmp}
use Rattle.office_types.specs.declared.change.Change.{Change}
use Rattle.office_types.specs.declared.change.Change.TheVariants.{SetHead}
use Rattle.office_rules.specs.Change.{AllFit, HaveOwnBlocks, NetAndBook, all_applied, applied}
use Rattle.office_rules.specs.Importing.{widened, with_frame, with_messages}
use Rattle.office_rules.specs.Lists.{put_all}
use Rattle.office_rules.specs.Numbers.{with_message}
use Rattle.office_import.specs.Changes.{import_changes, import_reply}

-- some changes, and then others
pub all_applied-append : (name : List ℕ) (cs ds : List Change) (e : NetAndBook)
    → all_applied name (cs ++ ds) e ≡ all_applied name ds (all_applied name cs e)
all_applied-append name [] ds e = refl
all_applied-append name (c ∷ cs) ds e = all_applied-append name cs ds (applied name c e)

-- messages are put one after the other
messages_applied : (name team : List ℕ) (ms : List Message) (net : Net) (book : SpnBook)
    → ◌≡◌ {A = NetAndBook} (all_applied name (map (λ m. SetMessage (owned_by team m)) ms)
    (record { net = Some net; book = book }))
    (record { net = Some (with_messages net (map (owned_by team) ms)); book = book })
messages_applied name team [] net book = refl
messages_applied name team (m ∷ ms) net book = messages_applied name team ms (with_message net (owned_by team m)) book

-- and numbers too
spns_applied : (name : List ℕ) (ns : List ℕ) (net : Net) (book : SpnBook)
    → ◌≡◌ {A = NetAndBook} (all_applied name (map EnterSpn ns) (record { net = Some net; book = book }))
    (record { net = Some net; book = record book { used = put_all nat_cmp ns book.used } })
spns_applied name [] net book = refl
spns_applied name (n ∷ ns) net book =
    spns_applied name ns net (record book { used = put_all nat_cmp (n ∷ []) book.used })

-- no block is set by messages and numbers
no_blocks : (team : List ℕ) (ms : List Message) (ns : List ℕ)
    → HaveOwnBlocks (map (λ m. SetMessage (owned_by team m)) ms ++ map EnterSpn ns)
no_blocks team [] [] = tt
no_blocks team [] (n ∷ ns) = no_blocks team [] ns
no_blocks team (m ∷ ms) ns = no_blocks team ms ns

-- and no signal is added to a message
no_signals : (name team : List ℕ) (ms : List Message) (ns : List ℕ) (e : NetAndBook)
    → AllFit name (map (λ m. SetMessage (owned_by team m)) ms ++ map EnterSpn ns) e
no_signals name team [] [] e = tt
no_signals name team [] (n ∷ ns) e = (tt, no_signals name team [] ns (applied name (EnterSpn n) e))
no_signals name team (m ∷ ms) ns e = (tt, no_signals name team ms ns (applied name (SetMessage (owned_by team m)) e))

-- a head, then messages, then numbers
pub Decides-imported : (name team : List ℕ) (net : Net) (book : SpnBook) (s : Sheet) (d : Decision)
    → d.changes ≡ import_changes team net s → d.reply ≡ import_reply net s
    → Decides name (record { net = Some net; book = book }) (import_sheet team net s) d
Decides-imported name team net book s d changes reply =
    let new = new_messages net s.messages in
    let wide : Net = with_frame net (widened net.head.frame s) in
    let before : NetAndBook = record { net = Some net; book = book } in
    record {
      reply = reply;
      changes =
          ap (λ (cs : List Change). all_applied name cs before) changes
          ∙ all_applied-append name (map (λ m. SetMessage (owned_by team m)) new) (map EnterSpn (spns_of new))
          (record { net = Some wide; book = book })
          ∙ ap (λ (e : NetAndBook). all_applied name (map EnterSpn (spns_of new)) e)
          (messages_applied name team new wide book)
          ∙ spns_applied name (spns_of new) (with_messages wide (map (owned_by team) new)) book;
      quiet = tt;
      head_first = tt;
      own_blocks = subst (λ (cs : List Change). HaveOwnBlocks cs) (sym changes) (no_blocks team new (spns_of new));
      fit = subst (λ (cs : List Change). AllFit name cs before) (sym changes)
          (tt, no_signals name team new (spns_of new) (applied name (SetHead wide.head) before));
    }
