-- The changes of an import, and its reply.
use Rattle.std.specs.Prelude.{ℕ, List, ◌∷◌, ◌++◌, length, map}
use Rattle.dbc_sheet.specs.declared.sheet.Sheet.{Sheet}
use Rattle.office_types.specs.declared.change.Change.{Change}
use Rattle.office_types.specs.declared.change.Change.TheVariants.{SetHead, SetMessage, EnterSpn}
use Rattle.office_types.specs.declared.reply.Reply.{Reply}
use Rattle.office_types.specs.declared.reply.Reply.TheVariants.{Counts}
use Rattle.office_types.specs.declared.state.Net.{Net}
use Rattle.office_rules.specs.Importing.{live_already, new_messages, owned_by, spns_of, widened}

-- the head with what is new in its frame, the new messages, and the numbers of their signals
abbrev pub import_changes : List ℕ → Net → Sheet → List Change
import_changes team net s =
    SetHead (record net.head { frame = widened net.head.frame s })
    ∷ (map (λ m. SetMessage (owned_by team m)) (new_messages net s.messages)
    ++ map EnterSpn (spns_of (new_messages net s.messages)))

-- how many messages are new, and how many are live already
abbrev pub import_reply : Net → Sheet → Reply
import_reply net s = Counts (length (new_messages net s.messages)) (length (live_already net s.messages))
