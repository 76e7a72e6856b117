-- What is decided on a command, by what is decided on its action or its import.
use Rattle.office_decide.proofs.Common.{◌≡◌, ℕ, true, false, List, [], Option, Some, None, refl, sym, subst, arith}
use Rattle.office_decide.proofs.Common.{SpnBook, Decision, Action, Command, Act, Import, Net, bundle_outcome, Decides}
use Rattle.office_decide.proofs.Common.{IsDecision, NetAndBook, acted, parts_done, Reading, Unreadable, Refused}
use Rattle.std.proofs.Common.{Bool, Contains}
use Rattle.dbc_lex.specs.Fault.{code_number}
use Rattle.dbc_lex.specs.declared.fault.ReadCode.{ReadCode}
use Rattle.dbc_lex.specs.declared.fault.ReadCode.TheVariants.{DoubleNumber, DoubleName, TwoMultiplexors, TooMany}
use Rattle.dbc_lex.specs.declared.fault.ReadCode.TheVariants.{UnclosedText, StrayByte, Unexpected, UnknownStatement}
use Rattle.dbc_lex.specs.declared.fault.ReadCode.TheVariants.{ExtendedMultiplexing, Number, Identifier, Name, Length}
use Rattle.dbc_lex.specs.declared.fault.ReadCode.TheVariants.{Size, Memory}
use Rattle.office_types.specs.declared.command.Task.{Task}
use Rattle.office_types.specs.declared.command.Task.TheVariants.{Bundle}
use Rattle.office_types.specs.declared.state.Phase.{Phase}
use Rattle.office_types.specs.declared.state.Phase.TheVariants.{Draft, Review}
use Rattle.office_rules.specs.Facts.{in_review}
use Rattle.office_rules.specs.Commands.{done_task}
use Rattle.office_rules.specs.Importing.{FileReading}
use Rattle.office_rules.specs.Profile.{Two}
use Rattle.office_rules.specs.Step.{IsRead, IsUnreadable, fault_codes, file_wanted}
use Rattle.office_types.specs.declared.refusal.FileFault.{FileFault}
use Rattle.office_types.specs.declared.refusal.Refusal.TheVariants.{NoNet}
use Rattle.office_decide.proofs.BundleDecided.{refused_decides}
use Rattle.office_decide.specs.Imported.{IsCommandDecision, IsImportDecision, IsReportedFault, IsWantedReading}

-- Any reading will do where no file is wanted.
pub no_reading : FileReading
no_reading = Unreadable (record { fault = 0; at = 0 })

phase_unwanted : (a : Action) (net : Net) (phase : Phase) → net.head.phase ≡ phase
    → file_wanted (Some net) (Act a) ≡ None
phase_unwanted a net Draft is =
    subst (λ p. file_wanted (Some (record net { head = record net.head { phase = p } })) (Act a) ≡ None) (sym is) refl
phase_unwanted a net (Review team) is =
    subst (λ p. file_wanted (Some (record net { head = record net.head { phase = p } })) (Act a) ≡ None) (sym is) refl

unwanted : (a : Action) (net : Option Net) → file_wanted net (Act a) ≡ None
unwanted a None = refl
unwanted a (Some net) = phase_unwanted a net net.head.phase refl

pub none_read : (net : Option Net) (t : Task) (a : Action) → t ≡ Act a → IsRead Two (file_wanted net t) no_reading
none_read net t a is = subst (λ u. IsRead Two (file_wanted net u) no_reading) (sym is)
    (subst (λ o. IsRead Two o no_reading) (sym (unwanted a net)) (tt {0}))

pub action_decided : (team : List ℕ) (before : NetAndBook) (c : Command) (a : Action) (d : Decision) → c.task ≡ Act a
    → Decides c.net before (acted team c.net before.net before.book a) d → IsCommandDecision team before c d
action_decided team before c a d is h = record {
  reading = no_reading;
  read = subst (λ t. IsWantedReading (file_wanted before.net t) no_reading) (sym is)
      (subst (λ o. IsWantedReading o no_reading) (sym (unwanted a before.net)) (tt {0}));
  decides = subst (λ t. Decides c.net before (done_task team c.net no_reading before.net before.book t) d) (sym is) h;
}

bundle_unwanted : (parts : List Action) (net : Option Net) → file_wanted net (Bundle parts) ≡ None
bundle_unwanted parts None = refl
bundle_unwanted parts (Some net) = by_phase (in_review net.head.phase)
  where
    by_phase : (b : Bool) → ◌≡◌ {A = Option (List ℕ)} (elim b [ true ↦ None | false ↦ None ]) None
    by_phase true = refl
    by_phase false = refl

pub bundle_decided : (team : List ℕ) (before : NetAndBook) (c : Command) (parts : List Action) (d : Decision)
    → c.task ≡ Bundle parts
    → Decides c.net before (bundle_outcome (parts_done team c.net 1 before.net before.book parts)) d
    → IsCommandDecision team before c d
bundle_decided team before c parts d is h = record {
  reading = no_reading;
  read = subst (λ t. IsWantedReading (file_wanted before.net t) no_reading) (sym is)
      (subst (λ o. IsWantedReading o no_reading) (sym (bundle_unwanted parts before.net)) (tt {0}));
  decides = subst (λ t. Decides c.net before (done_task team c.net no_reading before.net before.book t) d) (sym is) h;
}

pub import_decided : (team : List ℕ) (before : NetAndBook) (c : Command) (file : List ℕ) (d : Decision)
    → c.task ≡ Import file
    → IsImportDecision team before.net file d → IsCommandDecision team before c d
import_decided team before c file d is h = record {
  reading = h.reading;
  read = subst (λ t. IsWantedReading (file_wanted before.net t) h.reading) (sym is) h.read;
  decides = subst (λ t. Decides c.net before (done_task team c.net h.reading before.net before.book t) d) (sym is)
      (h.decides c.net before.book);
}

-- an import where the network isn't there is refused
no_net_read : (team : List ℕ) (book : SpnBook) (c : Command) (file : List ℕ) (d : Decision) → c.task ≡ Import file
    → d.changes ≡ [] → d.reply ≡ Refused NoNet
    → IsCommandDecision team (record { net = None; book = book }) c d
no_net_read team book c file d is none reply =
    import_decided team (record { net = None; book = book }) c file d is
    (record {
      reading = no_reading;
      read = tt;
      decides =
          λ name other. refused_decides name (record { net = None; book = other }) NoNet d none reply;
    })

pub no_net_decided : (team : List ℕ) (net : Option Net) (book : SpnBook) (c : Command) (file : List ℕ) (d : Decision)
    → c.task ≡ Import file → net ≡ None → d.changes ≡ []
    → d.reply ≡ Refused NoNet → IsCommandDecision team (record { net = net; book = book }) c d
no_net_decided team net book c file d is absent none reply =
    subst (λ n. IsCommandDecision team (record { net = n; book = book }) c d) (sym absent)
    (no_net_read team book c file d is none reply)

-- each code but that of memory is one that reading has
pub code_reported : (code : ReadCode) → (code ≡ Memory → ⊥) → Contains fault_codes (code_number code)
code_reported DoubleNumber other = (0, omega arith, refl)
code_reported DoubleName other = (1, omega arith, refl)
code_reported TwoMultiplexors other = (2, omega arith, refl)
code_reported TooMany other = (3, omega arith, refl)
code_reported UnclosedText other = (4, omega arith, refl)
code_reported StrayByte other = (5, omega arith, refl)
code_reported Unexpected other = (6, omega arith, refl)
code_reported UnknownStatement other = (7, omega arith, refl)
code_reported ExtendedMultiplexing other = (8, omega arith, refl)
code_reported Number other = (9, omega arith, refl)
code_reported Identifier other = (10, omega arith, refl)
code_reported Name other = (11, omega arith, refl)
code_reported Length other = (12, omega arith, refl)
code_reported Size other = (13, omega arith, refl)
code_reported Memory other = absurd (other refl)

-- a fault that `read` gives is one that the step allows
unreadable_if_reported : (file : List ℕ) (reported : FileFault) → IsReportedFault file reported
    → IsUnreadable Two file reported
unreadable_if_reported file reported h = record {
  unread = λ s reads. h.given.nothing s reads.0;
  code = subst (Contains fault_codes) (sym h.reports.code) (code_reported h.fault.code h.reports.other);
  offset = (let is = h.reports.offset in let within = h.given.within in omega (arith, is, within));
}

read_if_wanted : (wanted : Option (List ℕ)) (reading : FileReading) → IsWantedReading wanted reading
    → IsRead Two wanted reading
read_if_wanted None reading h = tt
read_if_wanted (Some file) (Reading s) h = (h, tt)
read_if_wanted (Some file) (Unreadable reported) h = unreadable_if_reported file reported h

pub decision_if_read : (team : List ℕ) (before : NetAndBook) (c : Command) (d : Decision)
    → IsCommandDecision team before c d → IsDecision team before c d
decision_if_read team before c d h = record {
  reading = h.reading;
  read = read_if_wanted (file_wanted before.net c.task) h.reading h.read;
  decides = h.decides;
}
