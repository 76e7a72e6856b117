-- When a decision is that of a list of tests and of what comes after them.
use Rattle.std.proofs.Common.{◌≡◌, ℕ, List, [], Option, Some, None, sym, ap, subst}
use Rattle.base.specs.Refusing.{Test, first_refusal}
use Rattle.office_types.specs.declared.change.Change.{Change}
use Rattle.office_types.specs.declared.change.Decision.{Decision}
use Rattle.office_types.specs.declared.refusal.Refusal.{Refusal}
use Rattle.office_types.specs.declared.reply.Reply.TheVariants.{Refused}
use Rattle.office_types.specs.declared.state.Net.{Net}
use Rattle.office_rules.specs.Change.{AllFit, Decides, HaveOwnBlocks, IsHeadFirst, NetAndBook, all_applied}
use Rattle.office_rules.specs.Outcome.{Outcome, refused_or, unless}

nothing_first : (net : Option Net) → IsHeadFirst net []
nothing_first None = tt
nothing_first (Some net) = tt

-- the first refusal of the tests is the reply, and nothing changes
pub Decides-refused : (name : List ℕ) (before : NetAndBook) (tests : List (Test Refusal)) (out : Outcome) (d : Decision)
    (r : Refusal)
    → Some r ≡ first_refusal tests → d.reply ≡ Refused r → d.changes ≡ [] → Decides name before (unless tests out) d
Decides-refused name before tests out d r first reply quiet =
    subst (λ (o : Option Refusal). Decides name before (refused_or o out) d) first (record {
      reply = reply;
      changes = ap (λ (cs : List Change). all_applied name cs before) quiet;
      quiet = quiet;
      head_first = subst (λ (cs : List Change). IsHeadFirst before.net cs) (sym quiet) (nothing_first before.net);
      own_blocks = subst (λ (cs : List Change). HaveOwnBlocks cs) (sym quiet) tt;
      fit = subst (λ (cs : List Change). AllFit name cs before) (sym quiet) tt;
    })

-- no test refuses, and the decision is that of what comes after the tests
pub Decides-given : (name : List ℕ) (before : NetAndBook) (tests : List (Test Refusal)) (out : Outcome) (d : Decision)
    → None ≡ first_refusal tests → Decides name before out d → Decides name before (unless tests out) d
Decides-given name before tests out d none given =
    subst (λ (o : Option Refusal). Decides name before (refused_or o out) d) none given
