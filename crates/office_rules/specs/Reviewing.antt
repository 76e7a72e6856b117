-- Reviews and releases.
use Rattle.std.specs.Prelude.{ℕ, ◌+◌, not, nat_lt, nat_le, List, [], ◌∷◌, ◌++◌, length, Option}
use Rattle.base.specs.Keyed.{put, text_cmp}
use Rattle.base.specs.Refusing.{Test}
use Rattle.dbc_sheet.specs.declared.sheet.Sheet.{Sheet}
use Rattle.office_types.specs.PlainName.{is_office}
use Rattle.office_types.specs.State.{sheet_of}
use Rattle.office_types.specs.declared.refusal.Refusal.{Refusal}
use Rattle.office_types.specs.declared.refusal.Refusal.TheVariants as no
use Rattle.office_types.specs.declared.reply.Reply.TheVariants.{Done, Release}
use Rattle.office_types.specs.declared.state.Net.{Net}
use Rattle.office_types.specs.declared.state.Phase.{Phase}
use Rattle.office_types.specs.declared.state.Phase.TheVariants.{Draft, Review}
use Rattle.office_rules.specs.Facts.{in_review, is_submitter}
use Rattle.office_rules.specs.Outcome.{no_entries, Outcome, Changing, when, on_net, unless, given_or}

-- the network in this phase, without approvals
abbrev pub in_phase : Net → Phase → Net
in_phase net phase = record net { head = record net.head { phase = phase }; approvals = [] }

-- Request a review: teams change nothing until it ends.

abbrev pub submit_tests : Option Net → List (Test Refusal)
submit_tests net = on_net net (λ n. when (in_review n.head.phase) no.InReview ∷ [])

abbrev pub submit : List ℕ → Option Net → Outcome
submit team net =
    unless (submit_tests net) (given_or no.NoNet net (λ n. Changing Done (in_phase n (Review team)) no_entries))

-- Approve, or turn down: not the team that requested it.

abbrev pub review_tests : List ℕ → Option Net → List (Test Refusal)
review_tests team net =
    on_net net (λ n.
    when (not (in_review n.head.phase)) no.NotInReview
    ∷ when (is_submitter team n.head.phase) no.OwnReview ∷ [])

abbrev pub with_approval : Net → List ℕ → Net
with_approval net team = record net { approvals = put text_cmp team net.approvals }

abbrev pub approve : List ℕ → Option Net → Outcome
approve team net =
    unless (review_tests team net) (given_or no.NoNet net (λ n. Changing Done (with_approval n team) no_entries))

abbrev pub reject : List ℕ → Option Net → Outcome
reject team net =
    unless (review_tests team net) (given_or no.NoNet net (λ n. Changing Done (in_phase n Draft) no_entries))

-- Freeze the live sheet as the next release, once it has enough approvals.

-- the greatest number of releases of a network
abbrev pub release_limit : ℕ
release_limit = 65535

abbrev pub release_tests : List ℕ → Option Net → List (Test Refusal)
release_tests team net =
    when (not (is_office team)) no.NotOffice
    ∷ on_net net (λ n.
    when (not (in_review n.head.phase)) no.NotInReview
    ∷ when (nat_lt (length n.approvals) n.head.reviews) no.NeedsMore
    ∷ when (nat_le release_limit (length n.releases)) no.TooMany ∷ [])

abbrev pub with_release : Net → Sheet → Net
with_release net s = record net { releases = net.releases ++ s ∷ [] }

abbrev pub release : List ℕ → Option Net → Outcome
release team net =
    unless (release_tests team net)
    (given_or no.NoNet net (λ n.
    Changing (Release (length n.releases + 1)) (in_phase (with_release n (sheet_of n)) Draft) no_entries))
