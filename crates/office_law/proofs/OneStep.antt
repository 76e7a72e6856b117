-- Steps agree.
use Rattle.office_law.proofs.Common.{◌≡◌, ◌⊎◌, ◌∙◌, Bool, true, false, ℕ, List, ◌∷◌, Option, Some, None, inl, inr, refl}
use Rattle.office_law.proofs.Common.{sym, ap, false≢true, ReadsAsOneAtMost, Sheet, SpnBook, Command, Task, Act, Import}
use Rattle.office_law.proofs.Common.{Bundle, Reply, Net, Office, done_task, in_review, FileReading, Reading, Unreadable}
use Rattle.office_law.proofs.Common.{file_imported, file_tests, import, Outcome, Refusing, reply_of, unless, when}
use Rattle.office_law.proofs.Common.{Profile, IsRead, IsReadingOf, Step, file_wanted, net_named, office_after}
use Rattle.office_law.proofs.Common.{step_outcome}
use Rattle.office_types.specs.declared.refusal.FileFault.{FileFault as Fault}
use Rattle.office_types.specs.declared.refusal.Refusal.TheVariants as no
use Rattle.office_rules.specs.Step.{IsUnreadable}
use Rattle.office_law.specs.Agree.{IsFileRefused, StepsAgree}

-- an outcome that reports a fault of the file
record ReportsFault (profile : Profile) (net : Option Net) (task : Task) (out : Outcome) : Type 0 where
  file : List ℕ
  wanted : file_wanted net task ≡ Some file
  fault : Fault
  unreadable : IsUnreadable profile file fault
  refusing : out ≡ Refusing (no.FileFault fault)

-- an import in review is refused whatever the file
in_review_so : (team : List ℕ) (net : Net) (x : FileReading) → in_review net.head.phase ≡ true
    → import team (Some net) x ≡ Refusing no.InReview
in_review_so team net x e =
    ap (λ b. unless (when false no.NoNet ∷ when b no.InReview ∷ file_tests team net x) (file_imported team net x)) e

unreadable_so : (team : List ℕ) (net : Net) (f : Fault) → in_review net.head.phase ≡ false
    → import team (Some net) (Unreadable f) ≡ Refusing (no.FileFault f)
unreadable_so team net f e =
    ap (λ b. unless (when false no.NoNet ∷ when b no.InReview ∷ file_tests team net (Unreadable f))
    (file_imported team net (Unreadable f))) e

in_draft : (profile : Profile) (bytes : List ℕ) (r : FileReading) (b : Bool) → b ≡ false
    → IsRead profile (elim b [ true ↦ None | false ↦ Some bytes ]) r → IsReadingOf profile bytes r
in_draft profile bytes r true e h = absurd (false≢true (sym e))
in_draft profile bytes r false e h = h

wanted_so : (bytes : List ℕ) (b : Bool) → b ≡ false
    → ◌≡◌ {A = Option (List ℕ)} (elim b [ true ↦ None | false ↦ Some bytes ]) (Some bytes)
wanted_so bytes true e = absurd (false≢true (sym e))
wanted_so bytes false e = refl

module _ (law : ReadsAsOneAtMost) (profile : Profile) (team name : List ℕ) (book : SpnBook) where
  two_readings : (net : Net) (file : List ℕ) (x y : FileReading) → in_review net.head.phase ≡ false
      → IsReadingOf profile file x → IsReadingOf profile file y
      → (import team (Some net) x ≡ import team (Some net) y)
      ⊎ (ReportsFault profile (Some net) (Import file) (import team (Some net) x)
      × ReportsFault profile (Some net) (Import file) (import team (Some net) y))
  two_readings net file (Reading s) (Reading t) e h k =
      inl (ap (λ (v : Sheet). import team (Some net) (Reading v)) (law file s t h.0.0 k.0.0 h.0.1 k.0.1).0)
  two_readings net file (Reading s) (Unreadable g) e h k = absurd (k.unread s h)
  two_readings net file (Unreadable f) (Reading t) e h k = absurd (h.unread t k)
  two_readings net file (Unreadable f) (Unreadable g) e h k = inr (
    record {
      file = file;
      wanted = wanted_so file (in_review net.head.phase) e;
      fault = f;
      unreadable = h;
      refusing =
          unreadable_so team net f e;
    },
    record {
      file = file;
      wanted = wanted_so file (in_review net.head.phase) e;
      fault = g;
      unreadable = k;
      refusing =
          unreadable_so team net g e;
    },
  )

  by_phase : (net : Net) (file : List ℕ) (x y : FileReading) (b : Bool) → in_review net.head.phase ≡ b
      → IsRead profile (file_wanted (Some net) (Import file)) x
      → IsRead profile (file_wanted (Some net) (Import file)) y
      → (import team (Some net) x ≡ import team (Some net) y)
      ⊎ (ReportsFault profile (Some net) (Import file) (import team (Some net) x)
      × ReportsFault profile (Some net) (Import file) (import team (Some net) y))
  by_phase net file x y true e h k = inl (in_review_so team net x e ∙ sym (in_review_so team net y e))
  by_phase net file x y false e h k =
      two_readings net file x y e (in_draft profile file x (in_review net.head.phase) e h)
      (in_draft profile file y (in_review net.head.phase) e k)

  agree : (net : Option Net) (task : Task) (x y : FileReading) → IsRead profile (file_wanted net task) x
      → IsRead profile (file_wanted net task) y
      → (done_task team name x net book task ≡ done_task team name y net book task)
      ⊎ (ReportsFault profile net task (done_task team name x net book task)
      × ReportsFault profile net task (done_task team name y net book task))
  agree net (Act a) x y h k = inl refl
  agree net (Bundle parts) x y h k = inl refl
  agree None (Import file) x y h k = inl refl
  agree (Some net) (Import file) x y h k = by_phase net file x y (in_review net.head.phase) refl h k

reported_so : (profile : Profile) (before a : Office) (team : List ℕ) (c : Command) (r : Reply)
    (step : Step profile before team c r a)
    → ReportsFault profile (net_named before c.net) c.task (step_outcome before team step.reading c)
    → IsFileRefused profile before c r a
reported_so profile before a team c r step t = record {
  file = t.file;
  wanted = t.wanted;
  fault = t.fault;
  unreadable = t.unreadable;
  reported = step.answered ∙ ap reply_of t.refusing;
  left = step.left ∙ ap (office_after before) t.refusing;
}

pub steps_agree : ReadsAsOneAtMost → StepsAgree
steps_agree law profile before a b team c r s first second =
    elim (agree law profile team c.net before.book (net_named before c.net) c.task first.reading second.reading
    first.read second.read) [
      | inl same ↦ inl (
        first.answered ∙ ap reply_of same ∙ sym second.answered,
        first.left
            ∙ ap (office_after before) same ∙ sym second.left,
      )
      | inr both ↦ inr (
        reported_so profile before a team c r first both.0,
        reported_so profile before b team c s second both.1,
      )
    ]
