-- What a command gives depends on the book only where it reads it.
use Rattle.office_law.proofs.Common.{◌≡◌, ℕ, Bool, true, false, List, [], ◌∷◌, Option, Some, None, ◌+◌, ◌∙◌, refl, sym}
use Rattle.office_law.proofs.Common.{ap, if◌then◌else◌, list_any, false≢true, or_parts, is_spn, same_form, is_office}
use Rattle.office_law.proofs.Common.{Pgn, SpnBook, Action, Grant, Task, Act, Import, Bundle, Net, PartsOutcome}
use Rattle.office_law.proofs.Common.{bundle_outcome, part_then, with_part, acted, done_task, parts_done, is_granted}
use Rattle.office_law.proofs.Common.{is_j1939, is_spn_granted, FileReading, grant, granted, Entries, Outcome, Refusing}
use Rattle.office_law.proofs.Common.{Changing, entered, on_net, unless, when}
use Rattle.std.specs.Prelude.{not, ◌&&◌}
use Rattle.office_types.specs.declared.command.Action.TheVariants as act
use Rattle.office_types.specs.declared.refusal.Refusal.TheVariants as no
use Rattle.office_law.specs.Apart.{action_needs_book, needs_book}

taken_alike : (b p q r : Bool) → b ≡ false → ◌≡◌ {A = Bool} (if b then p else r) (if b then q else r)
taken_alike true p q r h = absurd (false≢true (sym h))
taken_alike false p q r h = refl

grant_alike : (team name : List ℕ) (net : Option Net) (book other : SpnBook) (c : Grant) → is_spn c.block.form ≡ false
    → grant team name net book c ≡ grant team name net other c
grant_alike team name None book other c h = refl
grant_alike team name (Some n) book other c h =
    ap (λ taken. unless (when (not (is_office team)) no.NotOffice
    ∷ on_net (Some n) (λ n. when (same_form c.block.form Pgn && not (is_j1939 n.head.kind)) no.NotJ1939
    ∷ when taken no.BlockTaken ∷ [])) (granted name n c))
    (taken_alike (is_spn c.block.form) (is_spn_granted book c.block) (is_spn_granted other c.block)
    (is_granted n c.block) h)

act_alike : (team name : List ℕ) (net : Option Net) (book other : SpnBook) (a : Action) → action_needs_book a ≡ false
    → acted team name net book a ≡ acted team name net other a
act_alike team name net book other (act.Grant c) h = grant_alike team name net book other c h
act_alike team name net book other (act.TakeSpn c) h = absurd (false≢true (sym h))
act_alike team name net book other a h = refl

-- and the parts of a bundle, none of which does

same_then : (number : ℕ) (out : Outcome) (f g : Net → Entries → PartsOutcome)
    → ((n : Net) (e : Entries) → f n e ≡ g n e) → part_then number out f ≡ part_then number out g
same_then number (Refusing r) f g h = refl
same_then number (Changing r n e) f g h = ap (with_part r e) (h n e)

parts_alike : (team name : List ℕ) (number : ℕ) (net : Option Net) (book other : SpnBook) (parts : List Action)
    → list_any action_needs_book parts ≡ false
    → parts_done team name number net book parts ≡ parts_done team name number net other parts
parts_alike team name number net book other [] h = refl
parts_alike team name number net book other (a ∷ parts) h =
    let none = or_parts (action_needs_book a) (list_any action_needs_book parts) h in
    same_then number (acted team name net book a)
    (λ n e. parts_done team name (number + 1) (Some n) (entered book e) parts)
    (λ n e. parts_done team name (number + 1) (Some n) (entered other e) parts)
    (λ n e. parts_alike team name (number + 1) (Some n) (entered book e) (entered other e) parts none.1)
    ∙ ap (λ out. part_then number out (λ n e. parts_done team name (number + 1) (Some n) (entered other e) parts))
    (act_alike team name net book other a none.0)

-- a command that doesn't read the book results in the same with any two books
pub task_alike : (team name : List ℕ) (reading : FileReading) (net : Option Net) (book other : SpnBook) (t : Task)
    → needs_book t ≡ false
    → done_task team name reading net book t ≡ done_task team name reading net other t
task_alike team name reading net book other (Act a) h = act_alike team name net book other a h
task_alike team name reading net book other (Import file) h = refl
task_alike team name reading net book other (Bundle parts) h =
    ap bundle_outcome (parts_alike team name 1 net book other parts h)
