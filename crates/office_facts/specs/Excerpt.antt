-- Which facts are those of a network.
use Rattle.std.specs.Prelude.{◌≡◌, ℕ, Bool, true, false, List, IfSome}
use Rattle.office_types.specs.declared.command.Task.{Task}
use Rattle.office_types.specs.declared.command.Task.TheVariants.{Act}
use Rattle.office_types.specs.declared.state.Net.{Net}
use Rattle.office_rules.specs.Facts.{message_facts, was_released}
use Rattle.office_facts.specs.By.{AreGroupFacts, AreIdentFacts}
use Rattle.office_facts.specs.declared.excerpt.Excerpt.{Excerpt}
use Rattle.office_facts.specs.FactsOf.{Facts, Head, Parts, Message, Retiring, Numbers, Whole, facts_in}
use Rattle.office_facts.specs.Scope.{Scope, scope_of}
use Rattle.office_facts.specs.Scope as of

-- facts of this scope
abbrev pub fits : Scope → Facts → Bool
fits of.Head (Head h) = true
fits of.Parts (Parts h bs) = true
fits (of.Message name) (Message f) = true
fits (of.Retiring name) (Retiring f released) = true
fits (of.Idents c) (Numbers f) = true
fits (of.Groups c) (Numbers f) = true
fits of.Whole (Whole n) = true
fits scope facts = false

-- the network has these facts for the team
abbrev pub AreFacts : List ℕ → Net → Scope → Facts → Type 0
AreFacts team net of.Head (Head h) = h ≡ net.head
AreFacts team net of.Parts (Parts h bs) = (h ≡ net.head) × (bs ≡ net.blocks)
AreFacts team net (of.Message name) (Message f) = f ≡ message_facts net name
AreFacts team net (of.Retiring name) (Retiring f released) =
    (f ≡ message_facts net name) × IfSome f.found (λ m. was_released net.releases m.message.ident ≡ released)
AreFacts team net (of.Idents c) (Numbers f) = AreIdentFacts team net c f
AreFacts team net (of.Groups c) (Numbers f) = AreGroupFacts team net c f
AreFacts team net of.Whole (Whole n) = n ≡ net
AreFacts team net scope facts = ⊥

-- an excerpt of the scope of the task's action
abbrev pub is_for : Task → Excerpt → Bool
is_for (Act a) e = fits (scope_of a) (facts_in e)
is_for task e = false

-- the network has this excerpt for the team's task
abbrev pub IsExcerptOf : List ℕ → Net → Task → Excerpt → Type 0
IsExcerptOf team net (Act a) e = AreFacts team net (scope_of a) (facts_in e)
IsExcerptOf team net task e = ⊥
