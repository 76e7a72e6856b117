-- What a function that reads from the front of the tokens returns, and what it leaves.
use Rattle.std.specs.Prelude.{◌≡◌, ℕ, List, [], ◌∷◌, ◌++◌, Some, None, Result, Ok, Err, option_and_then}
use Rattle.dbc_grammar.specs.Parsing.{Parsed, mark_at}
use Rattle.dbc_grammar.specs.Token.{Token}
use Rattle.dbc_lex.specs.Fault.{UnlessMemory}
use Rattle.dbc_lex.specs.declared.fault.ReadFault.{ReadFault}

-- The result is what the tokens begin with, and the rest is left; or they don't begin with such a thing; or memory ran
-- out.
abbrev pub ReadsTokens : {X Y : Type 0} → (X → Y) → Result X ReadFault → Parsed Y → List Token → Type 0
ReadsTokens view (Ok x) parsed rest = parsed ≡ Some (view x, rest)
ReadsTokens view (Err fault) parsed rest = UnlessMemory fault.code (parsed ≡ None)

-- the view of a result that is the value itself
abbrev pub itself : {X : Type 0} → X → X
itself x = x

-- one more thing is read, after those that were read before
abbrev pub with_one : {A : Type 0} → List A → Parsed A → Parsed (List A)
with_one front o = option_and_then (λ b. Some (front ++ b.0 ∷ [], b.1)) o

-- the mark of this spelling follows
abbrev pub with_mark : {A : Type 0} → Parsed A → List ℕ → Parsed A
with_mark o spelling = option_and_then (λ a. option_and_then (λ b. Some (a.0, b.1)) (mark_at spelling a.1)) o
