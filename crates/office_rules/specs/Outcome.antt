-- What the office does with a command: the first refusal of the command's list that holds, or its reply and its change
-- where none does.
use Rattle.std.specs.Prelude.{Bool, List, [], ◌∷◌, ℕ, Option, Some, None, is_none}
use Rattle.std.specs.Ordering.{nat_cmp}
use Rattle.base.specs.Refusing.{Test, first_refusal}
use Rattle.office_types.specs.Book.{by_net}
use Rattle.office_types.specs.declared.book.SpnBlock.{SpnBlock}
use Rattle.office_types.specs.declared.book.SpnBook.{SpnBook}
use Rattle.office_types.specs.declared.refusal.Refusal.{Refusal}
use Rattle.office_types.specs.declared.refusal.Refusal.TheVariants as no
use Rattle.office_types.specs.declared.reply.Reply.{Reply}
use Rattle.office_types.specs.declared.reply.Reply.TheVariants.{Refused}
use Rattle.office_types.specs.declared.state.Net.{Net}
use Rattle.office_rules.specs.Lists.{put_all}

-- What a command enters into the book: blocks, and used numbers. The book gets more by it and never less.
pub record Entries : Type 0 where
  pub blocks : List SpnBlock
  pub numbers : List ℕ

abbrev pub no_entries : Entries
no_entries = record { blocks = []; numbers = [] }

abbrev pub entered : SpnBook → Entries → SpnBook
entered book e = record { blocks = put_all by_net e.blocks book.blocks; used = put_all nat_cmp e.numbers book.used }

-- A command is refused; or it is answered, leaves its network so, and enters this into the book.
pub data Outcome : Type 0 where
  Refusing : Refusal → Outcome
  Changing : Reply → Net → Entries → Outcome

abbrev pub reply_of : Outcome → Reply
reply_of (Refusing r) = Refused r
reply_of (Changing r net e) = r

-- it is refused so, where this holds
abbrev pub when : Bool → Refusal → Test Refusal
when holds refusal = record { holds = holds; refusal = refusal }

-- tests of a thing, where it is there
abbrev pub requested_of : {A : Type 0} → Option A → (A → List (Test Refusal)) → List (Test Refusal)
requested_of None tests = []
requested_of (Some x) tests = tests x

-- the network must be there, and is tested further
abbrev pub on_net : Option Net → (Net → List (Test Refusal)) → List (Test Refusal)
on_net net tests = when (is_none net) no.NoNet ∷ requested_of net tests

abbrev pub refused_or : Option Refusal → Outcome → Outcome
refused_or (Some r) out = Refusing r
refused_or None out = out

abbrev pub unless : List (Test Refusal) → Outcome → Outcome
unless tests out = refused_or (first_refusal tests) out

-- Where no test holds there is something to go on with. The other case never comes, since one of the tests refuses with
-- this very refusal where there is nothing.
abbrev pub given_or : {A : Type 0} → Refusal → Option A → (A → Outcome) → Outcome
given_or refusal None out = Refusing refusal
given_or refusal (Some x) out = out x
