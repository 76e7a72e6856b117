-- Sheets whose messages are clear.
use Rattle.dbc_sheet.proofs.Common.{◌≡◌, ◌<◌, ◌≤◌, ◌+◌, ◌∙◌, ℕ, List, length, take, get_or, All, Option, Some, None}
use Rattle.dbc_sheet.proofs.Common.{sym, ap, subst, false≢true, DoubleNumber, DoubleName, TwoMultiplexors, TooMany}
use Rattle.std.proofs.Common.{IsNone, is_some}
use Rattle.std.proofs.lemmas.List.{take_more, take_all}
use Rattle.std.proofs.lemmas.List.Elements.{All-push}
use Rattle.dbc_words.specs.Fault.{IsMemoryOr}
use Rattle.dbc_words.specs.declared.fault.SheetCode.{SheetCode}
use Rattle.dbc_words.specs.declared.fault.SheetCode.TheVariants.{OutsidePayload, Clash, NoMultiplexor, Memory}

pub says : (code : SheetCode) (P : Type 0) → P → IsMemoryOr code P
says DoubleNumber P p = p
says DoubleName P p = p
says OutsidePayload P p = p
says Clash P p = p
says NoMultiplexor P p = p
says TwoMultiplexors P p = p
says TooMany P p = p
says Memory P p = tt

-- what holds of the first, and of the next one
pub one_more : {A : Type 0} (P : A → Type 0) (xs : List A) (i : ℕ) (x : A) → i < length xs → x ≡ get_or xs i x → P x
    → All P (take i xs) → All P (take (i + 1) xs)
one_more P xs i x lt is p h = rw (take_more xs i x lt) (All-push P (take i xs) (get_or xs i x) h (subst P is p))

pub all_taken : {A : Type 0} (P : A → Type 0) (xs : List A) (i : ℕ) → length xs ≤ i → All P (take i xs) → All P xs
all_taken P xs i le h = subst (All P) (take_all i xs le) h

pub none_is_none : {A : Type 0} (o : Option A) → o ≡ None → IsNone o
none_is_none o e = ap is_some e

pub some_is_some : {A : Type 0} (o : Option A) (x : A) → o ≡ Some x → ¬ (IsNone o)
some_is_some o x e none = false≢true (sym none ∙ ap is_some e)
