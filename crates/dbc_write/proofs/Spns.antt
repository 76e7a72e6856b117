-- The definitions of the attribute SPN are written if some signal has a number.
use Rattle.dbc_write.proofs.Common.{◌≡◌, ◌==◌, ◌++◌, Bool, true, false, if◌then◌else◌, List, [], ◌∷◌, ◌∙◌, flat_map}
use Rattle.dbc_write.proofs.Common.{Line, Message, Signal}
use Rattle.std.proofs.Common.{◌||◌, not, refl}
use Rattle.std.specs.List.{list_any}
use Rattle.dbc_grammar.specs.Canon.{each_signal, spn_definitions, spn_lines, with_spn_definitions}
use Rattle.dbc_sheet.specs.declared.sheet.Sheet.{Sheet}
use Rattle.dbc_write.specs.Sections.{has_spn, message_has_spn}

abbrev has_any : {X : Type 0} → List X → Bool
has_any [] = false
has_any (x ∷ xs) = true

any_of_both : {X : Type 0} (xs ys : List X) → has_any (xs ++ ys) ≡ (has_any xs || has_any ys)
any_of_both [] ys = refl
any_of_both (x ∷ xs) ys = refl

-- a part is there exactly where one of its items gives something
any_of_each : {X Y : Type 0} (g : Y → List X) (p : Y → Bool) → ((y : Y) → has_any (g y) ≡ p y) → (ys : List Y)
    → has_any (flat_map g ys) ≡ list_any p ys
any_of_each g p same [] = refl
any_of_each g p same (y ∷ ys) = any_of_both (g y) (flat_map g ys) ∙ rw (same y, any_of_each g p same ys) refl

one_line : (none : Bool) (l : Line) → has_any (if none then [] else l ∷ []) ≡ not none
one_line true l = refl
one_line false l = refl

spn_line : (m : Message) (s : Signal) → has_any (spn_lines m s) ≡ not (s.spn == 0)
spn_line m s = one_line (s.spn == 0) _

spn_there : (s : Sheet) → has_any (each_signal spn_lines s) ≡ has_spn s
spn_there s =
    any_of_each (λ (m : Message). flat_map (spn_lines m) m.signals) message_has_spn
    (λ m. any_of_each (spn_lines m) (λ (g : Signal). not (g.spn == 0)) (spn_line m) m.signals) s.messages

with_definitions : (ls : List Line) → has_any ls ≡ true → with_spn_definitions ls ≡ spn_definitions ++ ls
with_definitions [] h = search h
with_definitions (l ∷ ls) h = refl

without_definitions : (ls : List Line) → has_any ls ≡ false → with_spn_definitions ls ≡ []
without_definitions [] h = refl
without_definitions (l ∷ ls) h = search h

pub defined_first : (s : Sheet) → has_spn s ≡ true → with_spn_definitions (each_signal spn_lines s) ≡ spn_definitions
    ++ each_signal spn_lines s
defined_first s h = with_definitions (each_signal spn_lines s) (spn_there s ∙ h)

pub none_defined : (s : Sheet) → has_spn s ≡ false → with_spn_definitions (each_signal spn_lines s) ≡ []
none_defined s h = without_definitions (each_signal spn_lines s) (spn_there s ∙ h)
