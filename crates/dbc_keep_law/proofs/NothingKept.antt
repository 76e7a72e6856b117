-- Where no statement was passed over, the kept text is the canonical one.
use Rattle.dbc_keep_law.proofs.Common.{◌≡◌, ◌==◌, ◌||◌, ◌&&◌, ◌++◌, Bool, true, false, not, if◌then◌else◌, List, []}
use Rattle.dbc_keep_law.proofs.Common.{◌∷◌, map, refl, ap, ◌∙◌, append-nil, append_assoc, flat_map, list_any, Sheet}
use Rattle.dbc_keep_law.proofs.Common.{Line, comment_lines, each_signal, line_text, message_comments, message_lines}
use Rattle.dbc_keep_law.proofs.Common.{node_comment, nodes_line, spn_default, spn_definition, spn_lines, symbols_line}
use Rattle.dbc_keep_law.proofs.Common.{table_line, timing_line, type_lines, value_lines, version_line}
use Rattle.dbc_keep_law.proofs.Common.{with_spn_definitions}
use Rattle.dbc_sheet.specs.declared.message.Message.{Message}
use Rattle.dbc_sheet.specs.declared.signal.Signal.{Signal}
use Rattle.dbc_grammar.specs.Canon.{canonical_lines}
use Rattle.dbc_keep_law.specs.Kept.{has_spn, kept_lines}
use Rattle.dbc_keep_law.specs.Law.{NothingKept}

abbrev has_any : {X : Type 0} → List X → Bool
has_any [] = false
has_any (x ∷ xs) = true

any_of_both : {X : Type 0} (xs ys : List X) → has_any (xs ++ ys) ≡ (has_any xs || has_any ys)
any_of_both [] ys = refl
any_of_both (x ∷ xs) ys = refl

any_of_each : {X Y : Type 0} (g : Y → List X) (p : Y → Bool) → ((y : Y) → has_any (g y) ≡ p y) → (ys : List Y)
    → has_any (flat_map g ys) ≡ list_any p ys
any_of_each g p same [] = refl
any_of_each g p same (y ∷ ys) = any_of_both (g y) (flat_map g ys) ∙ rw (same y, any_of_each g p same ys) refl

one_line : (none : Bool) (l : Line) → has_any (if none then [] else l ∷ []) ≡ not none
one_line true l = refl
one_line false l = refl

spn_there : (s : Sheet) → has_any (each_signal spn_lines s) ≡ has_spn s
spn_there s =
    any_of_each (λ (m : Message). flat_map (spn_lines m) m.signals)
    (λ (m : Message). list_any (λ (x : Signal). not (x.spn == 0)) m.signals)
    (λ m. any_of_each (spn_lines m) (λ (x : Signal). not (x.spn == 0)) (λ x. one_line (x.spn == 0) _) m.signals)
    s.messages

-- the definitions, if there are numbers, before the numbers
defined : (ls front : List Line) (some : Bool) → has_any ls ≡ some
    → front ++ (if some && not false then spn_definition ∷ [] else [])
    ++ (if some && not false then spn_default ∷ [] else []) ++ ls ≡ front ++ with_spn_definitions ls
defined [] front true h = absurd cc
defined [] front false h = simp append-nil
defined (l ∷ ls) front true h = simp append_assoc
defined (l ∷ ls) front false h = absurd cc

abbrev before : Sheet → List Line
before s =
    version_line s ∷ symbols_line ∷ timing_line ∷ nodes_line s
    ∷ map table_line s.tables ++ flat_map message_lines s.messages
    ++ comment_lines [] s.comment ++ flat_map node_comment s.nodes ++ flat_map message_comments s.messages

abbrev numbered : Sheet → List Line
numbered s =
    before s ++ (if has_spn s && not false then spn_definition ∷ [] else [])
    ++ (if has_spn s && not false then spn_default ∷ [] else []) ++ each_signal spn_lines s

padded : (front definition default numbers values types : List Line)
    → front ++ definition ++ [] ++ default ++ [] ++ numbers ++ values ++ [] ++ [] ++ [] ++ [] ++ [] ++ [] ++ types ++ []
    ++ [] ≡ front ++ definition ++ default ++ numbers ++ values ++ types
padded front definition default numbers values types = simp append-nil

padded_front : (heading comments nodes messages : List Line)
    → heading ++ [] ++ [] ++ [] ++ [] ++ [] ++ comments ++ nodes ++ messages ++ [] ++ [] ≡ heading ++ comments ++ nodes
    ++ messages
padded_front heading comments nodes messages = simp append-nil

lines_without : (s : Sheet) → kept_lines s [] ≡ canonical_lines s
lines_without s =
    let definition : List Line = if has_spn s && not false then spn_definition ∷ [] else [] in
    let default : List Line = if has_spn s && not false then spn_default ∷ [] else [] in
    let heading : List Line = version_line s ∷ symbols_line ∷ timing_line ∷ nodes_line s ∷ map table_line s.tables
    ++ flat_map message_lines s.messages in
    let comments = padded_front heading (comment_lines [] s.comment) (flat_map node_comment s.nodes)
    (flat_map message_comments s.messages) in
    let after = λ (ls : List Line). ls ++ definition ++ [] ++ default ++ [] ++ each_signal spn_lines s
    ++ each_signal value_lines s ++ [] ++ [] ++ [] ++ [] ++ [] ++ [] ++ each_signal type_lines s ++ [] ++ [] in
    let front : kept_lines s [] ≡ numbered s ++ each_signal value_lines s ++ each_signal type_lines s =
    ap after comments ∙ padded (before s) definition default (each_signal spn_lines s) (each_signal value_lines s)
    (each_signal type_lines s) in
    front ∙ ap (λ (ls : List Line). ls ++ each_signal value_lines s ++ each_signal type_lines s)
    (defined (each_signal spn_lines s) (before s) (has_spn s) (spn_there s))

pub nothing_kept : NothingKept
nothing_kept s = ap (flat_map line_text) (lines_without s)
