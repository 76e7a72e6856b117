-- The lines of a kept text, part by part.
use Rattle.dbc_keep.proofs.Common.{◌≡◌, ◌==◌, ◌&&◌, ◌++◌, ℕ, Bool, true, false, List, [], ◌∷◌, map, refl, sym, ap, ◌∙◌}
use Rattle.dbc_keep.proofs.Common.{append_assoc, flat_map, defaults_spn, defines_spn, has_spn, place_of, Passed, Sheet}
use Rattle.std.proofs.Common.{◌||◌, not, if◌then◌else◌}
use Rattle.std.specs.List.{list_any}
use Rattle.dbc_grammar.specs.Canon.{Line, comment_lines, each_signal, message_comments, message_lines, node_comment}
use Rattle.dbc_grammar.specs.Canon.{nodes_line, spn_default, spn_definition, spn_lines, symbols_line, table_line}
use Rattle.dbc_grammar.specs.Canon.{timing_line, type_lines, value_lines, version_line}
use Rattle.dbc_keep.specs.Finding.{all_found, any_says, found_in, lines_there}
use Rattle.dbc_keep.specs.Parts.{all_lines, declared_lines, sheet_lines}
use Rattle.dbc_keep_law.specs.Kept.{kept_lines, lines_at, unless_said}

-- ---- the statements of a place

there_by : (source : List ℕ) (place : ℕ) (p : Passed) (ps : List Passed) (b : Bool) → (place_of p.keyword == place) ≡ b
    → lines_at place (all_found source ps) ≡ lines_there source place ps
    → lines_at place (all_found source (p ∷ ps)) ≡ lines_there source place (p ∷ ps)
there_by source place p ps true e more = rw e (ap (λ (l : List Line). (found_in source p).line ∷ l) more)
there_by source place p ps false e more = rw e more

there_is : (source : List ℕ) (passed : List Passed) (place : ℕ)
    → lines_at place (all_found source passed) ≡ lines_there source place passed
there_is source [] place = refl
there_is source (p ∷ ps) place =
    there_by source place p ps (place_of p.keyword == place) refl (there_is source ps place)

any_by : (source : List ℕ) (place : ℕ) (says : Line → Bool) (p : Passed) (ps : List Passed) (b : Bool)
    → (place_of p.keyword == place) ≡ b
    → list_any says (lines_at place (all_found source ps)) ≡ any_says source place says ps
    → list_any says (lines_at place (all_found source (p ∷ ps))) ≡ any_says source place says (p ∷ ps)
any_by source place says p ps true e more = rw e (ap (λ b. says (found_in source p).line || b) more)
any_by source place says p ps false e more = rw e more

any_is : (source : List ℕ) (place : ℕ) (says : Line → Bool) (passed : List Passed)
    → list_any says (lines_at place (all_found source passed)) ≡ any_says source place says passed
any_is source place says [] = refl
any_is source place says (p ∷ ps) =
    any_by source place says p ps (place_of p.keyword == place) refl (any_is source place says ps)

declared_is : (s : Sheet) (source : List ℕ) (passed : List Passed) (place : ℕ) (says : Line → Bool) (line : Line)
    → unless_said s says (lines_at place (all_found source passed)) line
    ≡ declared_lines s source passed place says line
declared_is s source passed place says line =
    ap (λ b. if has_spn s && not b then line ∷ [] else []) (any_is source place says passed)

-- ---- parts

join2 : (x a b : List Line) → x ++ (a ++ b) ≡ x ++ a ++ b
join2 x a b = sym (append_assoc x a b)

join3 : (x a b c : List Line) → x ++ (a ++ b ++ c) ≡ x ++ a ++ b ++ c
join3 x a b c = join2 x (a ++ b) c ∙ ap (λ (l : List Line). l ++ c) (join2 x a b)

join4 : (x a b c d : List Line) → x ++ (a ++ b ++ c ++ d) ≡ x ++ a ++ b ++ c ++ d
join4 x a b c d = join2 x (a ++ b ++ c) d ∙ ap (λ (l : List Line). l ++ d) (join3 x a b c)

join5 : (x a b c d e : List Line) → x ++ (a ++ b ++ c ++ d ++ e) ≡ x ++ a ++ b ++ c ++ d ++ e
join5 x a b c d e = join2 x (a ++ b ++ c ++ d) e ∙ ap (λ (l : List Line). l ++ e) (join4 x a b c d)

join6 : (x a b c d e f : List Line) → x ++ (a ++ b ++ c ++ d ++ e ++ f) ≡ x ++ a ++ b ++ c ++ d ++ e ++ f
join6 x a b c d e f = join2 x (a ++ b ++ c ++ d ++ e) f ∙ ap (λ (l : List Line). l ++ f) (join5 x a b c d e)

join7 : (x a b c d e f g : List Line) → x ++ (a ++ b ++ c ++ d ++ e ++ f ++ g) ≡ x ++ a ++ b ++ c ++ d ++ e ++ f ++ g
join7 x a b c d e f g = join2 x (a ++ b ++ c ++ d ++ e ++ f) g ∙ ap (λ (l : List Line). l ++ g) (join6 x a b c d e f)

-- ---- all lines

-- the lines of a kept text, where those of a place are given
abbrev assembled : Sheet → (ℕ → List Line) → List Line → List Line → List Line
assembled s at definition default =
    version_line s ∷ symbols_line ∷ timing_line ∷ nodes_line s
    ∷ map table_line s.tables ++ flat_map message_lines s.messages
    ++ at 0 ++ at 1 ++ at 2 ++ at 3 ++ at 4
    ++ comment_lines [] s.comment ++ flat_map node_comment s.nodes ++ flat_map message_comments s.messages ++ at 5
    ++ at 6 ++ definition ++ at 7 ++ default
    ++ at 8 ++ each_signal spn_lines s
    ++ each_signal value_lines s ++ at 9 ++ at 10 ++ at 11 ++ at 12 ++ at 13 ++ at 14
    ++ each_signal type_lines s ++ at 15 ++ at 16

module _ (s : Sheet) (source : List ℕ) (passed : List Passed) where
  abbrev at : ℕ → List Line
  at place = lines_there source place passed

  abbrev definition : List Line
  definition = declared_lines s source passed 6 defines_spn spn_definition

  abbrev default : List Line
  default = declared_lines s source passed 7 defaults_spn spn_default

  are_assembled : kept_lines s (all_found source passed) ≡ assembled s at definition default
  are_assembled = λ i.
      assembled s (λ place. there_is source passed place i)
      (declared_is s source passed 6 defines_spn spn_definition i)
      (declared_is s source passed 7 defaults_spn spn_default i)

  abbrev one : List Line
  one = sheet_lines s source passed

  abbrev two : List Line
  two = one ++ comment_lines [] s.comment ++ flat_map node_comment s.nodes ++ flat_map message_comments s.messages
      ++ at 5

  abbrev three : List Line
  three = two ++ at 6 ++ definition ++ at 7 ++ default

  abbrev four : List Line
  four = three ++ at 8 ++ each_signal spn_lines s

  abbrev five : List Line
  five = four ++ each_signal value_lines s ++ at 9 ++ at 10 ++ at 11 ++ at 12 ++ at 13 ++ at 14

  abbrev comments : List Line
  comments =
      comment_lines [] s.comment ++ flat_map node_comment s.nodes ++ flat_map message_comments s.messages ++ at 5

  abbrev declarations : List Line
  declarations = at 6 ++ definition ++ at 7 ++ default

  abbrev attributes : List Line
  attributes = at 8 ++ each_signal spn_lines s

  abbrev texts : List Line
  texts = each_signal value_lines s ++ at 9 ++ at 10 ++ at 11 ++ at 12 ++ at 13 ++ at 14

  abbrev types : List Line
  types = each_signal type_lines s ++ at 15 ++ at 16

  are_regrouped : one ++ comments ++ declarations ++ attributes ++ texts ++ types ≡ assembled s at definition default
  are_regrouped =
      ap (λ (l : List Line). l ++ declarations ++ attributes ++ texts ++ types)
      (join4 one (comment_lines [] s.comment) (flat_map node_comment s.nodes) (flat_map message_comments s.messages)
      (at 5))
      ∙ ap (λ (l : List Line). l ++ attributes ++ texts ++ types) (join4 two (at 6) definition (at 7) default)
      ∙ ap (λ (l : List Line). l ++ texts ++ types) (join2 three (at 8) (each_signal spn_lines s))
      ∙ ap (λ (l : List Line). l ++ types)
      (join7 four (each_signal value_lines s) (at 9) (at 10) (at 11) (at 12) (at 13) (at 14))
      ∙ join3 five (each_signal type_lines s) (at 15) (at 16)

  pub lines_are : all_lines s source passed ≡ kept_lines s (all_found source passed)
  lines_are = are_regrouped ∙ sym are_assembled
