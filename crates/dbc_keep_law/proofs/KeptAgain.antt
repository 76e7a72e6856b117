-- Formatting a kept text again, with what is passed over in it, changes nothing.
use Rattle.dbc_keep_law.proofs.Common.{◌≡◌, ◌==◌, ◌&&◌, ◌++◌, ℕ, Bool, true, false, not, List, [], ◌∷◌, map, Some}
use Rattle.dbc_keep_law.proofs.Common.{if◌then◌else◌, refl, ap, ◌∙◌, append-nil, append_assoc, filter_map, flat_map}
use Rattle.dbc_keep_law.proofs.Common.{list_any, eqb-true, filter-append, list_any-append, Sheet, Line, comment_lines}
use Rattle.dbc_keep_law.proofs.Common.{each_signal, message_comments, message_lines, node_comment, nodes_line}
use Rattle.dbc_keep_law.proofs.Common.{spn_default, spn_definition, spn_lines, symbols_line, table_line, timing_line}
use Rattle.dbc_keep_law.proofs.Common.{type_lines, value_lines, version_line, Content, CommentIs, Dropped, NodesAre}
use Rattle.dbc_keep_law.proofs.Common.{PassedOver, VersionIs}
use Rattle.std.proofs.lemmas.List.Elements.{filter_map-append}
use Rattle.dbc_keep_law.specs.Kept.{at_place, completed, default_passage, defaults_spn, definition_passage, defines_spn}
use Rattle.dbc_keep_law.specs.Kept.{has_spn, kept_lines, lines_at, place_of, unless_said}
use Rattle.dbc_keep_law.specs.Passages.{Passage}
use Rattle.dbc_law.proofs.Contents as sheet_contents
use Rattle.dbc_keep_law.proofs.KeptDivides.{passages}
use Rattle.dbc_keep_law.proofs.KeptParts.{Unit1, canonical, kept_units, units_at}
use Rattle.dbc_keep_law.proofs.Standing.{Entry}

-- ---- the passages among units

abbrev pub chosen : List Unit1 → List Passage
chosen us = filter_map (λ (u : Unit1). u.passage) us

record Choose (us : List Unit1) (ps : List Passage) : Type 0 where
  is : chosen us ≡ ps

infixl 10 ◌also◌
◌also◌ : {us vs : List Unit1} {ps qs : List Passage} → Choose us ps → Choose vs qs → Choose (us ++ vs) (ps ++ qs)
◌also◌ {us} {vs} a b = record { is = filter_map-append (λ (u : Unit1). u.passage) us vs ∙ (λ i. a.is i ++ b.is i) }

infixl 10 ◌and_none◌
◌and_none◌ : {us vs : List Unit1} {ps : List Passage} → Choose us ps → Choose vs [] → Choose (us ++ vs) ps
◌and_none◌ {ps} a b = record { is = (a also b).is ∙ append-nil ps }

none_of : (cs : List Content) → Choose (map canonical cs) []
none_of [] = record { is = refl }
none_of (c ∷ cs) = record { is = (none_of cs).is }

all_by : (place : ℕ) (e : Entry) (es : List Entry) (b : Bool) → (place_of e.passage.keyword == place) ≡ b
    → chosen (units_at place es) ≡ at_place place (passages es)
    → chosen (units_at place (e ∷ es)) ≡ at_place place (passages (e ∷ es))
all_by place e es true q more = rw q (ap (λ (l : List Passage). e.passage ∷ l) more)
all_by place e es false q more = rw q more

all_of : (place : ℕ) (es : List Entry) → Choose (units_at place es) (at_place place (passages es))
all_of place [] = record { is = refl }
all_of place (e ∷ es) =
    record { is = all_by place e es (place_of e.passage.keyword == place) refl (all_of place es).is }

said_of : (b : Bool) (c : Content) (p : Passage)
    → Choose (if b then record { content = c; passage = Some p } ∷ [] else []) (if b then p ∷ [] else [])
said_of true c p = record { is = refl }
said_of false c p = record { is = refl }

pub kept_chosen : (s : Sheet) (es : List Entry) → chosen (kept_units s es) ≡ completed s (passages es)
kept_chosen s es =
    let heading = none_of (VersionIs s.version ∷ Dropped ∷ Dropped ∷ NodesAre (sheet_contents.node_names s) ∷ []) in
    let tables = none_of (map sheet_contents.table s.tables) in
    let messages = none_of (map sheet_contents.message s.messages) in
    let comment = none_of (sheet_contents.comments CommentIs s.comment) in
    let node_comments = none_of (flat_map sheet_contents.node_comments s.nodes) in
    let message_comments = none_of (flat_map sheet_contents.message_comments s.messages) in
    let spns = none_of (sheet_contents.each_signal sheet_contents.spns s) in
    let values = none_of (sheet_contents.each_signal sheet_contents.value_texts s) in
    let types = none_of (sheet_contents.each_signal sheet_contents.value_types s) in
    let b6 = has_spn s && not (list_any defines_spn (lines_at 6 (passages es))) in
    let b7 = has_spn s && not (list_any defaults_spn (lines_at 7 (passages es))) in
    (heading and_none tables and_none messages
    also all_of 0 es also all_of 1 es also all_of 2 es also all_of 3 es also all_of 4 es
    and_none comment and_none node_comments and_none message_comments also all_of 5 es
    also all_of 6 es also said_of b6 PassedOver definition_passage
    also all_of 7 es also said_of b7 PassedOver default_passage
    also all_of 8 es and_none spns
    and_none values also all_of 9 es also all_of 10 es also all_of 11 es also all_of 12 es also all_of 13 es
    also all_of 14 es
    and_none types also all_of 15 es also all_of 16 es).is

-- ---- those of one place

record Place (place : ℕ) (ps qs : List Passage) : Type 0 where
  is : at_place place ps ≡ qs

infixl 10 ◌then◌
◌then◌ : {place : ℕ} {ps qs xs ys : List Passage} → Place place ps xs → Place place qs ys
    → Place place (ps ++ qs) (xs ++ ys)
◌then◌ {place} {ps} {qs} a b =
    record { is = filter-append (λ (p : Passage). place_of p.keyword == place) ps qs ∙ (λ i. a.is i ++ b.is i) }

there_by : (i j : ℕ) (p : Passage) (ps : List Passage) (c : Bool) → (j == i) ≡ c → place_of p.keyword ≡ j
    → at_place i ps ≡ (if c then ps else [])
    → at_place i (p ∷ ps) ≡ (if c then p ∷ ps else [])
there_by i j p ps true e same more = let here : (place_of p.keyword == i) ≡ true = ap (λ n. n == i) same ∙ e in
    rw here (ap (λ (l : List Passage). p ∷ l) more)
there_by i j p ps false e same more = let here : (place_of p.keyword == i) ≡ false = ap (λ n. n == i) same ∙ e in
    rw here more

at_by : (i j : ℕ) (p : Passage) (ps : List Passage) (b c : Bool) → (place_of p.keyword == j) ≡ b → (j == i) ≡ c
    → at_place i (at_place j ps) ≡ (if c then at_place j ps else [])
    → at_place i (at_place j (p ∷ ps)) ≡ (if c then at_place j (p ∷ ps) else [])
at_by i j p ps false c q e more = rw q more
at_by i j p ps true c q e more = rw q (there_by i j p (at_place j ps) c e (eqb-true (place_of p.keyword) j q) more)

at_at : (i j : ℕ) (c : Bool) → (j == i) ≡ c → (ps : List Passage)
    → at_place i (at_place j ps) ≡ (if c then at_place j ps else [])
at_at i j true e [] = refl
at_at i j false e [] = refl
at_at i j c e (p ∷ ps) = at_by i j p ps (place_of p.keyword == j) c refl e (at_at i j c e ps)

of_place : (i j : ℕ) (ps : List Passage) → Place i (at_place j ps) (if j == i then at_place j ps else [])
of_place i j ps = record { is = at_at i j (j == i) refl ps }

of_said_by : (i : ℕ) (b c : Bool) (p : Passage) → (place_of p.keyword == i) ≡ c
    → at_place i (if b then p ∷ [] else []) ≡ (if c && b then p ∷ [] else [])
of_said_by i true true p e = rw e refl
of_said_by i true false p e = rw e refl
of_said_by i false true p e = refl
of_said_by i false false p e = refl

of_said : (i : ℕ) (b : Bool) (p : Passage)
    → Place i (if b then p ∷ [] else []) (if (place_of p.keyword == i) && b then p ∷ [] else [])
of_said i b p = record { is = of_said_by i b (place_of p.keyword == i) p refl }

module _ (s : Sheet) (ps : List Passage) where
  abbrev b6 : Bool
  b6 = has_spn s && not (list_any defines_spn (lines_at 6 ps))

  abbrev b7 : Bool
  b7 = has_spn s && not (list_any defaults_spn (lines_at 7 ps))

  abbrev at : ℕ → ℕ → List Passage
  at i j = if j == i then at_place j ps else []

  abbrev all_at : ℕ → List Passage
  all_at i =
      at i 0 ++ at i 1 ++ at i 2 ++ at i 3 ++ at i 4 ++ at i 5
      ++ at i 6 ++ (if (6 == i) && b6 then definition_passage ∷ [] else []) ++ at i 7
      ++ (if (7 == i) && b7 then default_passage ∷ [] else [])
      ++ at i 8 ++ at i 9 ++ at i 10 ++ at i 11 ++ at i 12 ++ at i 13 ++ at i 14 ++ at i 15 ++ at i 16

  placed : (i : ℕ) → at_place i (completed s ps) ≡ all_at i
  placed i =
      (of_place i 0 ps then of_place i 1 ps then of_place i 2 ps then of_place i 3 ps then of_place i 4 ps
      then of_place i 5 ps
      then of_place i 6 ps then of_said i b6 definition_passage then of_place i 7 ps then of_said i b7 default_passage
      then of_place i 8 ps then of_place i 9 ps then of_place i 10 ps then of_place i 11 ps then of_place i 12 ps
      then of_place i 13 ps then of_place i 14 ps
      then of_place i 15 ps then of_place i 16 ps).is

  placed_0 : at_place 0 (completed s ps) ≡ at_place 0 ps
  placed_0 = placed 0 ∙ simp append-nil

  placed_1 : at_place 1 (completed s ps) ≡ at_place 1 ps
  placed_1 = placed 1 ∙ simp append-nil

  placed_2 : at_place 2 (completed s ps) ≡ at_place 2 ps
  placed_2 = placed 2 ∙ simp append-nil

  placed_3 : at_place 3 (completed s ps) ≡ at_place 3 ps
  placed_3 = placed 3 ∙ simp append-nil

  placed_4 : at_place 4 (completed s ps) ≡ at_place 4 ps
  placed_4 = placed 4 ∙ simp append-nil

  placed_5 : at_place 5 (completed s ps) ≡ at_place 5 ps
  placed_5 = placed 5 ∙ simp append-nil

  placed_6 : at_place 6 (completed s ps) ≡ at_place 6 ps ++ (if b6 then definition_passage ∷ [] else [])
  placed_6 = placed 6 ∙ simp append-nil

  placed_7 : at_place 7 (completed s ps) ≡ at_place 7 ps ++ (if b7 then default_passage ∷ [] else [])
  placed_7 = placed 7 ∙ simp append-nil

  placed_8 : at_place 8 (completed s ps) ≡ at_place 8 ps
  placed_8 = placed 8 ∙ simp append-nil

  placed_9 : at_place 9 (completed s ps) ≡ at_place 9 ps
  placed_9 = placed 9 ∙ simp append-nil

  placed_10 : at_place 10 (completed s ps) ≡ at_place 10 ps
  placed_10 = placed 10 ∙ simp append-nil

  placed_11 : at_place 11 (completed s ps) ≡ at_place 11 ps
  placed_11 = placed 11 ∙ simp append-nil

  placed_12 : at_place 12 (completed s ps) ≡ at_place 12 ps
  placed_12 = placed 12 ∙ simp append-nil

  placed_13 : at_place 13 (completed s ps) ≡ at_place 13 ps
  placed_13 = placed 13 ∙ simp append-nil

  placed_14 : at_place 14 (completed s ps) ≡ at_place 14 ps
  placed_14 = placed 14 ∙ simp append-nil

  placed_15 : at_place 15 (completed s ps) ≡ at_place 15 ps
  placed_15 = placed 15 ∙ simp append-nil

  placed_16 : at_place 16 (completed s ps) ≡ at_place 16 ps
  placed_16 = placed 16

-- ---- the lines

abbrev line_in : Passage → Line
line_in p = p.line

lines_with : (xs : List Passage) (b : Bool) (p : Passage)
    → map line_in (xs ++ (if b then p ∷ [] else [])) ≡ map line_in xs ++ (if b then p.line ∷ [] else [])
lines_with [] true p = refl
lines_with [] false p = refl
lines_with (x ∷ xs) b p = ap (λ (l : List Line). x.line ∷ l) (lines_with xs b p)

any_total : (says : Line → Bool) (kept : List Line) (l : Line) → says l ≡ true → (a : Bool) → list_any says kept ≡ a
    → list_any says (kept ++ (if not a then l ∷ [] else [])) ≡ true
any_total says kept l h true e = list_any-append says kept [] ∙ rw e refl
any_total says kept l h false e = list_any-append says kept (l ∷ []) ∙ rw (e, h) refl

not_again : (some : Bool) (says : Line → Bool) (kept : List Line) (l : Line) → says l ≡ true
    → (if some && not (list_any says (kept ++ (if some && not (list_any says kept) then l ∷ [] else [])))
    then l ∷ [] else []) ≡ []
not_again false says kept l h = refl
not_again true says kept l h =
    ap (λ b. if not b then l ∷ [] else []) (any_total says kept l h (list_any says kept) refl)

abbrev assemble : Sheet → List Line → List Line → List Line → List Line → List Line → List Line → List Line → List Line
    → List Line → List Line → List Line → List Line → List Line → List Line → List Line → List Line → List Line
    → List Line → List Line → List Line
assemble s l0 l1 l2 l3 l4 l5 l6 l7 l8 l9 l10 l11 l12 l13 l14 l15 l16 d6 d7 =
    version_line s ∷ symbols_line ∷ timing_line ∷ nodes_line s
    ∷ map table_line s.tables ++ flat_map message_lines s.messages
    ++ l0 ++ l1 ++ l2 ++ l3 ++ l4
    ++ comment_lines [] s.comment ++ flat_map node_comment s.nodes ++ flat_map message_comments s.messages ++ l5
    ++ l6 ++ d6 ++ l7 ++ d7
    ++ l8 ++ each_signal spn_lines s
    ++ each_signal value_lines s ++ l9 ++ l10 ++ l11 ++ l12 ++ l13 ++ l14
    ++ each_signal type_lines s ++ l15 ++ l16

shift : (x l d : List Line) → x ++ (l ++ d) ++ [] ≡ x ++ l ++ d
shift x l d = simp (append-nil, append_assoc)

module _ (s : Sheet) (l0 l1 l2 l3 l4 l5 l6 l7 l8 l9 l10 l11 l12 l13 l14 l15 l16 d6 d7 : List Line) where
  abbrev to_six : List Line
  to_six =
      version_line s ∷ symbols_line ∷ timing_line ∷ nodes_line s
      ∷ map table_line s.tables ++ flat_map message_lines s.messages
      ++ l0 ++ l1 ++ l2 ++ l3 ++ l4
      ++ comment_lines [] s.comment ++ flat_map node_comment s.nodes ++ flat_map message_comments s.messages ++ l5

  abbrev from_seven : List Line → List Line
  from_seven x = x ++ l8 ++ each_signal spn_lines s ++ each_signal value_lines s ++ l9 ++ l10 ++ l11 ++ l12 ++ l13
      ++ l14 ++ each_signal type_lines s ++ l15 ++ l16

  moved_in : assemble s l0 l1 l2 l3 l4 l5 (l6 ++ d6) (l7 ++ d7) l8 l9 l10 l11 l12 l13 l14 l15 l16 [] []
      ≡ assemble s l0 l1 l2 l3 l4 l5 l6 l7 l8 l9 l10 l11 l12 l13 l14 l15 l16 d6 d7
  moved_in =
      ap (λ (x : List Line). from_seven (x ++ (l7 ++ d7) ++ [])) (shift to_six l6 d6)
      ∙ ap from_seven (shift (to_six ++ l6 ++ d6) l7 d7)

pub lines_again : (s : Sheet) (ps : List Passage) → kept_lines s (completed s ps) ≡ kept_lines s ps
lines_again s ps =
    let c = completed s ps in
    let e6 : lines_at 6 c ≡ lines_at 6 ps ++ unless_said s defines_spn (lines_at 6 ps) spn_definition =
    ap (map line_in) (placed_6 s ps) ∙ lines_with (at_place 6 ps) (b6 s ps) definition_passage in
    let e7 : lines_at 7 c ≡ lines_at 7 ps ++ unless_said s defaults_spn (lines_at 7 ps) spn_default =
    ap (map line_in) (placed_7 s ps) ∙ lines_with (at_place 7 ps) (b7 s ps) default_passage in
    let n6 : unless_said s defines_spn (lines_at 6 c) spn_definition ≡ [] =
    ap (λ ls. unless_said s defines_spn ls spn_definition) e6
    ∙ not_again (has_spn s) defines_spn (lines_at 6 ps) spn_definition refl in
    let n7 : unless_said s defaults_spn (lines_at 7 c) spn_default ≡ [] =
    ap (λ ls. unless_said s defaults_spn ls spn_default) e7
    ∙ not_again (has_spn s) defaults_spn (lines_at 7 ps) spn_default refl in
    let e0 : lines_at 0 c ≡ lines_at 0 ps = ap (map line_in) (placed_0 s ps) in
    let e1 : lines_at 1 c ≡ lines_at 1 ps = ap (map line_in) (placed_1 s ps) in
    let e2 : lines_at 2 c ≡ lines_at 2 ps = ap (map line_in) (placed_2 s ps) in
    let e3 : lines_at 3 c ≡ lines_at 3 ps = ap (map line_in) (placed_3 s ps) in
    let e4 : lines_at 4 c ≡ lines_at 4 ps = ap (map line_in) (placed_4 s ps) in
    let e5 : lines_at 5 c ≡ lines_at 5 ps = ap (map line_in) (placed_5 s ps) in
    let e8 : lines_at 8 c ≡ lines_at 8 ps = ap (map line_in) (placed_8 s ps) in
    let e9 : lines_at 9 c ≡ lines_at 9 ps = ap (map line_in) (placed_9 s ps) in
    let e10 : lines_at 10 c ≡ lines_at 10 ps = ap (map line_in) (placed_10 s ps) in
    let e11 : lines_at 11 c ≡ lines_at 11 ps = ap (map line_in) (placed_11 s ps) in
    let e12 : lines_at 12 c ≡ lines_at 12 ps = ap (map line_in) (placed_12 s ps) in
    let e13 : lines_at 13 c ≡ lines_at 13 ps = ap (map line_in) (placed_13 s ps) in
    let e14 : lines_at 14 c ≡ lines_at 14 ps = ap (map line_in) (placed_14 s ps) in
    let e15 : lines_at 15 c ≡ lines_at 15 ps = ap (map line_in) (placed_15 s ps) in
    let e16 : lines_at 16 c ≡ lines_at 16 ps = ap (map line_in) (placed_16 s ps) in
    let inside : kept_lines s c ≡ assemble s (lines_at 0 ps) (lines_at 1 ps) (lines_at 2 ps) (lines_at 3 ps)
    (lines_at 4 ps) (lines_at 5 ps) (lines_at 6 ps ++ unless_said s defines_spn (lines_at 6 ps) spn_definition)
    (lines_at 7 ps ++ unless_said s defaults_spn (lines_at 7 ps) spn_default) (lines_at 8 ps) (lines_at 9 ps)
    (lines_at 10 ps) (lines_at 11 ps) (lines_at 12 ps) (lines_at 13 ps) (lines_at 14 ps) (lines_at 15 ps)
    (lines_at 16 ps) [] [] =
    λ i. assemble s (e0 i) (e1 i) (e2 i) (e3 i) (e4 i) (e5 i) (e6 i) (e7 i) (e8 i) (e9 i) (e10 i) (e11 i) (e12 i)
    (e13 i) (e14 i) (e15 i) (e16 i) (n6 i) (n7 i) in
    inside ∙ moved_in s (lines_at 0 ps) (lines_at 1 ps) (lines_at 2 ps) (lines_at 3 ps) (lines_at 4 ps) (lines_at 5 ps)
    (lines_at 6 ps) (lines_at 7 ps) (lines_at 8 ps) (lines_at 9 ps) (lines_at 10 ps) (lines_at 11 ps)
    (lines_at 12 ps) (lines_at 13 ps) (lines_at 14 ps) (lines_at 15 ps) (lines_at 16 ps)
    (unless_said s defines_spn (lines_at 6 ps) spn_definition)
    (unless_said s defaults_spn (lines_at 7 ps) spn_default)
