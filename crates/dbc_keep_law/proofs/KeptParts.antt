-- The parts of a kept text: those of canonical lines, and the passed statements, verbatim.
use Rattle.dbc_keep_law.proofs.Common.{◌≡◌, ◌==◌, ◌&&◌, ◌++◌, ℕ, Bool, true, false, not, List, [], ◌∷◌, map, filter}
use Rattle.dbc_keep_law.proofs.Common.{Option, Some, None, if◌then◌else◌, refl, sym, ap, subst, ◌∙◌, AllByRecursion}
use Rattle.dbc_keep_law.proofs.Common.{flat_map, list_any, IsMessage, IsNode, IsSheet, Sheet, Line, message_comments}
use Rattle.dbc_keep_law.proofs.Common.{node_comment, spn_default, spn_definition, Part, next, Rule, many, Content}
use Rattle.dbc_keep_law.proofs.Common.{CommentIs, Dropped, NodesAre, PassedOver, VersionIs, Token, HasTokens}
use Rattle.dbc_keep_law.proofs.Common.{statements_repeat, line, value_texts_write, value_types_write}
use Rattle.dbc_keep_law.proofs.Common.{file_comment_writes, message_comments_write, node_comment_writes, heading_writes}
use Rattle.dbc_keep_law.proofs.Common.{tables_write, Writes, means, writes_each, messages_write}
use Rattle.dbc_words.specs.declared.keyword.Keyword.TheVariants as keyword
use Rattle.dbc_grammar.specs.Division.{IsStatement}
use Rattle.dbc_grammar.specs.Grammar.{statement}
use Rattle.dbc_grammar.proofs.Divisions.{statements_are_runs}
use Rattle.dbc_law.proofs.Contents as sheet_contents
use Rattle.dbc_law.proofs.PieceTokens.{many_append, many_parts}
use Rattle.dbc_keep_law.specs.Kept.{defaults_spn, defines_spn, has_spn, kept_lines, kept_text, lines_at, place_of}
use Rattle.dbc_keep_law.specs.Passages.{Passage, passage_of}
use Rattle.dbc_keep_law.proofs.ExactLines.{exact_line, first_gap, line_from, lines_exact}
use Rattle.dbc_keep_law.proofs.FramedStatements.{Says}
use Rattle.dbc_keep_law.proofs.KeptDivides.{default_reads, definition_reads, kept_whole, passages, spns_write}
use Rattle.dbc_keep_law.proofs.Standing.{Entry, Stands}

-- what a statement of a kept text says, and the passage that it is, if it is one
pub record Unit1 : Type 0 where
  pub content : Content
  pub passage : Option Passage

abbrev pub canonical : Content → Unit1
canonical c = record { content = c; passage = None }

abbrev pub passed_unit : Entry → Unit1
passed_unit e = record { content = e.content; passage = Some e.passage }

abbrev pub IsPassage : List ℕ → Option Passage → Part → Type 0
IsPassage text None part = Unit {0}
IsPassage text (Some p) part = passage_of text part ≡ p

-- the tokens begin with a part that is the unit
pub record PartOf (text : List ℕ) (ts : List Token) (u : Unit1) (rest : List Token) : Type 0 where
  pub part : Part
  pub parts : ts ≡ part.run ++ rest
  pub is : IsStatement part.run part.is rest
  pub content : part.is.content ≡ u.content
  pub passage : IsPassage text u.passage part

abbrev pub part_of : List ℕ → Rule Unit1
part_of text = λ ts u rest. PartOf text ts u rest

record Divide (text : List ℕ) (ls : List Line) (us : List Unit1) : Type 0 where
  divided : (ts rest : List Token) → many (exact_line text) ts ls rest → next rest ≡ true
      → many (part_of text) ts us rest × (next ts ≡ true)

are_lines : (text : List ℕ) (ts : List Token) (ls : List Line) (rest : List Token) → many (exact_line text) ts ls rest
    → many line ts ls rest
are_lines text ts [] rest h = h
are_lines text ts (l ∷ ls) rest (middle, first, more) = (middle, first.is_line, are_lines text middle ls rest more)

are_parts : (text : List ℕ) (ts : List Token) (cs : List Content) (rest : List Token) → many means ts cs rest
    → many (part_of text) ts (map canonical cs) rest
are_parts text ts [] rest h = h
are_parts text ts (c ∷ cs) rest (middle, first, more) =
    let (t, run, e) = statements_are_runs ts first.is middle first.there in
    let here = subst (λ l. statement l first.is middle) e first.there in (
      middle,
      record {
        part = record { run = t ∷ run; is = first.is };
        parts = e;
        is = here;
        content = first.content;
        passage = tt;
      },
      are_parts text middle cs rest more,
    )

abbrev entries_at : ℕ → List Entry → List Entry
entries_at place es = filter (λ (e : Entry). place_of e.passage.keyword == place) es

module _ {text : List ℕ} where
  infixl 10 ◌also◌
  ◌also◌ : {ls ms : List Line} {us vs : List Unit1} → Divide text ls us → Divide text ms vs
      → Divide text (ls ++ ms) (us ++ vs)
  ◌also◌ {ls} {ms} {us} {vs} first second = record {
    divided = λ ts rest are n.
        let (middle, front, after) = many_parts (exact_line text) ts ls ms rest are in
        let (others, begins) = second.divided middle rest after n in
        let (here, start) = first.divided ts middle front begins in
        (many_append (part_of text) ts us vs middle rest here others, start);
  }

  no_units : Divide text [] []
  no_units = record { divided = λ ts rest same n. (same, ap next (sym same) ∙ n) }

  -- ---- canonical lines

  of_writes : {ls : List Line} {cs : List Content} → Writes ls cs → Divide text ls (map canonical cs)
  of_writes {ls} {cs} w = record {
    divided = λ ts rest are n.
        let (m, begins) = w.written ts rest (are_lines text ts ls rest are) n in
        (are_parts text ts cs rest m, begins);
  }

  -- ---- passed statements

  of_says : (p : Passage) (c : Content) → first_gap p.line ≡ []
      → ((ts rest : List Token) → line ts p.line rest → next rest ≡ true → Says ts p.keyword c rest)
      → Divide text (p.line ∷ []) (record { content = c; passage = Some p } ∷ [])
  of_says p c tight reads = record {
    divided = λ ts rest (middle, x, same) n.
        let there = reads ts middle x.is_line (ap next (sym same) ∙ n) in
        let here = subst (λ l. statement l there.is middle) x.parts there.there in
        let part : Part = record { run = x.run; is = there.is } in
        let bytes = line_from text x.at x.run p.line x.same tight in
        let passage : passage_of text part ≡ p = λ i. record { keyword = there.keyword i; line = bytes i } in (
          (middle, record { part = part; parts = x.parts; is = here; content = there.content; passage = passage }, same),
          statements_repeat.before ts there.is middle there.there,
        );
  }

  at_by : (place : ℕ) (e : Entry) (es : List Entry) (b : Bool) → (place_of e.passage.keyword == place) ≡ b
      → Divide text (e.passage.line ∷ []) (passed_unit e ∷ [])
      → Divide text (lines_at place (passages es)) (map passed_unit (entries_at place es))
      → Divide text (lines_at place (passages (e ∷ es))) (map passed_unit (entries_at place (e ∷ es)))
  at_by place e es true q h more = rw q (h also more)
  at_by place e es false q h more = rw q more

  of_entries : (place : ℕ) (es : List Entry) → AllByRecursion Stands es
      → Divide text (lines_at place (passages es)) (map passed_unit (entries_at place es))
  of_entries place [] h = no_units
  of_entries place (e ∷ es) h =
      at_by place e es (place_of e.passage.keyword == place) refl (of_says e.passage e.content h.0.tight h.0.reads)
      (of_entries place es h.1)

  of_if : (b : Bool) (l : Line) (u : Unit1) → Divide text (l ∷ []) (u ∷ [])
      → Divide text (if b then l ∷ [] else []) (if b then u ∷ [] else [])
  of_if true l u h = h
  of_if false l u h = no_units

-- ---- the declarations of the attribute, which are passed over too

abbrev pub definition_unit : Unit1
definition_unit =
    record {
      content = PassedOver;
      passage = Some (record { keyword = keyword.AttributeDefinition; line = spn_definition });
    }

abbrev pub default_unit : Unit1
default_unit =
    record { content = PassedOver; passage = Some (record { keyword = keyword.AttributeDefault; line = spn_default }) }

definition_says : (ts rest : List Token) → line ts spn_definition rest → next rest ≡ true
    → Says ts keyword.AttributeDefinition PassedOver rest
unfolding statement
definition_says ts rest (middle, f, after) n = record {
  is = record { start = f.start; keyword = keyword.AttributeDefinition; content = PassedOver };
  there = record {
    value = (f.start, keyword.AttributeDefinition);
    middle = middle;
    begins = record { first = _; front = f.front; value = refl };
    goes_on =
        record {
          value = PassedOver;
          middle = rest;
          begins = definition_reads middle rest after n;
          goes_on = record { value = refl; all = refl };
        };
  };
  keyword = refl;
  content = refl;
}

default_says : (ts rest : List Token) → line ts spn_default rest → next rest ≡ true
    → Says ts keyword.AttributeDefault PassedOver rest
unfolding statement
default_says ts rest (middle, f, after) n = record {
  is = record { start = f.start; keyword = keyword.AttributeDefault; content = PassedOver };
  there = record {
    value = (f.start, keyword.AttributeDefault);
    middle = middle;
    begins = record { first = _; front = f.front; value = refl };
    goes_on =
        record {
          value = PassedOver;
          middle = rest;
          begins = default_reads middle rest after n;
          goes_on = record { value = refl; all = refl };
        };
  };
  keyword = refl;
  content = refl;
}

-- ---- all of them

abbrev pub units_at : ℕ → List Entry → List Unit1
units_at place es = map passed_unit (filter (λ (e : Entry). place_of e.passage.keyword == place) es)

abbrev pub said_units : Sheet → (Line → Bool) → List Line → Unit1 → List Unit1
said_units s says kept u = if has_spn s && not (list_any says kept) then u ∷ [] else []

abbrev pub kept_units : Sheet → List Entry → List Unit1
kept_units s es =
    map canonical (VersionIs s.version ∷ Dropped ∷ Dropped ∷ NodesAre (sheet_contents.node_names s) ∷ [])
    ++ map canonical (map sheet_contents.table s.tables) ++ map canonical (map sheet_contents.message s.messages)
    ++ units_at 0 es ++ units_at 1 es ++ units_at 2 es ++ units_at 3 es ++ units_at 4 es
    ++ map canonical (sheet_contents.comments CommentIs s.comment)
    ++ map canonical (flat_map sheet_contents.node_comments s.nodes)
    ++ map canonical (flat_map sheet_contents.message_comments s.messages) ++ units_at 5 es
    ++ units_at 6 es ++ said_units s defines_spn (lines_at 6 (passages es)) definition_unit
    ++ units_at 7 es ++ said_units s defaults_spn (lines_at 7 (passages es)) default_unit
    ++ units_at 8 es ++ map canonical (sheet_contents.each_signal sheet_contents.spns s)
    ++ map canonical (sheet_contents.each_signal sheet_contents.value_texts s)
    ++ units_at 9 es ++ units_at 10 es ++ units_at 11 es ++ units_at 12 es ++ units_at 13 es ++ units_at 14 es
    ++ map canonical (sheet_contents.each_signal sheet_contents.value_types s) ++ units_at 15 es ++ units_at 16 es

kept_divide : (text : List ℕ) (s : Sheet) → IsSheet s → (es : List Entry) → AllByRecursion Stands es
    → Divide text (kept_lines s (passages es)) (kept_units s es)
kept_divide text s h es k =
    of_writes (heading_writes s h)
    also of_writes (tables_write s.tables h.tables)
    also of_writes (messages_write s.messages h.messages)
    also of_entries 0 es k
    also of_entries 1 es k
    also of_entries 2 es k
    also of_entries 3 es k
    also of_entries 4 es k
    also of_writes (file_comment_writes s.comment)
    also of_writes
    (writes_each IsNode node_comment sheet_contents.node_comments (λ n _. node_comment_writes n) s.nodes h.nodes)
    also of_writes
    (writes_each IsMessage message_comments sheet_contents.message_comments message_comments_write s.messages
    h.messages)
    also of_entries 5 es k
    also of_entries 6 es k
    also of_if _ spn_definition definition_unit
    (of_says (record { keyword = keyword.AttributeDefinition; line = spn_definition }) PassedOver refl
    definition_says)
    also of_entries 7 es k
    also of_if _ spn_default default_unit
    (of_says (record { keyword = keyword.AttributeDefault; line = spn_default }) PassedOver refl default_says)
    also of_entries 8 es k
    also of_writes (spns_write s h)
    also of_writes (value_texts_write s h)
    also of_entries 9 es k
    also of_entries 10 es k
    also of_entries 11 es k
    also of_entries 12 es k
    also of_entries 13 es k
    also of_entries 14 es k
    also of_writes (value_types_write s h)
    also of_entries 15 es k
    also of_entries 16 es k

-- the tokens of a kept text are parts that are these units, so each passed statement is in it verbatim
pub record HasUnits (text : List ℕ) (us : List Unit1) : Type 0 where
  pub tokens : List Token
  pub has_tokens : HasTokens 0 text tokens
  pub units : many (part_of text) tokens us []

pub kept_parts : (s : Sheet) → IsSheet s → (es : List Entry) → AllByRecursion Stands es
    → HasUnits (kept_text s (passages es)) (kept_units s es)
kept_parts s h es k =
    let text = kept_text s (passages es) in
    let (tokens, has, are) = lines_exact text [] 0 (kept_lines s (passages es)) refl refl (kept_whole s h es k).each in
    record { tokens = tokens; has_tokens = has; units = ((kept_divide text s h es k).divided tokens [] are refl).0 }
