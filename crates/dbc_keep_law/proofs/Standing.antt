-- The line of a passed statement stands for it: it is a statement of the same content wherever it stands.
use Rattle.dbc_keep_law.proofs.Common.{◌≡◌, ◌-◌, ℕ, true, List, [], ◌∷◌, ◌++◌, length, refl, sym, ap, subst, ◌∙◌, arith}
use Rattle.dbc_keep_law.proofs.Common.{AllByRecursion, append_cancel_right, AreParts, Part, next, statement, Content}
use Rattle.dbc_keep_law.proofs.Common.{Token, HasTokens, statements_repeat, line, Writes}
use Rattle.dbc_keep_law.specs.Passages.{Passage, line_of, passage_of, pieces_from}
use Rattle.dbc_keep_law.proofs.FramedStatements.{CanPass, Says, statement_moves}
use Rattle.dbc_keep_law.proofs.ExactLines.{first_gap}
use Rattle.dbc_keep_law.proofs.Framing.{Alike}
use Rattle.dbc_keep_law.proofs.LegibleLines.{AreWhole}
use Rattle.dbc_keep_law.proofs.Verbatim.{verbatim}

-- a passed statement and what it says
pub record Entry : Type 0 where
  pub passage : Passage
  pub content : Content

abbrev pub entry_of : List ℕ → Part → Entry
entry_of source part = record { passage = passage_of source part; content = part.is.content }

pub record Stands (e : Entry) : Type 0 where
  pub whole : AreWhole e.passage.line
  pub writes : Writes (e.passage.line ∷ []) (e.content ∷ [])
  pub reads : (ts rest : List Token) → line ts e.passage.line rest → next rest ≡ true
      → Says ts e.passage.keyword e.content rest
  pub tight : first_gap e.passage.line ≡ []

-- ---- the tokens of its line

record Words (run ts end : List Token) : Type 0 where
  moved : List Token
  parts : ts ≡ moved ++ end
  alike : Alike run moved

pieces_alike : (source : List ℕ) (at : ℕ) (run ts end : List Token) → line ts (pieces_from source at run) end
    → Words run ts end
pieces_alike source at [] ts end h = record { moved = []; parts = sym h; alike = tt }
pieces_alike source at (t ∷ run) ts end (middle, f, more) =
    let m = pieces_alike source t.end run middle end more in
    let u : Token = record { kind = t.kind; start = f.start; end = f.end; text = t.text } in
    record {
      moved = u ∷ m.moved;
      parts = f.front
          ∙ ap (λ (l : List Token). u ∷ l) m.parts;
      alike = (refl, refl, m.alike);
    }

line_alike : (source : List ℕ) (run ts end : List Token) → line ts (line_of source run) end → Words run ts end
line_alike source [] ts end h = record { moved = []; parts = sym h; alike = tt }
line_alike source (t ∷ run) ts end (middle, f, more) =
    let m = pieces_alike source t.end run middle end more in
    let u : Token = record { kind = t.kind; start = f.start; end = f.end; text = t.text } in
    record {
      moved = u ∷ m.moved;
      parts = f.front
          ∙ ap (λ (l : List Token). u ∷ l) m.parts;
      alike = (refl, refl, m.alike);
    }

line_whole : (source : List ℕ) (offset : ℕ) (run : List Token) → AreWhole (pieces_from source offset run)
    → AreWhole (line_of source run)
line_whole source offset [] h = tt
line_whole source offset (t ∷ run) h =
    let none : t.start - t.start ≡ 0 = omega arith in
    (record { gap = rw none refl; spelled = h.0.spelled; longest = h.0.longest }, h.1)

-- ---- the statement

line_reads : (source : List ℕ) (part : Part) (rest : List Token) → statement (part.run ++ rest) part.is rest
    → CanPass part.is.content
    → (ts end : List Token) → line ts (line_of source part.run) end → next end ≡ true
    → Says ts part.is.keyword part.is.content end
line_reads source part rest h can ts end is_line n =
    let m = statement_moves (part.run ++ rest) part.is rest h can in
    let runs : m.run ≡ part.run = append_cancel_right m.run part.run rest (sym m.parts) in
    let words = line_alike source part.run ts end is_line in
    let there = m.moves words.moved end (subst (λ l. Alike l words.moved) (sym runs) words.alike) n in
    let here : statement ts there.is end = subst (λ l. statement l there.is end) (sym words.parts) there.there in
    record { is = there.is; there = here; keyword = there.keyword; content = there.content }

line_writes : (source : List ℕ) (part : Part) (rest : List Token) → statement (part.run ++ rest) part.is rest
    → CanPass part.is.content
    → Writes (line_of source part.run ∷ []) (part.is.content ∷ [])
line_writes source part rest h can = record {
  written = λ ts after (end, is_line, same) n.
      let there = line_reads source part rest h can ts end is_line (ap next (sym same) ∙ n) in (
        (end, record { is = there.is; there = there.there; content = there.content }, same),
        statements_repeat.before ts there.is end there.there,
      );
}

line_tight : (source : List ℕ) (run : List Token) → first_gap (line_of source run) ≡ []
line_tight source [] = refl
line_tight source (t ∷ run) = let none : t.start - t.start ≡ 0 = omega arith in rw none refl

-- ---- all of them

stand_in : (source front bytes : List ℕ) (offset : ℕ) (ts : List Token) (parts : List Part) → source ≡ front ++ bytes
    → length front ≡ offset
    → HasTokens offset bytes ts → AreParts ts parts
    → AllByRecursion (λ part. CanPass part.is.content → Stands (entry_of source part)) parts
stand_in source front bytes offset ts [] e at has are = tt
stand_in source front bytes offset ts (part ∷ parts) e at has (rest, same, is, others) =
    let here = subst (HasTokens offset bytes) same has in
    let v = verbatim offset source front bytes part.run rest e at here in (
      λ can. record {
        whole = line_whole source offset part.run v.whole;
        writes = line_writes source part rest is can;
        reads = line_reads source part rest is can;
        tight = line_tight source part.run;
      },
      stand_in source v.before v.after v.end rest parts v.source_is v.end_is v.has others,
    )

pub parts_stand : (source : List ℕ) (ts : List Token) (parts : List Part) → HasTokens 0 source ts → AreParts ts parts
    → AllByRecursion (λ part. CanPass part.is.content → Stands (entry_of source part)) parts
parts_stand source ts parts has are = stand_in source [] source 0 ts parts refl refl has are
