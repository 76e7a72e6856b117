-- A kept text is its own kept text.
use Rattle.dbc_keep_law.proofs.Common.{◌≡◌, ◌==◌, ◌&&◌, ◌++◌, ℕ, Bool, true, false, not, List, [], ◌∷◌, map, filter}
use Rattle.dbc_keep_law.proofs.Common.{Option, Some, None, if◌then◌else◌, refl, sym, ap, subst, ◌∙◌, AllByRecursion}
use Rattle.dbc_keep_law.proofs.Common.{cons_option, flat_map, list_any, IsSheet, Sheet, line_text, AreParts, Divides}
use Rattle.dbc_keep_law.proofs.Common.{Part, many, Says, is_passed, Content, CommentIs, Dropped, NodesAre, Statement}
use Rattle.dbc_keep_law.proofs.Common.{VersionIs, Token, divisions_are_parts, contents_of}
use Rattle.dbc_grammar.specs.Saying.{SaysOneAtMost}
use Rattle.dbc_grammar.proofs.Divisions.{one_division, one_parting}
use Rattle.dbc_grammar.proofs.TokensOnce.{tokens_once}
use Rattle.dbc_law.proofs.Contents as sheet_contents
use Rattle.dbc_keep_law.specs.Kept.{completed, defaults_spn, defines_spn, has_spn, kept_text, lines_at, place_of}
use Rattle.dbc_keep_law.specs.Law.{Keeps, KeepsPassed, KeptIsKept, KeptIsOne}
use Rattle.dbc_keep_law.specs.Passages.{Passage, passage_of, passages_of, statements_of}
use Rattle.dbc_keep_law.proofs.KeptAgain.{chosen, kept_chosen, lines_again}
use Rattle.dbc_keep_law.proofs.KeptDivides.{kept_divides, passages}
use Rattle.dbc_keep_law.proofs.KeptParts.{IsPassage, Unit1, canonical, default_unit, definition_unit, kept_parts}
use Rattle.dbc_keep_law.proofs.KeptParts.{kept_units, part_of, units_at}
use Rattle.dbc_keep_law.proofs.KeptReads.{
  AreEntries,
  IsHeard,
  all_append,
  all_message_comments,
  all_node_comments,
  all_spns,
  all_types,
  all_values,
  comment_of_heard,
  entries_are,
  kept_says,
  message_heard,
  node_heard,
  of_comments,
  of_each,
  passages_are,
  spn_of_heard,
  texts_of_heard,
  type_of_heard,
}
use Rattle.dbc_keep_law.proofs.KeptSays.{passed_agree, says_agree, sheet_passed}
use Rattle.dbc_keep_law.proofs.Standing.{Entry, entry_of, parts_stand}

-- ---- the parts of units

abbrev Matches : List ℕ → List Unit1 → List Part → Type 0
Matches text [] [] = Unit {0}
Matches text [] (p ∷ ps) = ⊥
Matches text (u ∷ us) [] = ⊥
Matches text (u ∷ us) (p ∷ ps) = (p.is.content ≡ u.content) × IsPassage text u.passage p × Matches text us ps

record HasParts (text : List ℕ) (ts : List Token) (us : List Unit1) : Type 0 where
  parts : List Part
  are : AreParts ts parts
  match : Matches text us parts

parts_of : (text : List ℕ) (ts : List Token) (us : List Unit1) → many (part_of text) ts us [] → HasParts text ts us
parts_of text ts [] h = record { parts = []; are = sym h; match = tt }
parts_of text ts (u ∷ us) (middle, first, more) =
    let others = parts_of text middle us more in
    record {
      parts = first.part ∷ others.parts;
      are = (middle, first.parts, first.is, others.are);
      match = (first.content, first.passage, others.match);
    }

-- ---- which of them are passed over

abbrev FitBy : Sheet → Content → Option Passage → Type 0
FitBy s c None = sheet_passed s c ≡ false
FitBy s c (Some p) = sheet_passed s c ≡ true

abbrev Fit : Sheet → Unit1 → Type 0
Fit s u = FitBy s u.content u.passage

module _ (text : List ℕ) (s : Sheet) (ss : List Statement)
    (agree : (c : Content) → is_passed ss c ≡ sheet_passed s c) where
  abbrev passed_parts : List Part → List Passage
  passed_parts ps = map (passage_of text) (filter (λ (p : Part). is_passed ss p.is.content) ps)

  one_part : (u : Unit1) (o : Option Passage) (p : Part) (ps : List Part) (rest : List Passage) → u.passage ≡ o
      → Fit s u → p.is.content ≡ u.content → IsPassage text u.passage p
      → passed_parts ps ≡ rest → passed_parts (p ∷ ps) ≡ cons_option o rest
  one_part u None p ps rest e fit content is more =
      let heard : sheet_passed s u.content ≡ false = rw e at fit in
      let not_passed : is_passed ss p.is.content ≡ false = ap (is_passed ss) content ∙ agree u.content ∙ heard in
      rw not_passed more
  one_part u (Some q) p ps rest e fit content is more =
      let gone : sheet_passed s u.content ≡ true = rw e at fit in
      let passed : is_passed ss p.is.content ≡ true = ap (is_passed ss) content ∙ agree u.content ∙ gone in
      let same : passage_of text p ≡ q = rw e at is in
      rw passed (λ i. same i ∷ more i)

  all_parts : (us : List Unit1) (ps : List Part) → AllByRecursion (Fit s) us → Matches text us ps
      → passed_parts ps ≡ chosen us
  all_parts [] [] fit match = refl
  all_parts [] (p ∷ ps) fit match = absurd match
  all_parts (u ∷ us) [] fit match = absurd match
  all_parts (u ∷ us) (p ∷ ps) fit match =
      one_part u u.passage p ps (chosen us) refl fit.0 match.0 match.1 (all_parts us ps fit.1 match.2)

-- ---- units fit

record AreFit (s : Sheet) (us : List Unit1) : Type 0 where
  each : AllByRecursion (Fit s) us

module _ {s : Sheet} where
  infixl 10 ◌also◌
  ◌also◌ : {us vs : List Unit1} → AreFit s us → AreFit s vs → AreFit s (us ++ vs)
  ◌also◌ {us} {vs} a b = record { each = all_append (Fit s) us vs a.each b.each }

  heard_fit : (cs : List Content) → AllByRecursion (IsHeard s) cs → AreFit s (map canonical cs)
  heard_fit [] h = record { each = tt }
  heard_fit (c ∷ cs) h = record { each = (h.0, (heard_fit cs h.1).each) }

  fit_by : (place : ℕ) (e : Entry) (es : List Entry) (b : Bool) → (place_of e.passage.keyword == place) ≡ b
      → sheet_passed s e.content ≡ true → AreFit s (units_at place es)
      → AreFit s (units_at place (e ∷ es))
  fit_by place e es true q h more = rw q (record { each = (h, more.each) })
  fit_by place e es false q h more = rw q more

  entries_fit : (place : ℕ) (es : List Entry) → AllByRecursion (λ (e : Entry). sheet_passed s e.content ≡ true) es
      → AreFit s (units_at place es)
  entries_fit place [] h = record { each = tt }
  entries_fit place (e ∷ es) h =
      fit_by place e es (place_of e.passage.keyword == place) refl h.0 (entries_fit place es h.1)

  if_fit : (b : Bool) (u : Unit1) → Fit s u → AreFit s (if b then u ∷ [] else [])
  if_fit true u h = record { each = (h, tt) }
  if_fit false u h = record { each = tt }

kept_fit : (s : Sheet) (es : List Entry) → AllByRecursion (λ (e : Entry). sheet_passed s e.content ≡ true) es
    → AreFit s (kept_units s es)
kept_fit s es h =
    let P = IsHeard s in
    let n = node_heard s in let m = message_heard s in let c = comment_of_heard s in let v = texts_of_heard s in
    let t = type_of_heard s in let p = spn_of_heard s in
    let at : (place : ℕ) → AreFit s (units_at place es) = λ place. entries_fit place es h in
    let b6 = has_spn s && not (list_any defines_spn (lines_at 6 (passages es))) in
    let b7 = has_spn s && not (list_any defaults_spn (lines_at 7 (passages es))) in
    heard_fit (VersionIs s.version ∷ Dropped ∷ Dropped ∷ NodesAre (sheet_contents.node_names s) ∷ [])
    (refl, (refl, (refl, (refl, tt))))
    also heard_fit _ (of_each P sheet_contents.table (λ x. refl) s.tables)
    also heard_fit _ (of_each P sheet_contents.message (λ x. refl) s.messages)
    also at 0 also at 1 also at 2 also at 3 also at 4
    also heard_fit _ (of_comments P CommentIs (λ x. refl) s.comment)
    also heard_fit _ (all_node_comments P s n m c v t p)
    also heard_fit _ (all_message_comments P s n m c v t p)
    also at 5
    also at 6 also if_fit b6 definition_unit refl
    also at 7 also if_fit b7 default_unit refl
    also at 8
    also heard_fit _ (all_spns P s n m c v t p)
    also heard_fit _ (all_values P s n m c v t p)
    also at 9 also at 10 also at 11 also at 12 also at 13 also at 14
    also heard_fit _ (all_types P s n m c v t p)
    also at 15 also at 16

-- ---- all together

pub keeps_again : (s : Sheet) → IsSheet s → (es : List Entry) → AreEntries s es
    → Keeps (kept_text s (passages es)) s (completed s (passages es))
keeps_again s h es are =
    let text = kept_text s (passages es) in
    let k = kept_parts s h es are.stand in
    let parts = parts_of text k.tokens (kept_units s es) k.units in
    let ss = statements_of parts.parts in
    let d = kept_divides s h es are.stand in
    let same_tokens = tokens_once 0 text d.tokens k.tokens d.has_tokens k.has_tokens in
    let divides : Divides k.tokens ss = (divisions_are_parts k.tokens ss).1 (parts.parts, parts.are, refl) in
    let same = one_division k.tokens d.statements ss
    (subst (λ l. Divides l d.statements) same_tokens d.divides) divides in
    let says = kept_says s h es are.passed ss (ap contents_of (sym same) ∙ d.contents) in
    let agree = passed_agree ss s (says_agree ss s says) in
    let passed = all_parts text s ss agree (kept_units s es) parts.parts (kept_fit s es are.passed).each parts.match in
    record {
      tokens = k.tokens;
      parts = parts.parts;
      has_tokens = k.has_tokens;
      are_parts = parts.are;
      says = says;
      passages = sym (passed ∙ kept_chosen s es);
    }

-- the passed statements of a kept text
pub keeps_passed : KeepsPassed
keeps_passed source text kept =
    let s = kept.sheet in
    let k = kept.keeps in
    let agrees = says_agree (statements_of k.parts) s k.says in
    let chosen_parts = filter (λ (p : Part). is_passed (statements_of k.parts) p.is.content) k.parts in
    let es = map (entry_of source) chosen_parts in
    let are = entries_are source (statements_of k.parts) s agrees k.parts
    (parts_stand source k.tokens k.parts k.has_tokens k.are_parts) in
    let same : passages es ≡ kept.passages = passages_are source chosen_parts ∙ sym k.passages in
    let text_is : kept_text s (passages es) ≡ text = ap (kept_text s) same ∙ sym kept.text_is in
    let again = keeps_again s k.says.is_sheet es are in
    subst (λ ps. Keeps text s (completed s ps)) same (subst (λ v. Keeps v s (completed s (passages es))) text_is again)

pub kept_is_kept : KeptIsKept
kept_is_kept source text kept = record {
  sheet = kept.sheet;
  passages = completed kept.sheet kept.passages;
  keeps = keeps_passed source text kept;
  text_is = kept.text_is ∙ ap (flat_map line_text) (sym (lines_again kept.sheet kept.passages));
}

-- a source has one kept text
pub kept_is_one : SaysOneAtMost → KeptIsOne
kept_is_one one source t u a b =
    let k = a.keeps in
    let l = b.keeps in
    let tokens = tokens_once 0 source k.tokens l.tokens k.has_tokens l.has_tokens in
    let parts = one_parting l.tokens k.parts l.parts (subst (λ v. AreParts v k.parts) tokens k.are_parts) l.are_parts in
    let sheets = one (statements_of l.parts) a.sheet b.sheet
    (subst (λ ps. Says (statements_of ps) a.sheet) parts k.says) l.says in
    let passed : a.passages ≡ b.passages = k.passages ∙ ap (passages_of source) parts ∙ sym l.passages in
    a.text_is ∙ (λ i. kept_text (sheets i) (passed i)) ∙ sym b.text_is
