-- Offsets that the tokens of a text reach, and what is read after them.
use Rattle.dbc_statements.proofs.Common.{◌≡◌, ◌≤◌, ℕ, List, [], ◌∷◌, ◌++◌, length, min, drop, Option, Some, inl, refl}
use Rattle.dbc_statements.proofs.Common.{sym, ap, subst, ◌∙◌, arith, append_assoc, length-append, drop_at, LexFault}
use Rattle.dbc_statements.proofs.Common.{Lexed, lexed, statement_at, Statement, Token, Within, IsRead, first_of}
use Rattle.dbc_statements.proofs.Common.{read_is_there, there_is_read}
use Rattle.std.proofs.Common.{◌+◌, inr}
use Rattle.dbc_grammar.proofs.Divisions.{statements_repeat}
use Rattle.dbc_grammar.proofs.Exactness.{within_trans}
use Rattle.dbc_statements.specs.Tokens.{IsReached}

-- the bytes after an offset, and what is read of them
record After (offset : ℕ) (bytes : List ℕ) (end : ℕ) (tokens : List Token) (o : Option LexFault) : Type 0 where
  gone : List ℕ
  rest : List ℕ
  parts : bytes ≡ gone ++ rest
  long : offset + length gone ≡ end
  read : IsRead end rest tokens o

after_one : (front : List Token) (t : Token) (rest : List Token) (o : Option LexFault) (offset : ℕ) (bytes : List ℕ)
    → IsRead offset bytes (front ++ t ∷ rest) o → After offset bytes t.end rest o
after_one [] t rest o offset bytes h =
    let (tail, f, more) = first_of offset bytes t rest o h in
    record {
      gone = f.gap ++ t.text;
      rest = tail;
      parts = f.parts ∙ sym (append_assoc f.gap t.text tail);
      long = omega (arith, f.start, f.end, length-append f.gap t.text);
      read = more;
    }
after_one (u ∷ us) t rest o offset bytes h =
    let (tail, f, more) = first_of offset bytes u (us ++ t ∷ rest) o h in
    let b = after_one us t rest o u.end tail more in
    let long = b.long in
    record {
      gone = (f.gap ++ u.text) ++ b.gone;
      rest = b.rest;
      parts = f.parts ∙ sym (append_assoc f.gap u.text tail) ∙ ap (λ (l : List ℕ). (f.gap ++ u.text) ++ l) b.parts
          ∙ sym (append_assoc (f.gap ++ u.text) b.gone b.rest);
      long = omega (arith, f.start, f.end, long, length-append f.gap u.text, length-append (f.gap ++ u.text) b.gone);
      read = b.read;
    }

-- from an offset that the tokens reach on, the same fault comes
record EndsSo (source : List ℕ) (offset : ℕ) : Type 0 where
  within : offset ≤ length source
  fault : (lexed offset (drop offset source)).fault ≡ (lexed 0 source).fault

ends_so : (source : List ℕ) (offset : ℕ) → IsReached (lexed 0 source).tokens offset → EndsSo source offset
ends_so source offset (inl first) = rw first (record { within = omega arith; fault = refl })
ends_so source offset (inr (front, t, rest, parts, end)) =
    let o = (lexed 0 source).fault in
    let read : IsRead 0 source (front ++ t ∷ rest) o =
    subst (λ (ts : List Token). IsRead 0 source ts o) parts (read_is_there 0 source) in
    let b = after_one front t rest o 0 source read in
    let long : length b.gone ≡ t.end = let e = b.long in omega (arith, e) in
    let there : drop t.end source ≡ b.rest = ap (drop t.end) b.parts ∙ drop_at b.gone b.rest t.end long in
    rw (← end) (record {
      within = omega (arith, long, ap length b.parts, length-append b.gone b.rest);
      fault = ap (λ (l : List ℕ). (lexed t.end l).fault) there
          ∙ ap (λ (l : Lexed). l.fault) (there_is_read t.end b.rest rest o b.read);
    })

pub same_fault : (source : List ℕ) (offset : ℕ) → IsReached (lexed 0 source).tokens offset
    → (lexed (min offset (length source)) (drop offset source)).fault ≡ (lexed 0 source).fault
same_fault source offset h =
    let e = ends_so source offset h in
    let within = e.within in
    let at : min offset (length source) ≡ offset = omega (arith, within) in
    rw at e.fault

-- an offset that the last tokens reach is one that all of them reach
pub reached_before : (ts rest : List Token) (offset : ℕ) → Within ts rest → IsReached rest offset → IsReached ts offset
reached_before ts rest offset w (inl first) = inl first
reached_before ts rest offset w (inr (front, t, more, parts, end)) =
    inr (
      w.0 ++ front,
      t,
      more,
      w.1 ∙ ap (λ (l : List Token). w.0 ++ l) parts ∙ sym (append_assoc w.0 front (t ∷ more)),
      end,
    )

-- a statement leaves the last of the tokens that it was read from
pub statement_within : (ts mid : List Token) (x : Statement × List Token) → Within ts mid → statement_at mid ≡ Some x
    → Within ts x.1
statement_within ts mid x w e =
    within_trans ts mid x.1 w ((statements_repeat.each mid).within x.0 x.1 ((statements_repeat.each mid).takes x e))

-- the end of the first of the last tokens is reached
pub first_reached : (ts rest : List Token) (t : Token) → Within ts rest → rest ≡ t ∷ drop 1 rest → IsReached ts t.end
first_reached ts rest t w e = reached_before ts rest t.end w (inr ([], t, drop 1 rest, e, refl))
