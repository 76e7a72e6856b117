-- The line of a run of a source's tokens has the source's bytes, and its words are each the longest there.
use Rattle.dbc_keep_law.proofs.Common.{◌≡◌, ◌-◌, ℕ, List, [], ◌∷◌, ◌++◌, length, take, drop, refl, sym, ap, subst, ◌∙◌}
use Rattle.dbc_keep_law.proofs.Common.{append_assoc, arith, length-append, drop_at, take_at, Piece, Token, HasTokens}
use Rattle.dbc_keep_law.proofs.Common.{IsLongest, pieces_text}
use Rattle.dbc_keep_law.specs.Passages.{pieces_from}
use Rattle.dbc_keep_law.proofs.LegibleLines.{AreWhole}
use Rattle.dbc_keep_law.proofs.LongestBeforeEnd.{longest_before_end}

-- the bytes, which are at the offset of the source, are those of the pieces, and then others that have the other tokens
pub record IsVerbatim (source bytes : List ℕ) (ps : List Piece) (others : List Token) : Type 0 where
  pub before : List ℕ
  pub after : List ℕ
  pub end : ℕ
  pub source_is : source ≡ before ++ after
  pub end_is : length before ≡ end
  pub bytes_are : bytes ≡ pieces_text ps ++ after
  pub whole : AreWhole ps
  pub has : HasTokens end after others

pub verbatim : (offset : ℕ) (source front bytes : List ℕ) (run others : List Token) → source ≡ front ++ bytes
    → length front ≡ offset
    → HasTokens offset bytes (run ++ others) → IsVerbatim source bytes (pieces_from source offset run) others
verbatim offset source front bytes [] others e at has =
    record {
      before = front;
      after = bytes;
      end = offset;
      source_is = e;
      end_is = at;
      bytes_are = refl;
      whole = tt;
      has = has;
    }
verbatim offset source front bytes (t ∷ run) others e at (rest, f, more) =
    let next : source ≡ ((front ++ f.gap) ++ t.text) ++ rest = e ∙ ap (λ v. front ++ v) f.parts ∙ simp append_assoc in
    let end : length ((front ++ f.gap) ++ t.text) ≡ t.end =
    omega (arith, at, f.start, f.end, length-append (front ++ f.gap) t.text, length-append front f.gap) in
    let tail = verbatim t.end source ((front ++ f.gap) ++ t.text) rest run others next end more in
    let long : length f.gap ≡ t.start - offset = omega (arith, f.start) in
    let here : drop offset source ≡ f.gap ++ (t.text ++ rest) =
    ap (drop offset) (e ∙ ap (λ v. front ++ v) f.parts) ∙ drop_at front (f.gap ++ (t.text ++ rest)) offset at in
    let gap : take (t.start - offset) (drop offset source) ≡ f.gap =
    ap (take (t.start - offset)) here ∙ take_at f.gap (t.text ++ rest) (t.start - offset) long in
    let inner = pieces_text (pieces_from source t.end run) in
    let longest = subst (λ v. IsLongest (length t.text) (t.text ++ v)) tail.bytes_are f.longest in
    let all : bytes ≡ (f.gap ++ t.text) ++ (inner ++ tail.after) =
    f.parts ∙ ap (λ v. f.gap ++ (t.text ++ v)) tail.bytes_are
    ∙ sym (append_assoc f.gap t.text (inner ++ tail.after)) in
    let regroup : (f.gap ++ t.text) ++ (inner ++ tail.after) ≡ ((f.gap ++ t.text) ++ inner) ++ tail.after =
    sym (append_assoc (f.gap ++ t.text) inner tail.after) in
    record {
      before = tail.before;
      after = tail.after;
      end = tail.end;
      source_is = tail.source_is;
      end_is = tail.end_is;
      bytes_are = all ∙ regroup ∙ ap (λ v. ((v ++ t.text) ++ inner) ++ tail.after) (sym gap);
      whole = (
        record {
          gap = rw gap f.gap_is;
          spelled = f.spelled;
          longest = λ line_end. longest_before_end t.kind t.text inner tail.after line_end f.spelled longest;
        },
        tail.whole,
      );
      has = tail.has;
    }
