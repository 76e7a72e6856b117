-- The bytes of a statement are those of its source from its first byte to its last.
use Rattle.dbc_keep.proofs.Common.{◌≡◌, ◌≤◌, ℕ, ◌+◌, ◌-◌, Bool, true, false, List, [], ◌∷◌, ◌++◌, length, take, drop}
use Rattle.dbc_keep.proofs.Common.{Option, refl, sym, ap, subst, ◌∙◌, arith, append_assoc, take-add, Keyword, Message}
use Rattle.dbc_keep.proofs.Common.{begins_next, is_open, Token, before_next, found, others_of, run_of, to_mark}
use Rattle.dbc_keep.proofs.Common.{tokens_at, line_of, pieces_from}
use Rattle.std.proofs.Common.{min}
use Rattle.std.proofs.lemmas.List.{drop-drop, drop_at, length-append, length-take, take-append-drop, take_at}
use Rattle.dbc_grammar.specs.Lexing.{LexFault, lexed}
use Rattle.dbc_grammar.specs.TokenLaw.{AreSlices}
use Rattle.dbc_grammar.proofs.TokenExact.{IsRead, first_of, read_is_there}
use Rattle.dbc_keep.specs.Finding.{bytes_of, last_end}

-- ---- the tokens from an offset on are slices of the source

read_slices : (ts : List Token) (o : Option LexFault) (offset : ℕ) (source front bytes : List ℕ)
    → source ≡ front ++ bytes → length front ≡ offset → IsRead offset bytes ts o → AreSlices offset source ts
read_slices [] o offset source front bytes e at h = tt
read_slices (t ∷ ts) o offset source front bytes e at h =
    let (rest, f, more) = first_of offset bytes t ts o h in
    let whole : source ≡ (front ++ f.gap) ++ (t.text ++ rest) = e ∙ ap (λ v. front ++ v) f.parts
    ∙ sym (append_assoc front f.gap (t.text ++ rest)) in
    let start : length (front ++ f.gap) ≡ t.start = omega (arith, at, f.start, length-append front f.gap) in
    let long : length t.text ≡ t.end - t.start = omega (arith, f.end) in
    let here : drop t.start source ≡ t.text ++ rest = ap (drop t.start) whole
    ∙ drop_at (front ++ f.gap) (t.text ++ rest) t.start start in
    let text : take (t.end - t.start) (drop t.start source) ≡ t.text = ap (take (t.end - t.start)) here
    ∙ take_at t.text rest (t.end - t.start) long in
    let next : source ≡ ((front ++ f.gap) ++ t.text) ++ rest =
    whole ∙ sym (append_assoc (front ++ f.gap) t.text rest) in
    let end : length ((front ++ f.gap) ++ t.text) ≡ t.end =
    omega (arith, start, f.end, length-append (front ++ f.gap) t.text) in
    let all : length source ≡ length ((front ++ f.gap) ++ t.text) + length rest = ap length next
    ∙ length-append ((front ++ f.gap) ++ t.text) rest in
    let tail = read_slices ts o t.end source ((front ++ f.gap) ++ t.text) rest next end more in
    (omega (arith, f.start), omega (arith, f.end), omega (arith, all, end), sym text, tail)

tokens_are_slices : (source : List ℕ) (at : ℕ) → AreSlices (min at (length source)) source (tokens_at source at)
tokens_are_slices source at =
    let offset = min at (length source) in
    let o = (lexed offset (drop at source)).fault in
    read_slices (tokens_at source at) o offset source (take at source) (drop at source)
    (sym (take-append-drop at source)) (length-take at source) (read_is_there offset (drop at source))

-- ---- the first of them

record IsFront (xs ts : List Token) : Type 0 where
  rest : List Token
  parts : ts ≡ xs ++ rest

mark_by : (t : Token) (ts : List Token) (b : Bool) → is_open t ≡ b → IsFront (to_mark ts) ts
    → IsFront (to_mark (t ∷ ts)) (t ∷ ts)
mark_by t ts true e more =
    rw e (record { rest = more.rest; parts = ap (λ (l : List Token). t ∷ l) more.parts })
mark_by t ts false e more = rw e (record { rest = ts; parts = refl })

mark_front : (ts : List Token) → IsFront (to_mark ts) ts
mark_front [] = record { rest = []; parts = refl }
mark_front (t ∷ ts) = mark_by t ts (is_open t) refl (mark_front ts)

next_by : (t : Token) (ts : List Token) (b : Bool) → begins_next t ≡ b → IsFront (before_next ts) ts
    → IsFront (before_next (t ∷ ts)) (t ∷ ts)
next_by t ts true e more = rw e (record { rest = t ∷ ts; parts = refl })
next_by t ts false e more =
    rw e (record { rest = more.rest; parts = ap (λ (l : List Token). t ∷ l) more.parts })

next_front : (ts : List Token) → IsFront (before_next ts) ts
next_front [] = record { rest = []; parts = refl }
next_front (t ∷ ts) = next_by t ts (begins_next t) refl (next_front ts)

others_front : (k : Keyword) (ts : List Token) → IsFront (others_of k ts) ts
others_front Message = next_front
others_front k = mark_front

front_slices : (at : ℕ) (source : List ℕ) (xs ys : List Token) → AreSlices at source (xs ++ ys) → AreSlices at source xs
front_slices at source [] ys h = tt
front_slices at source (x ∷ xs) ys h = (h.0, h.1, h.2, h.3, front_slices x.end source xs ys h.4)

-- ---- and so is what is between

join : (source : List ℕ) (a b c : ℕ) → a ≤ b → b ≤ c
    → take (b - a) (drop a source) ++ take (c - b) (drop b source) ≡ take (c - a) (drop a source)
join source a b c h k =
    let there : drop (b - a) (drop a source) ≡ drop b source =
    drop-drop (b - a) a source ∙ ap (λ n. drop n source) (omega (arith, h)) in
    let long : (b - a) + (c - b) ≡ c - a = omega (arith, h, k) in
    ap (λ v. take (b - a) (drop a source) ++ take (c - b) v) (sym there)
    ∙ sym (take-add (b - a) (c - b) (drop a source)) ∙ ap (λ n. take n (drop a source)) long

record IsSlice (at : ℕ) (source : List ℕ) (ts : List Token) : Type 0 where
  ordered : at ≤ last_end at ts
  within : last_end at ts ≤ length source
  bytes : bytes_of (pieces_from source at ts) ≡ take (last_end at ts - at) (drop at source)

is_slice : (at : ℕ) (source : List ℕ) (ts : List Token) → at ≤ length source → AreSlices at source ts
    → IsSlice at source ts
is_slice at source [] h k =
    let none : at - at ≡ 0 = omega arith in
    record { ordered = omega arith; within = h; bytes = ap (λ n. take n (drop at source)) (sym none) }
is_slice at source (t ∷ ts) h (start, end, within, text, more) =
    let tail = is_slice t.end source ts within more in
    let last = last_end t.end ts in
    let ordered = tail.ordered in
    let gap = take (t.start - at) (drop at source) in
    let inner = bytes_of (pieces_from source t.end ts) in
    let word = take (t.end - t.start) (drop t.start source) in
    let word_is : (gap ++ t.text) ++ inner ≡ (gap ++ word) ++ inner = ap (λ v. (gap ++ v) ++ inner) text in
    let inner_is : (gap ++ word) ++ inner ≡ (gap ++ word) ++ take (last - t.end) (drop t.end source) =
    ap (λ v. (gap ++ word) ++ v) tail.bytes in
    let front_is : (gap ++ word) ++ take (last - t.end) (drop t.end source)
    ≡ take (t.end - at) (drop at source) ++ take (last - t.end) (drop t.end source) =
    ap (λ v. v ++ take (last - t.end) (drop t.end source)) (join source at t.start t.end start end) in
    let all = join source at t.end last (omega (arith, start, end)) ordered in
    record {
      ordered = omega (arith, start, end, ordered);
      within = tail.within;
      bytes = word_is ∙ inner_is ∙ front_is ∙ all;
    }

-- ---- a statement that is found

module _ (source : List ℕ) (at : ℕ) (k : Keyword) where
  pub nothing_there : tokens_at source at ≡ [] → bytes_of (found source (at, k)).line ≡ []
  nothing_there e = ap (λ (ts : List Token). bytes_of (line_of source (run_of k ts))) e

  module _ (t : Token) (ts : List Token) (first : tokens_at source at ≡ t ∷ ts) where
    abbrev pub end_there : ℕ
    end_there = last_end t.end (others_of k ts)

    slices_there : AreSlices t.start source (t ∷ others_of k ts)
    slices_there =
        let all = subst (AreSlices (min at (length source)) source) first (tokens_are_slices source at) in
        let f = others_front k ts in
        let others = front_slices t.end source (others_of k ts) f.rest
        (subst (AreSlices t.end source) f.parts all.4) in
        (omega arith, all.1, all.2, all.3, others)

    is_there : IsSlice t.start source (t ∷ others_of k ts)
    is_there =
        let h = slices_there in
        let end = h.1 in
        let within = h.2 in
        is_slice t.start source (t ∷ others_of k ts) (omega (arith, end, within)) h

    pub start_before_end : t.start ≤ end_there
    start_before_end = is_there.ordered

    pub end_within : end_there ≤ length source
    end_within = is_there.within

    pub bytes_there : take (end_there - t.start) (drop t.start source) ≡ bytes_of (found source (at, k)).line
    bytes_there =
        let same : bytes_of (found source (at, k)).line ≡ bytes_of (line_of source (t ∷ others_of k ts)) =
        ap (λ (us : List Token). bytes_of (line_of source (run_of k us))) first in
        sym (same ∙ is_there.bytes)
