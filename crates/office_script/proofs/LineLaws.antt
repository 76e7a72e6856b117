-- What the lines of a text are.
use Rattle.std.proofs.Common.{◌≡◌, ◌≢◌, ◌==◌, ◌<◌, ◌↔◌, ℕ, List, [], ◌∷◌, ◌++◌, length, refl, sym, ap, ◌∙◌, arith}
use Rattle.std.specs.List.{slice_split, join_with_byte, All}
use Rattle.std.proofs.lemmas.List.Splits.{length-slice_split, join_with_byte-slice_split}
use Rattle.std.proofs.lemmas.List.Elements.{All-head, All-tail, All-cons, All-nil}
use Rattle.std.proofs.lemmas.Bool.{ne_eqb}
use Rattle.office_script.proofs.Parts.{Lacks, parts_lack, split_at_separator, split_without_separator}
use Rattle.office_script.specs.Lines.{lines_of, with_feeds, with_last_feed, lines_of_parts, AreLinesOf}

-- a text is completed at its end
with_last_feed_front : (front rest : List ℕ) → with_last_feed (front ++ (10 ∷ rest)) ≡ front
    ++ (10 ∷ with_last_feed rest)
with_last_feed_front [] [] = refl
with_last_feed_front [] (c ∷ rest) = refl
with_last_feed_front (x ∷ []) rest = ap (λ bs. x ∷ bs) (with_last_feed_front [] rest)
with_last_feed_front (x ∷ y ∷ front) rest = ap (λ bs. x ∷ bs) (with_last_feed_front (y ∷ front) rest)

-- a last line without a feed gets one
with_last_feed_last : (x : ℕ) (xs : List ℕ) → Lacks 10 (x ∷ xs) → with_last_feed (x ∷ xs) ≡ (x ∷ xs) ++ (10 ∷ [])
with_last_feed_last x [] h = rw (ne_eqb x 10 (All-head (λ b. b ≢ 10) x [] h))
with_last_feed_last x (y ∷ xs) h = ap (λ bs. x ∷ bs) (with_last_feed_last y xs (All-tail (λ b. b ≢ 10) x (y ∷ xs) h))

-- the parts without an empty last one, each with a feed after it
feeds_of_parts : (part : List ℕ) (parts : List (List ℕ)) → All (Lacks 10) (part ∷ parts)
    → with_feeds (lines_of_parts (part ∷ parts)) ≡ with_last_feed (join_with_byte 10 (part ∷ parts))
feeds_of_parts [] [] h = refl
feeds_of_parts (x ∷ xs) [] h = sym (with_last_feed_last x xs (All-head (Lacks 10) (x ∷ xs) [] h))
feeds_of_parts part (next ∷ parts) h =
    ap (λ bs. part ++ (10 ∷ bs)) (feeds_of_parts next parts (All-tail (Lacks 10) part (next ∷ parts) h))
    ∙ sym (with_last_feed_front part (join_with_byte 10 (next ∷ parts)))

-- the lines of parts have no feed where the parts have none
lack_without_last : (parts : List (List ℕ)) → All (Lacks 10) parts → All (Lacks 10) (lines_of_parts parts)
lack_without_last [] h = h
lack_without_last ([] ∷ []) h = All-nil (Lacks 10)
lack_without_last ((x ∷ xs) ∷ []) h = h
lack_without_last (part ∷ next ∷ parts) h =
    All-cons (Lacks 10) part (lines_of_parts (next ∷ parts)) (All-head (Lacks 10) part (next ∷ parts) h)
    (lack_without_last (next ∷ parts) (All-tail (Lacks 10) part (next ∷ parts) h))

-- the same of any list of one part or more
feeds_of_split : (parts : List (List ℕ)) → 0 < length parts → All (Lacks 10) parts
    → with_feeds (lines_of_parts parts) ≡ with_last_feed (join_with_byte 10 parts)
feeds_of_split [] some h = absurd (omega (arith, some))
feeds_of_split (part ∷ parts) some h = feeds_of_parts part parts h

-- `lines_of` gives the lines
lines_of_are : (text : List ℕ) → AreLinesOf text (lines_of text)
lines_of_are text = record {
  apart = lack_without_last (slice_split (λ b. b == 10) text) (parts_lack 10 text);
  joined =
      feeds_of_split (slice_split (λ b. b == 10) text) (omega (arith, length-slice_split (λ b. b == 10) text))
      (parts_lack 10 text)
      ∙ ap with_last_feed (join_with_byte-slice_split 10 text);
}

-- the parts of lines with a feed after each are the lines, and an empty one
split_feeds : (lines : List (List ℕ)) → All (Lacks 10) lines → slice_split (λ b. b == 10) (with_feeds lines) ≡ lines
    ++ ([] ∷ [])
split_feeds [] h = refl
split_feeds (line ∷ lines) h =
    split_at_separator 10 line (with_feeds lines) (All-head (Lacks 10) line lines h)
    ∙ ap (λ ls. line ∷ ls) (split_feeds lines (All-tail (Lacks 10) line lines h))

-- an empty last part is no line
front_of_last : (lines : List (List ℕ)) → lines_of_parts (lines ++ ([] ∷ [])) ≡ lines
front_of_last [] = refl
front_of_last (line ∷ []) = refl
front_of_last (line ∷ next ∷ lines) = ap (λ ls. line ∷ ls) (front_of_last (next ∷ lines))

-- the lines of lines with a feed after each
lines_of_feeds : (lines : List (List ℕ)) → All (Lacks 10) lines → lines_of (with_feeds lines) ≡ lines
lines_of_feeds lines h = ap lines_of_parts (split_feeds lines h) ∙ front_of_last lines

-- and no other lists are
are_lines_of : (text : List ℕ) (lines : List (List ℕ)) → AreLinesOf text lines → lines ≡ lines_of text
are_lines_of text lines h =
    let own = lines_of_are text in
    sym (lines_of_feeds lines h.apart)
    ∙ (ap lines_of (h.joined ∙ sym own.joined) ∙ lines_of_feeds (lines_of text) own.apart)

-- the lines of a text are one list
pub lines_law : (text : List ℕ) (lines : List (List ℕ)) → (AreLinesOf text lines ↔ (lines ≡ lines_of text))
lines_law text lines = (are_lines_of text lines, λ e. rw e (lines_of_are text))

-- a part with another after it is a line
before_more : (part : List ℕ) (parts : List (List ℕ)) → 0 < length parts
    → lines_of_parts (part ∷ parts) ≡ part ∷ lines_of_parts parts
before_more part [] some = absurd (omega (arith, some))
before_more part (next ∷ parts) some = refl

-- the first line, where a feed ends it
pub lines_of-feed : (line rest : List ℕ) → Lacks 10 line → lines_of (line ++ (10 ∷ rest)) ≡ line ∷ lines_of rest
lines_of-feed line rest h =
    ap lines_of_parts (split_at_separator 10 line rest h)
    ∙ before_more line (slice_split (λ b. b == 10) rest) (omega (arith, length-slice_split (λ b. b == 10) rest))

-- the only line, where no feed ends it
pub lines_of-last : (line : List ℕ) → Lacks 10 line → 0 < length line → lines_of line ≡ line ∷ []
lines_of-last [] h some = absurd (omega (arith, some))
lines_of-last (x ∷ xs) h some = ap lines_of_parts (split_without_separator 10 (x ∷ xs) h)
