-- What the words of a statement show, and the text of those that stay.
use Rattle.dbc_keep.proofs.Common.{◌≡◌, ◌+◌, ◌<◌, ◌++◌, ℕ, Bool, true, false, List, [], ◌∷◌, map, drop, length, take}
use Rattle.dbc_keep.proofs.Common.{get_or, None, refl, sym, ap, subst, ◌∙◌, flat_map, Keyword, Message, Sheet}
use Rattle.dbc_keep.proofs.Common.{line_text, Reads, ReadsAs, ReadsAsOneAtMost, ReadsOnlyAs, Token, others_of, run_of}
use Rattle.dbc_keep.proofs.Common.{to_mark, tokens_at, kept_text, EachOnce, Keeps, StatementsAreFound, line_of}
use Rattle.dbc_keep.proofs.Common.{pieces_from, Word, reason_by, start_and_keyword, Passed}
use Rattle.std.proofs.Common.{filter}
use Rattle.std.proofs.lemmas.List.{take_more}
use Rattle.std.proofs.lemmas.List.Elements.{filter-append, filter_map-append}
use Rattle.dbc_sheet.specs.Form.{IsSheet}
use Rattle.dbc_keep.specs.Finding.{all_found, found_in}
use Rattle.dbc_keep.specs.Parts.{all_lines}
use Rattle.dbc_keep.specs.Staying.{KeepsStaying, left_out, left_out_of, staying, stays_in, token_word}
use Rattle.dbc_keep.specs.declared.staying.LeftOut.{LeftOut}
use Rattle.dbc_keep.proofs.Lines.{lines_are}
use Rattle.dbc_keep.proofs.Whole.{keeps_found}
use Rattle.dbc_keep_law.specs.Kept.{completed}
use Rattle.dbc_keep_law.specs.Law.{KeptIsRead, StatementsStay}
use Rattle.dbc_keep_law.specs.Passages.{Passage}
use Rattle.dbc_keep_law.specs.Staying.{reason, stays, word_of, words_of}

-- ---- the words of a statement that is found

pieces_words : (source : List ℕ) (at : ℕ) (ts : List Token) → map word_of (pieces_from source at ts) ≡ map token_word ts
pieces_words source at [] = refl
pieces_words source at (t ∷ ts) = ap (λ (l : List Word). token_word t ∷ l) (pieces_words source t.end ts)

by_keyword : (s : Sheet) (k : Keyword) (ts : List Token)
    → reason_by s k (map token_word (others_of k ts)) ≡ reason_by s k (map token_word (to_mark ts))
by_keyword s Message ts = refl
by_keyword s k ts = refl

by_tokens : (s : Sheet) (source : List ℕ) (k : Keyword) (ts : List Token)
    → reason_by s k (words_of (line_of source (run_of k ts))) ≡ reason_by s k (map token_word (to_mark (drop 1 ts)))
by_tokens s source k [] = refl
by_tokens s source k (t ∷ ts) =
    ap (reason_by s k) (pieces_words source t.end (others_of k ts)) ∙ by_keyword s k ts

pub reason_there : (s : Sheet) (source : List ℕ) (one : Passed)
    → reason s (found_in source one)
    ≡ reason_by s one.keyword (map token_word (to_mark (drop 1 (tokens_at source one.at))))
reason_there s source one = by_tokens s source one.keyword (tokens_at source one.at)

pub message_stays : (s : Sheet) (source : List ℕ) (one : Passed) → one.keyword ≡ Message
    → reason s (found_in source one) ≡ None
message_stays s source one e =
    reason_there s source one
    ∙ ap (λ (k : Keyword). reason_by s k (map token_word (to_mark (drop 1 (tokens_at source one.at))))) e

-- ---- one more

module _ (s : Sheet) (source : List ℕ) (xs : List Passed) (i : ℕ) (d : Passed) (h : i < length xs) where
  abbrev x : Passed
  x = get_or xs i d

  one_more : take (i + 1) xs ≡ take i xs ++ x ∷ []
  one_more = take_more xs i d h

  pub stay_more : (old new : List Passed) → new ≡ old ++ staying s source (x ∷ [])
      → old ≡ staying s source (take i xs) → new ≡ staying s source (take (i + 1) xs)
  stay_more old new e before =
      e ∙ ap (λ (l : List Passed). l ++ staying s source (x ∷ [])) before
      ∙ sym (filter-append (stays_in s source) (take i xs) (x ∷ [])) ∙ ap (staying s source) (sym one_more)

  pub others_more : (old new : List LeftOut) → new ≡ old ++ left_out s source (x ∷ [])
      → old ≡ left_out s source (take i xs) → new ≡ left_out s source (take (i + 1) xs)
  others_more old new e before =
      e ∙ ap (λ (l : List LeftOut). l ++ left_out s source (x ∷ [])) before
      ∙ sym (filter_map-append (left_out_of s source) (take i xs) (x ∷ [])) ∙ ap (left_out s source) (sym one_more)

-- ---- the text

found_by : (s : Sheet) (source : List ℕ) (p : Passed) (ps : List Passed) (b : Bool) → stays_in s source p ≡ b
    → all_found source (staying s source ps) ≡ filter (stays s) (all_found source ps)
    → all_found source (staying s source (p ∷ ps)) ≡ filter (stays s) (all_found source (p ∷ ps))
found_by s source p ps true e more = rw e (ap (λ (l : List Passage). found_in source p ∷ l) more)
found_by s source p ps false e more = rw e more

staying_found : (s : Sheet) (source : List ℕ) (passed : List Passed)
    → all_found source (staying s source passed) ≡ filter (stays s) (all_found source passed)
staying_found s source [] = refl
staying_found s source (p ∷ ps) = found_by s source p ps (stays_in s source p) refl (staying_found s source ps)

module _ (source text : List ℕ) (o s : Sheet) (passed : List Passed)
    (reads : ReadsAs source o (map start_and_keyword passed)) (is : IsSheet s)
    (written : text ≡ flat_map line_text (all_lines s source (staying s source passed))) where
  text_is : text ≡ kept_text s (filter (stays s) (all_found source passed))
  text_is =
      written ∙ ap (flat_map line_text) (lines_are s source (staying s source passed))
      ∙ ap (kept_text s) (staying_found s source passed)

  of_text : StatementsAreFound → StatementsStay
      → Keeps text s (completed s (filter (stays s) (all_found source passed)))
  of_text law stay =
      let k = keeps_found source o passed reads law in
      let ps = filter (stays s) (all_found source passed) in
      subst (λ v. Keeps v s (completed s ps)) (sym text_is) (stay source o (all_found source passed) s k is)

  pub keeps_staying : StatementsAreFound → StatementsStay → EachOnce → KeepsStaying source text o s
  keeps_staying law stay once = record {
    passages = all_found source passed;
    of_source = keeps_found source o passed reads law;
    text_is = text_is;
    of_text = of_text law stay;
    once = once s (filter (stays s) (all_found source passed));
  }

  pub reads_only : StatementsAreFound → StatementsStay → KeptIsRead → ReadsAsOneAtMost → ReadsOnlyAs text s
  reads_only law stay read one =
      let there : Reads text s =
      read text s (completed s (filter (stays s) (all_found source passed))) (of_text law stay) in
      record { reads = there; only = λ t (p, r). (one text t s p there.0 r there.1).0 }
