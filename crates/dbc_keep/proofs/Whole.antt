-- The text of all lines is the kept text of its source.
use Rattle.dbc_keep.proofs.Common.{◌≡◌, ℕ, List, [], map, ap, subst, ◌∙◌, flat_map, line_text, Reads, ReadsAs}
use Rattle.dbc_keep.proofs.Common.{ReadsAsOneAtMost, ReadsOnlyAs, found, kept_text, EachOnce, Keeps, StatementsAreFound}
use Rattle.dbc_keep.proofs.Common.{start_and_keyword, Passed, Sheet}
use Rattle.std.proofs.lemmas.Simd.{map-map}
use Rattle.dbc_grammar.specs.Canon.{canonical_text}
use Rattle.dbc_keep.specs.Finding.{all_found}
use Rattle.dbc_keep.specs.Keeping.{KeepsEach}
use Rattle.dbc_keep.specs.Parts.{all_lines}
use Rattle.dbc_keep.proofs.Lines.{lines_are}
use Rattle.dbc_keep_law.specs.Law.{IsKept, KeepsPassed, KeepsSheet, NothingKept}

pub keeps_found : (source : List ℕ) (s : Sheet) (passed : List Passed) → ReadsAs source s (map start_and_keyword passed)
    → StatementsAreFound → Keeps source s (all_found source passed)
keeps_found source s passed reads law =
    subst (Keeps source s) (map-map (found source) start_and_keyword passed)
    (law source s (map start_and_keyword passed) reads)

module _ (source text : List ℕ) (s : Sheet) (passed : List Passed)
    (reads : ReadsAs source s (map start_and_keyword passed))
    (written : text ≡ flat_map line_text (all_lines s source passed)) where
  text_is : text ≡ kept_text s (all_found source passed)
  text_is = written ∙ ap (flat_map line_text) (lines_are s source passed)

  pub is_kept : StatementsAreFound → IsKept source text
  is_kept law =
      record {
        sheet = s;
        passages = all_found source passed;
        keeps = keeps_found source s passed reads law;
        text_is = text_is;
      }

  pub reads_only : StatementsAreFound → KeepsSheet → ReadsAsOneAtMost → ReadsOnlyAs text s
  reads_only law same one =
      let there : Reads text s = same source text s (is_kept law) (map start_and_keyword passed, reads) in
      record { reads = there; only = λ t (p, r). (one text t s p there.0 r there.1).0 }

  pub keeps_each : StatementsAreFound → KeepsPassed → EachOnce → KeepsEach source text s
  unfolding is_kept
  keeps_each law all once = record {
    passages = all_found source passed;
    of_source = keeps_found source s passed reads law;
    of_text = all source text (is_kept law);
    once = once s (all_found source passed);
  }

  pub nothing_kept : NothingKept → passed ≡ [] → text ≡ canonical_text s
  nothing_kept law e = text_is ∙ ap (λ (ps : List Passed). kept_text s (all_found source ps)) e ∙ law s
