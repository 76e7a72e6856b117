use Rattle.page_numbers.proofs.Common.{◌≡◌, ◌+◌, ◌++◌, ◌∷◌, [], ◌∙◌, ℕ, List, length, refl, sym, ap, append-nil}
use Rattle.page_numbers.proofs.Common.{append_assoc, take, arith, drop, flat_map, flat_map-append}
use Rattle.std.proofs.lemmas.List.{take-append-drop}
use Rattle.page_numbers.specs.Map.{IsTable, facts_in}
use Rattle.page_numbers.proofs.Pieces.{last_put, nothing_put}
use Rattle.page_numbers.proofs.map.put_tables.Goals as goal

abbrev all : List (List ℕ) → List ℕ
all tables = flat_map (λ table. table) tables

-- one table more has the rows that were taken
one_more : (tables : List (List ℕ)) (own after rest rows : List ℕ) (count : ℕ) → own ≡ take (1 + count) rest
    → after ≡ drop (1 + count) rest → all tables ++ rest ≡ rows → all (tables ++ own ∷ []) ++ after ≡ rows
one_more tables own after rest rows count front back together =
    let parts : own ++ after ≡ rest =
    ap (λ v. v ++ after) front ∙ ap (λ v. take (1 + count) rest ++ v) back ∙ take-append-drop (1 + count) rest in
    ap (λ v. v ++ after) (flat_map-append (λ table. table) tables (own ∷ []) ∙ ap (λ v. all tables ++ v) (append-nil own))
    ∙ append_assoc (all tables) own after ∙ ap (λ v. all tables ++ v) parts ∙ together

nothing_left : (xs ys rows : List ℕ) → length ys ≡ 0 → xs ++ ys ≡ rows → xs ≡ rows
nothing_left xs [] rows none e = sym (append-nil xs) ∙ e
nothing_left xs (y ∷ ys) rows none e = absurd (omega arith)

pub loop-first-init : goal.loop-first-init
loop-first-init c =
    ([], (refl, nothing_put (IsTable c.args.facts.now.chart (facts_in c.args.facts.now)) c.args.page.now))

pub loop-first-preserved : goal.loop-first-preserved
loop-first-preserved c =
    let before = c.loop-first.invariant in (
      before.0 ++ c.split_at.result.0.now ∷ [],
      (
        one_more before.0 c.split_at.result.0.now c.split_at.result.1.now c.loop-first.rest.now c.args.rows.now
            c.count_on-count.result c.split_at.ensures.front c.split_at.ensures.back before.1.0,
        last_put (IsTable c.args.facts.now.chart (facts_in c.args.facts.now)) before.0 c.split_at.result.0.now
            c.args.page.now c.loop-first.page c.put_table.new.page before.1.1 c.in_ok-put_table.ensures,
      ),
    )

pub returns : goal.returns
returns c =
    let before = c.loop-first.invariant in (
      before.0,
      (
        nothing_left (all before.0) c.loop-first.rest.now c.args.rows.now c.in_default.ensures.cases before.1.0,
        before.1.1,
      ),
    )
