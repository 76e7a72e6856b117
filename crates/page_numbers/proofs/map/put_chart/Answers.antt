use Rattle.page_numbers.proofs.Common.{◌≡◌, ◌∙◌, List, [], true, false, cond, refl, sym, ap, subst, arith, on_ok_weaker}
use Rattle.page_numbers.proofs.Common.{HaveSame, is_taken, BlockForm, GrantedBlock, names_of}
use Rattle.std.specs.List.{filter_map}
use Rattle.page_parts.specs.Subjects.{messages_of}
use Rattle.page_numbers.specs.Charts.{form_of, is_shown}
use Rattle.page_numbers.specs.Index.{Indexed, number_of}
use Rattle.page_numbers.specs.Map.{Facts, IsTable, facts_of}
use Rattle.page_numbers.specs.Rows.{rows_in}
use Rattle.page_numbers.proofs.Closing.{unchanged}
use Rattle.page_numbers.proofs.MapFacts.{table_same}
use Rattle.page_numbers.proofs.Pieces.{pieces_weaker}
use Rattle.page_numbers.proofs.map.put_chart.Goals as goal

pub returns-then-not-is_shown : goal.returns-then-not-is_shown
returns-then-not-is_shown c =
    let subject = c.args.subject.now in
    let chart = c.args.chart in
    let off : is_shown chart subject.is_j1939 ≡ false = sym c.is_shown.ensures ∙ c.if-not-is_shown.true in (
      [],
      (
        record {
          rows = [];
          all = record {
            rising = λ k h. absurd (omega arith);
            same = λ n. ap (λ b. is_taken n (cond b (rows_in chart subject) [])) (sym off);
          };
          tables = [];
          together = refl;
          are = refl;
        },
        unchanged c.args.page.now [] refl,
      ),
    )

pub returns : goal.returns
returns c =
    let subject = c.args.subject.now in
    let chart = c.args.chart in
    let on : is_shown chart subject.is_j1939 ≡ true = sym c.is_shown.ensures ∙ c.if-not-is_shown.false in
    let index = c.in_ok-index.index in
    let held = filter_map (number_of (form_of chart)) subject.held.now in
    let blocks = c.of-blocks.result in
    let names = names_of subject in
    let made = λ (x : Indexed) (gs : List GrantedBlock).
    let f : Facts = record { form = x.form; messages = x.messages; held = held; blocks = gs; names = names } in f in
    let here : Facts =
    record { form = index.live.form; messages = index.live.messages; held = index.held; blocks = blocks; names = names } in
    let same : HaveSame index.held held =
    subst (λ (form : BlockForm). HaveSame index.held (filter_map (number_of form) subject.held.now)) c.form.ensures
    c.in_ok-index.ensures.held in
    let live : index.live ≡ record { form = form_of chart; messages = messages_of subject } =
    c.in_ok-index.ensures.live
    ∙ ap (λ (form : BlockForm). let x : Indexed = record { form = form; messages = messages_of subject } in x)
    c.form.ensures in
    let is : made index.live blocks ≡ facts_of chart subject =
    ap (λ (x : Indexed). made x blocks) live
    ∙ ap (λ (gs : List GrantedBlock). made (record { form = form_of chart; messages = messages_of subject }) gs)
    c.of-blocks.ensures in
    on_ok_weaker c.put_tables.result
    (λ h. (
      h.1.1.0,
      (
        record {
          rows = c.in_ok-rows.rows;
          all = record {
            rising = c.as_slice.ensures.rising;
            same = λ n. c.in_ok-rows.ensures n ∙ ap (λ b. is_taken n (cond b (rows_in chart subject) [])) (sym on);
          };
          tables = h.0;
          together = h.1.0 ∙ c.as_slice.ensures.numbers;
          are = pieces_weaker (IsTable chart here) (IsTable chart (facts_of chart subject))
              (λ rows b table. subst (λ (f : Facts). IsTable chart f rows b) is (table_same chart here held same rows b table))
              h.0 h.1.1.0 h.1.1.1.0;
        },
        h.1.1.1.1,
      ),
    ))
    c.put_tables.ensures
