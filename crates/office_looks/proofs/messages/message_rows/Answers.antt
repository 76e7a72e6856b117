use Rattle.office_looks.proofs.Common.{◌≡◌, ◌+◌, ◌≤◌, ◌<◌, ◌++◌, ℕ, List, ◌∷◌, length, drop, filter, get_or, map, refl}
use Rattle.office_looks.proofs.Common.{sym, ap, ◌∙◌, arith, option_copied, Message, signal_count, owned}
use Rattle.office_looks.specs.Messages.{is_wanted, message_row}
use Rattle.office_looks.proofs.Owning.{element, failing, item_more, owned_at, passing, signals_more}
use Rattle.office_looks.proofs.messages.message_rows.Goals as goal
use Rattle.office_looks.proofs.messages.message_rows.Goals.{then-is_wanted+in_ok-push_message, else-is_wanted}

abbrev signals_of : List (Message × List ℕ) → ℕ
signals_of ps = signal_count (map (λ (p : Message × List ℕ). p.0) ps)

pub loop-index-preserved : goal.loop-index-preserved
loop-index-preserved c =
    let view = c.args.view.now in
    let i = c.loop-index.index in
    let test = is_wanted (option_copied c.args.team) in
    let row = message_row view in
    let rest = drop (i + 1) (owned view) in
    let within : i < length (owned view) = omega arith in
    let in_messages : i < length view.sheet.messages = omega arith in
    let in_owners : i < length view.owners = omega arith in
    let o = c.index-owners-index.result in
    let is_o : o ≡ get_or view.owners i o =
    c.index-owners-index.is ∙ ap (λ v. get_or v i o) c.as_slice-owners.ensures in
    let before = c.loop-index.rows in
    elim c.if-is_wanted.branch [
      | then-is_wanted+in_ok-push_message w ↦
          let m = w.index-messages-index.result in
          let is_m : m ≡ get_or view.sheet.messages i m =
          w.index-messages-index.is ∙ ap (λ v. get_or v i m) c.messages-messages.ensures.messages in
          let here : drop i (owned view) ≡ (m, o) ∷ rest = owned_at view i m o within in_messages in_owners is_m is_o in
          let passed = passing test (m, o) rest (sym (c.is_wanted.ensures m) ∙ w.if-is_wanted.true) in
          let more : signals_of (filter test (drop i (owned view))) ≡ length m.signals + signals_of (filter test rest) =
          ap (λ v. signals_of (filter test v)) here ∙ ap signals_of passed ∙ signals_more m o (filter test rest) in
          let own : length w.as_slice.result.now ≡ length m.signals = ap length w.as_slice.ensures.signals in
          let few : length m.signals ≤ 4096 = w.as_slice.ensures.together.few in
          record {
            listed =
                item_more row (m, o) (filter test rest) (map row (filter test (owned view))) before (row (m, o))
                c.if-is_wanted.rows
                (c.loop-index.invariant.listed
                ∙ ap (λ v. before ++ map row (filter test v)) here ∙ ap (λ v. before ++ map row v) passed)
                refl (w.rows-is ∙ w.in_ok-push_message.ensures);
            counted = omega arith;
            few = omega arith;
          }
      | else-is_wanted w ↦
          let (m, is_m) = element view.sheet.messages i in_messages in
          let here : drop i (owned view) ≡ (m, o) ∷ rest = owned_at view i m o within in_messages in_owners is_m is_o in
          let failed = failing test (m, o) rest (sym (c.is_wanted.ensures m) ∙ w.if-is_wanted.false) in
          let same : signals_of (filter test (drop i (owned view))) ≡ signals_of (filter test rest) =
          ap (λ v. signals_of (filter test v)) here ∙ ap signals_of failed in
          record {
            listed = c.loop-index.invariant.listed
                ∙ ap (λ v. before ++ map row (filter test v)) here
                ∙ ap (λ v. before ++ map row v) failed
                ∙ ap (λ v. v ++ map row (filter test rest)) (sym w.rows-is);
            counted = omega arith;
            few = omega arith;
          }
    ]
