use Rattle.store_rows.proofs.Common.{◌≡◌, ◌∙◌, suc, ◌+◌, ◌<◌, List, [], ◌∷◌, ◌++◌, length, take, drop, sym, ap, subst}
use Rattle.store_rows.proofs.Common.{Row, Signal, prefix_len}
use Rattle.std.proofs.Common.{add-one, drop-cons}
use Rattle.std.proofs.lemmas.List.{drop_all}
use Rattle.store_rows.specs.Listed.{AreShown}
use Rattle.store_rows.specs.SignalShowing.{ShowsReceiver, ShowsValueText, has_place}
use Rattle.store_rows.proofs.PutTogether.{AreLeft, IsPutTogether, all_left, none_left, one_more}
use Rattle.store_rows.proofs.merging.signals_in.Goals as goal

pub loop-row-init : goal.loop-row-init
loop-row-init c placed ascend a b d =
    subst (λ (done : List Signal). AreLeft placed done c.args.sigs.now c.args.receivers.now c.args.values.now)
    (sym c.new-signals.ensures.items)
    (all_left placed c.args.sigs.now c.args.receivers.now c.args.values.now ascend a b d)

pub loop-row-preserved : goal.loop-row-preserved
loop-row-preserved c placed ascend a b d =
    let sigs = c.args.sigs.now in
    let at = c.loop-row.row-index in
    let row = c.row-item.result in
    let done = c.loop-row.signals.items in
    let names = c.loop-row.names.now in
    let texts = c.loop-row.texts.now in
    let place = c.in_ok-place.place in
    let signal = c.in_ok-signal_of.field-0 in
    let m = prefix_len (has_place place) names in
    let n = prefix_len (has_place place) texts in
    let left = c.loop-row.invariant placed ascend a b d in
    let within : at < length sigs = c.loop-row-test.true in
    let first : drop at sigs ≡ row ∷ drop (at + 1) sigs =
    rw (add-one, drop-cons sigs at row) (ap (λ x. x ∷ drop (suc at) sigs) (sym c.row-item.is)) in
    let front : c.split_at.result.0.now ≡ take m names = c.split_at.ensures.front
    ∙ ap (λ k. take k names) c.rows_at.ensures.is in
    let back : c.split_at.result.1.now ≡ drop m names = c.split_at.ensures.back
    ∙ ap (λ k. drop k names) c.rows_at.ensures.is in
    let front_texts : c.split_at-in-loop-row.result.0.now ≡ take n texts = c.split_at-in-loop-row.ensures.front
    ∙ ap (λ k. take k texts) c.rows_at-in-loop-row.ensures.is in
    let back_texts : c.split_at-in-loop-row.result.1.now ≡ drop n texts = c.split_at-in-loop-row.ensures.back
    ∙ ap (λ k. drop k texts) c.rows_at-in-loop-row.ensures.is in
    let together : IsPutTogether m n row names texts signal =
    λ other shows r v. c.in_ok-signal_of.ensures other shows
    (c.in_ok-receivers.ensures other.receivers (subst (AreShown ShowsReceiver other.receivers) (sym front) r))
    (c.in_ok-values.ensures other.values (subst (AreShown ShowsValueText other.values) (sym front_texts) v)) in
    let next : AreLeft placed (done ++ signal ∷ []) (drop (at + 1) sigs) (drop m names) (drop n texts) =
    one_more placed done row (drop (at + 1) sigs) names texts place signal
    (subst (λ (l : List Row). AreLeft placed done l names texts) first left) c.in_ok-place.ensures together in
    subst (λ (l : List Row). AreLeft placed c.push.new.self.items (drop (at + 1) sigs) c.split_at.result.1.now l)
    (sym back_texts)
    (subst (λ (l : List Row). AreLeft placed c.push.new.self.items (drop (at + 1) sigs) l (drop n texts)) (sym back)
    (subst (λ (l : List Signal). AreLeft placed l (drop (at + 1) sigs) (drop m names) (drop n texts))
    (sym c.in_ok-push.ensures.items) next))

pub returns : goal.returns
returns c placed ascend a b d =
    let left = c.loop-row.invariant placed ascend a b d in
    let done = c.loop-row.signals.items in
    none_left placed done c.loop-row.names.now c.loop-row.texts.now
    (subst (λ (l : List Row). AreLeft placed done l c.loop-row.names.now c.loop-row.texts.now)
    (drop_all c.loop-row.row-index c.args.sigs.now c.loop-row-test.false) left)
