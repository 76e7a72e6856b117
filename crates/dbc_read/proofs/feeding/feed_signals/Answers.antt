use Rattle.dbc_read.proofs.Common.{◌<◌, ◌∙◌, ◌+◌, ◌++◌, ap, drop, length, refl, slice_index_or, sym, take, arith}
use Rattle.dbc_read.proofs.Common.{drop_more, err_from_is_err_and, Signal, signal_of, signals_of}
use Rattle.dbc_read.specs.Built.{feeds_after, next_signal, rest_of, signals_from}
use Rattle.dbc_read.specs.Fit.{HaveFewTexts}
use Rattle.dbc_read.specs.declared.feed.Feeds.{Feeds}
use Rattle.dbc_read.proofs.Fed.{one_fed_itself, one_left, one_refused, set_leaves}
use Rattle.dbc_read.proofs.feeding.feed_signals.Goals as goal

pub loop-at-preserved : goal.loop-at-preserved
loop-at-preserved c =
    let xs = c.loop-at.signals in
    let i = c.loop-at.at in
    let d = c.index-signals-at.result in
    let y = c.feed_signal.new.signal in
    let f = c.loop-at.feeds in
    let g = c.feed_signal.new.feeds in
    let lt : i < length xs = let long = c.loop-at.auto.signals in let test = c.loop-at-test.true in omega arith in
    let rest = λ (s : Signal) (h : Feeds). rest_of h in
    let is = c.in_ok-feed_signal.ensures in
    record {
      stays = set_leaves signal_of xs i d y is.stays ∙ c.loop-at.invariant.stays;
      fed = one_fed_itself rest xs i d y f g lt is.rest (λ s h. next_signal (signal_of s) h)
          (λ ss h. signals_from (signals_of ss) h) (λ s ss h. refl) is.fed ∙ c.loop-at.invariant.fed;
      left = one_left rest xs i d y f g lt is.rest (λ ss h. feeds_after (signals_of ss) h) (λ s ss h. refl)
          ∙ c.loop-at.invariant.left;
    }

pub returns-in_err-feed_signal-clause-stays : goal.returns-in_err-feed_signal-clause-stays
returns-in_err-feed_signal-clause-stays c =
    set_leaves signal_of c.loop-at.signals c.loop-at.at c.index-signals-at.result c.feed_signal.new.signal
    c.in_err-feed_signal.ensures.stays ∙ c.loop-at.invariant.stays

pub returns-in_err-feed_signal-clause-refused : goal.returns-in_err-feed_signal-clause-refused
returns-in_err-feed_signal-clause-refused c =
    let p = err_from_is_err_and c.from_residual.result c.from_residual.ensures.1 in
    let xs = c.loop-at.signals in
    let i = c.loop-at.at in
    let d = c.index-signals-at.result in
    let f = c.loop-at.feeds in
    let x = slice_index_or xs i d in
    let lt : i < length xs = let long = c.loop-at.auto.signals in let test = c.loop-at-test.true in omega arith in
    let front = take i xs in
    let e = ap (λ l. front ++ signals_from (signals_of l) f) (sym (drop_more xs i d lt)) ∙ c.loop-at.invariant.fed in
    rw (p.1, p.2) (one_refused HaveFewTexts front (next_signal (signal_of x) f)
    (signals_from (signals_of (drop (i + 1) xs)) (rest_of f)) _ _ e c.in_err-feed_signal.ensures.refused)
