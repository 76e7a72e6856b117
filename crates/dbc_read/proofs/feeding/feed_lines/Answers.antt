use Rattle.dbc_read.proofs.Common.{◌<◌, ◌∙◌, ◌+◌, ◌++◌, ap, drop, length, map, refl, slice_index_or, sym, take, arith}
use Rattle.dbc_read.proofs.Common.{AllByRecursion, drop_more, err_from_is_err_and, message_of, signals_of, MessageLine}
use Rattle.dbc_read.specs.Attaching.{each_fed, line_signals}
use Rattle.dbc_read.specs.Built.{feeds_after, signals_from}
use Rattle.dbc_read.specs.Fit.{HaveFewTexts}
use Rattle.dbc_read.specs.declared.feed.Feeds.{Feeds}
use Rattle.dbc_read.proofs.Fed.{one_fed, one_refused, set_leaves}
use Rattle.dbc_read.proofs.feeding.feed_lines.Goals as goal

pub loop-at-preserved : goal.loop-at-preserved
loop-at-preserved c =
    let xs = c.loop-at.lines in
    let i = c.loop-at.at in
    let d = c.index-lines-at.result in
    let y = c.feed_line.new.line in
    let f = c.loop-at.feeds in
    let g = c.feed_line.new.feeds in
    let lt : i < length xs = let long = c.loop-at.auto.lines in let test = c.loop-at-test.true in omega arith in
    let rest = λ (m : MessageLine) (h : Feeds). feeds_after (signals_of m.signals.items) h in
    let is = c.in_ok-feed_line.ensures in
    record {
      stays = set_leaves message_of xs i d y is.stays ∙ c.loop-at.invariant.stays;
      fed = one_fed rest xs i d y f g lt is.rest line_signals
          (λ (m : MessageLine) h. signals_from (signals_of m.signals.items) h) (λ ms h. each_fed (map message_of ms) h)
          (λ m ms h. refl) is.fed ∙ c.loop-at.invariant.fed;
    }

pub returns-in_err-feed_line-clause-stays : goal.returns-in_err-feed_line-clause-stays
returns-in_err-feed_line-clause-stays c =
    set_leaves message_of c.loop-at.lines c.loop-at.at c.index-lines-at.result c.feed_line.new.line
    c.in_err-feed_line.ensures.stays ∙ c.loop-at.invariant.stays

pub returns-in_err-feed_line-clause-refused : goal.returns-in_err-feed_line-clause-refused
returns-in_err-feed_line-clause-refused c =
    let p = err_from_is_err_and c.from_residual.result c.from_residual.ensures.1 in
    let xs = c.loop-at.lines in
    let i = c.loop-at.at in
    let d = c.index-lines-at.result in
    let f = c.loop-at.feeds in
    let x = slice_index_or xs i d in
    let lt : i < length xs = let long = c.loop-at.auto.lines in let test = c.loop-at-test.true in omega arith in
    let front = map line_signals (take i xs) in
    let e = ap (λ l. front ++ each_fed (map message_of l) f) (sym (drop_more xs i d lt)) ∙ c.loop-at.invariant.fed in
    rw (p.1, p.2) (one_refused (AllByRecursion HaveFewTexts) front (signals_from (signals_of x.signals.items) f)
    (each_fed (map message_of (drop (i + 1) xs)) (feeds_after (signals_of x.signals.items) f)) _ _ e
    c.in_err-feed_line.ensures.refused)
