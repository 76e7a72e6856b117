use Rattle.dbc_read.proofs.Common.{◌≡◌, ◌∙◌, List, ap, map, subst, sym, AllByRecursion, with_items_is, IfOk-weaker}
use Rattle.dbc_read.proofs.Common.{err_from_is_err_and, message_of, MessageLine}
use Rattle.std.proofs.lemmas.Result.{IfErr-weaker}
use Rattle.dbc_read.specs.Attaching.{each_fed, in_signals, line_signals}
use Rattle.dbc_read.specs.Built.{CanBeSheet, IsBuilt, feeds_in}
use Rattle.dbc_read.specs.Fit.{HaveFewTexts}
use Rattle.dbc_read.specs.declared.feed.Feeds.{Feeds}
use Rattle.dbc_read.specs.declared.gathered.Gathered.{Gathered}
use Rattle.dbc_read.specs.declared.reading.Reading.{Reading}
use Rattle.dbc_read.proofs.Building.{built_of_lists, fit_few, in_lines, sheet_of_lists}
use Rattle.dbc_read.proofs.Refused.{unless}
use Rattle.dbc_read.proofs.gathered.Gathered.into_reading_of_lists.Goals as goal

pub returns-in_err-feed_lines-clause-refused : goal.returns-in_err-feed_lines-clause-refused
returns-in_err-feed_lines-clause-refused c =
    let g = c.args.self in
    let p = err_from_is_err_and c.from_residual.result c.from_residual.ensures.1 in
    let feeds : c.take_feeds-feeds.result ≡ feeds_in g = c.take_feeds-feeds.ensures.feeds in
    let lines : c.deref_mut.result.now ≡ g.messages
    = c.deref_mut.ensures.value ∙ c.into_vec-lines.ensures ∙ c.take.ensures.items
    ∙ ap (λ (x : Gathered). x.messages) c.take_feeds-feeds.ensures.rest in
    rw (p.1, p.2) (unless _ _ _ (λ can.
    subst (λ (ms : List MessageLine). AllByRecursion (AllByRecursion HaveFewTexts)
    (each_fed (map message_of ms) c.take_feeds-feeds.result)) (sym lines)
    (subst (λ (f : Feeds). AllByRecursion (AllByRecursion HaveFewTexts) (each_fed (map message_of g.messages) f))
    (sym feeds)
    (fit_few (map message_of g.messages) g.message_comments (feeds_in g) can.messages)))
    c.in_err-feed_lines.ensures.refused)

pub returns-clause-built : goal.returns-clause-built
returns-clause-built c =
    let g = c.args.self in
    let feeds : c.take_feeds-feeds.result ≡ feeds_in g = c.take_feeds-feeds.ensures.feeds in
    let lines : c.deref_mut.result.now ≡ g.messages
    = c.deref_mut.ensures.value ∙ c.into_vec-lines.ensures ∙ c.take.ensures.items
    ∙ ap (λ (x : Gathered). x.messages) c.take_feeds-feeds.ensures.rest in
    let new : List MessageLine = c.feed_lines.new.lines in
    let kept : c.from_vec.result ≡ new = c.from_vec.ensures
    ∙ with_items_is c.into_vec-lines.result new (c.feed_lines.auto.lines ∙ c.deref_mut.ensures.len) in
    let same : map message_of new ≡ map message_of g.messages = c.in_ok-feed_lines.ensures.stays
    ∙ ap (map message_of) lines in
    let fed : map line_signals new ≡ each_fed (map message_of g.messages) (feeds_in g) = c.in_ok-feed_lines.ensures.fed
    ∙ (λ i. each_fed (map message_of (lines i)) (feeds i)) in
    IfOk-weaker c.into_reading.result _ _ (λ (r : Reading) built.
    built_of_lists g new same fed r.sheet
    (subst (λ (x : Gathered). IsBuilt (in_signals x) r.sheet)
    (λ i. record (c.take_feeds-feeds.ensures.rest i) { messages = kept i }) built)) c.into_reading.ensures.built

pub returns-clause-refused : goal.returns-clause-refused
returns-clause-refused c =
    let g = c.args.self in
    let feeds : c.take_feeds-feeds.result ≡ feeds_in g = c.take_feeds-feeds.ensures.feeds in
    let lines : c.deref_mut.result.now ≡ g.messages
    = c.deref_mut.ensures.value ∙ c.into_vec-lines.ensures ∙ c.take.ensures.items
    ∙ ap (λ (x : Gathered). x.messages) c.take_feeds-feeds.ensures.rest in
    let new : List MessageLine = c.feed_lines.new.lines in
    let kept : c.from_vec.result ≡ new = c.from_vec.ensures
    ∙ with_items_is c.into_vec-lines.result new (c.feed_lines.auto.lines ∙ c.deref_mut.ensures.len) in
    let same : map message_of new ≡ map message_of g.messages = c.in_ok-feed_lines.ensures.stays
    ∙ ap (map message_of) lines in
    let fed : map line_signals new ≡ each_fed (map message_of g.messages) (feeds_in g) = c.in_ok-feed_lines.ensures.fed
    ∙ (λ i. each_fed (map message_of (lines i)) (feeds i)) in
    let whole : record c.take_feeds-feeds.new.self { messages = c.from_vec.result } ≡ in_lines new g =
    λ i. record (c.take_feeds-feeds.ensures.rest i) { messages = kept i } in
    IfErr-weaker c.into_reading.result _ _ (λ refusal refused.
    unless refusal _ _ (λ can. subst (λ (x : Gathered). CanBeSheet (in_signals x)) (sym whole)
    (sheet_of_lists g new same fed can)) refused) c.into_reading.ensures.refused
