use Rattle.dbc_read.proofs.Common.{◌≡◌, ◌<◌, ◌∙◌, List, ap, length, slice_index_or, subst, sym, with_items_is, Signal}
use Rattle.dbc_read.proofs.Common.{message_of, signal_of, signals_of, MessageLine}
use Rattle.std.specs.Vec.{with_items}
use Rattle.dbc_read.specs.Attaching.{at_index, with_attachment}
use Rattle.dbc_read.proofs.SignalIndices.{attached_leaves, change_leaves, lines_stay, signal_changed, signal_within}
use Rattle.dbc_read.proofs.attaching.attach_at.Goals as goal

pub attach_in-requires : goal.attach_in-requires
attach_in-requires c =
    subst (λ (l : List Signal). c.args.indices.signal < length l) (sym c.deref_mut.ensures.value)
    (signal_within c.index-lines-indices.result c.args.lines.now c.args.indices.message c.args.indices.signal
    c.requires)

pub returns : goal.returns
returns c =
    let lines = c.args.lines.now in
    let i = c.args.indices.message in
    let j = c.args.indices.signal in
    let f = with_attachment c.args.attachment in
    let d = c.index-lines-indices.result in
    let here = slice_index_or lines i d in
    let changed = c.attach_in.new.signals in
    let line : MessageLine = record here { signals = with_items here.signals changed } in
    let items : line.signals.items ≡ at_index f here.signals.items j =
    with_items_is here.signals changed (c.attach_in.auto.signals ∙ c.deref_mut.ensures.len)
    ∙ c.attach_in.ensures ∙ ap (λ l. at_index f l j) c.deref_mut.ensures.value in
    let same : signals_of line.signals.items ≡ signals_of here.signals.items = ap signals_of items
    ∙ change_leaves f signal_of (attached_leaves c.args.attachment) here.signals.items j in
    record {
      messages = lines_stay f line d lines i j c.requires (ap (λ l. record (message_of here) { signals = l }) same);
      signals = signal_changed f line d lines i j c.requires items;
    }
