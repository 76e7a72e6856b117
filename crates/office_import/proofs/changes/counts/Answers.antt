use Rattle.office_import.proofs.Common.{◌≡◌, ◌-◌, List, length, ap, arith, ◌∙◌, Message, live_already, new_messages}
use Rattle.office_types.specs.declared.reply.Reply.TheVariants.{Counts}
use Rattle.office_import.proofs.Counted.{counted}
use Rattle.office_import.proofs.changes.counts.Goals as goal

pub overflow_sub-same : goal.overflow_sub-same
overflow_sub-same c = omega (arith, c.new_count-new.ensures, counted c.args.index.now c.messages-messages.result.now)

pub overflow_cast-result : goal.overflow_cast-result
overflow_cast-result c =
    let all : length c.messages-messages.result.now ≡ length c.args.file.now.messages =
    ap length c.messages-messages.ensures.messages in
    let few = c.messages-messages.ensures.together.few in
    omega (arith, c.new_count-new.ensures, counted c.args.index.now c.messages-messages.result.now)

pub returns : goal.returns
returns c =
    let net = c.args.index.now in
    let ms = c.messages-messages.result.now in
    let same : length ms - c.new_count-new.result ≡ length (live_already net ms) =
    omega (arith, c.new_count-new.ensures, counted net ms) in
    ap (λ n. Counts n (length ms - c.new_count-new.result)) c.new_count-new.ensures
    ∙ ap (λ n. Counts (length (new_messages net ms)) n) same
    ∙ ap (λ (v : List Message). Counts (length (new_messages net v)) (length (live_already net v)))
    c.messages-messages.ensures.messages
