use Rattle.dbc_read.proofs.Common.{on_ok_weaker}
use Rattle.dbc_read.proofs.gathered.gather.Goals as goal

pub returns-in-NodeComment : goal.returns-in-NodeComment
returns-in-NodeComment c =
    on_ok_weaker c.attach.result
    (λ added. rw c.in-NodeComment.is
    (λ i. record c.args.all.now { node_comments = c.attach.ensures.items i; passed = added i })) c.attach.ensures.passed

pub returns-in-MessageComment : goal.returns-in-MessageComment
returns-in-MessageComment c =
    on_ok_weaker c.attach-in-MessageComment.result
    (λ added. rw c.in-MessageComment.is
    (λ i. record c.args.all.now { message_comments = c.attach-in-MessageComment.ensures.items i; passed = added i }))
    c.attach-in-MessageComment.ensures.passed

pub returns-in-SignalComment : goal.returns-in-SignalComment
returns-in-SignalComment c =
    on_ok_weaker c.attach-in-SignalComment.result
    (λ added. rw c.in-SignalComment.is
    (λ i. record c.args.all.now { signal_comments = c.attach-in-SignalComment.ensures.items i; passed = added i }))
    c.attach-in-SignalComment.ensures.passed

pub returns-in-ValueTexts : goal.returns-in-ValueTexts
returns-in-ValueTexts c =
    on_ok_weaker c.attach-in-ValueTexts.result
    (λ added. rw c.in-ValueTexts.is
    (λ i. record c.args.all.now { signal_values = c.attach-in-ValueTexts.ensures.items i; passed = added i }))
    c.attach-in-ValueTexts.ensures.passed

pub returns-in-ValueType : goal.returns-in-ValueType
returns-in-ValueType c =
    on_ok_weaker c.attach-in-ValueType.result
    (λ added. rw c.in-ValueType.is
    (λ i. record c.args.all.now { signal_types = c.attach-in-ValueType.ensures.items i; passed = added i }))
    c.attach-in-ValueType.ensures.passed

pub returns-in-Spn : goal.returns-in-Spn
returns-in-Spn c = on_ok_weaker c.attach-in-Spn.result
    (λ added. rw c.in-Spn.is
    (λ i. record c.args.all.now { signal_spns = c.attach-in-Spn.ensures.items i; passed = added i }))
    c.attach-in-Spn.ensures.passed
