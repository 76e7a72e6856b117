use Rattle.dbc_sheet.proofs.Common.{◌≡◌, ap, refl, subst, arith, All, Some, take}
use Rattle.std.proofs.Common.{IfSome, slice_get}
use Rattle.std.proofs.lemmas.Option.{slice_get_read}
use Rattle.bitlayout.specs.Clash.{IsFirstClash}
use Rattle.dbc_words.specs.declared.fault.About.TheVariants.{Signals}
use Rattle.dbc_sheet.specs.Messages.{IsClearMessage}
use Rattle.dbc_sheet.specs.Signals.{places_of}
use Rattle.dbc_sheet.proofs.Clearness.{says, one_more, all_taken, none_is_none, some_is_some}
use Rattle.dbc_sheet.proofs.sheet.Sheet.is_clear.Goals as goal

pub returns-in-Some-clause-fault : goal.returns-in-Some-clause-fault
returns-in-Some-clause-fault c =
    says c.from.result _ (record {
      index = c.loop-message.message-index;
      message = c.message-item.result;
      there = subst (λ ms. slice_get ms c.loop-message.message-index ≡ Some c.message-item.result)
          c.as_slice-message-items.ensures.messages
          (slice_get_read c.as_slice-message-items.result.now _ c.loop-message.message-index c.message-item.result refl
          c.loop-message-test.true c.message-item.is);
      clear_before = subst (λ ms. All IsClearMessage (take c.loop-message.message-index ms))
          c.as_slice-message-items.ensures.messages c.loop-message.invariant;
      unclear = λ clear. some_is_some c.in_ok-clash.field-0 c.in-Some.clash c.in-Some.is
          (c.in_ok-clash.ensures.clear.1 clear);
      clash = c.in-Some.clash;
      first = subst (λ clash. IfSome clash
          (IsFirstClash (places_of c.message-item.result.signals) c.message-item.result.length)) c.in-Some.is
          c.in_ok-clash.ensures.first;
      code = c.from.ensures;
      about = ap (λ number. Signals number c.in-Some.clash) c.number.ensures;
    })

pub loop-message-preserved : goal.loop-message-preserved
loop-message-preserved c =
    one_more IsClearMessage c.as_slice-message-items.result.now c.loop-message.message-index c.message-item.result
    c.loop-message-test.true c.message-item.is
    (c.in_ok-clash.ensures.clear.0 (none_is_none c.in_ok-clash.field-0 c.in-None.is)) c.loop-message.invariant

pub returns-clause-clear : goal.returns-clause-clear
returns-clause-clear c =
    subst (All IsClearMessage) c.as_slice-message-items.ensures.messages
    (all_taken IsClearMessage c.as_slice-message-items.result.now c.loop-message.message-index
    (omega (arith, c.loop-message-test.false)) c.loop-message.invariant)
