-- What a script results in that is sent.
use Rattle.canoffice_cli.proofs.Common.{◌≡◌, ◌+◌, ◌++◌, ℕ, inl, inr, List, [], ◌∷◌, length, map, take, Option, Some}
use Rattle.canoffice_cli.proofs.Common.{None, Result, Ok, Err, refl, sym, ap, subst, ◌∙◌, arith, length-append}
use Rattle.canoffice_cli.proofs.Common.{append_assoc, append-nil, IfOk, IfSome, OnErr, AllZip, AllocError, length-map}
use Rattle.canoffice_cli.proofs.Common.{AllZip-long, AreStill, Desks, HasCome, IsFirstUnsent, Answer, Arrival, Files}
use Rattle.canoffice_cli.proofs.Common.{lines_of, AreArrivalsOf, IsScriptFault, ScriptFault, BadLine, Unreadable, Lost}
use Rattle.std.proofs.lemmas.List.{map-append}
use Rattle.desk_send.specs.Desks.{Takes, TakesNone, Turn}
use Rattle.desk_send.specs.Replies.{Comes}
use Rattle.desk_send.specs.declared.sending.SendFault.{SendFault}
use Rattle.desk_send.proofs.Trying.{comes_more, takes_nothing, takes_on}
use Rattle.desk_send.specs.Request.{IsSentAs}
use Rattle.office_script.specs.declared.keys.Dash.TheVariants.{Wrong}
use Rattle.office_script.specs.declared.script.ScriptFault.TheVariants.{Memory}
use Rattle.canoffice_cli.specs.Answered.{IsFarEnough, answers_outcome}
use Rattle.canoffice_cli.specs.Jobs.Applied.{Reports}
use Rattle.canoffice_cli.specs.Outcome.{Outcome, outcome_of, wrong_line}
use Rattle.canoffice_cli.specs.Jobs.Sent.{AreSent, AreTaken, ComeInTurn, IsSendOutcome, lost_by, requesting_line}
use Rattle.canoffice_cli.specs.Unprinted.{IsUnprinted}
use Rattle.canoffice_cli.specs.declared.report.Report.{Report}
use Rattle.canoffice_jobs.specs.declared.manner.Sending.{Sending}
use Rattle.canoffice_cli.proofs.Requesting.{line_is_there}
use Rattle.canoffice_cli.proofs.Unprinted.{all_done, done_more}

-- ---- what has come so far

module _ (desks : Desks) (sending : Sending) where
  in_turn_push : (requests : List (List ℕ)) (rs : List (Result Answer SendFault)) (turns own : List Turn)
      (item : List ℕ) (r : Result Answer SendFault) → ComeInTurn desks sending requests rs turns
      → Comes desks sending.port item sending.tries own r
      → ComeInTurn desks sending (requests ++ item ∷ []) (rs ++ r ∷ []) (turns ++ own)
  in_turn_push [] [] turns own item r none one =
      let same : turns ++ own ≡ own ++ [] = ap (λ ts. ts ++ own) none ∙ sym (append-nil own) in
      (own, [], same, one, refl)
  in_turn_push [] (x ∷ rs) turns own item r each one = absurd each
  in_turn_push (q ∷ requests) [] turns own item r each one = absurd each
  in_turn_push (q ∷ requests) (x ∷ rs) turns own item r each one =
      let same : turns ++ own ≡ each.0 ++ (each.1 ++ own) =
      ap (λ ts. ts ++ own) each.2 ∙ append_assoc each.0 each.1 own in
      (each.0, each.1 ++ own, same, each.3, in_turn_push requests rs each.1 own item r each.4 one)

  module _ (now : Desks) (requests : List (List ℕ)) where
    -- the first requests have these answers, and just their turns were taken
    abbrev pub Answered : ℕ → List Answer → Type 0
    Answered at ys = (turns : List Turn) × Takes desks now turns
        × ComeInTurn desks sending (take at requests) (map Ok ys) turns

    -- all that is due was answered
    pub come_all : (at : ℕ) (ys : List Answer) → length ys ≡ at → Answered at ys
        → AreTaken desks now sending requests ys None
    come_all at ys each answered =
        let count : at ≡ length (map Ok ys) = sym each ∙ sym (length-map ys Ok) in (
          answered.0,
          answered.1,
          (None, refl, subst (λ n. ComeInTurn desks sending (take n requests) (map Ok ys) answered.0) count answered.2),
        )

  pub answered_none : (requests : List (List ℕ)) (ys : List Answer) → ys ≡ [] → Answered desks requests 0 ys
  answered_none requests ys none = subst (Answered desks requests 0) (sym none) ([], takes_nothing desks, refl)

  module _ (mid after : Desks) (requests : List (List ℕ)) (still : AreStill desks mid) (at : ℕ) (ys : List Answer)
      (item : List ℕ) (next : take (at + 1) requests ≡ take at requests ++ item ∷ []) where
    pub answered_more : (zs : List Answer) (answer : Answer) → zs ≡ ys ++ answer ∷ [] → Answered mid requests at ys
        → HasCome mid after sending.port item sending.tries (Ok answer) → Answered after requests (at + 1) zs
    answered_more zs answer more each one =
        let comes = comes_more desks mid sending.port item still sending.tries one.0 (Ok answer) one.2 in
        let pushed = in_turn_push (take at requests) (map Ok ys) each.0 one.0 item (Ok answer) each.2 comes in
        let results : map Ok zs ≡ map Ok ys ++ Ok answer ∷ [] = ap (map Ok) more ∙ map-append Ok ys (answer ∷ []) in (
          each.0 ++ one.0,
          takes_on desks mid after each.0 one.0 each.1 one.1,
          subst (λ qs. ComeInTurn desks sending qs (map Ok zs) (each.0 ++ one.0)) (sym next)
              (subst (λ rs. ComeInTurn desks sending (take at requests ++ item ∷ []) rs (each.0 ++ one.0)) (sym results)
              pushed),
        )

    -- the next one has no answer
    pub come_to_a_loss : (fault : SendFault) (lost : Lost) → length ys ≡ at → Answered mid requests at ys
        → HasCome mid after sending.port item sending.tries (Err fault) → lost ≡ lost_by fault
        → AreTaken desks after sending requests ys (Some lost)
    come_to_a_loss fault lost each answered one is =
        let comes = comes_more desks mid sending.port item still sending.tries one.0 (Err fault) one.2 in
        let pushed = in_turn_push (take at requests) (map Ok ys) answered.0 one.0 item (Err fault) answered.2 comes in
        let longer = length-append (map Ok ys) (Err fault ∷ []) in
        let same : length (map {B = Result Answer SendFault} Ok ys) ≡ length ys = length-map ys Ok in
        let count : at + 1 ≡ length (map Ok ys ++ Err fault ∷ []) = omega (arith, each, longer, same) in (
          answered.0 ++ one.0,
          takes_on desks mid after answered.0 one.0 answered.1 one.1,
          (
            Some fault,
            ap Some is,
            subst (λ n. ComeInTurn desks sending (take n requests) (map Ok ys ++ Err fault ∷ []) (answered.0 ++ one.0))
                count
                (subst (λ qs. ComeInTurn desks sending qs (map Ok ys ++ Err fault ∷ []) (answered.0 ++ one.0)) (sym next)
                pushed),
          ),
        )

-- ---- the outcome

module _ (before after : Desks) (sending : Sending) where
  module _ (arrivals : List Arrival) (requests : List (List ℕ)) (answers : List Answer) (lost : Option Lost)
      (sent : AllZip IsSentAs arrivals requests)
      (far : (xs : List Arrival) → length requests ≡ length xs → IsFarEnough sending.manner.strict xs answers lost)
      (came : AreTaken before after sending requests answers lost) where
    are_sent : (o : Outcome) → o ≡ answers_outcome sending.manner arrivals answers lost
        → AreSent before after sending arrivals o
    are_sent o is = record {
      requests = requests;
      sent = sent;
      answers = answers;
      lost = lost;
      far = far arrivals (AllZip-long IsSentAs arrivals requests sent);
      came = came;
      outcome = is;
    }

    pub sent_in_turn : (r : Result Report AllocError)
        → IfOk r (λ report. outcome_of report ≡ answers_outcome sending.manner arrivals answers lost)
        → IfOk r (λ report. AreSent before after sending arrivals (outcome_of report))
    sent_in_turn (Err e) is = tt
    sent_in_turn (Ok report) is = are_sent (outcome_of report) is

    pub sent_unprinted : (r : Result Report AllocError)
        → OnErr r (IsUnprinted before after (AreSent before after sending arrivals))
    sent_unprinted r =
        let o = answers_outcome sending.manner arrivals answers lost in
        all_done before after (AreSent before after sending arrivals) o r (are_sent o refl)

  module _ (files : Files) (script : List ℕ) where
    pub sent : (arrivals : List Arrival) (r : Result Report AllocError)
        → AreArrivalsOf files Wrong (lines_of script) arrivals
        → IfOk r (λ report. AreSent before after sending arrivals (outcome_of report))
        → IfOk r (λ report. IsSendOutcome files before after sending script (outcome_of report))
    sent arrivals (Err e) made is = tt
    sent arrivals (Ok report) made is = inl (arrivals, made, inl is)

    pub sent_unprinted_of : (arrivals : List Arrival) (r : Result Report AllocError)
        → AreArrivalsOf files Wrong (lines_of script) arrivals
        → OnErr r (IsUnprinted before after (AreSent before after sending arrivals))
        → OnErr r (IsUnprinted before after (IsSendOutcome files before after sending script))
    sent_unprinted_of arrivals r made lost =
        done_more before after (AreSent before after sending arrivals)
        (IsSendOutcome files before after sending script) r (λ o is. inl (arrivals, made, inl is)) lost

    pub unsendable : (arrivals : List Arrival) (index number : ℕ) (r : Result Report AllocError)
        → AreArrivalsOf files Wrong (lines_of script) arrivals → IsFirstUnsent arrivals index
        → IfSome (requesting_line 1 index (lines_of script)) (λ n. number ≡ n)
        → IfOk r (λ report. outcome_of report ≡ wrong_line number) → TakesNone before after
        → IfOk r (λ report. IsSendOutcome files before after sending script (outcome_of report))
    unsendable arrivals index number (Err e) made first same is none = tt
    unsendable arrivals index number (Ok report) made first same is none =
        let line = line_is_there files Wrong (lines_of script) arrivals index made first in
        let own : number ≡ line.0 = subst (λ found. IfSome found (λ n. number ≡ n)) line.1 same in
        inl (
          arrivals,
          made,
          inr (record {
            none = none;
            index = index;
            first = first;
            number = number;
            requested = line.1 ∙ ap Some (sym own);
            outcome = is;
          }),
        )

    pub amiss : (fault : ScriptFault) (r : Result Report AllocError) → IsScriptFault files Wrong script fault
        → IfOk r (λ report. Reports fault (outcome_of report)) → TakesNone before after
        → IfOk r (λ report. IsSendOutcome files before after sending script (outcome_of report))
    amiss fault (Err e) is reports none = tt
    amiss (BadLine number) (Ok report) is reports none = inr (inl (number, is, reports), none)
    amiss (Unreadable path) (Ok report) is reports none = inr (inr (path, is.0, is.1, reports), none)
    amiss Memory (Ok report) is reports none = absurd reports
