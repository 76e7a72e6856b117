-- The remarks on the signals of a message, one signal after the other.
use Rattle.dbc_lint.proofs.Common.{◌≡◌, ◌∙◌, ◌++◌, ◌∷◌, ℕ, List, ap, drop, sym, append_assoc, Message, Sheet, Signal}
use Rattle.dbc_grammar.specs.Token.{Token}
use Rattle.dbc_lint.specs.OfFile.{at_signal, of_signals, start_of}
use Rattle.dbc_lint.specs.OfSignal.{of_signal}
use Rattle.dbc_lint.specs.declared.remark.Remark.{Remark}

pub signals_more : (sheet : Sheet) (m : Message) (ts rest : List Token) (s : Signal) (signals tail : List Signal)
    (at : ℕ) (before after all : List Remark) → signals ≡ s ∷ tail → at ≡ start_of (at_signal ts)
    → rest ≡ drop 1 (at_signal ts) → after ≡ before ++ of_signal sheet m s at
    → before ++ of_signals sheet m ts signals ≡ all → after ++ of_signals sheet m rest tail ≡ all
signals_more sheet m ts rest s signals tail at before after all here of_at of_rest added so_far =
    ap (λ (r : List Remark). r ++ of_signals sheet m rest tail)
    (added ∙ ap (λ (n : ℕ). before ++ of_signal sheet m s n) of_at)
    ∙ append_assoc before (of_signal sheet m s (start_of (at_signal ts))) (of_signals sheet m rest tail)
    ∙ ap (λ (r : List Token). before ++ (of_signal sheet m s (start_of (at_signal ts)) ++ of_signals sheet m r tail))
    of_rest
    ∙ ap (λ (t : List Signal). before ++ of_signals sheet m ts t) (sym here) ∙ so_far
