-- How many messages have more than 8 bytes.
use Rattle.dbc_lint.proofs.Common.{◌≡◌, ◌∙◌, ◌<◌, ◌+◌, ℕ, Bool, true, false, List, arith, ap, cond, get_or, length, sym}
use Rattle.dbc_lint.proofs.Common.{take, count_by, Message}
use Rattle.std.proofs.lemmas.List.Sums.{count_by_more_no, count_by_more_yes}
use Rattle.dbc_lint.specs.OfMessage.{is_over_8}

counted : (messages : List Message) (i : ℕ) (m : Message) (over : Bool) → i < length messages
    → m ≡ get_or messages i m → over ≡ is_over_8 m
    → count_by is_over_8 (take (i + 1) messages) ≡ count_by is_over_8 (take i messages) + cond over 1 0
counted messages i m true below is of_m =
    count_by_more_yes is_over_8 messages i m below (ap is_over_8 (sym is) ∙ sym of_m)
counted messages i m false below is of_m =
    let same = count_by_more_no is_over_8 messages i m below (ap is_over_8 (sym is) ∙ sym of_m) in omega (arith, same)

-- one message more is counted
pub counted_more : (messages : List Message) (i : ℕ) (m : Message) (over : Bool) (before after : ℕ)
    → i < length messages → m ≡ get_or messages i m → over ≡ is_over_8 m
    → before ≡ count_by is_over_8 (take i messages) → after ≡ before + cond over 1 0
    → after ≡ count_by is_over_8 (take (i + 1) messages)
counted_more messages i m over before after below is of_m so_far more =
    more ∙ ap (λ (n : ℕ). n + cond over 1 0) so_far ∙ sym (counted messages i m over below is of_m)
