-- What a line begins with.
use Rattle.std.proofs.Common.{◌≡◌, ◌<◌, ℕ, List, [], append-nil, drop, inl, inr, length, subst}
use Rattle.httparse.specs.Grammar.{RequestHead}
use Rattle.httparse.specs.Spans.{IsRequestAt}
use Rattle.httparse.specs.declared.spans.HeaderSpan.{HeaderSpan}
use Rattle.httparse.specs.declared.spans.RequestSpans.{RequestSpans}
use Rattle.desk_head.specs.Head.{HasNoHead, IsHeadAt, IsUnfinished, NeverHasHead}
use Rattle.desk_head.specs.Limits.{head_limit}
use Rattle.desk_advice.specs.Front.{IsFront, head_text, headless_text}

-- the front on a head
pub on_head : (bytes status front : List ℕ) (headers : List HeaderSpan) (spans : RequestSpans)
    → IsHeadAt bytes headers spans
    → ((h : RequestHead) → IsRequestAt bytes headers spans h → front ≡ head_text h status)
    → IsFront bytes status front
on_head bytes status front headers spans at says = inl (at.1.0, drop spans.len bytes, at.1.1, says at.1.0 at.1.2)

-- and on bytes that are too long, cut, or wrong
pub on_long : (bytes status front : List ℕ) → head_limit < length bytes → front ≡ headless_text status
    → IsFront bytes status front
on_long bytes status front long is = inr (inr long, is)

pub on_cut : (bytes status front : List ℕ) → IsUnfinished bytes → front ≡ headless_text status
    → IsFront bytes status front
on_cut bytes status front cut is = inr (inl (λ h rest has. cut.none h rest has.0), is)

pub on_wrong : (bytes status front : List ℕ) → NeverHasHead bytes → front ≡ headless_text status
    → IsFront bytes status front
on_wrong bytes status front never is = inr (inl (subst HasNoHead (append-nil bytes) (never [])), is)
