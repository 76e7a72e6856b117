-- Which head of a request bytes begin with. Its grammar is that of HTTP/1.x (RFC 9112) as `httparse` accepts it: one
-- head at most, and then one rest, are so.
use Rattle.std.specs.Prelude.{◌<◌, ◌≤◌, ℕ, List, ◌++◌, drop, length}
use Rattle.httparse.specs.Grammar.{RequestHead, HasNoRequest, MayBecomeRequest, ReadsRequest, print_request}
use Rattle.httparse.specs.Spans.{IsRequestAt, IsRequestWithin}
use Rattle.httparse.specs.declared.spans.HeaderSpan.{HeaderSpan}
use Rattle.httparse.specs.declared.spans.RequestSpans.{RequestSpans}
use Rattle.desk_head.specs.Limits.{head_limit, header_limit}

-- the head is within the limits of the desk: empty lines before it count too
pub record IsSmall (h : RequestHead) : Type 0 where
  pub bytes : length (print_request h) ≤ head_limit
  pub fields : length h.fields ≤ header_limit

-- the bytes begin with this head, within the limits, and go on with the rest
abbrev pub HasHead : List ℕ → RequestHead → List ℕ → Type 0
HasHead bytes h rest = ReadsRequest bytes h rest × IsSmall h

-- the bytes begin with no head within the limits
abbrev pub HasNoHead : List ℕ → Type 0
HasNoHead bytes = (h : RequestHead) (rest : List ℕ) → ¬ (HasHead bytes h rest)

-- the bytes are less than a head, whatever its size, and more may follow that make them one
pub record IsUnfinished (bytes : List ℕ) : Type 0 where
  pub none : HasNoRequest bytes
  pub goes_on : MayBecomeRequest bytes
  pub room : length bytes < head_limit

-- nor do they, whatever follows
abbrev pub NeverHasHead : List ℕ → Type 0
NeverHasHead bytes = (more : List ℕ) → HasNoHead (bytes ++ more)

-- the spans are those of the head that the bytes begin with
abbrev pub IsHeadAt : List ℕ → List HeaderSpan → RequestSpans → Type 0
IsHeadAt bytes headers spans =
    IsRequestWithin bytes headers spans
    × ((h : RequestHead) × HasHead bytes h (drop spans.len bytes) × IsRequestAt bytes headers spans h)
