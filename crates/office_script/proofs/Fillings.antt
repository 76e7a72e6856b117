-- The arrival of a line that requests something.
use Rattle.std.proofs.Common.{◌≡◌, ℕ, false, List, [], ◌∷◌, Some, Err, inr, refl}
use Rattle.office_history.specs.declared.arrival.Arrival.{Arrival}
use Rattle.office_script.specs.declared.filling.LineFault.{LineFault}
use Rattle.office_script.specs.declared.filling.LineFault.TheVariants as why
use Rattle.office_script.specs.declared.keys.Dash.{Dash}
use Rattle.office_script.specs.declared.requests.LineRequest.{LineRequest}
use Rattle.office_script.specs.Files.{Files, IsArrivalOf}
use Rattle.office_script.specs.Lines.{says_nothing}
use Rattle.office_script.specs.Requests.{request_of, requests_of_line}
use Rattle.office_script.specs.Script.{AreArrivalsOfLine, Fills, IsLineFault, NamesUnreadable}

-- a line that makes a request makes one
one_request : (dash : Dash) (number : ℕ) (line : List ℕ) (r : LineRequest) → says_nothing line ≡ false
    → request_of dash number line ≡ Some r → requests_of_line dash number line ≡ Some (r ∷ [])
one_request dash number line r some made = rw (some, made) refl

-- the arrival of a request
pub line_filled : (files : Files) (dash : Dash) (number : ℕ) (line : List ℕ) (r : LineRequest) (arrival : Arrival)
    → says_nothing line ≡ false → request_of dash number line ≡ Some r
    → IsArrivalOf files r arrival → AreArrivalsOfLine files dash number line (arrival ∷ [])
line_filled files dash number line r arrival some made arrived = record {
  requests = r ∷ [];
  requested = one_request dash number line r some made;
  arrived = (arrived, tt);
}

-- no arrival, for this reason
pub line_unfilled : (files : Files) (dash : Dash) (number : ℕ) (line : List ℕ) (r : LineRequest) (fault : LineFault)
    → says_nothing line ≡ false → request_of dash number line ≡ Some r
    → Fills files r.text r.requested (Err fault) → IsLineFault files dash number line fault
line_unfilled files dash number line r why.Wrong some made h = inr (record {
  request = r;
  made = one_request dash number line r some made;
  names = h;
})
line_unfilled files dash number line r (why.Unreadable path) some made h = record {
  request = r;
  made = one_request dash number line r some made;
  names = h;
}
line_unfilled files dash number line r why.Memory some made h = tt

-- a file that can't be read, under an equal path
pub named_unreadable : (files : Files) (dash : Dash) (number : ℕ) (line path given : List ℕ) (fault : LineFault)
    → fault ≡ why.Unreadable path → given ≡ path → IsLineFault files dash number line fault
    → NamesUnreadable files dash given number line
named_unreadable files dash number line path given fault e same h = rw same (rw e at h)
