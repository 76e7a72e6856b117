-- The lines of a script, one after the other.
use Rattle.std.proofs.Common.{◌≡◌, ◌+◌, ◌≤◌, ◌<◌, ◌++◌, ◌∷◌, [], ℕ, List, Option, Some, None, length, refl, sym, ap}
use Rattle.std.proofs.Common.{◌∙◌, arith, append_assoc, append-nil, length-append}
use Rattle.std.specs.List.{AllZip}
use Rattle.std.specs.Option.{option_map, option_and_then}
use Rattle.office_history.specs.declared.arrival.Arrival.{Arrival}
use Rattle.office_script.specs.declared.keys.Dash.{Dash}
use Rattle.office_script.specs.declared.requests.LineRequest.{LineRequest}
use Rattle.office_script.specs.Files.{Files, HaveArrived}
use Rattle.office_script.specs.Lines.{lines_of}
use Rattle.office_script.specs.Requests.{requests_of_line}
use Rattle.office_script.specs.Script.{AreArrivalsOf, AreArrivalsOfLine, IsFirstAmiss, requests_of_lines}

abbrev pub Requests : Type 0
Requests = List LineRequest

some_none : (x : Requests) → ◌≡◌ {A = Option Requests} (Some x) None → ⊥
some_none x e = cc

some_same : (x y : Requests) → ◌≡◌ {A = Option Requests} (Some x) (Some y) → x ≡ y
some_same x y e = cc

-- the lines so far were read, and the others are those of the rest
pub record IsReadSoFar (files : Files) (dash : Dash) (text rest : List ℕ) (number : ℕ) (arrivals : List Arrival) : Type
    0 where
  pub done : List (List ℕ)
  pub parts : lines_of text ≡ done ++ lines_of rest
  pub numbered : number ≡ length done
  pub read : AreArrivalsOf files dash done arrivals
  pub room : number + length rest ≤ length text

-- no line was read
pub read_none : (files : Files) (dash : Dash) (text : List ℕ) → IsReadSoFar files dash text text 0 []
read_none files dash text =
    record {
      done = [];
      parts = refl;
      numbered = refl;
      read = record { requests = []; requested = refl; arrived = tt };
      room = omega arith;
    }

-- what a line and the lines after it request
abbrev join_requests : Option Requests → Option Requests → Option Requests
join_requests first rest = option_and_then (λ here. option_map (λ others. here ++ others) rest) first

joined_more : (first rest more : Option Requests) (before here : Requests) → join_requests first rest ≡ Some before
    → ((middle : Requests) → rest ≡ Some middle → more ≡ Some (middle ++ here))
    → join_requests first more ≡ Some (before ++ here)
joined_more None rest more before here e h = absurd (some_none before (sym e))
joined_more (Some a) None more before here e h = absurd (some_none before (sym e))
joined_more (Some a) (Some middle) more before here e h =
    ap (option_map (λ (others : Requests). a ++ others)) (h middle refl)
    ∙ ap Some (sym (append_assoc a middle here) ∙ ap (λ (v : Requests). v ++ here) (some_same (a ++ middle) before e))

-- what one line more requests is added
requested_more : (dash : Dash) (first : ℕ) (done : List (List ℕ)) (line : List ℕ) (number : ℕ) (before here : Requests)
    → number ≡ first + length done → requests_of_lines dash first done ≡ Some before
    → requests_of_line dash number line ≡ Some here → requests_of_lines dash first (done ++ line ∷ [])
    ≡ Some (before ++ here)
requested_more dash first [] line number before here at e h =
    let same : number ≡ first = omega (arith, at) in
    ap (λ (own : Option Requests). join_requests own (Some [])) (ap (λ n. requests_of_line dash n line) (sym same) ∙ h)
    ∙ ap Some (append-nil here ∙ ap (λ (v : Requests). v ++ here) (some_same [] before e))
requested_more dash first (other ∷ done) line number before here at e h =
    joined_more (requests_of_line dash first other) (requests_of_lines dash (first + 1) done)
    (requests_of_lines dash (first + 1) (done ++ line ∷ [])) before here e
    (λ middle m. requested_more dash (first + 1) done line number middle here (omega (arith, at)) m h)

-- two lists in step, and two more
zip_append : {A B : Type 0} (R : A → B → Type 0) (xs vs : List A) (ys ws : List B) → AllZip R xs ys → AllZip R vs ws
    → AllZip R (xs ++ vs) (ys ++ ws)
zip_append R [] vs [] ws h k = k
zip_append R [] vs (y ∷ ys) ws h k = absurd h
zip_append R (x ∷ xs) vs [] ws h k = absurd h
zip_append R (x ∷ xs) vs (y ∷ ys) ws h k = (h.0, zip_append R xs vs ys ws h.1 k)

arrived_more : (files : Files) (before here : Requests) (earlier more : List Arrival) → HaveArrived files before earlier
    → HaveArrived files here more → HaveArrived files (before ++ here) (earlier ++ more)
arrived_more files before here earlier more h k = zip_append _ before here earlier more h k

-- one line more was read
pub read_more : (files : Files) (dash : Dash) (text rest left line : List ℕ) (number : ℕ)
    (before here after : List Arrival) → IsReadSoFar files dash text rest number before
    → lines_of rest ≡ line ∷ lines_of left → length left < length rest
    → AreArrivalsOfLine files dash (number + 1) line here → after ≡ before ++ here
    → IsReadSoFar files dash text left (number + 1) after
read_more files dash text rest left line number before here after so next shorter own added = record {
  done = so.done ++ line ∷ [];
  parts = so.parts ∙ ap (λ v. so.done ++ v) next ∙ sym (append_assoc so.done (line ∷ []) (lines_of left));
  numbered = ap (λ n. n + 1) so.numbered ∙ sym (length-append so.done (line ∷ []));
  read = record {
    requests = so.read.requests ++ own.requests;
    requested = requested_more dash 1 so.done line (number + 1) so.read.requests own.requests
        (let n : number ≡ length so.done = so.numbered in omega arith) so.read.requested own.requested;
    arrived = rw added (arrived_more files so.read.requests own.requests before here so.read.arrived own.arrived);
  };
  room = let r : number + length rest ≤ length text = so.room in omega arith;
}

-- all lines were read
pub read_all : (files : Files) (dash : Dash) (text rest : List ℕ) (number : ℕ) (arrivals : List Arrival)
    → IsReadSoFar files dash text rest number arrivals → lines_of rest ≡ []
    → AreArrivalsOf files dash (lines_of text) arrivals
read_all files dash text rest number arrivals so none =
    rw (so.parts ∙ ap (λ v. so.done ++ v) none ∙ append-nil so.done) so.read

-- the next line is amiss
pub amiss_next : (files : Files) (dash : Dash) (IsAmiss : ℕ → List ℕ → Type 0) (text rest left line : List ℕ)
    (number : ℕ) (arrivals : List Arrival) → IsReadSoFar files dash text rest number arrivals
    → lines_of rest ≡ line ∷ lines_of left → IsAmiss (number + 1) line
    → IsFirstAmiss files dash IsAmiss (lines_of text) (number + 1)
amiss_next files dash IsAmiss text rest left line number arrivals so next h = record {
  before = so.done;
  line = line;
  after = lines_of left;
  parts = so.parts ∙ ap (λ v. so.done ++ v) next;
  numbered = ap (λ n. n + 1) so.numbered;
  arrivals = arrivals;
  sound = so.read;
  amiss = h;
}
