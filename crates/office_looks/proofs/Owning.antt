-- The live messages with their owners, one after the other.
use Rattle.office_looks.proofs.Common.{◌≡◌, ◌+◌, ◌<◌, ◌≤◌, ◌++◌, ℕ, zero, suc, Bool, true, false, List, [], ◌∷◌, length}
use Rattle.office_looks.proofs.Common.{drop, filter, get_or, map, refl, sym, ap, ◌∙◌, arith, append_assoc, cond}
use Rattle.office_looks.proofs.Common.{drop_more, length-append, length-map, flat_map, Message, signal_count, owned}
use Rattle.office_looks.proofs.Common.{View}
use Rattle.std.proofs.Math.Nat.{min-eq_left, min-eq_right}
use Rattle.std.proofs.lemmas.Slice.Zip.{get_or-zip, length-zip}
use Rattle.office_looks.specs.Messages.{message_row}

pub fewer_messages : (view : View) → length view.sheet.messages ≤ length view.owners
    → length view.sheet.messages ≡ length (owned view)
fewer_messages view few = sym (length-zip view.sheet.messages view.owners ∙ min-eq_left few)

pub fewer_owners : (view : View) → length view.owners ≤ length view.sheet.messages
    → length view.owners ≡ length (owned view)
fewer_owners view few = sym (length-zip view.sheet.messages view.owners ∙ min-eq_right few)

-- there is an element at each index
pub element : {X : Type 0} (xs : List X) (i : ℕ) → i < length xs → (x : X) × (x ≡ get_or xs i x)
element [] i h = absurd (omega arith)
element (x ∷ xs) zero h = (x, refl)
element (x ∷ xs) (suc i) h = let k : i < length xs = omega arith in element xs i k

-- the one at an index, and those after it
pub owned_at : (view : View) (i : ℕ) (m : Message) (o : List ℕ) → i < length (owned view)
    → i < length view.sheet.messages → i < length view.owners
    → m ≡ get_or view.sheet.messages i m → o ≡ get_or view.owners i o
    → drop i (owned view) ≡ (m, o) ∷ drop (i + 1) (owned view)
owned_at view i m o within in_messages in_owners is_m is_o =
    drop_more (owned view) i (m, o) within
    ∙ ap (λ p. p ∷ drop (i + 1) (owned view))
    (get_or-zip view.sheet.messages view.owners i (m, o) in_messages in_owners
    ∙ ap (λ x. (x, get_or view.owners i o)) (sym is_m) ∙ ap (λ y. (m, y)) (sym is_o))

pub passing : {X : Type 0} (w : X → Bool) (x : X) (xs : List X) → w x ≡ true → filter w (x ∷ xs) ≡ x ∷ filter w xs
passing w x xs e = ap (λ b. cond b (x ∷ filter w xs) (filter w xs)) e

pub failing : {X : Type 0} (w : X → Bool) (x : X) (xs : List X) → w x ≡ false → filter w (x ∷ xs) ≡ filter w xs
failing w x xs e = ap (λ b. cond b (x ∷ filter w xs) (filter w xs)) e

-- a piece more of a list
pub line_more : {X A : Type 0} (f : X → List A) (x : X) (xs : List X) (whole before piece after : List A)
    → whole ≡ before ++ flat_map f (x ∷ xs) → piece ≡ f x → after ≡ before ++ piece → whole ≡ after ++ flat_map f xs
line_more f x xs whole before piece after so is more =
    so ∙ sym (append_assoc before (f x) (flat_map f xs))
    ∙ ap (λ v. (before ++ v) ++ flat_map f xs) (sym is) ∙ ap (λ v. v ++ flat_map f xs) (sym more)

-- an item more of a list
pub item_more : {X A : Type 0} (f : X → A) (x : X) (xs : List X) (whole before : List A) (item : A) (after : List A)
    → whole ≡ before ++ map f (x ∷ xs) → item ≡ f x → after ≡ before ++ item ∷ [] → whole ≡ after ++ map f xs
item_more f x xs whole before item after so is more =
    so ∙ sym (append_assoc before (f x ∷ []) (map f xs))
    ∙ ap (λ v. (before ++ v ∷ []) ++ map f xs) (sym is) ∙ ap (λ v. v ++ map f xs) (sym more)

pub signals_more : (m : Message) (o : List ℕ) (ps : List (Message × List ℕ))
    → signal_count (map (λ (p : Message × List ℕ). p.0) ((m, o) ∷ ps))
    ≡ length m.signals + signal_count (map (λ (p : Message × List ℕ). p.0) ps)
signals_more m o ps =
    length-append m.signals (flat_map (λ (x : Message). x.signals) (map (λ (p : Message × List ℕ). p.0) ps))

pub rows_counted : (view : View) (ps : List (Message × List ℕ)) → length (map (message_row view) ps) ≡ length ps
rows_counted view ps = length-map ps (message_row view)
