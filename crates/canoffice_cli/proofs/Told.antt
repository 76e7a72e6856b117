-- Reasons for the refused lines among those that were answered.
use Rattle.canoffice_cli.proofs.Common.{◌≡◌, ◌⊎◌, ◌+◌, ◌<◌, ◌∙◌, ℕ, zero, suc, List, [], ◌∷◌, ◌++◌, length, map, drop}
use Rattle.canoffice_cli.proofs.Common.{inl, inr, Option, Result, Ok, Err, refl, sym, ap, subst, arith, append_assoc}
use Rattle.canoffice_cli.proofs.Common.{append-nil, if◌then◌else◌, Arrival, Answer, Refusal}
use Rattle.std.proofs.Common.{add-one, length-drop}
use Rattle.std.specs.Prelude.{is_ok}
use Rattle.canoffice_cli.specs.Numbers.{HaveLines, numbers_left, script_numbers}
use Rattle.canoffice_cli.specs.Reasons.{AreSomeOf, Tells, TellsOf, refusal_of, refused_line, refused_lines, told_of}
use Rattle.canoffice_cli.specs.declared.progress.RequestLines.{RequestLines}
use Rattle.canoffice_cli.specs.declared.reasons.Reasons.{Reasons}
use Rattle.canoffice_cli.specs.declared.refused_line.RefusedLine.{RefusedLine}

-- ---- some of the items

pub none_of : {A : Type 0} (ys : List A) → AreSomeOf [] ys
none_of [] = refl
none_of (y ∷ ys) = inl (none_of ys)

pub all_of : {A : Type 0} (ys : List A) → AreSomeOf ys ys
all_of [] = refl
all_of (y ∷ ys) = inr (ys, refl, all_of ys)

-- some of the first items, and then some of the later ones
pub some_more : {A : Type 0} (xs ys xs2 ys2 : List A) → AreSomeOf xs ys → AreSomeOf xs2 ys2
    → AreSomeOf (xs ++ xs2) (ys ++ ys2)
some_more xs [] xs2 ys2 none some = subst (λ l. AreSomeOf (l ++ xs2) ys2) (sym none) some
some_more xs (y ∷ ys) xs2 ys2 (inl later) some = inl (some_more xs ys xs2 ys2 later some)
some_more xs (y ∷ ys) xs2 ys2 (inr here) some =
    inr (here.0 ++ xs2, ap (λ l. l ++ xs2) here.1, some_more here.0 ys xs2 ys2 here.2 some)

-- ---- reasons

abbrev Lines : Type 0
Lines = List (ℕ × Option Refusal)

map-append : (xs ys : List RefusedLine) → map told_of (xs ++ ys) ≡ map told_of xs ++ map told_of ys
map-append [] ys = refl
map-append (x ∷ xs) ys = ap (λ l. told_of x ∷ l) (map-append xs ys)

-- none are added
pub tells_nothing : (refused : Lines) (reasons : Reasons) → Tells refused reasons reasons
tells_nothing refused reasons =
    record { added = []; after = sym (append-nil reasons.lines.items); some = none_of refused }

pub tells_nothing_more : (refused : Lines) (old new : Reasons) → new.lines.items ≡ old.lines.items
    → Tells refused old new
tells_nothing_more refused old new same =
    record { added = []; after = same ∙ sym (append-nil old.lines.items); some = none_of refused }

-- one is
pub tells_one : (line : RefusedLine) (old new : Reasons) → new.lines.items ≡ old.lines.items ++ line ∷ []
    → Tells ((line.number, line.refusal) ∷ []) old new
tells_one line old new more = record { added = line ∷ []; after = more; some = all_of (told_of line ∷ []) }

-- those of the first lines are added, and then those of the later ones
pub tells_more : (first later : Lines) (old mid new : Reasons) → Tells first old mid → Tells later mid new
    → Tells (first ++ later) old new
tells_more first later old mid new a b = record {
  added = a.added ++ b.added;
  after = b.after ∙ ap (λ l. l ++ b.added) a.after ∙ append_assoc old.lines.items a.added b.added;
  some = subst (λ (l : Lines). AreSomeOf l (first ++ later)) (sym (map-append a.added b.added))
      (some_more (map told_of a.added) first (map told_of b.added) later a.some b.some);
}

-- one is, unless there is no memory for it
pub told_or_not : {A E : Type 0} (r : Result A E) (line : RefusedLine) (old new : Reasons)
    → new.lines.items ≡ (if is_ok r then old.lines.items ++ line ∷ [] else old.lines.items)
    → Tells ((line.number, line.refusal) ∷ []) old new
told_or_not (Ok x) line old new more = tells_one line old new more
told_or_not (Err e) line old new same = tells_nothing_more ((line.number, line.refusal) ∷ []) old new same

-- ---- one answer more

refused_more : (answers : List Answer) (numbers rest : List ℕ) (answer : Answer) (number : ℕ)
    → drop (length answers) numbers ≡ number ∷ rest
    → refused_lines (answers ++ answer ∷ []) numbers
    ≡ refused_lines answers numbers ++ refused_line number (refusal_of answer)
refused_more [] [] rest answer number left = absurd (cc)
refused_more [] (n ∷ numbers) rest answer number left =
    let same : n ≡ number = cc in
    append-nil (refused_line n (refusal_of answer)) ∙ ap (λ k. refused_line k (refusal_of answer)) same
refused_more (a ∷ answers) [] rest answer number left = absurd (cc)
refused_more (a ∷ answers) (n ∷ numbers) rest answer number left =
    ap (λ (l : Lines). refused_line n (refusal_of a) ++ l) (refused_more answers numbers rest answer number left)
    ∙ sym (append_assoc (refused_line n (refusal_of a)) (refused_lines answers numbers)
    (refused_line number (refusal_of answer)))

-- the next number was taken, or there is none
abbrev IsNext : RequestLines → RequestLines → ℕ → Type 0
IsNext old new number =
    (numbers_left old ≡ number ∷ numbers_left new) ⊎ ((numbers_left old ≡ []) × (numbers_left new ≡ []))

after_next : (at : ℕ) (xs rest : List ℕ) (x : ℕ) → drop at xs ≡ x ∷ rest → rest ≡ drop (suc at) xs
after_next zero [] rest x e = absurd (cc)
after_next zero (y ∷ ys) rest x e = cc
after_next (suc at) [] rest x e = absurd (cc)
after_next (suc at) (y ∷ ys) rest x e = after_next at ys rest x e

none_after : (at : ℕ) (xs : List ℕ) → drop at xs ≡ [] → [] ≡ drop (suc at) xs
none_after zero [] e = refl
none_after zero (y ∷ ys) e = absurd (cc)
none_after (suc at) [] e = refl
none_after (suc at) (y ∷ ys) e = none_after at ys e

-- the numbers after it are left
pub left_after : (numbers : List ℕ) (at number : ℕ) (old new : RequestLines) → numbers_left old ≡ drop at numbers
    → IsNext old new number → numbers_left new ≡ drop (at + 1) numbers
left_after numbers at number old new left (inl next) =
    rw (add-one at) (after_next at numbers (numbers_left new) number (sym left ∙ next))
left_after numbers at number old new left (inr none) =
    rw (add-one at) (none.1 ∙ none_after at numbers (sym left ∙ none.0))

-- an arrival that has its line has a number
number_there : (numbers : List ℕ) (at : ℕ) → at < length numbers → drop at numbers ≡ [] → ⊥
number_there numbers at within none =
    let long = length-drop at numbers in
    let short : length (drop at numbers) ≡ 0 = ap length none in
    absurd (omega (arith, long, short, within))

-- what was told of the answers so far, and then of the next one
pub told_next : (script : List ℕ) (arrivals : List Arrival) (at number : ℕ) (answers answers2 : List Answer)
    (answer : Answer) (lines next : RequestLines) (old mid new : Reasons)
    → at < length arrivals → length answers ≡ at → answers2 ≡ answers ++ answer ∷ []
    → numbers_left lines ≡ drop at (script_numbers script) → IsNext lines next number
    → (HaveLines script arrivals → TellsOf script answers old mid)
    → Tells (refused_line number (refusal_of answer)) mid new
    → HaveLines script arrivals → TellsOf script answers2 old new
told_next script arrivals at number answers answers2 answer lines next old mid new within each more left (inl is)
    told tells have =
    let numbers = script_numbers script in
    let here : drop (length answers) numbers ≡ number ∷ numbers_left next =
    ap (λ k. drop k numbers) each ∙ sym left ∙ is in
    subst (λ (l : List Answer). TellsOf script l old new) (sym more)
    (subst (λ (l : Lines). Tells l old new)
    (sym (refused_more answers numbers (numbers_left next) answer number here))
    (tells_more (refused_lines answers numbers) (refused_line number (refusal_of answer)) old mid new (told have)
    tells))
told_next script arrivals at number answers answers2 answer lines next old mid new within each more left (inr none)
    told tells have =
    absurd (number_there (script_numbers script) at (omega (arith, within, have)) (sym left ∙ none.0))
