-- What is added to a page, one thing after another.
use Rattle.page_messages.proofs.Common.{◌≡◌, ◌+◌, ◌<◌, ◌++◌, ◌∙◌, ℕ, List, [], ◌∷◌, length, take, get_or, refl, sym, ap}
use Rattle.page_messages.proofs.Common.{subst, append-nil, append_assoc, take_more, end_tag, start_tag, Becomes}
use Rattle.page_messages.proofs.Common.{Writing, adding, beginning, ending, added, next}
use Rattle.std.proofs.Common.{OnOk, Result, Ok, Err}
use Rattle.markup.specs.declared.tag.Tag.{Tag}
pub use Rattle.markup.proofs.Changes.{back}
use Rattle.page_messages.specs.Layouts.{Adds, AreFor}

-- what follows where there is a value
pub on_ok : {T E P Q : Type 0} (r : Result T E) → (P → Q) → OnOk r P → OnOk r Q
on_ok (Ok x) f p = f p
on_ok (Err e) f p = p

-- nothing is added
pub nothing_added : (a : Writing) → Becomes a (adding [] a)
nothing_added a h = ap (λ v. record a { text = v }) (sym (append-nil a.text))

-- other bytes that are the same
pub added_as : (x y : List ℕ) (a b : Writing) → x ≡ y → Becomes b (adding x a) → Becomes b (adding y a)
added_as x y a b e = subst (λ v. Becomes b (adding v a)) e

-- what remains to be added, once the first of it is
pub remains : (x left later all : List ℕ) (start page new : Writing)
    → ((w : Writing) → Becomes w (adding left page) → Becomes w (adding all start))
    → Becomes new (adding x page) → left ≡ x ++ later
    → (w : Writing) → Becomes w (adding later new) → Becomes w (adding all start)
remains x left later all start page new rest first split w h =
    rest w (added_as (x ++ later) left page w (sym split) (added page x later first h))

-- what is added while an element is open is in it
pub enclosed : (t : Tag) (attributes inside : List ℕ) (a b c d : Writing) → Becomes b (beginning t attributes a)
    → Becomes c (adding inside b) → Becomes d (ending c)
    → Becomes d (adding (start_tag t attributes ++ (inside ++ end_tag t)) a)
enclosed t attributes inside a b c d first second third =
    let both : Becomes c (adding inside (beginning t attributes a)) =
    next a (beginning t attributes) (adding inside) (λ w. refl) first second in
    let all : Becomes d (ending (adding inside (beginning t attributes a))) =
    next a (λ w. adding inside (beginning t attributes w)) ending (λ w. refl) both third in
    let start = start_tag t attributes in
    λ h. all h ∙ ap (λ v. record a { text = v })
    (append_assoc (a.text ++ start) inside (end_tag t) ∙ append_assoc a.text start (inside ++ end_tag t))

-- what is added while an element is open is in it, where something stands before it
pub enclosed_after : (t : Tag) (attributes before inside : List ℕ) (a b c d : Writing)
    → Becomes b (adding before (beginning t attributes a)) → Becomes c (adding inside b) → Becomes d (ending c)
    → Becomes d (adding (start_tag t attributes ++ (before ++ (inside ++ end_tag t))) a)
enclosed_after t attributes before inside a b c d first second third =
    let opened : Writing → Writing = λ w. adding before (beginning t attributes w) in
    let both : Becomes c (adding inside (opened a)) = next a opened (adding inside) (λ w. refl) first second in
    let all : Becomes d (ending (adding inside (opened a))) =
    next a (λ w. adding inside (opened w)) ending (λ w. refl) both third in
    let start = start_tag t attributes in
    λ h. all h ∙ ap (λ v. record a { text = v })
    (append_assoc ((a.text ++ start) ++ before) inside (end_tag t)
    ∙ append_assoc (a.text ++ start) before (inside ++ end_tag t)
    ∙ append_assoc a.text start (before ++ (inside ++ end_tag t)))

-- ---- things one after another

pub one_more_for : {X : Type 0} (Is : X → List ℕ → Type 0) (xs : List X) (x : X) (bytes one : List ℕ)
    → AreFor Is xs bytes → Is x one → AreFor Is (xs ++ x ∷ []) (bytes ++ one)
one_more_for Is [] x bytes one none is =
    (one, [], is, refl, ap (λ v. v ++ one) none ∙ sym (append-nil one))
one_more_for Is (y ∷ xs) x bytes one are is =
    let more = one_more_for Is xs x are.1 one are.3 is in
    (are.0, are.1 ++ one, are.2, more, ap (λ v. v ++ one) are.4 ∙ append_assoc are.0 are.1 one)

-- in a loop that adds something for each item of a list
pub adds_more : {X : Type 0} (Is : X → List ℕ → Type 0) (xs : List X) (i : ℕ) (x : X) (a b c : Writing)
    → i < length xs → x ≡ get_or xs i x → Adds (AreFor Is (take i xs)) b a → Adds (Is x) c b
    → Adds (AreFor Is (take (i + 1) xs)) c a
adds_more Is xs i x a b c within is done one =
    let items : take i xs ++ x ∷ [] ≡ take (i + 1) xs =
    ap (λ y. take i xs ++ y ∷ []) is ∙ sym (take_more xs i x within) in
    let are : AreFor Is (take i xs ++ x ∷ []) (done.0 ++ one.0) =
    one_more_for Is (take i xs) x done.0 one.0 done.1 one.1 in
    (done.0 ++ one.0, subst (λ v. AreFor Is v (done.0 ++ one.0)) items are, added a done.0 one.0 done.2 one.2)
