-- Writings that become others, one after the other.
use Rattle.std.proofs.Common.{◌≡◌, ◌+◌, ◌<◌, ◌++◌, ◌∙◌, ℕ, true, false, List, length, take, get_or, Option, Some, None, IfSome}
use Rattle.std.proofs.Common.{refl, sym, ap, append-nil, append_assoc}
use Rattle.std.specs.List.{enumerate_from, flat_map}
use Rattle.html.proofs.Pushing.{items_pushed, numbered_pushed}
use Rattle.markup.specs.Writing.{Becomes, Writing, adding}

-- one change after the other
pub next : {b c : Writing} (a : Writing) (f g : Writing → Writing) → ((w : Writing) → (g w).is_lost ≡ w.is_lost)
    → Becomes b (f a) → Becomes c (g b) → Becomes c (g (f a))
next {b = b} a f g keeps first second h =
    let is = second h in
    is ∙ ap g (first (sym (keeps b) ∙ sym (ap (λ (w : Writing). w.is_lost) is) ∙ h))

pub added : {b c : Writing} (a : Writing) (x y : List ℕ) → Becomes b (adding x a) → Becomes c (adding y b)
    → Becomes c (adding (x ++ y) a)
added a x y first second h =
    next a (adding x) (adding y) (λ w. refl) first second h
    ∙ ap (λ v. record a { text = v }) (append_assoc a.text x y)

-- in a loop that adds something for each item of a list
pub item_added : {X : Type 0} (f : X → List ℕ) (xs : List X) (i : ℕ) (x : X) (a b c : Writing)
    → i < length xs → x ≡ get_or xs i x → Becomes b (adding (flat_map f (take i xs)) a) → Becomes c (adding (f x) b)
    → Becomes c (adding (flat_map f (take (i + 1) xs)) a)
item_added f xs i x a b c within is first second h =
    let done = flat_map f (take i xs) in
    next a (adding done) (adding (f x)) (λ w. refl) first second h
    ∙ ap (λ v. record a { text = v })
    (items_pushed f xs i x a.text (a.text ++ done) ((a.text ++ done) ++ f x) within is refl refl)

-- the same with the index of each item
pub numbered_added : {X : Type 0} (f : ℕ × X → List ℕ) (xs : List X) (i : ℕ) (x : X) (a b c : Writing)
    → i < length xs → x ≡ get_or xs i x → Becomes b (adding (flat_map f (enumerate_from 0 (take i xs))) a)
    → Becomes c (adding (f (i, x)) b) → Becomes c (adding (flat_map f (enumerate_from 0 (take (i + 1) xs))) a)
numbered_added f xs i x a b c within is first second h =
    let done = flat_map f (enumerate_from 0 (take i xs)) in
    next a (adding done) (adding (f (i, x))) (λ w. refl) first second h
    ∙ ap (λ v. record a { text = v })
    (numbered_pushed f xs i x a.text (a.text ++ done) ((a.text ++ done) ++ f (i, x)) within is refl refl)

-- where memory ran out, it doesn't matter what a value shows
pub lost_words : (shown : Option (List ℕ)) (f : List ℕ → Writing) (w : Writing) → w.is_lost ≡ true
    → IfSome shown (λ bytes. Becomes w (f bytes))
lost_words None f w lost = tt
lost_words (Some bytes) f w lost = λ kept. cc

-- What became this isn't lost only where this isn't. So from the last call back no call lost anything, and what each of
-- them ensures, one after the other, with `append_assoc`, is what all of them have written.
pub back : {v x : Writing} → Becomes v x → v.is_lost ≡ false → x.is_lost ≡ false
back made kept = sym (ap (λ w. w.is_lost) (made kept)) ∙ kept

-- by which what several calls have written one after the other is put together
pub ruleset joins = (append_assoc, append-nil)
