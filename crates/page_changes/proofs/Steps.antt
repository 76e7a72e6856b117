-- What is written step by step.
use Rattle.page_changes.proofs.Common.{◌≡◌, ◌++◌, ◌∙◌, ℕ, List, [], append_assoc, refl, Becomes, Writing, adding}
use Rattle.markup.specs.Html.{end_tag, start_tag}
use Rattle.markup.specs.Writing.{beginning, ending}
use Rattle.markup.specs.declared.tag.Tag.{Tag}
use Rattle.markup.proofs.Changes.{next}

-- one writing has become the other by this
pub record Does (f : Writing → Writing) (old new : Writing) : Type 0 where
  pub is : Becomes new (f old)

pub start : (a : Writing) → Does (λ w. w) a a
start a = record { is = λ kept. refl }

pub add : {f : Writing → Writing} {a b c : Writing} → Does f a b → (x : List ℕ) → Becomes c (adding x b)
    → Does (λ w. adding x (f w)) a c
add {f = f} {a = a} done x step = record { is = next a f (adding x) (λ w. refl) done.is step }

pub begin : {f : Writing → Writing} {a b c : Writing} → Does f a b → (t : Tag) (attributes : List ℕ)
    → Becomes c (beginning t attributes b) → Does (λ w. beginning t attributes (f w)) a c
begin {f = f} {a = a} done t attributes step =
    record { is = next a f (beginning t attributes) (λ w. refl) done.is step }

pub end : {f : Writing → Writing} {a b c : Writing} → Does f a b → Becomes c (ending b)
    → Does (λ w. ending (f w)) a c
end {f = f} {a = a} done step = record { is = next a f ending (λ w. refl) done.is step }

pub by : {f : Writing → Writing} {a b c : Writing} → Does f a b → (g : Writing → Writing)
    → ((w : Writing) → (g w).is_lost ≡ w.is_lost) → Becomes c (g b) → Does (λ w. g (f w)) a c
by {f = f} {a = a} done g keeps step = record { is = next a f g keeps done.is step }

-- all in all it has become this
pub become : {f : Writing → Writing} {a c : Writing} → Does f a c → (b : Writing) → (f a).text ≡ b.text
    → (f a).opened ≡ b.opened → (f a).is_lost ≡ b.is_lost → Becomes c b
become done b text opened lost kept =
    done.is kept ∙ (λ i. record { text = text i; opened = opened i; is_lost = lost i })

-- all in all this was added
pub finish : {f : Writing → Writing} {a c : Writing} → Does f a c → (x : List ℕ) → (f a).text ≡ a.text ++ x
    → (f a).opened ≡ a.opened → (f a).is_lost ≡ a.is_lost → Becomes c (adding x a)
finish {a = a} done x text opened lost = become done (adding x a) text opened lost

-- what is added while an element is open is in it
module _ (x1 x2 x3 x4 x5 : List ℕ) where
  together4 : (a s e : List ℕ) → (((((a ++ s) ++ x1) ++ x2) ++ x3) ++ x4) ++ e
      ≡ a ++ (s ++ (x1 ++ (x2 ++ (x3 ++ (x4 ++ e)))))
  together4 a s e = simp append_assoc

module _ (a b c d e f : Writing) (t : Tag) (attributes x1 x2 x3 x4 : List ℕ) where
  -- where it begins with the first of it
  pub enclosed_begun : Becomes b (adding x1 (beginning t attributes a)) → Becomes c (adding x2 b)
      → Becomes d (adding x3 c) → Becomes e (adding x4 d) → Becomes f (ending e)
      → Becomes f (adding (start_tag t attributes ++ (x1 ++ (x2 ++ (x3 ++ (x4 ++ end_tag t))))) a)
  enclosed_begun begun two three four closed =
      finish (end (add (add (add (by (start a) (λ w. adding x1 (beginning t attributes w)) (λ w. refl) begun)
      x2 two) x3 three) x4 four) closed)
      (start_tag t attributes ++ (x1 ++ (x2 ++ (x3 ++ (x4 ++ end_tag t)))))
      (together4 x1 x2 x3 x4 [] a.text (start_tag t attributes) (end_tag t)) refl refl
