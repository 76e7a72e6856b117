-- Elements that begin, and end.
use Rattle.page_numbers.proofs.Common.{◌≡◌, ◌++◌, ◌∙◌, ℕ, Bool, List, [], Option, refl, sym, ap, append-nil}
use Rattle.page_numbers.proofs.Common.{append_assoc, Becomes, Writing, adding, with_fold, with_part}
use Rattle.markup.specs.Html.{end_tag, start_tag}
use Rattle.markup.specs.Writing.{beginning, ending}
use Rattle.markup.specs.declared.tag.Tag.{Tag}
use Rattle.markup.proofs.Changes.{next}
use Rattle.page_parts.specs.Frames.{with_table, with_wide}
use Rattle.page_numbers.specs.Elements.{around, fold_html, part_html, table_html, wide_html}

-- nothing is added
pub unchanged : (a : Writing) (x : List ℕ) → x ≡ [] → Becomes a (adding x a)
unchanged a x is h =
    ap (λ v. record a { text = v }) (sym (append-nil a.text) ∙ ap (λ v. a.text ++ v) (sym is))

pub joined : (a s x e : List ℕ) → ((a ++ s) ++ x) ++ e ≡ a ++ (s ++ (x ++ e))
joined a s x e = append_assoc (a ++ s) x e ∙ append_assoc a s (x ++ e)

-- an element with this in it
pub closed : {b c d : Writing} (a : Writing) (t : Tag) (attributes inner : List ℕ)
    → Becomes b (beginning t attributes a) → Becomes c (adding inner b) → Becomes d (ending c)
    → Becomes d (adding (around t attributes inner) a)
closed {b = b} {c = c} {d = d} a t attributes inner first second third h =
    next {b = c} {c = d} a (λ w. adding inner (beginning t attributes w)) ending (λ w. refl)
    (next {b = b} {c = c} a (beginning t attributes) (adding inner) (λ w. refl) first second) third h
    ∙ ap (λ v. record a { text = v }) (joined a.text (start_tag t attributes) inner (end_tag t))

-- the same bytes
pub instead : {b : Writing} (a : Writing) (x y : List ℕ) → x ≡ y → Becomes b (adding x a) → Becomes b (adding y a)
instead a x y e first h = first h ∙ ap (λ v. adding v a) e

-- the same attributes
pub with_attributes : {b : Writing} (a : Writing) (t : Tag) (x y : List ℕ) → x ≡ y → Becomes b (beginning t x a)
    → Becomes b (beginning t y a)
with_attributes a t x y e first h = first h ∙ ap (λ v. beginning t v a) e

-- a part, a region, a table, with this in it
pub part_closed : {b c d : Writing} (a : Writing) (name heading : List ℕ) (small : Option (List ℕ)) (inner : List ℕ)
    → Becomes b (with_part name heading small a) → Becomes c (adding inner b) → Becomes d (ending c)
    → Becomes d (adding (part_html name heading small inner) a)
part_closed {b = b} {c = c} {d = d} a name heading small inner first second third h =
    next {b = c} {c = d} a (λ w. adding inner (with_part name heading small w)) ending (λ w. refl)
    (next {b = b} {c = c} a (with_part name heading small) (adding inner) (λ w. refl) first second) third h
    ∙ ap (λ v. record a { text = v }) (simp (append_assoc, append-nil))

pub wide_closed : {b c d : Writing} (a : Writing) (label inner : List ℕ)
    → Becomes b (with_wide label a) → Becomes c (adding inner b) → Becomes d (ending c)
    → Becomes d (adding (wide_html label inner) a)
wide_closed {b = b} {c = c} {d = d} a label inner first second third h =
    next {b = c} {c = d} a (λ w. adding inner (with_wide label w)) ending (λ w. refl)
    (next {b = b} {c = c} a (with_wide label) (adding inner) (λ w. refl) first second) third h
    ∙ ap (λ v. record a { text = v }) (simp (append_assoc, append-nil))

pub table_closed : {b c d e : Writing} (a : Writing) (class : List ℕ) (heads : List (List ℕ)) (rows : List ℕ)
    → Becomes b (with_table class heads a) → Becomes c (adding rows b) → Becomes d (ending c) → Becomes e (ending d)
    → Becomes e (adding (table_html class heads rows) a)
table_closed {b = b} {c = c} {d = d} {e = e} a class heads rows first second third fourth h =
    next {b = d} {c = e} a (λ w. ending (adding rows (with_table class heads w))) ending (λ w. refl)
    (next {b = c} {c = d} a (λ w. adding rows (with_table class heads w)) ending (λ w. refl)
    (next {b = b} {c = c} a (with_table class heads) (adding rows) (λ w. refl) first second) third) fourth h
    ∙ ap (λ v. record a { text = v }) (simp (append_assoc, append-nil))

pub fold_closed : {b c d e f : Writing} (a : Writing) (is_open : Bool) (summary inner : List ℕ)
    → Becomes b (with_fold is_open a) → Becomes c (adding summary b) → Becomes d (ending c)
    → Becomes e (adding inner d) → Becomes f (ending e) → Becomes f (adding (fold_html is_open summary inner) a)
fold_closed {b = b} {c = c} {d = d} {e = e} {f = f} a is_open summary inner first second third fourth fifth h =
    next {b = e} {c = f} a (λ w. adding inner (ending (adding summary (with_fold is_open w)))) ending (λ w. refl)
    (next {b = d} {c = e} a (λ w. ending (adding summary (with_fold is_open w))) (adding inner) (λ w. refl)
    (next {b = c} {c = d} a (λ w. adding summary (with_fold is_open w)) ending (λ w. refl)
    (next {b = b} {c = c} a (with_fold is_open) (adding summary) (λ w. refl) first second) third) fourth) fifth h
    ∙ ap (λ v. record a { text = v }) (simp (append_assoc, append-nil))
