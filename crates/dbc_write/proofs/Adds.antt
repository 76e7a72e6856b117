-- A text that is written piece by piece and line by line.
use Rattle.dbc_write.proofs.Common.{◌≡◌, ◌++◌, ℕ, List, [], ◌∷◌, take, map, Bool, true, false, if◌then◌else◌, sym, ap}
use Rattle.dbc_write.proofs.Common.{◌∙◌, append_assoc, flat_map, Line, line_text, mark, tight, text_of, codes}
use Rattle.std.proofs.Common.{◌+◌, ◌<◌, length, get_or, append-nil}
use Rattle.std.proofs.lemmas.List.{take_more, map-append}
use Rattle.std.proofs.lemmas.List.Concat.{flat_map-append}
use Rattle.dbc_grammar.specs.Canon.{value}
use Rattle.dbc_grammar.specs.declared.token.TokenKind.TheVariants as kind
use Rattle.decimal.specs.Number.{Number}
use Rattle.decimal.specs.Printing.{unsigned_text}
use Rattle.std.specs.Int.{is_negative}
use Rattle.std.specs.Prelude.{unsigned_abs}
use Rattle.dbc_write.specs.Adding.{Adds, piece_text}

pub none : {X : Type 0} (f : X → List ℕ) (a : List ℕ) → Adds f a a []
none f a = record { text = sym (append-nil a) }

-- one thing after the other
join_items : {X : Type 0} (f : X → List ℕ) (a b c : List ℕ) (xs ys : List X) → b ≡ a ++ flat_map f xs
    → c ≡ b ++ flat_map f ys
    → c ≡ a ++ flat_map f (xs ++ ys)
join_items f a b c xs ys x y =
    y ∙ ap (λ v. v ++ flat_map f ys) x ∙ append_assoc a (flat_map f xs) (flat_map f ys)
    ∙ ap (λ v. a ++ v) (sym (flat_map-append f xs ys))

pub also : {X : Type 0} {f : X → List ℕ} {a b c : List ℕ} {xs ys : List X} → Adds f a b xs → Adds f b c ys
    → Adds f a c (xs ++ ys)
also {X} {f} {a} {b} {c} {xs} {ys} x y = record { text = join_items f a b c xs ys x.text y.text }

-- the pieces of a line, and its LF
pub line : {a b c : List ℕ} {ps : Line} → Adds piece_text a b ps → c ≡ b ++ 10 ∷ [] → Adds line_text a c (ps ∷ [])
line {a} {b} {c} {ps} written ended = record {
  text = ended ∙ ap (λ v. v ++ 10 ∷ []) written.text ∙ append_assoc a (flat_map piece_text ps) (10 ∷ [])
      ∙ ap (λ v. a ++ v) (sym (append-nil (line_text ps)));
}

-- one item more, where each gives one thing
pub one_more : {X Y : Type 0} {f : X → List ℕ} {a b c : List ℕ} (g : Y → X) (ys : List Y) (i : ℕ) (y : Y)
    → i < length ys → y ≡ get_or ys i y
    → Adds f a b (map g (take i ys)) → Adds f b c (g y ∷ []) → Adds f a c (map g (take (i + 1) ys))
one_more {X} {Y} {f} {a} {b} {c} g ys i y h is before here =
    rw (take_more ys i y h, map-append g (take i ys) (get_or ys i y ∷ []), sym is) (also before here)

-- digits after a minus, where there is one
signed : (gap digits : List ℕ) (negative : Bool)
    → flat_map piece_text (if negative then mark gap (codes "-")
    ∷ record { gap = tight; kind = kind.Number; text = digits } ∷ []
    else record { gap = gap; kind = kind.Number; text = digits } ∷ [])
    ≡ gap ++ ((if negative then 45 ∷ [] else []) ++ digits)
signed gap digits true = append_assoc gap (45 ∷ []) (digits ++ []) ∙ ap (λ v. gap ++ 45 ∷ v) (append-nil digits)
signed gap digits false = append-nil (gap ++ digits)

-- the pieces of a decimal are its gap and its text
pub decimal_text : (gap : List ℕ) (n : Number) → flat_map piece_text (value gap n) ≡ gap ++ text_of n
decimal_text gap n = signed gap (unsigned_text (unsigned_abs n.mantissa) n.exponent) (is_negative n.mantissa)
