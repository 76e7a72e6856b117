-- Fields that are read together with the mark after them.
use Rattle.dbc_statements.proofs.Common.{◌≡◌, ◌∙◌, ℕ, List, Bool, Some, None, refl, ap, codes, Parsed, Token}
use Rattle.std.specs.Prelude.{option_and_then}
use Rattle.bitlayout.specs.declared.layout.Layout.{Layout}
use Rattle.bitlayout.specs.declared.layout.Order.{Order}
use Rattle.decimal.specs.Number.{Number}
use Rattle.dbc_grammar.specs.Fields.{order_of, sign_of, size_of, start_of}
use Rattle.dbc_grammar.specs.Parsing.{decimal_at, layout_at, mark_at, pair_at, token_at}
use Rattle.dbc_statements.specs.Reading.{with_mark}

-- a field, its mark, and what is read after these
module _ {A B : Type 0} (more : A → List Token → Parsed B) where
  after_mark : (a : A × List Token) (m : Parsed (Unit {0}))
      → option_and_then (λ b. more a.0 b.1) m ≡ option_and_then (λ (c : A × List Token). more c.0 c.1)
      (option_and_then (λ b. Some (a.0, b.1)) m)
  after_mark a None = refl
  after_mark a (Some b) = refl

  together : (o : Parsed A) (spelling : List ℕ)
      → option_and_then (λ a. option_and_then (λ b. more a.0 b.1) (mark_at spelling a.1)) o
      ≡ option_and_then (λ c. more c.0 c.1) (with_mark o spelling)
  together None spelling = refl
  together (Some a) spelling = after_mark a (mark_at spelling a.1)

-- the byte order and the sign of a layout
abbrev with_order : ℕ → ℕ → Order → List Token → Parsed (Layout × Bool)
with_order start size order ts =
    option_and_then (λ minus. Some ((record { start = start; size = size; order = order }, minus.0), minus.1))
    (token_at sign_of ts)

abbrev rest_of_layout : ℕ → ℕ → List Token → Parsed (Layout × Bool)
rest_of_layout start size ts = option_and_then (λ order. with_order start size order.0 order.1) (token_at order_of ts)

abbrev after_start : ℕ → List Token → Parsed (Layout × Bool)
after_start start ts = option_and_then (λ size. rest_of_layout start size.0 size.1)
    (with_mark (token_at size_of ts) (codes "@"))

module _ (ts : List Token) where
  layout_is : layout_at ts ≡ option_and_then (λ start. after_start start.0 start.1)
      (with_mark (token_at start_of ts) (codes "|"))
  unfolding layout_at
  layout_is =
      together (λ start ts. option_and_then
      (λ size. option_and_then (λ bar. rest_of_layout start size.0 bar.1) (mark_at (codes "@") size.1))
      (token_at size_of ts)) (token_at start_of ts) (codes "|")
      ∙ (λ i. option_and_then (λ start. together (rest_of_layout start.0) (token_at size_of start.1) (codes "@") i)
      (with_mark (token_at start_of ts) (codes "|")))

  module _ (start : ℕ) (rest : List Token) (is : with_mark (token_at start_of ts) (codes "|") ≡ Some (start, rest))
    where
      after_bar : layout_at ts ≡ after_start start rest
      after_bar = layout_is ∙ ap (option_and_then (λ s. after_start s.0 s.1)) is

      pub no_size : with_mark (token_at size_of rest) (codes "@") ≡ None → layout_at ts ≡ None
      no_size none = after_bar ∙ ap (option_and_then (λ size. rest_of_layout start size.0 size.1)) none

      module _ (size : ℕ) (others : List Token)
          (sized : with_mark (token_at size_of rest) (codes "@") ≡ Some (size, others)) where
        after_size : layout_at ts ≡ rest_of_layout start size others
        after_size = after_bar ∙ ap (option_and_then (λ s. rest_of_layout start s.0 s.1)) sized

        pub no_order : token_at order_of others ≡ None → layout_at ts ≡ None
        no_order none = after_size ∙ ap (option_and_then (λ order. with_order start size order.0 order.1)) none

        pub no_sign : (order : Order) (last : List Token) → token_at order_of others ≡ Some (order, last)
            → token_at sign_of last ≡ None → layout_at ts ≡ None
        no_sign order last is none =
            after_size ∙ ap (option_and_then (λ order. with_order start size order.0 order.1)) is
            ∙ ap (option_and_then (λ minus. Some
            ((record { start = start; size = size; order = order }, minus.0), minus.1))) none

module _ (left between right : List ℕ) (ts : List Token) where
  abbrev second : Number → List Token → Parsed (Number × Number)
  second a rest = option_and_then (λ b. Some ((a, b.0), b.1)) (with_mark (decimal_at rest) right)

  abbrev first : List Token → Parsed (Number × Number)
  first rest = option_and_then (λ a. second a.0 a.1) (with_mark (decimal_at rest) between)

  pair_is : pair_at left between right ts ≡ option_and_then (λ opening. first opening.1) (mark_at left ts)
  unfolding pair_at
  pair_is = λ i. option_and_then (λ opening. both opening.1 i) (mark_at left ts)
    where
      both : (rest : List Token)
          → option_and_then (λ a. option_and_then
          (λ middle. option_and_then
          (λ b. option_and_then (λ closing. Some ((a.0, b.0), closing.1)) (mark_at right b.1)) (decimal_at middle.1))
          (mark_at between a.1)) (decimal_at rest) ≡ first rest
      both rest =
          together (λ a ts. option_and_then
          (λ b. option_and_then (λ closing. Some ((a, b.0), closing.1)) (mark_at right b.1)) (decimal_at ts))
          (decimal_at rest) between
          ∙ (λ i. option_and_then (λ a. together (λ b ts. Some ((a.0, b), ts)) (decimal_at a.1) right i)
          (with_mark (decimal_at rest) between))

  module _ (rest : List Token) (is : mark_at left ts ≡ Some (tt, rest)) where
    pub no_first : with_mark (decimal_at rest) between ≡ None → pair_at left between right ts ≡ None
    no_first none = pair_is ∙ ap (option_and_then (λ opening. first opening.1)) is
        ∙ ap (option_and_then (λ a. second a.0 a.1)) none

    pub no_second : (a : Number) (others : List Token) → with_mark (decimal_at rest) between ≡ Some (a, others)
        → with_mark (decimal_at others) right ≡ None → pair_at left between right ts ≡ None
    no_second a others read none =
        pair_is ∙ ap (option_and_then (λ opening. first opening.1)) is ∙ ap (option_and_then (λ a. second a.0 a.1)) read
        ∙ ap (option_and_then (λ b. Some ((a, b.0), b.1))) none
