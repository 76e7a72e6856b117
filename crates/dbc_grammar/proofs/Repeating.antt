-- One after the other, as a loop reads them.
use Rattle.dbc_grammar.proofs.Common.{◌≡◌, ℕ, zero, suc, ◌≤◌, ◌<◌, Bool, true, false, List, [], ◌∷◌, ◌++◌, length, Some}
use Rattle.dbc_grammar.proofs.Common.{None, refl, sym, ap, ◌∙◌, append_assoc, arith, option_and_then, append-nil}
use Rattle.dbc_grammar.proofs.Common.{Signal}
use Rattle.dbc_grammar.specs.Fields.{is_key, goes_on}
use Rattle.dbc_grammar.specs.Grammar.{is_open}
use Rattle.dbc_grammar.specs.Parsing.{Parsed, many_by, many_at, with_front, entry_at, further_at, signal_at}
use Rattle.dbc_grammar.specs.Parsing.{statement_at, is_more}
use Rattle.dbc_grammar.specs.Rules.{Rule, starts}
use Rattle.dbc_grammar.specs.Token.{Token}
use Rattle.dbc_grammar.proofs.Divisions.{statements_repeat}
use Rattle.dbc_grammar.proofs.ExactFields.{entries_repeat, further_repeats}
use Rattle.dbc_grammar.proofs.ExactLines.{signals_repeat}
use Rattle.dbc_grammar.proofs.Exactness.{Repeats}

-- reading one takes tokens, and where there are none the test says that there is none
pub record Takes {A : Type 0} (test : List Token → Bool) (p : List Token → Parsed A) : Type 0 where
  pub ends : test [] ≡ false
  pub shorter : (ts : List Token) (x : A × List Token) → test ts ≡ true → p ts ≡ Some x → length x.1 < length ts

pub repeats_take : {A : Type 0} {F I : List Token → Type 0} {r : Rule A} {test : List Token → Bool}
    {p : List Token → Parsed A}
    → Repeats F I r test p → test [] ≡ false → Takes test p
repeats_take repeats e =
    record { ends = e; shorter = λ ts x _ f. repeats.shorter ts x.0 x.1 ((repeats.each ts).takes x f) }

module _ {A : Type 0} {test : List Token → Bool} {p : List Token → Parsed A} (takes : Takes test p) where
  fuel_by : (n m : ℕ) (ts : List Token) (b : Bool) (o : Parsed A) → test ts ≡ b → p ts ≡ o
      → ((us : List Token) → length us < length ts → many_by test p n us ≡ many_by test p m us)
      → many_by test p (suc n) ts ≡ many_by test p (suc m) ts
  fuel_by n m ts false o e f again = rw e refl
  fuel_by n m ts true None e f again = rw (e, f) refl
  fuel_by n m ts true (Some x) e f again = rw (e, f, again x.1 (takes.shorter ts x e f)) refl

  none_there : (n : ℕ) → many_by test p n [] ≡ Some ([], [])
  none_there zero = refl
  none_there (suc n) = rw takes.ends refl

  -- how often it may go round doesn't matter
  fuel : (n m : ℕ) (ts : List Token) → length ts ≤ n → length ts ≤ m → many_by test p n ts ≡ many_by test p m ts
  fuel n m [] a b = none_there n ∙ sym (none_there m)
  fuel zero m (t ∷ ts) a b = absurd (omega arith)
  fuel (suc n) zero (t ∷ ts) a b = absurd (omega arith)
  fuel (suc n) (suc m) (t ∷ ts) a b =
      fuel_by n m (t ∷ ts) (test (t ∷ ts)) (p (t ∷ ts)) refl refl (λ us less. fuel n m us (omega arith) (omega arith))

  front_step : (n : ℕ) (front : List A) (ts : List Token) (x : A × List Token) → test ts ≡ true → p ts ≡ Some x
      → with_front front (many_by test p (suc n) ts) ≡ with_front (front ++ x.0 ∷ []) (many_by test p n x.1)
  front_step n front ts x e f = rw (e, f) (regroup (many_by test p n x.1))
    where
      regroup : (o : Parsed (List A)) → with_front front (option_and_then (λ b. Some (x.0 ∷ b.0, b.1)) o)
          ≡ with_front (front ++ x.0 ∷ []) o
      regroup None = refl
      regroup (Some y) = ap (λ (l : List A). Some (l, y.1)) (simp append_assoc)

  -- one more is read
  pub goes_round : (front : List A) (ts : List Token) (x : A × List Token) (total : Parsed (List A)) → test ts ≡ true
      → p ts ≡ Some x
      → with_front front (many_at test p ts) ≡ total → with_front (front ++ x.0 ∷ []) (many_at test p x.1) ≡ total
  goes_round front [] x total e f h = absurd (let w = takes.ends in cc)
  goes_round front (t ∷ ts) x total e f h =
      let less = takes.shorter (t ∷ ts) x e f in
      let same : many_by test p (length x.1) x.1 ≡ many_by test p (length ts) x.1 =
      fuel (length x.1) (length ts) x.1 (omega arith) (omega (arith, less)) in
      ap (with_front (front ++ x.0 ∷ [])) same ∙ sym (front_step (length ts) front (t ∷ ts) x e f) ∙ h

  -- all are read
  pub is_over : (front : List A) (ts : List Token) (total : Parsed (List A)) → test ts ≡ false
      → with_front front (many_at test p ts) ≡ total → total ≡ Some (front, ts)
  is_over front [] total e h = sym h ∙ ap (λ (l : List A). Some (l, [])) (append-nil front)
  is_over front (t ∷ ts) total e h = sym h ∙ rw e (ap (λ (l : List A). Some (l, t ∷ ts)) (append-nil front))

  -- one can't be read
  pub breaks_off : (front : List A) (ts : List Token) (total : Parsed (List A)) → test ts ≡ true → p ts ≡ None
      → with_front front (many_at test p ts) ≡ total → total ≡ None
  breaks_off front [] total e f h = absurd (let w = takes.ends in cc)
  breaks_off front (t ∷ ts) total e f h = sym h ∙ rw (e, f) refl

-- What is read one after the other in a file.

pub entries_take : Takes (starts is_open) entry_at
entries_take = repeats_take entries_repeat refl

pub further_take : Takes goes_on further_at
further_take = repeats_take further_repeats refl

pub signals_take : Takes (starts (is_key Signal)) signal_at
signals_take = repeats_take signals_repeat refl

pub statements_take : Takes is_more statement_at
statements_take = repeats_take statements_repeat refl
