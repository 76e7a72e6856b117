-- What of the things that are cited a sheet doesn't have.
use Rattle.dbc_keep.proofs.Common.{◌≡◌, ◌≤◌, ◌++◌, ◌-◌, ℕ, true, false, List, [], ◌∷◌, Option, None, refl, sym, ap, ◌∙◌}
use Rattle.dbc_keep.proofs.Common.{arith, drop, get_or, length, take, flat_map, Sheet, Word, first_absent, node_cited}
use Rattle.dbc_keep.proofs.Common.{signal_cited}
use Rattle.std.proofs.Common.{Some}
use Rattle.std.proofs.lemmas.List.{take_all}
use Rattle.dbc_lex.specs.declared.token.Token.{Token as TextToken}
use Rattle.dbc_grammar.specs.Fields.{same_kind}
use Rattle.dbc_grammar.specs.declared.token.TokenKind.{TokenKind}
use Rattle.dbc_grammar.specs.declared.token.TokenKind.TheVariants.{Name}
use Rattle.dbc_words.specs.Name.{no_node}
use Rattle.dbc_keep.specs.Staying.{all_seen, seen}
use Rattle.dbc_keep_law.specs.Staying.{Citation, CitesNode, CitesSignal, absent, is_name_word, is_word, or_else}
use Rattle.dbc_keep_law.specs.declared.reason.LeavingReason.{LeavingReason}

or_none : (o : Option LeavingReason) → or_else o None ≡ o
or_none None = refl
or_none (Some r) = refl

or_assoc : (a b c : Option LeavingReason) → or_else (or_else a b) c ≡ or_else a (or_else b c)
or_assoc None b c = refl
or_assoc (Some r) b c = refl

pub one_absent : (s : Sheet) (c : Citation) → first_absent s (c ∷ []) ≡ absent s c
one_absent s c = or_none (absent s c)

pub absent_append : (s : Sheet) (cs ds : List Citation)
    → first_absent s (cs ++ ds) ≡ or_else (first_absent s cs) (first_absent s ds)
absent_append s [] ds = refl
absent_append s (c ∷ cs) ds =
    ap (or_else (absent s c)) (absent_append s cs ds)
    ∙ sym (or_assoc (absent s c) (first_absent s cs) (first_absent s ds))

-- ---- words that name something

pub other_kind : (k : TokenKind) → (k ≡ Name → ⊥) → false ≡ same_kind Name k
other_kind Name other = absurd (other refl)
other_kind it other = refl

module _ (s : Sheet) (w : Word) where
  pub no_name_cited : is_name_word w ≡ false → first_absent s (node_cited w) ≡ None
  no_name_cited e = rw e refl

  pub none_cited : is_name_word w ≡ true → is_word no_node w ≡ true → first_absent s (node_cited w) ≡ None
  none_cited e f = rw (e, f) refl

  pub name_cited : is_name_word w ≡ true → is_word no_node w ≡ false
      → first_absent s (node_cited w) ≡ absent s (CitesNode w.text)
  name_cited e f = rw (e, f) (one_absent s (CitesNode w.text))

  pub no_signal_cited : (number : List ℕ) → is_name_word w ≡ false → first_absent s (signal_cited number w) ≡ None
  no_signal_cited number e = rw e refl

  pub signal_named : (number : List ℕ) → is_name_word w ≡ true
      → first_absent s (signal_cited number w) ≡ absent s (CitesSignal number w.text)
  signal_named number e = rw e (one_absent s (CitesSignal number w.text))

-- ---- one word after the other

module _ (s : Sheet) (cited : Word → List Citation) where
  next_word : (x : TextToken) (xs : List TextToken) → first_absent s (cited (seen x)) ≡ None
      → first_absent s (flat_map cited (all_seen xs)) ≡ first_absent s (flat_map cited (all_seen (x ∷ xs)))
  next_word x xs e =
      ap (λ (o : Option LeavingReason). or_else o (first_absent s (flat_map cited (all_seen xs)))) (sym e)
      ∙ sym (absent_append s (cited (seen x)) (flat_map cited (all_seen xs)))

  pub next_of : (left : List TextToken) (d : TextToken) → 1 ≤ length left
      → first_absent s (cited (seen (get_or left 0 d))) ≡ None
      → first_absent s (flat_map cited (all_seen (take (length left - 1) (drop 1 left))))
      ≡ first_absent s (flat_map cited (all_seen left))
  next_of [] d h e = absurd (omega (arith, h))
  next_of (x ∷ xs) d h e =
      ap (λ (l : List TextToken). first_absent s (flat_map cited (all_seen l)))
      (take_all (length (x ∷ xs) - 1) xs (omega arith)) ∙ next_word x xs e
