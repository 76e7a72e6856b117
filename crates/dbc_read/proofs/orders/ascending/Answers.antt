use Rattle.dbc_read.proofs.Common.{◌≡◌, ◌∙◌, ◌+◌, ◌-◌, ◌<◌, ◌++◌, ℕ, List, [], ◌∷◌, ap, append-nil, append_assoc, arith}
use Rattle.dbc_read.proofs.Common.{get_or, rules, subst, suc, sym, nat_list_cmp_total, range_with_len, is_lt}
use Rattle.dbc_read.proofs.Common.{always_returns_same, length-map, ranks_by, text_cmp, Signal}
use Rattle.std.specs.Prelude.{IsPermutation}
use Rattle.dbc_read.specs.Orders.{signal_names}
use Rattle.dbc_read.proofs.orders.ascending.Goals as goal

range_next : (a b : ℕ) → a < b → range_with_len a (b - a) ≡ a ∷ range_with_len (a + 1) (b - (a + 1))
range_next a b h = let e : b - a ≡ suc (b - (a + 1)) = omega arith in ap (range_with_len a) e

pub loop-index-preserved : goal.loop-index-preserved
loop-index-preserved c =
    let made = c.loop-index.order.items in
    let i = c.loop-index.index in
    let n = c.args.count in
    ap (λ l. l ++ range_with_len (i + 1) (n - (i + 1))) c.in_ok-push.ensures.items
    ∙ append_assoc made (i ∷ []) (range_with_len (i + 1) (n - (i + 1)))
    ∙ ap (λ l. made ++ l) (sym (range_next i n c.loop-index-test.true)) ∙ c.loop-index.invariant

pub returns : goal.returns
returns c =
    let names = signal_names c.args.signals.now in
    let at : ℕ → List ℕ = λ i. get_or names i [] in
    let made = c.loop-index.order.items in
    let none : c.args.count - c.loop-index.index ≡ 0 = omega arith in
    let counted : made ≡ range_with_len 0 c.args.count = sym (append-nil made)
    ∙ ap (λ n. made ++ range_with_len c.loop-index.index n) (sym none) ∙ c.loop-index.invariant in
    let whole = counted ∙ ap (range_with_len 0)
    (c.requires ∙ sym (length-map c.args.signals.now (λ (s : Signal). s.name))) in
    record {
      indices = subst (λ is. IsPermutation is c.sort_by.new.self.items) whole c.in_ok-sort_by.ensures.permutation;
      sorted = c.in_ok-sort_by.ensures.sorted (λ i j. is_lt (text_cmp (at i) (at j))) (ranks_by nat_list_cmp_total at)
          (always_returns_same _ _ _ (λ a r f called. (search rules, search rules)));
    }
