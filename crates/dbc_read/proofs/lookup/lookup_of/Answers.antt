use Rattle.dbc_read.proofs.Common.{◌∙◌, ◌++◌, append-nil, ap, rules, subst, sym, is_lt, drop_of_length-le, ranks_by}
use Rattle.std.specs.Prelude.{IsPermutation, length}
use Rattle.std.proofs.lemmas.List.Sorted.{answers_always}
use Rattle.dbc_read.specs.Lookup.{with_indices}
use Rattle.dbc_read.proofs.lookup.lookup_of.Goals as goal

pub returns : goal.returns
returns g c =
    let made = c.loop-key.sorted.items in
    let none = drop_of_length-le c.deref-key-items.result.now c.loop-key-test.false in
    let whole = sym (append-nil made) ∙ ap (λ ks. made ++ with_indices (length made) ks) (sym none)
    ∙ c.loop-key.invariant ∙ ap (with_indices 0) c.deref-key-items.ensures.value in
    record {
      is = λ i. c.args.keys.items;
      entries = subst (λ es. IsPermutation es c.sort_by.new.self.items) whole c.in_ok-sort_by.ensures.permutation;
      sorted = c.in_ok-sort_by.ensures.sorted (λ a b. is_lt (g.K.Ord.cmp a.0 b.0))
          (ranks_by g.met.K.Ord.total (λ e. e.0)) (answers_always _ _ _ (λ f a r h called. search rules));
    }
