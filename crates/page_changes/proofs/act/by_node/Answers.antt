use Rattle.page_changes.proofs.Common.{rules, nat_list_cmp_total, is_lt, answers_always, text_cmp}
use Rattle.std.proofs.lemmas.List.Sorted.{ranks_by}
use Rattle.page_changes.specs.Act.{node_of}
use Rattle.page_changes.proofs.act.by_node.Goals as goal

pub returns : goal.returns
returns c =
    let order = ranks_by nat_list_cmp_total node_of in
    record {
      same = c.in_ok-sort_by.ensures.permutation;
      rising = c.in_ok-sort_by.ensures.sorted (λ a b. is_lt (text_cmp (node_of a) (node_of b))) order
          (answers_always _ _ _ (λ f a r g called. search rules));
      stable = c.in_ok-sort_by.ensures.stable (λ a b. is_lt (text_cmp (node_of a) (node_of b))) order
          (answers_always _ _ _ (λ f a r g called. search rules));
    }
