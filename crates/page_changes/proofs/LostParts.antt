-- What is lost: differences of one thing, and losses of one node, that are side by side.
use Rattle.page_changes.proofs.Common.{◌≡◌, true, ℕ, List, Option, Some, None, refl, ap, false≢true, bytes_eq}
use Rattle.page_changes.proofs.Common.{Difference}
use Rattle.std.proofs.lemmas.Slice.Eq.{bytes_eq-Decides}
use Rattle.page_changes.specs.Act.{Lost, is_one_node, is_one_thing, node_of, same_name}

same_names : (a b : Option (List ℕ)) → same_name a b ≡ true → a ≡ b
same_names None None e = refl
same_names (Some a) (Some b) e = ap Some ((bytes_eq-Decides a b).0 e)
same_names None (Some b) e = absurd (false≢true e)
same_names (Some a) None e = absurd (false≢true e)

pub alike_things : (x y : Difference) → is_one_thing x y ≡ true → (z : Difference) → is_one_thing x z ≡ is_one_thing y z
alike_things x y e z = ap (λ name. same_name name z.name) (same_names x.name y.name e)

pub alike_nodes : (x y : Lost) → is_one_node x y ≡ true → (z : Lost) → is_one_node x z ≡ is_one_node y z
alike_nodes x y e z = ap (λ node. bytes_eq node (node_of z)) ((bytes_eq-Decides (node_of x) (node_of y)).0 e)
