-- The trees determine the schema: no two are sound over the same list of objects.
use Rattle.store_tables.proofs.Common.{◌≡◌, inl, inr, ℕ, ◌+◌, List, [], ◌∷◌, Bool, true, false, Option, Some, None}
use Rattle.store_tables.proofs.Common.{codes, pos, refl, sym, ap, subst, ◌∙◌, arith, AllZip, IsSound}
use Rattle.std.proofs.Common.{filter}
use Rattle.std.specs.Prelude.{MatchBool, bytes_eq}
use Rattle.sqlite_value.specs.declared.value.Value.{Value}
use Rattle.sqlite_value.specs.declared.value.Value.TheVariants.{Null, Int, Text}
use Rattle.sqlite_value.specs.Order.{Row, column}
use Rattle.sqlite_trees.specs.Tree.{Trees}
use Rattle.sqlite_trees.specs.Objects.{catalog_tree}
use Rattle.sqlite_schema.specs.declared.schema.Table.{Table}
use Rattle.sqlite_schema.specs.declared.schema.View.{View as Stored}
use Rattle.sqlite_schema.specs.declared.schema.Index.{Index}
use Rattle.sqlite_schema.specs.declared.schema.Schema.{Schema}
use Rattle.sqlite_catalog.specs.Listing.{IsTableRow, IsIndexRow, IsViewRow, IsDefined, IsAside, IsForeign, IsReadable}
use Rattle.sqlite_catalog.specs.Listing.{automatic, AreListed, is_table_row, is_index_row, is_view_row}
use Rattle.sqlite_catalog.proofs.StepLemmas.{same_itself, named_once}
use Rattle.sqlite_catalog.proofs.AlterLemmas.{numbers_differ}

zip_once : {X Y : Type 0} (R : X → Y → Type 0) → ((x : X) (y z : Y) → R x y → R x z → y ≡ z)
    → (xs : List X) (ys zs : List Y) → AllZip R xs ys → AllZip R xs zs → ys ≡ zs
zip_once R once [] [] [] h k = refl
zip_once R once [] [] (z ∷ zs) h k = absurd k
zip_once R once [] (y ∷ ys) zs h k = absurd h
zip_once R once (x ∷ xs) [] zs h k = absurd h
zip_once R once (x ∷ xs) (y ∷ ys) [] h k = absurd k
zip_once R once (x ∷ xs) (y ∷ ys) (z ∷ zs) h k = let a = once x y z h.0 k.0 in let b =
    zip_once R once xs ys zs h.1 k.1 in cc

text_once : (v : Value) (a b : List ℕ) → v ≡ Text a → v ≡ Text b → a ≡ b
text_once v a b h k = cc

tree_once : (v : Value) (a b : ℕ) → v ≡ Int (pos (a + 1)) → v ≡ Int (pos (b + 1)) → a ≡ b
tree_once v a b h k = let e : a + 1 ≡ b + 1 = cc in omega (arith, e)

pub table_once : (row : Row) (s t : Table) → IsTableRow row s → IsTableRow row t → s ≡ t
table_once row s t h k =
    let tree : s.tree ≡ t.tree = tree_once _ _ _ h.described.id k.described.id in
    let text = text_once _ _ _ h.sql_is k.sql_is in
    let made : h.defined.0 ≡ k.defined.0 = let a = h.defined.1 in let b = k.defined.1 in cc in
    h.defined.2 ∙ ap (λ (m : Table). record m { tree = s.tree }) made ∙ ap (λ n. record k.defined.0 { tree = n }) tree
    ∙ sym k.defined.2

defined_once : (t : Table) (i j : Index) (v : Value) → i.name ≡ j.name → i.tree ≡ j.tree → IsDefined t i v
    → IsDefined t j v → i ≡ j
defined_once t i j Null name tree h k =
    let names = ap (λ (x : Index). x.name) (sym h.3) ∙ name ∙ ap (λ (x : Index). x.name) k.3 in
    let at : h.0 ≡ k.0 = numbers_differ t h.0 k.0 h.4 k.4 (rw (← names) (same_itself _)) in
    let key : h.1 ≡ k.1 = let a = h.2 in let b = k.2 in cc in
    h.3 ∙ ap (λ n. automatic t n h.1 i.tree) at ∙ ap (λ l. automatic t k.0 l i.tree) key ∙ ap (automatic t k.0 k.1) tree
    ∙ sym k.3
defined_once t i j (Text sql) name tree h k =
    let made : h.0 ≡ k.0 = let a = h.1 in let b = k.1 in cc in
    h.2 ∙ ap (λ (m : Index). record m { tree = i.tree; table = t.tree }) made
    ∙ ap (λ n. record k.0 { tree = n; table = t.tree }) tree ∙ sym k.2
defined_once t i j it name tree h k = absurd h

pub index_once : (schema : Schema) (objects : List Row) → AreListed objects schema → (row : Row) (i j : Index)
    → IsIndexRow schema.tables row i → IsIndexRow schema.tables row j → i ≡ j
index_once schema objects listed row i j h k =
    let owner = text_once _ _ _ h.described.owner_is k.described.owner_is in
    let table : h.table ≡ k.table =
    named_once schema.tables h.table k.table listed.named h.listed k.listed (rw owner (same_itself _)) in
    defined_once k.table i j (column row 4) (text_once _ _ _ h.described.name_is k.described.name_is)
    (tree_once _ _ _ h.described.id k.described.id)
    (subst (λ t. IsDefined t i (column row 4)) table h.defined) k.defined

bound_once : (b c : Bool) (P : Type 0) → MatchBool b P (¬ P) → MatchBool c P (¬ P) → b ≡ c
bound_once true true P h k = refl
bound_once true false P h k = absurd (k h)
bound_once false true P h k = absurd (h k)
bound_once false false P h k = refl

table_no_index : codes "table" ≡ codes "index" → ⊥
table_no_index e = let no : true ≡ false = ap (λ l. bytes_eq l (codes "table")) e in cc

table_no_trigger : codes "table" ≡ codes "trigger" → ⊥
table_no_trigger e = cc

index_no_table : codes "index" ≡ codes "table" → ⊥
index_no_table e = table_no_index (sym e)

index_no_trigger : codes "index" ≡ codes "trigger" → ⊥
index_no_trigger e = cc

trigger_no_table : codes "trigger" ≡ codes "table" → ⊥
trigger_no_table e = cc

trigger_no_index : codes "trigger" ≡ codes "index" → ⊥
trigger_no_index e = cc

view_no_table : codes "view" ≡ codes "table" → ⊥
view_no_table e = cc

view_no_index : codes "view" ≡ codes "index" → ⊥
view_no_index e = cc

view_no_trigger : codes "view" ≡ codes "trigger" → ⊥
view_no_trigger e = cc

foreign_once : (row : Row) (v w : Stored) (kind : List ℕ) (code : ℕ) → IsForeign row v kind code
    → IsForeign row w kind code → (v.binds ≡ w.binds) × (v.is_bound ≡ w.is_bound)
foreign_once row v w kind code (inl h) (inl k) =
    (h.2 ∙ sym k.2, bound_once v.is_bound w.is_bound (IsReadable row) h.3 k.3)
foreign_once row v w kind code (inr (inl h)) (inr (inl k)) = (h.2 ∙ sym k.2, h.3 ∙ sym k.3)
foreign_once row v w kind code (inr (inr h)) (inr (inr k)) = (h.2 ∙ sym k.2, h.3 ∙ sym k.3)
foreign_once row v w kind code (inl h) (inr (inl k)) = absurd (table_no_index (sym h.0 ∙ k.0))
foreign_once row v w kind code (inl h) (inr (inr k)) = absurd (table_no_trigger (sym h.0 ∙ k.0))
foreign_once row v w kind code (inr (inl h)) (inl k) = absurd (index_no_table (sym h.0 ∙ k.0))
foreign_once row v w kind code (inr (inl h)) (inr (inr k)) = absurd (index_no_trigger (sym h.0 ∙ k.0))
foreign_once row v w kind code (inr (inr h)) (inl k) = absurd (trigger_no_table (sym h.0 ∙ k.0))
foreign_once row v w kind code (inr (inr h)) (inr (inl k)) = absurd (trigger_no_index (sym h.0 ∙ k.0))

never_view : (row : Row) (v : Stored) (kind : List ℕ) (code : ℕ) → kind ≡ codes "view" → ¬ IsForeign row v kind code
never_view row v kind code is (inl h) = view_no_table (sym is ∙ h.0)
never_view row v kind code is (inr (inl h)) = view_no_index (sym is ∙ h.0)
never_view row v kind code is (inr (inr h)) = view_no_trigger (sym is ∙ h.0)

aside_once : (row : Row) (v w : Stored) (kind owner : List ℕ) (code : ℕ) (f g : Option (List ℕ))
    → IsAside row v kind owner code f → IsAside row w kind owner code g
    → (f ≡ g) × (v.sql ≡ w.sql) × (v.binds ≡ w.binds) × (v.is_bound ≡ w.is_bound)
aside_once row v w kind owner code None None h k = (refl, text_once _ _ _ h.3 k.3, h.6 ∙ sym k.6, h.7 ∙ sym k.7)
aside_once row v w kind owner code None (Some t) h k = absurd (never_view row w kind code h.0 k.2)
aside_once row v w kind owner code (Some t) None h k = absurd (never_view row v kind code k.0 h.2)
aside_once row v w kind owner code (Some t) (Some u) h k =
    let both = foreign_once row v w kind code h.2 k.2 in (ap Some (sym h.0 ∙ k.0), h.1 ∙ sym k.1, both.0, both.1)

view_is : (v w : Stored) → v.name ≡ w.name → v.tree ≡ w.tree → v.sql ≡ w.sql → v.foreign ≡ w.foreign → v.binds ≡ w.binds
    → v.is_bound ≡ w.is_bound → v ≡ w
view_is v w a b c d e f =
    ap (λ x. record v { name = x }) a ∙ ap (λ x. record v { name = w.name; tree = x }) b
    ∙ ap (λ x. record v { name = w.name; tree = w.tree; sql = x }) c
    ∙ ap (λ x. record w { foreign = x; binds = v.binds; is_bound = v.is_bound }) d
    ∙ ap (λ x. record w { binds = x; is_bound = v.is_bound }) e ∙ ap (λ x. record w { is_bound = x }) f

pub view_once : (row : Row) (v w : Stored) → IsViewRow row v → IsViewRow row w → v ≡ w
view_once row v w h k =
    let kind = text_once _ _ _ h.described.kind_is k.described.kind_is in
    let owner = text_once _ _ _ h.described.owner_is k.described.owner_is in
    let code : h.code ≡ k.code = sym h.described.shape_is ∙ k.described.shape_is in
    let all = aside_once row v w k.kind k.owner k.code v.foreign w.foreign (rw (kind, owner, code) at h.aside)
    k.aside in
    view_is v w (text_once _ _ _ h.described.name_is k.described.name_is)
    (tree_once _ _ _ h.described.id k.described.id) all.1 all.0 all.2 all.3

pub schema_is : (a b : Schema) → a.tables ≡ b.tables → a.indexes ≡ b.indexes → a.views ≡ b.views → a ≡ b
schema_is a b x y z = ap (λ l. record a { tables = l }) x ∙ ap (λ l. record a { tables = b.tables; indexes = l }) y
    ∙ ap (λ l. record b { views = l }) z

-- one list of objects is that of one schema
pub listed_once : (objects : List Row) (a b : Schema) → AreListed objects a → AreListed objects b → a ≡ b
listed_once objects a b h k =
    let tables : a.tables ≡ b.tables = zip_once IsTableRow table_once (filter is_table_row objects) a.tables b.tables
    h.tables k.tables in
    schema_is a b tables
    (zip_once (IsIndexRow b.tables) (index_once b objects k) (filter is_index_row objects) a.indexes b.indexes
    (subst (λ ts. AllZip (IsIndexRow ts) (filter is_index_row objects) a.indexes) tables h.indexes) k.indexes)
    (zip_once IsViewRow view_once (filter is_view_row objects) a.views b.views h.views k.views)

-- and so are the trees
pub sound_once : (a b : Schema) (db : Trees) → IsSound a db → IsSound b db → a ≡ b
sound_once a b db h k = listed_once (db catalog_tree) a b h.lists.listed k.lists.listed
