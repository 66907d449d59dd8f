-- The rows of lists of any kind with their data type, over any child.
use Rattle.std.specs.Prelude.{List as Seq, Bool, IsTrue, ◌↔◌, ◌≡◌, ℕ, ◌*◌, ◌<◌, ◌≤◌, false, true, take, length, Some}
use Rattle.nest_any.specs.declared.rows.TypedRows.{TypedRows}
use Rattle.nest_any.specs.declared.rows.TypedRows.TheVariants.{List, LargeList, FixedSizeList}
use Rattle.nest_memory.specs.TypeTree.{TypeTree, item_type, size_of}
use Rattle.nest_model.specs.BuilderRow.{Row, end_from, RisesFrom}
use Rattle.nest_model.specs.BuilderTree.{BuilderTree, list, fixed_size_list, builder_len, builder_type}
use Rattle.nest_model.specs.Layout.{Layout, layout_type}
use Rattle.nest_model.specs.Meaning.{len}

-- the builder of these rows over a child
abbrev pub lists_over : TypedRows → BuilderTree → BuilderTree
lists_over (List t rows) c = list false t rows c
lists_over (LargeList t rows) c = list true t rows c
lists_over (FixedSizeList t bits) c = fixed_size_list t bits c

abbrev pub rows_len : TypedRows → ℕ
rows_len (List t rows) = length rows
rows_len (LargeList t rows) = length rows
rows_len (FixedSizeList t bits) = length bits

-- Variable-size List Layout: the child has the type of the items and exactly the items that the rows need
abbrev pub FitsOffsets : TypeTree → Seq Row → BuilderTree → Type 0
FitsOffsets t rows c = (item_type t ≡ Some (builder_type c)) × (builder_len c ≡ end_from 0 rows) × RisesFrom 0 rows

-- the same for rows of any kind
abbrev pub Fitting : TypedRows → BuilderTree → Type 0
Fitting (List t rows) c = FitsOffsets t rows c
Fitting (LargeList t rows) c = FitsOffsets t rows c
Fitting (FixedSizeList t bits) c = (item_type t ≡ Some (builder_type c)) × (builder_len c ≡ length bits * size_of t)

-- the number of child items that the first n rows need
abbrev pub items_needed : TypedRows → ℕ → ℕ
items_needed (List t rows) n = end_from 0 (take n rows)
items_needed (LargeList t rows) n = end_from 0 (take n rows)
items_needed (FixedSizeList t bits) n = n * size_of t

-- Fixed-Size List Layout: the number of nulls that a null row has in the child
abbrev pub child_nulls : TypedRows → ℕ
child_nulls (List t rows) = 0
child_nulls (LargeList t rows) = 0
child_nulls (FixedSizeList t bits) = size_of t

-- the array has the item type and the items of these rows
abbrev pub HasItems : TypedRows → Layout → Type 0
HasItems (List t rows) a = (item_type t ≡ Some (layout_type a)) × (end_from 0 rows ≤ len a)
HasItems (LargeList t rows) a = (item_type t ≡ Some (layout_type a)) × (end_from 0 rows ≤ len a)
HasItems (FixedSizeList t bits) a = (item_type t ≡ Some (layout_type a)) × (len a ≡ length bits * size_of t)

-- the size of a fixed-size list is at least 1
abbrev pub HasSize : TypedRows → Type 0
HasSize (List t rows) = Unit {0}
HasSize (LargeList t rows) = Unit {0}
HasSize (FixedSizeList t bits) = 0 < size_of t

-- P holds over each child of `count` items that has the item type of t exactly if `typed`
abbrev pub OverChildren : Bool → TypeTree → ℕ → (BuilderTree → Type 0) → Type 0
OverChildren typed t count P = (c : BuilderTree) → (IsTrue typed ↔ (item_type t ≡ Some (builder_type c))) → count ≡ builder_len c → P c
