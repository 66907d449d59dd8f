-- The decoding of nested arrays, by type. These names are opaque, so that a proof unfolds one at a time.
use Rattle.std.specs.Prelude.{◌≡◌, ℕ, ℤ, ◌*◌, Bool, true, false, ◌&&◌, nat_le, nat_lt, List, Option, Result, Ok, Err, refl}
use Rattle.std.proofs.Common.{ap, sym, subst, ◌∙◌}
use Rattle.ipc_flatbuf.specs.ReadResults.{◌>>=◌, check, ReturnsOrRunsOut}
use Rattle.ipc_flatbuf.specs.declared.error.IpcReadError.{IpcReadError}
use Rattle.ipc_flatbuf.specs.declared.error.IpcReadError.TheVariants.{TypeRange}
use Rattle.nest_memory.specs.Physical.{physical_type}
use Rattle.nest_memory.specs.TypeTree as types
use Rattle.nest_memory.specs.TypeTree.{TypeTree, FieldTree, FieldTrees, field, no_fields, more_fields, field_type, count_fields, is_pair}
use Rattle.nest_memory.specs.declared.datatypes.UnionMode.{UnionMode}
use Rattle.nest_model.specs.Checks.{most_fields}
use Rattle.nest_model.specs.Layout.{Layout, Layouts, fixed_size_list, struct, no_layouts, more_layouts}
use Rattle.ipc_arrays.specs.Decoding.{Rest, decoded_flat, decoded_node, decoded_validity_buffer, decoded_variable_size_head, decoded_union_parts, are_type_ids, union_child_length, list_over, map_over, union_over, decoded_array, decoded_child, decoded_children, decoded_column}
use Rattle.ipc_arrays.specs.declared.cursor.NodeCounts.{NodeCounts}
use Rattle.ipc_arrays.specs.declared.cursor.ExpectedLength.{ExpectedLength}
use Rattle.ipc_arrays.specs.declared.cursor.ExpectedLength.TheVariants.{Exactly, Any}

-- whether a type is neither an extension nor nested
abbrev pub is_flat_type : TypeTree → Bool
is_flat_type (types.extension x s m) = false
is_flat_type (types.list f) = false
is_flat_type (types.large_list f) = false
is_flat_type (types.fixed_size_list f n) = false
is_flat_type (types.map f b) = false
is_flat_type (types.struct fs) = false
is_flat_type (types.union fs ids mode) = false
is_flat_type t = true

unfoldable pub array_decoding : TypeTree → TypeTree → NodeCounts → List ℕ → Rest → Result (Layout × Rest) IpcReadError
array_decoding t s counts body rest = decoded_array t s counts body rest

unfoldable pub child_decoding : FieldTree → ExpectedLength → List ℕ → Rest → Result (Layout × Rest) IpcReadError
child_decoding f expected body rest = decoded_child f expected body rest

unfoldable pub children_decoding : FieldTrees → ExpectedLength → List ℕ → Rest → Result (Layouts × Rest) IpcReadError
children_decoding fs expected body rest = decoded_children fs expected body rest

unfoldable pub list_decoding : Bool → TypeTree → FieldTree → NodeCounts → List ℕ → Rest → Result (Layout × Rest) IpcReadError
list_decoding large t f counts body rest = do
  head ← decoded_variable_size_head large counts body rest
  items ← child_decoding f Any body head.1
  list_over large t head.0 items

-- whether keys are sorted does not matter for reading
unfoldable pub map_decoding : TypeTree → FieldTree → Bool → NodeCounts → List ℕ → Rest → Result (Layout × Rest) IpcReadError
map_decoding t f sorted counts body rest = do
  pairs ← check (is_pair (field_type f)) TypeRange
  head ← decoded_variable_size_head false counts body rest
  entries ← child_decoding f Any body head.1
  map_over t head.0 entries

unfoldable pub fixed_size_list_decoding : TypeTree → FieldTree → ℕ → NodeCounts → List ℕ → Rest → Result (Layout × Rest) IpcReadError
fixed_size_list_decoding t f n counts body rest = do
  some ← check (nat_lt 0 n) TypeRange
  head ← decoded_validity_buffer counts body rest
  items ← child_decoding f (Exactly (counts.slots * n)) body head.1
  Ok (fixed_size_list t items.0 head.0, items.1)

unfoldable pub struct_decoding : TypeTree → FieldTrees → NodeCounts → List ℕ → Rest → Result (Layout × Rest) IpcReadError
struct_decoding t fs counts body rest = do
  some ← check (nat_lt 0 (count_fields fs)) TypeRange
  head ← decoded_validity_buffer counts body rest
  children ← children_decoding fs (Exactly counts.slots) body head.1
  Ok (struct t children.0 head.0, children.1)

unfoldable pub union_decoding : TypeTree → FieldTrees → Option (List ℤ) → UnionMode → NodeCounts → List ℕ → Rest → Result (Layout × Rest) IpcReadError
union_decoding t fs ids mode counts body rest = do
  formed ← check (nat_le (count_fields fs) most_fields && are_type_ids ids (count_fields fs)) TypeRange
  parts ← decoded_union_parts mode ids (count_fields fs) counts body rest
  children ← children_decoding fs (union_child_length mode counts.slots) body parts.1
  union_over t ids parts.0 children

-- ---- they are equal to `decoded_array`

-- the type that an extension type extends
abbrev pub inner_type : TypeTree → TypeTree
inner_type (types.extension x s m) = s
inner_type t = t

module _ (t : TypeTree) (counts : NodeCounts) (body : List ℕ) (rest : Rest) where
  pub inner_is : (s : TypeTree) → array_decoding t s counts body rest ≡ array_decoding t (inner_type s) counts body rest
  unfolding array_decoding
  inner_is (types.extension x s m) = refl
  inner_is s = refl

  pub list_is : (f : FieldTree) → array_decoding t (types.list f) counts body rest ≡ list_decoding false t f counts body rest
  unfolding array_decoding list_decoding child_decoding
  list_is f = refl

  pub large_list_is : (f : FieldTree) → array_decoding t (types.large_list f) counts body rest ≡ list_decoding true t f counts body rest
  unfolding array_decoding list_decoding child_decoding
  large_list_is f = refl

  pub map_is : (f : FieldTree) (b : Bool) → array_decoding t (types.map f b) counts body rest ≡ map_decoding t f b counts body rest
  unfolding array_decoding map_decoding child_decoding
  map_is f b = refl

  pub fixed_size_list_is : (f : FieldTree) (n : ℕ) → array_decoding t (types.fixed_size_list f n) counts body rest ≡ fixed_size_list_decoding t f n counts body rest
  unfolding array_decoding fixed_size_list_decoding child_decoding
  fixed_size_list_is f n = refl

  pub struct_is : (fs : FieldTrees) → array_decoding t (types.struct fs) counts body rest ≡ struct_decoding t fs counts body rest
  unfolding array_decoding struct_decoding children_decoding
  struct_is fs = refl

  pub union_is : (fs : FieldTrees) (ids : Option (List ℤ)) (mode : UnionMode) → array_decoding t (types.union fs ids mode) counts body rest ≡ union_decoding t fs ids mode counts body rest
  unfolding array_decoding union_decoding children_decoding
  union_is fs ids mode = refl

  pub flat_is : (s : TypeTree) → is_flat_type s ≡ true → array_decoding t s counts body rest ≡ decoded_flat (physical_type s) t counts body rest
  unfolding array_decoding
  flat_is (types.extension x s m) e = cc
  flat_is (types.list f) e = cc
  flat_is (types.large_list f) e = cc
  flat_is (types.fixed_size_list f n) e = cc
  flat_is (types.map f b) e = cc
  flat_is (types.struct fs) e = cc
  flat_is (types.union fs ids mode) e = cc
  flat_is s e = refl

-- the same for a type that is known by an equation
module _ (t s : TypeTree) (counts : NodeCounts) (body : List ℕ) (rest : Rest) where
  pub list_so : {f : FieldTree} {y : Layout × Rest} → list_decoding false t f counts body rest ≡ Ok y → s ≡ types.list f → array_decoding t s counts body rest ≡ Ok y
  list_so h e = ap (λ u. array_decoding t u counts body rest) e ∙ list_is t counts body rest _ ∙ h

  pub list_no : {f : FieldTree} {error : IpcReadError} → list_decoding false t f counts body rest ≡ Err error → s ≡ types.list f → array_decoding t s counts body rest ≡ Err error
  list_no h e = ap (λ u. array_decoding t u counts body rest) e ∙ list_is t counts body rest _ ∙ h

  pub large_list_so : {f : FieldTree} {y : Layout × Rest} → list_decoding true t f counts body rest ≡ Ok y → s ≡ types.large_list f → array_decoding t s counts body rest ≡ Ok y
  large_list_so h e = ap (λ u. array_decoding t u counts body rest) e ∙ large_list_is t counts body rest _ ∙ h

  pub large_list_no : {f : FieldTree} {error : IpcReadError} → list_decoding true t f counts body rest ≡ Err error → s ≡ types.large_list f → array_decoding t s counts body rest ≡ Err error
  large_list_no h e = ap (λ u. array_decoding t u counts body rest) e ∙ large_list_is t counts body rest _ ∙ h

  pub fixed_size_list_so : {f : FieldTree} {n : ℕ} {y : Layout × Rest} → fixed_size_list_decoding t f n counts body rest ≡ Ok y → s ≡ types.fixed_size_list f n → array_decoding t s counts body rest ≡ Ok y
  fixed_size_list_so h e = ap (λ u. array_decoding t u counts body rest) e ∙ fixed_size_list_is t counts body rest _ _ ∙ h

  pub fixed_size_list_no : {f : FieldTree} {n : ℕ} {error : IpcReadError} → fixed_size_list_decoding t f n counts body rest ≡ Err error → s ≡ types.fixed_size_list f n → array_decoding t s counts body rest ≡ Err error
  fixed_size_list_no h e = ap (λ u. array_decoding t u counts body rest) e ∙ fixed_size_list_is t counts body rest _ _ ∙ h

  pub map_so : {f : FieldTree} {b : Bool} {y : Layout × Rest} → map_decoding t f b counts body rest ≡ Ok y → s ≡ types.map f b → array_decoding t s counts body rest ≡ Ok y
  map_so h e = ap (λ u. array_decoding t u counts body rest) e ∙ map_is t counts body rest _ _ ∙ h

  pub map_no : {f : FieldTree} {b : Bool} {error : IpcReadError} → map_decoding t f b counts body rest ≡ Err error → s ≡ types.map f b → array_decoding t s counts body rest ≡ Err error
  map_no h e = ap (λ u. array_decoding t u counts body rest) e ∙ map_is t counts body rest _ _ ∙ h

  pub struct_so : {fs : FieldTrees} {y : Layout × Rest} → struct_decoding t fs counts body rest ≡ Ok y → s ≡ types.struct fs → array_decoding t s counts body rest ≡ Ok y
  struct_so h e = ap (λ u. array_decoding t u counts body rest) e ∙ struct_is t counts body rest _ ∙ h

  pub struct_no : {fs : FieldTrees} {error : IpcReadError} → struct_decoding t fs counts body rest ≡ Err error → s ≡ types.struct fs → array_decoding t s counts body rest ≡ Err error
  struct_no h e = ap (λ u. array_decoding t u counts body rest) e ∙ struct_is t counts body rest _ ∙ h

  pub union_so : {fs : FieldTrees} {ids : Option (List ℤ)} {mode : UnionMode} {y : Layout × Rest} → union_decoding t fs ids mode counts body rest ≡ Ok y → s ≡ types.union fs ids mode → array_decoding t s counts body rest ≡ Ok y
  union_so h e = ap (λ u. array_decoding t u counts body rest) e ∙ union_is t counts body rest _ _ _ ∙ h

  pub union_no : {fs : FieldTrees} {ids : Option (List ℤ)} {mode : UnionMode} {error : IpcReadError} → union_decoding t fs ids mode counts body rest ≡ Err error → s ≡ types.union fs ids mode → array_decoding t s counts body rest ≡ Err error
  union_no h e = ap (λ u. array_decoding t u counts body rest) e ∙ union_is t counts body rest _ _ _ ∙ h

  pub extension_so : {X : Type 0} (view : X → Layout × Rest) (result : Result X IpcReadError) (u : TypeTree) → ReturnsOrRunsOut view result (array_decoding t u counts body rest) → inner_type s ≡ u → ReturnsOrRunsOut view result (array_decoding t s counts body rest)
  extension_so view result u h e = subst (ReturnsOrRunsOut view result) (ap (λ v. array_decoding t v counts body rest) (sym e) ∙ sym (inner_is t counts body rest s)) h

pub item_opens : (f : FieldTree) (expected : ExpectedLength) (body : List ℕ) (rest : Rest) → child_decoding f expected body rest ≡ (decoded_node expected rest >>= λ node. array_decoding (field_type f) (field_type f) node.0 body node.1)
unfolding child_decoding array_decoding
item_opens (field x s b es) expected body rest = refl

pub column_opens : (t : TypeTree) (expected : ExpectedLength) (body : List ℕ) (rest : Rest) → decoded_column t expected body rest ≡ (decoded_node expected rest >>= λ node. array_decoding t t node.0 body node.1)
unfolding array_decoding
column_opens t expected body rest = refl

pub no_items : (expected : ExpectedLength) (body : List ℕ) (rest : Rest) → children_decoding no_fields expected body rest ≡ Ok (no_layouts, rest)
unfolding children_decoding
no_items expected body rest = refl

pub items_open : (f : FieldTree) (fs : FieldTrees) (expected : ExpectedLength) (body : List ℕ) (rest : Rest)
    → children_decoding (more_fields f fs) expected body rest ≡ (child_decoding f expected body rest >>= λ first. children_decoding fs expected body first.1 >>= λ others. Ok (more_layouts first.0 others.0, others.1))
unfolding children_decoding child_decoding
items_open f fs expected body rest = refl
