-- The builder of the rows, and a row that is added.
use Rattle.std.proofs.Common.{◌≡◌, ◌+◌, ◌^◌, ◌<◌, ◌≤◌, false, List, [], ◌∷◌, ◌++◌, length, map, Option, Some, None, refl, ap, ◌∙◌, arith, ℤ}
use Rattle.nest_memory.specs.TypeTree as types
use Rattle.nest_memory.specs.TypeTree.{TypeTree}
use Rattle.nest_memory.specs.Physical.{physical_type}
use Rattle.nest_memory.specs.declared.datatypes.physical_type.PhysicalType.TheVariants as physical
use Rattle.nest_memory.specs.declared.datatypes.physical_type.PrimitiveType.TheVariants as primitives
use Rattle.nest_memory.specs.declared.error.Error.{Error}
use Rattle.nest_model.specs.BuilderAppend.{Accepted, appended}
use Rattle.nest_model.specs.BuilderAppendLaws.{appended-sealed, type-all_appended}
use Rattle.nest_model.specs.BuilderLevels.{own_slots}
use Rattle.nest_model.specs.BuilderRefusals.{item_refusal}
use Rattle.nest_model.specs.BuilderRow.{Row}
use Rattle.nest_model.specs.BuilderInput.{value_item}
use Rattle.nest_model.specs.BuilderTree.{BuilderTree, builder_type, flat, list}
use Rattle.nest_model.specs.Checks.{largest_length}
use Rattle.nest_model.specs.Layout.{Layout, layout_type}
use Rattle.nest_model.specs.Meaning.{slots_of}
use Rattle.nest_build.specs.Children.{list_child}
use Rattle.nest_build.specs.NumberRows.{number_row_fits, number_row_items, number_row_past}
use Rattle.nest_build.specs.Slices.{row_item, row_len}
use Rattle.listcut_rows.specs.RowsBuilder.{item_total, tree_of}
use Rattle.listcut_rows.specs.RowSlots.{optional_row_slot}
use Rattle.listcut_rows.proofs.ItemsOfRow.{int64_value, row-slot}

module _ (t : TypeTree) (rows : List Row) (items : Layout) (row : Option (List (Option ℤ))) (int64 : layout_type items ≡ types.int64) where
  number : physical_type (layout_type items) ≡ physical.Primitive primitives.Int64
  number = ap physical_type int64

  -- an accepted row is its slot, adds its items, and keeps their type
  pub row-last : (new : BuilderTree) → Accepted (row_item int64_value row) (tree_of t rows items) new → own_slots new ≡ own_slots (tree_of t rows items) ++ optional_row_slot row ∷ []
  row-last new a = a.last ∙ ap (λ s. own_slots (tree_of t rows items) ++ s ∷ []) (row-slot row)

  pub row-items : (new : BuilderTree) → Accepted (row_item int64_value row) (tree_of t rows items) new → item_total new ≡ item_total (tree_of t rows items) + row_len row
  row-items new a = number_row_items int64_value primitives.Int64 (λ x. refl) (layout_type items) number false t rows (slots_of items) row new a

  pub row-type : (new : BuilderTree) → Accepted (row_item int64_value row) (tree_of t rows items) new → builder_type (list_child new) ≡ types.int64
  row-type new a = ap (λ b. builder_type (list_child b)) a.exact ∙ by_row row ∙ int64
    where
      child : BuilderTree
      child = flat (layout_type items) (slots_of items)

      by_row : (r : Option (List (Option ℤ))) → builder_type (list_child (appended (row_item int64_value r) (list false t rows child))) ≡ layout_type items
      by_row None = refl
      by_row (Some xs) = ap builder_type (appended-sealed (map (value_item int64_value) xs) child) ∙ type-all_appended (map (value_item int64_value) xs) child

  -- which has its place; and a refused one, while rows have theirs, has none
  pub row-fits : item_total (tree_of t rows items) < 2 ^ 31 → item_refusal (row_item int64_value row) (tree_of t rows items) ≡ None → item_total (tree_of t rows items) + row_len row < 2 ^ 31
  row-fits few none = omega (arith, number_row_fits int64_value primitives.Int64 (λ x. refl) (layout_type items) number false t rows (slots_of items) row (omega (arith, few)) none)

  pub row-past : (e : Error) → item_total (tree_of t rows items) < 2 ^ 31 → length rows + 1 ≤ largest_length → item_refusal (row_item int64_value row) (tree_of t rows items) ≡ Some e → 2 ^ 31 ≤ item_total (tree_of t rows items) + row_len row
  row-past e few room some = omega (arith, (number_row_past int64_value primitives.Int64 (λ x. refl) (layout_type items) number false t rows (slots_of items) row e room (omega (arith, few)) some).1)
