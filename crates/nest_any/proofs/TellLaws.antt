-- Adding a row to a list builder, from adding it to its rows over the child.
use Rattle.std.specs.Prelude.{OnOk, Result, Ok, Err}
use Rattle.std.proofs.Common.{◌≡◌, Bool, false, refl, sym, subst}
use Rattle.nest_model.specs.Checks.{Pass}
use Rattle.nest_model.specs.BuilderTree.{BuilderTree, builder_len}
use Rattle.nest_model.specs.BuilderItem.{PlainValue, takes}
use Rattle.nest_model.specs.BuilderComplete.{IsComplete}
use Rattle.nest_model.specs.BuilderAddRow.{RowAdded, with_row, HasCompleteChildren, row_checks}
use Rattle.nest_model.specs.BuilderAddRowLaws.{with_row-ready}
use Rattle.nest_model.specs.BuilderRowCheckLaws.{pass-ready}
use Rattle.nest_build.specs.Children.{list_child}
use Rattle.nest_any.specs.declared.rows.TypedRows.{TypedRows}
use Rattle.nest_any.specs.declared.rows.TypedRows.TheVariants.{List, LargeList, FixedSizeList}
use Rattle.nest_any.specs.TypedRows.{lists_over, rows_len}

pub rows-count : (r : TypedRows) (c : BuilderTree) → rows_len r ≡ builder_len (lists_over r c)
rows-count (List t rows) c = refl
rows-count (LargeList t rows) c = refl
rows-count (FixedSizeList t bits) c = refl

pub child-over : (r : TypedRows) (c : BuilderTree) → list_child (lists_over r c) ≡ c
child-over (List t rows) c = refl
child-over (LargeList t rows) c = refl
child-over (FixedSizeList t bits) c = refl

pub takes-none : (r : TypedRows) (c : BuilderTree) (v : PlainValue) → takes (lists_over r c) v ≡ false
takes-none (List t rows) c v = refl
takes-none (LargeList t rows) c v = refl
takes-none (FixedSizeList t bits) c v = refl

pub child_is_complete : (r : TypedRows) (c : BuilderTree) → HasCompleteChildren (lists_over r c) → IsComplete c
child_is_complete (List t rows) c w = w.0
child_is_complete (LargeList t rows) c w = w.0
child_is_complete (FixedSizeList t bits) c w = w

-- a row is added if no check fails
pub row_told : (valid : Bool) (r s : TypedRows) (c old : BuilderTree) → lists_over r c ≡ old → HasCompleteChildren old → lists_over s c ≡ with_row valid (lists_over r c) → Pass (row_checks (lists_over r c)) → RowAdded valid old (lists_over s c)
row_told valid r s c old v w e p =
    let t = lists_over r c in
    subst (λ x. RowAdded valid x (lists_over s c)) v (subst (RowAdded valid t) (sym e) (with_row-ready valid t (pass-ready t (subst HasCompleteChildren (sym v) w) p).0))

pub on_ok_both : {T E : Type 0} {A B C : Type 0} (r : Result T E) → (A → B → C) → OnOk r A → OnOk r B → OnOk r C
on_ok_both (Ok x) f a b = f a b
on_ok_both (Err e) f a b = tt
