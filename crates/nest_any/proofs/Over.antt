-- What the rows of lists need of their child.
use Rattle.std.proofs.Common.{◌≡◌, ℕ, suc, ◌≤◌, sym, ap, ◌∙◌, arith}
use Rattle.std.specs.Prelude.{Some}
use Rattle.std.proofs.Math.Nat.{mul-le-mul_right}
use Rattle.nest_memory.specs.TypeTree.{size_of}
use Rattle.nest_model.specs.Layout.{Layout, layout_type}
use Rattle.nest_model.specs.Meaning.{slots_of}
use Rattle.nest_model.specs.BuilderLevels.{own_slots}
use Rattle.nest_model.specs.BuilderTree.{BuilderTree, flat, list, fixed_size_list, dictionary, struct, builder_len, builder_type}
use Rattle.nest_model.specs.BuilderComplete.{IsComplete, emptied}
use Rattle.nest_model.specs.BuilderRowLaws.{end_from-front}
use Rattle.nest_any.specs.declared.rows.TypedRows.{TypedRows}
use Rattle.nest_any.specs.declared.rows.TypedRows.TheVariants.{List, LargeList, FixedSizeList}
use Rattle.nest_any.proofs.Frozen.{frozen-len}
use Rattle.nest_any.specs.BuilderCode.{weight}
use Rattle.nest_any.specs.TypedRows.{lists_over, items_needed, HasItems}

pub child-complete : (r : TypedRows) (c : BuilderTree) → IsComplete (lists_over r c) → IsComplete c
child-complete (List t rows) c w = w.0
child-complete (LargeList t rows) c w = w.0
child-complete (FixedSizeList t bits) c w = w.0

pub needed-within : (r : TypedRows) (c : BuilderTree) (n : ℕ) → IsComplete (lists_over r c) → n ≤ builder_len (lists_over r c) → items_needed r n ≤ builder_len c
needed-within (List t rows) c n w l = omega (arith, w.2, end_from-front 0 rows n w.3)
needed-within (LargeList t rows) c n w l = omega (arith, w.2, end_from-front 0 rows n w.3)
needed-within (FixedSizeList t bits) c n w l = omega (arith, w.2, mul-le-mul_right (size_of t) l)

pub weight-over : (r : TypedRows) (c : BuilderTree) → weight (lists_over r c) ≡ suc (weight c)
weight-over (List t rows) c = omega arith
weight-over (LargeList t rows) c = omega arith
weight-over (FixedSizeList t bits) c = omega arith

-- no rows are left
pub emptied_none : (t new : BuilderTree) → new ≡ emptied t → builder_len new ≡ 0
emptied_none (flat t xs) new e = ap builder_len e
emptied_none (list large t rows c) new e = ap builder_len e
emptied_none (fixed_size_list t bits c) new e = ap builder_len e
emptied_none (dictionary k t keys c) new e = ap builder_len e
emptied_none (struct t bits cs) new e = ap builder_len e

-- the child's array has the items of the rows
pub has-items : (r : TypedRows) (c : BuilderTree) (a : Layout) → IsComplete (lists_over r c) → slots_of a ≡ own_slots c → layout_type a ≡ builder_type c → HasItems r a
has-items (List t rows) c a w s k = (w.1 ∙ ap Some (sym k), omega (arith, frozen-len a c s, w.2))
has-items (LargeList t rows) c a w s k = (w.1 ∙ ap Some (sym k), omega (arith, frozen-len a c s, w.2))
has-items (FixedSizeList t bits) c a w s k = (w.1 ∙ ap Some (sym k), frozen-len a c s ∙ w.2)
