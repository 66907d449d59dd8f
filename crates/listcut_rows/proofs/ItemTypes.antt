-- The item type of a list.
use Rattle.std.specs.Prelude.{false, Some}
use Rattle.std.proofs.Common.{◌≡◌, sym, ◌∙◌, subst}
use Rattle.std.proofs.lemmas.Option.{same_Some}
use Rattle.nest_memory.specs.TypeTree.{TypeTree, item_type}
use Rattle.nest_model.specs.Layout as layouts
use Rattle.nest_model.specs.Layout.{Layout, layout_type}
use Rattle.nest_model.specs.Accessors.{offsets_of, child_of, validity_of}
use Rattle.nest_model.specs.Array.{TopFits}

-- the items of lists have the item type
pub items-typed : (a : Layout) (t : TypeTree) → a ≡ layouts.list false (layout_type a) (offsets_of a) (child_of a) (validity_of a) → TopFits a → item_type (layout_type a) ≡ Some t → layout_type (child_of a) ≡ t
items-typed a t k f e = let g = subst TopFits k f in same_Some _ _ (sym g.1.1.1.1.0 ∙ e)
