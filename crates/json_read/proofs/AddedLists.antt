-- Rows of items that were added over the pending items.
use Rattle.std.proofs.Common.{◌≡◌, ℕ, zero, suc, ◌*◌, true, List, [], ◌∷◌, ◌++◌, length, drop, refl, sym, ap, ◌∙◌, arith}
use Rattle.json_read.specs.SlotAdded.{SlotAdded, SlotsAdded}
use Rattle.nest_build.specs.Children.{list_child, with_items}
use Rattle.nest_any.specs.Refusals.{IsListBuilder}
use Rattle.nest_memory.specs.TypeTree.{size_of}
use Rattle.nest_model.specs.BuilderLevels.{own_slots}
use Rattle.nest_model.specs.BuilderLevelLaws.{own-length, items-longer, size-longer}
use Rattle.nest_model.specs.BuilderRow.{end_from}
use Rattle.nest_model.specs.BuilderTree.{BuilderTree, flat, list, fixed_size_list, dictionary, struct, builder_type}
use Rattle.nest_model.specs.BuilderAddRow.{RowAdded, HasCompleteChildren}
use Rattle.nest_model.specs.BuilderComplete.{IsComplete}
use Rattle.nest_model.specs.Slot as slots
use Rattle.nest_model.specs.Slot.{Slot, seal}

drop-front : (xs ys : List Slot) (n : ℕ) → n ≡ length xs → drop n (xs ++ ys) ≡ ys
drop-front [] ys zero e = refl
drop-front [] ys (suc n) e = absurd (omega (arith, e))
drop-front (x ∷ xs) ys zero e = absurd (omega (arith, e))
drop-front (x ∷ xs) ys (suc n) e = drop-front xs ys n (omega (arith, e))

pub tells : (b d : BuilderTree) → IsListBuilder b → IsComplete b → IsComplete d → HasCompleteChildren (with_items b d)
tells (flat t xs) d k w v = absurd k
tells (list large t rows c) d k w v = (v, w.3)
tells (fixed_size_list t bits c) d k w v = v
tells (dictionary i t keys c) d k w v = absurd k
tells (struct t bits cs) d k w v = absurd k

-- a list added over more items is the list of these
pub list-added : (ss : List Slot) (b d new : BuilderTree) → IsListBuilder b → IsComplete b → SlotsAdded ss (list_child b) d → RowAdded true (with_items b d) new → SlotAdded (slots.list (seal ss)) b new
list-added ss (flat t xs) d new k w h q = absurd k
list-added ss (list large t rows c) d new k w h q =
    let at_end : end_from 0 rows ≡ length (own_slots c) = sym w.2 ∙ sym (own-length c) in
    record {
      last = q.last ∙ rw (h.last, drop-front (own_slots c) ss (end_from 0 rows) at_end, items-longer 0 rows (own_slots c) ss w.3 (omega (arith, at_end))) refl;
      complete = q.complete;
      same_type = ap builder_type q.exact;
    }
list-added ss (fixed_size_list t bits c) d new k w h q =
    let at_end : length bits * size_of t ≡ length (own_slots c) = sym w.2 ∙ sym (own-length c) in
    record {
      last = q.last ∙ rw (h.last, drop-front (own_slots c) ss (length bits * size_of t) at_end, size-longer 0 (size_of t) bits (own_slots c) ss (omega (arith, at_end))) refl;
      complete = q.complete;
      same_type = ap builder_type q.exact;
    }
list-added ss (dictionary i t keys c) d new k w h q = absurd k
list-added ss (struct t bits cs) d new k w h q = absurd k
