-- Rows of items of a child: their ranges and their slots (this library's own).
use Rattle.std.specs.Prelude.{◌≡◌, ℕ, suc, ◌+◌, ◌-◌, ◌*◌, ◌≤◌, ◌<◌, true, get_or, Option, Some, None}
use Rattle.nest_memory.specs.TypeTree.{logical_type, size_of}
use Rattle.nest_model.specs.Accessors.{validity_of, offsets_of, child_of}
use Rattle.nest_model.specs.Layout.{Layout, Layouts, fixed_size_list, no_layouts, more_layouts, layout_type}
use Rattle.nest_model.specs.Meaning.{run, len, slot}
use Rattle.nest_model.specs.Part.{Validity, valid_at}
use Rattle.nest_model.specs.Slot as slots
use Rattle.nest_model.specs.Slot.{Slot, seal, node_counts}

-- the range, an offset and a number of items, is within n items
abbrev pub IsWithin : Option (ℕ × ℕ) → ℕ → Type 0
IsWithin None n = Unit {0}
IsWithin (Some r) n = r.0 + r.1 ≤ n

-- null, or the list of the items in the range
abbrev pub row_slot : Layout → Option (ℕ × ℕ) → Slot
row_slot c None = slots.null
row_slot c (Some r) = slots.list (seal (run (slot c) r.0 r.1))

-- the data types are equal apart from outer extensions
abbrev pub Alike : Layout → Layout → Type 0
Alike a b = logical_type (layout_type a) ≡ logical_type (layout_type b)

-- the n slots from index o are valid
abbrev pub EachValid : Validity → ℕ → ℕ → Type 0
EachValid va o n = (j : ℕ) → j < n → valid_at va (o + j) ≡ true

-- the offset of the items of list i, which is the end of the list before it
abbrev pub bound_of : Layout → ℕ → ℕ
bound_of (fixed_size_list t c va) i = i * size_of t
bound_of a i = get_or (offsets_of a) i 0

-- properties of an array of lists: bounds never decrease and end within the items;
-- a valid list has the items between its bound and the next
pub record AreRows (a : Layout) : Type 0 where
  pub rises : (i : ℕ) → i < len a → bound_of a i ≤ bound_of a (suc i)
  pub ends : bound_of a (len a) ≤ len (child_of a)
  pub shown : (i : ℕ) → i < len a → valid_at (validity_of a) i ≡ true → slot a i ≡ slots.list (seal (run (slot (child_of a)) (bound_of a i) (bound_of a (suc i) - bound_of a i)))

-- the n lists from index o have as many items each as those from index p
abbrev pub SameBounds : Layout → ℕ → Layout → ℕ → ℕ → Type 0
SameBounds a o b p n = (j : ℕ) → j ≤ n → bound_of a (o + j) + bound_of b p ≡ bound_of b (p + j) + bound_of a o

-- as many children, of the same data types in order
abbrev pub SameTypes : Layouts → Layouts → Type 0
SameTypes no_layouts no_layouts = Unit {0}
SameTypes no_layouts (more_layouts d ds) = ⊥
SameTypes (more_layouts c cs) no_layouts = ⊥
SameTypes (more_layouts c cs) (more_layouts d ds) = (layout_type c ≡ layout_type d) × SameTypes cs ds

-- as many children, and the n slots of each from index o equal those of the other from index p
abbrev pub SameChildren : Layouts → ℕ → Layouts → ℕ → ℕ → Type 0
SameChildren no_layouts o no_layouts p n = Unit {0}
SameChildren no_layouts o (more_layouts d ds) p n = ⊥
SameChildren (more_layouts c cs) o no_layouts p n = ⊥
SameChildren (more_layouts c cs) o (more_layouts d ds) p n = (run (slot c) o n ≡ run (slot d) p n) × SameChildren cs o ds p n

-- the node count of the n slots from index o of all children
abbrev pub children_nodes : Layouts → ℕ → ℕ → ℕ
children_nodes no_layouts o n = 0
children_nodes (more_layouts c cs) o n = node_counts (run (slot c) o n) + children_nodes cs o n
