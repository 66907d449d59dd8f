-- The parts of children that the slots of an array are in.
use Rattle.std.specs.Prelude.{ℕ, zero, suc, ◌+◌, ◌-◌, min, max, nat_eq, pos, Bool, false, List, [], ◌∷◌, Option, Some, None, get_or, if◌then◌else◌}
use Rattle.std.specs.List.{flat_map, range_with_len}
use Rattle.nest_memory.specs.TypeTree.{ids_of}
use Rattle.nest_model.specs.Accessors.{start_of, types_of, union_offsets_of}
use Rattle.nest_model.specs.Layout.{Layout, union, layout_type}
use Rattle.nest_model.specs.Meaning.{union_index}
use Rattle.nest_model.specs.Part.{field_named}

-- Union Layout: the field that slot i picks, and whether it is f
abbrev pub field_at : Layout → ℕ → Option ℕ
field_at a i = field_named (ids_of (layout_type a)) (get_or (types_of a) i (pos 0))

abbrev pub is_field : ℕ → Option ℕ → Bool
is_field f None = false
is_field f (Some g) = nat_eq f g

-- the index in field f of slot i, where the slot picks that field
abbrev pub pick_at : ℕ → Layout → ℕ → List ℕ
pick_at f a i = if is_field f (field_at a i) then union_index (union_offsets_of a) (start_of a) i ∷ [] else []

-- the indices in field f of the n slots from o on that pick it
abbrev pub picks_in : ℕ → Layout → ℕ → ℕ → List ℕ
picks_in f a o n = flat_map (pick_at f a) (range_with_len o n)

-- the lowest index, and one more than the highest
abbrev pub lowest : List ℕ → ℕ
lowest [] = 0
lowest (p ∷ []) = p
lowest (p ∷ q ∷ ps) = min p (lowest (q ∷ ps))

abbrev pub behind : List ℕ → ℕ
behind [] = 0
behind (p ∷ ps) = max (suc p) (behind ps)

-- the range from the lowest index to the highest: its start and its length
abbrev pub span_of : List ℕ → ℕ × ℕ
span_of ps = (lowest ps, behind ps - lowest ps)

-- The part of child f that the n slots from o on are in: its start and its length. Struct Layout: the same indices.
-- Union Layout, sparse: the same indices after the start of the union's window.
-- Union Layout, dense: from the lowest picked index to the highest.
abbrev pub part_of : ℕ → Layout → ℕ → ℕ → ℕ × ℕ
part_of f (union t ks cs None start) o zero = (0, 0)
part_of f (union t ks cs None start) o (suc n) = (start + o, suc n)
part_of f (union t ks cs (Some os) start) o n = span_of (picks_in f (union t ks cs (Some os) start) o n)
part_of f a o n = (o, n)
