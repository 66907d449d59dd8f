-- Type ids of unions, and the checks that the parts of a union pass before its offsets are checked.
use Rattle.std.specs.Prelude.{◌≡◌, ◌≤◌, ℕ, ℤ, pos, negsuc, Bool, false, List, length, get_or, Option, Some, None, is_some}
use Rattle.std.specs.Global.{Vec}
use Rattle.std.specs.Option.{option_map}
use Rattle.nest_memory.specs.Physical.{physical_type}
use Rattle.nest_memory.specs.TypeTree.{TypeTree, count_fields, fields_of, ids_of, is_dense}
use Rattle.nest_memory.specs.declared.datatypes.physical_type.PhysicalType.TheVariants as physical
use Rattle.nest_model.specs.Checks.{most_fields, type_count}
use Rattle.nest_model.specs.Fits.{EachType, EachCovers, IdsCount, IdsInRange, EachMeansField, OffsetsCount, OffsetsByMode}
use Rattle.nest_model.specs.Layout.{Layouts, count_layouts}
use Rattle.nest_model.specs.Part.{last_position}

-- the type ids of a union type, as the code holds them
abbrev pub type_ids : Option (Vec ℤ) → Option (List ℤ)
type_ids ids = option_map (λ v. v.items) ids

-- a mark for each type from 0 to 127: whether it is one of the ids
pub record MarksTypeIds (marks : List Bool) (ids : List ℤ) : Type 0 where
  pub size : length marks ≡ type_count
  pub each : (k : ℕ) → get_or marks k false ≡ is_some (last_position ids (pos k))

abbrev pub is_marked_type : List Bool → ℤ → Bool
is_marked_type marks (pos k) = get_or marks k false
is_marked_type marks (negsuc k) = false

-- each child of a sparse union is at least as long as the union
abbrev pub CoversIfSparse : Option (List ℤ) → Layouts → ℕ → Type 0
CoversIfSparse None cs n = EachCovers cs n
CoversIfSparse (Some os) cs n = Unit {0}

-- the parts of a union pass every check, except that the offsets of a dense union are not checked
pub record PassesUnionChecks (t : TypeTree) (ks : List ℤ) (cs : Layouts) (os : Option (List ℤ)) : Type 0 where
  pub kind : physical_type t ≡ physical.Union
  pub count : count_layouts cs ≡ count_fields (fields_of t)
  pub few : count_layouts cs ≤ most_fields
  pub typed : EachType (fields_of t) cs
  pub offsets : OffsetsCount os (length ks)
  pub mode : OffsetsByMode os (is_dense t)
  pub ids : IdsCount (ids_of t) (count_layouts cs)
  pub range : IdsInRange (ids_of t)
  pub types : EachMeansField (ids_of t) ks (count_layouts cs)
  pub covers : CoversIfSparse os cs (length ks)
