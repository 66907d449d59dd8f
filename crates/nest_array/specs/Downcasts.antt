-- The results of downcasts of arrays.
use Rattle.std.specs.Prelude.{◌≡◌, ◌≢◌}
use Rattle.nest_memory.specs.declared.datatypes.physical_type.PhysicalType.{PhysicalType}
use Rattle.nest_memory.specs.Physical.{physical_type}
use Rattle.nest_model.specs.Layout.{Layout, layout_type}
use Rattle.nest_array.specs.Kinds.{IsPrimitive, IsKeyed}

-- the array's data type has this physical type
abbrev pub HasKind : PhysicalType → Layout → Type 0
HasKind k a = physical_type (layout_type a) ≡ k

-- the array has this physical type, and b is its parts
abbrev pub IsDowncast : PhysicalType → Layout → Layout → Type 0
IsDowncast k a b = (physical_type (layout_type a) ≡ k) × (b ≡ a)

-- the array has another physical type, and b is the unchanged array
abbrev pub IsOtherKind : PhysicalType → Layout → Layout → Type 0
IsOtherKind k a b = (physical_type (layout_type a) ≢ k) × (b ≡ a)

-- the array is primitive, of any native type, and b is its parts; else b is the unchanged array
abbrev pub IsAnyPrimitive : Layout → Layout → Type 0
IsAnyPrimitive a b = IsPrimitive (physical_type (layout_type a)) × (b ≡ a)

abbrev pub IsNotPrimitive : Layout → Layout → Type 0
IsNotPrimitive a b = ¬ IsPrimitive (physical_type (layout_type a)) × (b ≡ a)
