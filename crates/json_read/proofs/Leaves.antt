-- Slots without children: what a builder gained by them, and when they are none.
use Rattle.std.proofs.Common.{◌≡◌, true, false, refl, Result, Ok, Err, OnOk}
use Rattle.json.specs.Find.{is_null}
use Rattle.json.specs.Json as json
use Rattle.json.specs.Json.{Json}
use Rattle.nest_array.specs.SeenScalar.{shown_type}
use Rattle.json_read.specs.FlatValues.{flat_error}
use Rattle.json_read.specs.JsonSlots.{flat_value_error, values_physical_type}
use Rattle.json_read.specs.SlotAdded.{SlotAdded}
use Rattle.json_write.specs.Formats.{format_of_type}
use Rattle.nest_memory.specs.TypeTree.{TypeTree, size_of}
use Rattle.nest_model.specs.BuilderAppend.{Accepted}
use Rattle.nest_model.specs.BuilderAppendLaws.{type-accepted}
use Rattle.nest_model.specs.BuilderItem.{Item, slot_of_item}
use Rattle.nest_model.specs.BuilderTree.{BuilderTree}
use Rattle.json_write.proofs.TypeFormats.{shown-format-fits}
use Rattle.json_read.specs.FlatValues.{has_values_format}
use Rattle.nest_memory.specs.declared.datatypes.physical_type.PhysicalType.{PhysicalType}
use Rattle.nest_memory.specs.declared.datatypes.physical_type.PhysicalType.TheVariants as physical

-- the native values of a data type have its format
pub values-format : (t : TypeTree) → has_values_format (values_physical_type t) (format_of_type t) ≡ true
values-format t = go (values_physical_type t) refl
  where
    go : (p : PhysicalType) → values_physical_type t ≡ p → has_values_format p (format_of_type t) ≡ true
    go (physical.Primitive k) e = shown-format-fits t k e
    go p e = refl

pub took_one : (x : Item) (a b : BuilderTree) → Accepted x a b → SlotAdded (slot_of_item x) a b
took_one x a b h = record { last = h.last; complete = h.complete; same_type = type-accepted x a b h }

pub null_is : (j : Json) → is_null j ≡ true → j ≡ json.null
null_is json.null h = refl
null_is (json.boolean b) h = absurd (cc)
null_is (json.number s) h = absurd (cc)
null_is (json.string s) h = absurd (cc)
null_is (json.array js) h = absurd (cc)
null_is (json.object ms) h = absurd (cc)

pub fault_of_valid : (t : TypeTree) (j : Json) → is_null j ≡ false → flat_value_error t j ≡ flat_error (values_physical_type t) (size_of (shown_type t)) (format_of_type t) j
fault_of_valid t json.null h = absurd (cc)
fault_of_valid t (json.boolean b) h = refl
fault_of_valid t (json.number s) h = refl
fault_of_valid t (json.string s) h = refl
fault_of_valid t (json.array js) h = refl
fault_of_valid t (json.object ms) h = refl

-- what holds in any case holds of a success
pub on-ok : {A E : Type 0} {P : Type 0} (r : Result A E) → P → OnOk r P
on-ok (Ok x) p = p
on-ok (Err e) p = tt
