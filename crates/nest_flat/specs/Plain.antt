-- The builder item that a borrowed plain value represents.
use Rattle.std.specs.Prelude.{Option, Some, None}
use Rattle.nest_model.specs.BuilderItem as items
use Rattle.nest_model.specs.BuilderItem.{PlainValue}
use Rattle.nest_flat.specs.AnyNative.{native_kind, native_numbers}
use Rattle.nest_flat.specs.declared.plain.Plain.{Plain}
use Rattle.nest_flat.specs.declared.plain.Plain.TheVariants as plains

abbrev pub plain_value : Plain → PlainValue
plain_value (plains.Boolean b) = items.boolean b
plain_value (plains.Native x) = items.native (native_kind x) (native_numbers x)
plain_value (plains.Text t) = items.utf8 t.now
plain_value (plains.Bytes b) = items.bytes b.now

-- the item of a value that may be null
abbrev pub plain_values : Option Plain → Option PlainValue
plain_values None = None
plain_values (Some p) = Some (plain_value p)
