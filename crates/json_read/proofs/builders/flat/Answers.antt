use Rattle.std.proofs.Common.{◌≡◌, ◌∙◌, ◌%◌, sym, arith}
use Rattle.std.proofs.Math.Nat.{mod-le}
use Rattle.nest_any.specs.Words.{physical_type, type_of}
use Rattle.nest_memory.specs.TypeTree.{size_of}
use Rattle.nest_memory.specs.declared.datatypes.physical_type.PhysicalType.TheVariants as physical
use Rattle.json_read.proofs.EmptyLaws.{bytes-size, no-float, some-fields}
use Rattle.json_read.proofs.builders.flat.Goals as goal

pub natives-requires-clause-native : goal.natives-requires-clause-native
natives-requires-clause-native c = no-float c.in-Primitive.kind (type_of c.args.data_type.now) (sym c.to_physical_type.ensures ∙ c.in-Primitive.is) c.requires.supported

pub bytes-requires : goal.bytes-requires
bytes-requires c =
    let a = type_of c.args.data_type.now in
    let kind : physical_type a ≡ physical.FixedSizeBinary = sym c.to_physical_type.ensures ∙ c.in-FixedSizeBinary.is in
    let none : 0 % size_of a ≡ 0 = omega (arith, mod-le 0 (size_of a)) in
    (kind, (some-fields (size_of a) (bytes-size a kind c.requires.supported), (none, (tt, tt))))
