use Rattle.nest_flat.specs.AnyNative.{native_kind, native_numbers}
use Rattle.std.proofs.Common.{refl, ap, sym, ◌∙◌}
use Rattle.nest_flat.specs.Plain.{plain_value}
use Rattle.nest_build.proofs.FlatTrees.{null-holds, native-holds, native-read}
use Rattle.nest_build.proofs.flat.primitive.MutablePrimitiveArrayFlatBuilder.is_value.Goals as goal

pub returns-then-is_valid : goal.returns-then-is_valid
returns-then-is_valid g c =
    let a = c.args.self.now in
    let p = g.T.NativeType.PRIMITIVE in
    let read = native-read p g.T.NativeType.numbers a c.values.result.now.items c.args.i c.index.result.now (native_numbers c.to_any.result) c.known.ensures.kind c.values.ensures c.requires c.index.ensures c.to_any.ensures.same_numbers in
    native-holds p (native_kind c.in-Native.any) a c.args.i (plain_value c.args.value.now) (native_numbers c.in-Native.any) (native_numbers c.to_any.result) c.same_numbers.result
    c.known.ensures.fits c.known.ensures.kind c.requires (ap plain_value c.in-Native.is) (c.in-Some.ensures.kind.0 refl) (sym c.is_valid.ensures ∙ c.if-is_valid.true) read c.same_numbers.ensures

pub returns-else-is_valid : goal.returns-else-is_valid
returns-else-is_valid g c = null-holds c.args.self.now c.args.i (plain_value c.args.value.now) c.is_valid.result c.requires c.is_valid.ensures c.if-is_valid.false
