use Rattle.std.proofs.Common.{◌≡◌, true, sym, subst}
use Rattle.json_write.specs.Formats.{has_format}
use Rattle.json_write.proofs.flat.write_any_primitive_as.Goals as goal

pub write_native-requires : goal.write_native-requires
write_native-requires g c = subst (λ k. has_format k c.args.format ≡ true) (sym c.value.ensures.kind) c.requires.format
