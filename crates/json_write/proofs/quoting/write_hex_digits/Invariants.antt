use Rattle.std.proofs.Common.{flat_map, take}
use Rattle.std.specs.Fmt.{HasWritten, IsPlainFormatter}
use Rattle.json_write.specs.JsonText.{hex_byte}
use Rattle.json_write.proofs.quoting.write_hex_digits.Given as goal

abbrev pub invariant-loop-byte : goal.invariant-loop-byte
invariant-loop-byte g l = IsPlainFormatter l.initial.f → HasWritten g.W.Write.write_str_gives l.initial.f (flat_map hex_byte (take l.byte-index l.bytes)) l.f
