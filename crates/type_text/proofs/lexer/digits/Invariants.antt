use Rattle.std.proofs.Common.{◌≡◌, ◌+◌, drop}
use Rattle.std.specs.Char.{is_ascii_digit}
use Rattle.std.specs.List.{prefix_len}
use Rattle.type_text.proofs.lexer.digits.Given as goal

abbrev pub invariant-loop-byte : goal.invariant-loop-byte
invariant-loop-byte l = (l.count ≡ l.byte-index) × (l.byte-index + prefix_len is_ascii_digit (drop l.byte-index l.bytes) ≡ prefix_len is_ascii_digit l.bytes)
