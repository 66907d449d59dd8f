use Rattle.listcut_rows.proofs.ParsedDigits.{ReadSoFar}
use Rattle.listcut_rows.proofs.numbers.parse_unsigned.Given as goal

abbrev pub invariant-digits : goal.invariant-digits
invariant-digits l = ReadSoFar l.digits l.c-index l.value
