use Rattle.std.proofs.Common.{◌≡◌, ◌^◌, ◌<◌, take}
use Rattle.json_write.specs.Digits.{last_digits}
use Rattle.json_write.proofs.value_text.reading.digits_number.Given as goal

abbrev pub invariant-scan : goal.invariant-scan
invariant-scan l = (l.number < 10 ^ l.digit-index) × (take l.digit-index l.digits ≡ last_digits l.digit-index l.number)
