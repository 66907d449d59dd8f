use Rattle.json_write.proofs.value_text.digits.+write_last_digits.Given as goal

abbrev pub decreases-write_last_digits : goal.decreases-write_last_digits
decreases-write_last_digits g l = l.count
