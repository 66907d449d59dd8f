use Rattle.std.proofs.Common.{FitsSigned, IsTrue, subst, w32}
use Rattle.std.specs.Option.{SomeIff}
use Rattle.json_write.specs.Times.{is_time_of_day, time_text, unit_digits}
use Rattle.json_write.proofs.TimeFacts.{time_injective}
use Rattle.json_read.proofs.NumberReading.{back-64, narrow-such}
use Rattle.json_read.proofs.texts.time_32.Goals as goal

pub returns : goal.returns
returns c =
    let k = unit_digits c.args.unit in
    let read = c.in_ok-value.ensures in
    narrow-such (time_text k) w32 (λ z. IsTrue (is_time_of_day k z)) c.args.text.now c.in_ok-value.value (time_injective k) read.1 read.0.1 c.i64_to_i32.result
    (subst (λ z. SomeIff c.i64_to_i32.result (FitsSigned w32 z) z) (back-64 c.in_ok-value.value read.0.0) c.i64_to_i32.ensures)
