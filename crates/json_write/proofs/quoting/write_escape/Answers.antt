use Rattle.std.proofs.Common.{rules, arith, ap, sym}
use Rattle.std.proofs.Output.{has_written_append, has_written_of_eq}
use Rattle.json.specs.Print.{escape_byte}
use Rattle.json_write.proofs.Escapes.{escape-control}
use Rattle.json_write.proofs.quoting.write_escape.Goals as goal

pub returns-in-34 : goal.returns-in-34
unfolding escape_byte
returns-in-34 g c plain ok = has_written_of_eq _ _ _ _ _ (ap escape_byte (sym c.in-34.is)) (search rules)

pub returns-in-92 : goal.returns-in-92
unfolding escape_byte
returns-in-92 g c plain ok = has_written_of_eq _ _ _ _ _ (ap escape_byte (sym c.in-92.is)) (search rules)

pub returns-in-8 : goal.returns-in-8
unfolding escape_byte
returns-in-8 g c plain ok = has_written_of_eq _ _ _ _ _ (ap escape_byte (sym c.in-8.is)) (search rules)

pub returns-in-12 : goal.returns-in-12
unfolding escape_byte
returns-in-12 g c plain ok = has_written_of_eq _ _ _ _ _ (ap escape_byte (sym c.in-12.is)) (search rules)

pub returns-in-10 : goal.returns-in-10
unfolding escape_byte
returns-in-10 g c plain ok = has_written_of_eq _ _ _ _ _ (ap escape_byte (sym c.in-10.is)) (search rules)

pub returns-in-13 : goal.returns-in-13
unfolding escape_byte
returns-in-13 g c plain ok = has_written_of_eq _ _ _ _ _ (ap escape_byte (sym c.in-13.is)) (search rules)

pub returns-in-9 : goal.returns-in-9
unfolding escape_byte
returns-in-9 g c plain ok = has_written_of_eq _ _ _ _ _ (ap escape_byte (sym c.in-9.is)) (search rules)

pub returns-in_ok-write_str-in_default : goal.returns-in_ok-write_str-in_default
returns-in_ok-write_str-in_default g c plain ok =
    let one = c.write_str-in_default.ensures.writes plain (search rules) in
    let two = c.write_hex.ensures one.plain ok in
    let apart = c.in_default in
    has_written_of_eq _ _ _ _ _ (escape-control c.args.byte c.requires (λ e. omega (arith, apart)) (λ e. omega (arith, apart)) (λ e. omega (arith, apart)) (λ e. omega (arith, apart)) (λ e. omega (arith, apart)) (λ e. omega (arith, apart)) (λ e. omega (arith, apart)))
    (has_written_append _ _ _ _ _ _ one two)
