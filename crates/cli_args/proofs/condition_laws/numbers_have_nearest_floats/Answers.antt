use Rattle.std.proofs.Common.{refl}
use Rattle.std.specs.Float.Ieee.{to_bits}
use Rattle.std.specs.Fmt.{digits}
use Rattle.std.proofs.lemmas.Float.Parse.{parse_float_on_literals}
use Rattle.cli_args.proofs.condition_laws.numbers_have_nearest_floats.Goals as goal

pub returns-clause-double : goal.returns-clause-double
unfolding parse_float_on_literals to_bits digits
returns-clause-double c = refl

pub returns-clause-single : goal.returns-clause-single
unfolding parse_float_on_literals to_bits digits
returns-clause-single c = refl

pub returns-clause-tenth : goal.returns-clause-tenth
unfolding parse_float_on_literals to_bits digits
returns-clause-tenth c = refl

pub returns-clause-tenth_single : goal.returns-clause-tenth_single
unfolding parse_float_on_literals to_bits digits
returns-clause-tenth_single c = refl

pub returns-clause-tie : goal.returns-clause-tie
unfolding parse_float_on_literals to_bits digits
returns-clause-tie c = refl

pub returns-clause-negative : goal.returns-clause-negative
unfolding parse_float_on_literals to_bits digits
returns-clause-negative c = refl
