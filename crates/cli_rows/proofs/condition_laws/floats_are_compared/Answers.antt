use Rattle.std.proofs.Common.{refl}
use lib.Ieee.{eq, lt, of_bits, to_bits}
use Rattle.cli_rows.proofs.condition_laws.floats_are_compared.Goals as goal

pub returns-clause-double : goal.returns-clause-double
unfolding of_bits lt eq to_bits
returns-clause-double c = refl

pub returns-clause-next : goal.returns-clause-next
unfolding of_bits lt eq to_bits
returns-clause-next c = refl

pub returns-clause-single : goal.returns-clause-single
unfolding of_bits lt eq to_bits
returns-clause-single c = refl

pub returns-clause-half : goal.returns-clause-half
unfolding of_bits lt eq to_bits
returns-clause-half c = refl

pub returns-clause-zero : goal.returns-clause-zero
unfolding of_bits lt eq to_bits
returns-clause-zero c = refl

pub returns-clause-negative : goal.returns-clause-negative
unfolding of_bits lt eq to_bits
returns-clause-negative c = refl

pub returns-clause-nan_equal : goal.returns-clause-nan_equal
unfolding of_bits lt eq to_bits
returns-clause-nan_equal c = refl

pub returns-clause-nan_other : goal.returns-clause-nan_other
unfolding of_bits lt eq to_bits
returns-clause-nan_other c = refl

pub returns-clause-nan_less : goal.returns-clause-nan_less
unfolding of_bits lt eq to_bits
returns-clause-nan_less c = refl

pub returns-clause-nan_more : goal.returns-clause-nan_more
unfolding of_bits lt eq to_bits
returns-clause-nan_more c = refl

pub returns-clause-infinity : goal.returns-clause-infinity
unfolding of_bits lt eq to_bits
returns-clause-infinity c = refl
