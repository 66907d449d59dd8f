use Rattle.std.proofs.Common.{refl}
use Rattle.std.specs.Prelude.{string_bytes}
use Rattle.std.proofs.lemmas.Result.{IfOk-weaker}
use Rattle.cli_args.proofs.Quotes.{replaced}
use Rattle.cli_args.proofs.condition_parser.undoubled_name.Goals as goal

pub returns : goal.returns
returns c = IfOk-weaker c.replace.result _ _ (λ s h. replaced 34 h.0 _ c.args.raw.now (string_bytes s) refl h.1) c.replace.ensures.ok
