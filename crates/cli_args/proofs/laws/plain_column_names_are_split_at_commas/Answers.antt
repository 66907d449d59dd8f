use Rattle.std.proofs.Common.{length, suc, arith}
use Rattle.cli_args.proofs.NameLists.{plain-names}
use Rattle.cli_args.proofs.laws.plain_column_names_are_split_at_commas.Goals as goal

pub returns : goal.returns
returns c = plain-names (length c.args.text.now) (suc (length c.args.text.now)) c.args.text.now (omega arith) c.requires
