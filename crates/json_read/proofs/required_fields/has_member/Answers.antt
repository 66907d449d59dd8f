use Rattle.std.proofs.Common.{◌∙◌, sym, arith}
use Rattle.json_read.proofs.RequiredLaws.{name-at}
use Rattle.json_read.proofs.required_fields.has_member.Goals as goal

pub returns-then-is_same : goal.returns-then-is_same
returns-then-is_same c = sym (name-at c.args.members.now c.args.at c.index-members-at.result c.args.name.now (omega arith) (sym c.is_same.ensures ∙ c.if-is_same.true))
