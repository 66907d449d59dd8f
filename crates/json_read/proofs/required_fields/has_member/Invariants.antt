use Rattle.std.proofs.Common.{◌≡◌, drop}
use Rattle.json.specs.Value.{members_view}
use Rattle.json_read.specs.RequiredFields.{has_name}
use Rattle.json_read.proofs.required_fields.has_member.Given as goal

abbrev pub invariant-loop-member : goal.invariant-loop-member
invariant-loop-member l = has_name l.name (members_view l.members) ≡ has_name l.name (members_view (drop l.member-index l.members))
