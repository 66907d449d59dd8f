use Rattle.std.proofs.Common.{◌+◌, ap}
use Rattle.nest_model.specs.SlotLaws.{count_within-seal, node_counts-append, length-node_counts}
use Rattle.nest_model.proofs.slots.nodes.Goals as goal

pub returns-clause-of_list : goal.returns-clause-of_list
returns-clause-of_list c = λ ss. ap (λ n. 1 + n) (count_within-seal ss)

pub returns-clause-of_record : goal.returns-clause-of_record
returns-clause-of_record c = λ ss. ap (λ n. 1 + n) (count_within-seal ss)

pub returns-clause-joined : goal.returns-clause-joined
returns-clause-joined c = node_counts-append

pub returns-clause-at_least : goal.returns-clause-at_least
returns-clause-at_least c = length-node_counts
