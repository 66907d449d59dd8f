use Rattle.ipc.specs.PendingExamples.{own_ids, ids_inside, all_ids}
use Rattle.ipc.proofs.dictionaries.examples.ids_are_in_pre_order.Goals as goal

pub returns-clause-own : goal.returns-clause-own
returns-clause-own c = own_ids

pub returns-clause-inside : goal.returns-clause-inside
returns-clause-inside c = ids_inside

pub returns-clause-all : goal.returns-clause-all
returns-clause-all c = all_ids
