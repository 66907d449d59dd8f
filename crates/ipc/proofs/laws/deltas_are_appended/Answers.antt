use Rattle.ipc.specs.DeltaLaws.{delta_joins, delta_slots, reads_more}
use Rattle.ipc.proofs.laws.deltas_are_appended.Goals as goal

pub returns-clause-joined : goal.returns-clause-joined
returns-clause-joined c = λ s t id old more there read. delta_joins s t id old more there read

pub returns-clause-slots : goal.returns-clause-slots
returns-clause-slots c = λ s t id old more one other there read. delta_slots s t id old more there read (λ same. c.joined_layouts_have_their_slots.ensures.two old more same one other)

pub returns-clause-files : goal.returns-clause-files
returns-clause-files c = λ s t m read. reads_more s t m read
