use Rattle.std.proofs.Common.{◌∙◌}
use Rattle.nest_concat.proofs.Wholes.{wholes-joined, wholes-laid, wholes-past, wholes-refused, wholes-room}
use Rattle.nest_concat.proofs.arrays.concatenate.Goals as goal

pub returns-clause-ok : goal.returns-clause-ok
returns-clause-ok c = wholes-joined c.join.result c.args.arrays.now c.deref.result.now (c.deref.ensures.value ∙ c.in_ok-windows.ensures.ok) c.join.ensures.ok

pub returns-clause-err : goal.returns-clause-err
returns-clause-err c = wholes-refused c.join.result c.args.arrays.now c.deref.result.now (c.deref.ensures.value ∙ c.in_ok-windows.ensures.ok) c.join.ensures.err

pub returns-clause-laid : goal.returns-clause-laid
returns-clause-laid c = wholes-laid c.join.result c.args.arrays.now c.deref.result.now (c.deref.ensures.value ∙ c.in_ok-windows.ensures.ok) c.join.ensures.laid

pub returns-clause-room : goal.returns-clause-room
returns-clause-room c = wholes-room c.join.result c.args.arrays.now c.deref.result.now (c.deref.ensures.value ∙ c.in_ok-windows.ensures.ok) c.join.ensures.room

pub returns-clause-past : goal.returns-clause-past
returns-clause-past c = wholes-past c.join.result c.args.arrays.now c.deref.result.now (c.deref.ensures.value ∙ c.in_ok-windows.ensures.ok) c.join.ensures.err
