use Rattle.std.proofs.Common.{◌∙◌, arith}
use Rattle.ipc_schema.proofs.Supported.{nothing_found, one_before, none_before}
use Rattle.ipc_schema.proofs.field_support.first_of.Goals as goal

pub loop-field-init : goal.loop-field-init
loop-field-init c = nothing_found c.args.fields.items

pub loop-field-preserved : goal.loop-field-preserved
loop-field-preserved c = rw c.or-first.ensures (one_before c.loop-field.fields.items c.pop.new.self.items c.in-Some.field c.loop-field.first c.in-Some.ensures.items ∙ c.loop-field.invariant)

pub returns : goal.returns
returns c = none_before c.loop-field.fields.items c.loop-field.first (omega (arith, c.loop-field.fields.ok, c.in_default.ensures.cases.0)) ∙ c.loop-field.invariant
