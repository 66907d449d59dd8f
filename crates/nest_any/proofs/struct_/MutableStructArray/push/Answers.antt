use Rattle.std.proofs.Common.{◌+◌, ◌≤◌, length, sym, subst, inl}
use Rattle.std.proofs.lemmas.Result.{on_ok_weaker, IfErr-weaker}
use Rattle.nest_model.specs.BuilderTree.{builder_len}
use Rattle.nest_model.specs.Checks.{largest_length}
use Rattle.nest_any.specs.Trees.{trees_of}
use Rattle.nest_any.proofs.Records.{record-with_row, memory-alone}
use Rattle.nest_any.proofs.struct_.MutableStructArray.push.Goals as goal

pub returns-clause-ok : goal.returns-clause-ok
returns-clause-ok c =
    let p = c.is_ready.ensures.ready.0 c.if-not-is_ready.false in
    on_ok_weaker c.push.result (λ e. record-with_row c.args.valid c.self.inside.data_type c.self.inside.rows c.push.new.self (trees_of c.self.inside.values.items) c.args.self.now c.self.view_is c.requires p e) c.push.ensures.ok

pub returns-clause-cause : goal.returns-clause-cause
returns-clause-cause c =
    let l = subst (λ b. builder_len b + 1 ≤ largest_length) (sym c.self.view_is) (c.is_ready.ensures.room c.if-not-is_ready.false) in
    IfErr-weaker c.push.result _ _ (λ e h. inl (memory-alone (length c.self.inside.rows) e l h)) c.push.ensures.cause
