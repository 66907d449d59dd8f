use Rattle.std.proofs.Common.{◌≡◌, ◌+◌, ◌*◌, ◌∙◌, Some, ap, arith, inl, inr, length, sym}
use Rattle.std.proofs.lemmas.Result.{IfErr-weaker, on_ok_weaker}
use Rattle.nest_memory.specs.TypeTree.{item_type, size_of}
use Rattle.nest_model.specs.BuilderTree.{builder_len, builder_type}
use Rattle.nest_build.proofs.FixedLists.{row_told, told_memory}
use Rattle.nest_build.proofs.fixed_size_list.mutable.MutableFixedSizeListArray.try_push_valid.Goals as goal

pub returns-in_default-clause-cause : goal.returns-in_default-clause-cause
returns-in_default-clause-cause g c = inr (λ q. omega (arith, q.1, c.in_default.ensures, c.len-items.ensures, c.len-items.type_inv))

pub returns-clause-ok : goal.returns-clause-ok
returns-clause-ok g c =
    let b = c.args.self.now in
    let d = g.M.MutableArray.model b.values in
    let n : builder_len d ≡ (length b.rows + 1) * size_of b.data_type = omega (arith, c.len-items.ensures, c.in-Some.ensures, c.if-items-end.false, c.if-items-end-2.false) in
    let t : item_type b.data_type ≡ Some (builder_type d) = ap item_type (sym c.get.ensures.value) ∙ c.has_items-typed.ensures.0 c.if-not-typed.false ∙ ap Some c.data_type.ensures in
    on_ok_weaker c.push.result (λ e. row_told b.data_type b.rows _ d e c.requires t n) c.push.ensures.ok

pub returns-clause-cause : goal.returns-clause-cause
returns-clause-cause g c =
    let b = c.args.self.now in
    let n : c.len-items.result ≡ (length b.rows + 1) * size_of b.data_type = omega (arith, c.in-Some.ensures, c.if-items-end.false, c.if-items-end-2.false) in
    IfErr-weaker c.push.result _ _ (λ e h. inl (told_memory b.data_type b.rows c.len-items.result e (omega (arith, c.size-size.ensures.some, c.size-size.ensures.value)) (omega (arith, c.len-items.type_inv)) n h)) c.push.ensures.cause
