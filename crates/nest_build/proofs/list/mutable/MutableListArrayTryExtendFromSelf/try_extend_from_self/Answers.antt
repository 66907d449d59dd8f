use Rattle.std.proofs.Common.{sym, ap, ◌∙◌, inr}
use Rattle.std.proofs.lemmas.Option.{same_Some}
use Rattle.nest_memory.specs.TypeTree.{item_type}
use Rattle.nest_build.proofs.Lists.{child_join_refused, rows_join_refused, rows_joined, join_unrefused}
use Rattle.nest_build.proofs.list.mutable.MutableListArrayTryExtendFromSelf.try_extend_from_self.Goals as goal

pub returns-then-not-same_types-clause-cause : goal.returns-then-not-same_types-clause-cause
returns-then-not-same_types-clause-cause g c =
    inr (λ e. let t = c.same_types.ensures.1 (c.get.ensures.value ∙ e ∙ sym c.get-2.ensures.value) in cc)

pub returns-in-Err-clause-cause : goal.returns-in-Err-clause-cause
returns-in-Err-clause-cause g c =
    let a = c.args.self.now in
    let b = c.args.other.now in
    let t = sym c.get.ensures.value ∙ c.same_types.ensures.0 c.if-not-same_types.false ∙ c.get-2.ensures.value in
    let w = c.requires.complete in
    let v = c.requires.other_whole in
    let s = same_Some _ _ (sym w.1 ∙ ap item_type t ∙ v.1) in
    child_join_refused g.O.Offset.IS_LARGE a.data_type b.data_type (g.O.Rows.RowStore.row_list a.rows) (g.O.Rows.RowStore.row_list b.rows) (g.M.MutableArray.model a.values) (g.M.MutableArray.model b.values) _ t s c.in-Err.ensures.cause

pub returns-in-Ok-clause-joined : goal.returns-in-Ok-clause-joined
returns-in-Ok-clause-joined g c =
    let a = c.args.self.now in
    let b = c.args.other.now in
    let t = sym c.get.ensures.value ∙ c.same_types.ensures.0 c.if-not-same_types.false ∙ c.get-2.ensures.value in
    rows_joined g.O.Offset.IS_LARGE a.data_type b.data_type (g.O.Rows.RowStore.row_list a.rows) (g.O.Rows.RowStore.row_list b.rows) _ (g.M.MutableArray.model a.values) (g.M.MutableArray.model b.values) _ t c.in-Ok.ensures.ok c.requires.complete c.requires.other_whole c.in_default.ensures.joined

pub returns-in-Ok-clause-unrefused : goal.returns-in-Ok-clause-unrefused
returns-in-Ok-clause-unrefused g c =
    let a = c.args.self.now in
    let b = c.args.other.now in
    let t = sym c.get.ensures.value ∙ c.same_types.ensures.0 c.if-not-same_types.false ∙ c.get-2.ensures.value in
    join_unrefused g.O.Offset.IS_LARGE g.O.Rows.RowStore.large a.data_type b.data_type (g.O.Rows.RowStore.row_list a.rows) (g.O.Rows.RowStore.row_list b.rows) (g.M.MutableArray.model a.values) (g.M.MutableArray.model b.values) t g.met.O.ListWidth.same_width c.in-Ok.ensures.within c.in_default.ensures.unrefused

pub returns-in-Err-append-clause-cause : goal.returns-in-Err-append-clause-cause
returns-in-Err-append-clause-cause g c =
    let a = c.args.self.now in
    let b = c.args.other.now in
    let t = sym c.get.ensures.value ∙ c.same_types.ensures.0 c.if-not-same_types.false ∙ c.get-2.ensures.value in
    rows_join_refused g.O.Offset.IS_LARGE g.O.Rows.RowStore.large a.data_type b.data_type (g.O.Rows.RowStore.row_list a.rows) (g.O.Rows.RowStore.row_list b.rows) (g.M.MutableArray.model a.values) (g.M.MutableArray.model b.values) _ t g.met.O.ListWidth.same_width c.in-Err-append.ensures.cause
