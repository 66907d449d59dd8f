use Rattle.std.proofs.Common.{rules, ◌≡◌, ◌∙◌, inl, inr, arith}
use Rattle.std.proofs.lemmas.Result.{IfOk-weaker, IfErr-weaker, MatchResult-from_both}
use Rattle.std.specs.Prelude.{◌+◌, ◌<◌, ◌≤◌, ◌^◌, None}
use Rattle.nest_memory.specs.Physical.{physical_type, utf8_of_width}
use Rattle.nest_memory.specs.TypeOf.{type_of}
use Rattle.nest_model.specs.Nulls.{error_of}
use Rattle.nest_model.specs.NullKinds.{text-first_error}
use Rattle.nest_model.specs.MadeNullLaws.{refused-past, accepted-not-past}
use Rattle.nest_flat.proofs.utf8.Utf8Array.checked.Goals as goal

pub returns-then-length-eq18446744073709551615 : goal.returns-then-length-eq18446744073709551615
returns-then-length-eq18446744073709551615 g c =
    let t = type_of c.args.data_type in
    let k : physical_type t ≡ utf8_of_width g.O.Offset.IS_LARGE = search rules in
    let p : 2 ^ 64 ≤ c.args.length + 1 = omega arith in
    inr (k, inl (text-first_error g.O.Offset.IS_LARGE t c.args.length c.args.fill k ∙ refused-past (c.args.length + 1) None p))

pub of_nulls-array-requires-clause-unrefused : goal.of_nulls-array-requires-clause-unrefused
of_nulls-array-requires-clause-unrefused g c =
    let t = type_of c.args.data_type in
    let k : physical_type t ≡ utf8_of_width g.O.Offset.IS_LARGE = search rules in
    let p : c.args.length + 1 < 2 ^ 64 = omega arith in
    text-first_error g.O.Offset.IS_LARGE t c.args.length c.args.fill k ∙ accepted-not-past (c.args.length + 1) None p

pub returns : goal.returns
returns g c =
    let t = type_of c.args.data_type in
    let k : physical_type t ≡ utf8_of_width g.O.Offset.IS_LARGE = search rules in
    let p : c.args.length + 1 < 2 ^ 64 = omega arith in
    let n : error_of t c.args.length c.args.fill ≡ None = text-first_error g.O.Offset.IS_LARGE t c.args.length c.args.fill k ∙ accepted-not-past (c.args.length + 1) None p in
    let r = c.of_nulls-array.result in
    MatchResult-from_both r _ _ (IfOk-weaker r _ _ (λ a h. ((k, n), h)) c.of_nulls-array.ensures.ok) (IfErr-weaker r _ _ (λ e h. inr (k, inr (h, n))) c.of_nulls-array.ensures.err)
