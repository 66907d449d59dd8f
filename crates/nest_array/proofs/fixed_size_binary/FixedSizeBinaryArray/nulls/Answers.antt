use Rattle.std.proofs.Common.{◌<◌, ◌*◌, ◌^◌, ◌∙◌, replicate, ap, sym, subst, arith}
use Rattle.nest_memory.specs.TypeOf.{type_of}
use Rattle.nest_model.specs.Layout as layouts
use Rattle.nest_model.specs.MadeNullLaws.{fits}
use Rattle.nest_model.specs.NullKinds.{bytes-parts}
use Rattle.nest_array.proofs.NullMakes.{bytes-long}
use Rattle.nest_array.proofs.fixed_size_binary.FixedSizeBinaryArray.nulls.Goals as goal

pub overflow_mul-count : goal.overflow_mul-count
overflow_mul-count c =
    let s = c.unwrap_or.ensures ∙ c.size.ensures.or_zero in
    let l : c.args.length * c.unwrap_or.result < 2 ^ 64 = subst (λ k. c.args.length * k < 2 ^ 64) (sym s) (bytes-long (type_of c.args.data_type.now) c.args.length c.args.fill c.requires.kind c.requires.unrefused) in
    omega (arith, l)

pub new-requires : goal.new-requires
new-requires c =
    let a = type_of c.args.data_type.now in
    let s = c.unwrap_or.ensures ∙ c.size.ensures.or_zero in
    let bs = c.in_ok-bytes.ensures.ok ∙ ap (λ k. replicate (c.args.length * k) 0) s in
    fits a c.args.length c.args.fill _ c.requires.valid c.requires.unrefused
    ((λ i. layouts.fixed_size_binary (c.in_ok-data_type.ensures.ok i) (bs i) (c.in_ok-validity.ensures.ok i)) ∙ sym (bytes-parts a c.args.length c.args.fill c.requires.kind))

pub returns-clause-ok : goal.returns-clause-ok
returns-clause-ok c =
    let a = type_of c.args.data_type.now in
    let s = c.unwrap_or.ensures ∙ c.size.ensures.or_zero in
    let bs = c.in_ok-bytes.ensures.ok ∙ ap (λ k. replicate (c.args.length * k) 0) s in
    c.new.ensures ∙ (λ i. layouts.fixed_size_binary (c.in_ok-data_type.ensures.ok i) (bs i) (c.in_ok-validity.ensures.ok i)) ∙ sym (bytes-parts a c.args.length c.args.fill c.requires.kind)
