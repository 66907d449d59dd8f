use Rattle.std.proofs.Common.{Err, ap, sym, subst, rules}
use Rattle.std.proofs.iter.Next.{Yields-more}
use Rattle.std.specs.Option.{option_copied}
use Rattle.nest_memory.specs.TypeTree.{size_of}
use Rattle.nest_model.specs.Layout.{layout_type}
use Rattle.nest_array.specs.FixedBytes.{IsOtherSize}
use Rattle.nest_array.specs.MadeBytes.{made-more, made-size, refused-sized, taken-sized}
use Rattle.nest_build.proofs.fixed_size_binary.makers.push_items.Goals as goal

pub loop-item-preserved : goal.loop-item-preserved
loop-item-preserved g c =
    let made = c.loop-item.invariant.2 in
    let size = size_of (layout_type c.args.builder.now) in
    let same = made-size c.args.builder.now c.loop-item.builder _ made in
    let fits = λ (o : IsOtherSize size (option_copied c.in-Some.item)). c.in_default.not-Err _ (c.push_item.ensures.size.1 (subst (λ n. IsOtherSize n (option_copied c.in-Some.item)) (sym same) o)) in
    (search rules, search rules, made-more size c.loop-item.yielded c.in-Some.item c.loop-item.builder c.push_item.new.builder made c.in_default.ensures.slots c.in_default.ensures.masked c.push_item.ensures.same_type fits)

pub returns-in-Err-clause-cause : goal.returns-in-Err-clause-cause
returns-in-Err-clause-cause g c =
    let it = c.into_iter-item-iterator in
    let xs = c.loop-item.yielded in
    let x = c.in-Some.item in
    let made = c.loop-item.invariant.2 in
    let size = size_of (layout_type c.args.builder.now) in
    let same = made-size c.args.builder.now c.loop-item.builder _ made in
    let more = Yields-more g.I.IntoIter.Iterator.next_gives it.result xs c.loop-item.item-iterator x c.next.new.self c.loop-item.yielded_by c.in-Some.ensures.steps in
    refused-sized c.in-Err.error _ c.in-Err.ensures.errors
    (λ s. (xs, x, (it.result, c.next.new.self, it.ensures.into_iter_gives, more), taken-sized size xs c.loop-item.builder made, subst (λ n. IsOtherSize n (option_copied x)) same (c.in-Err.ensures.size.0 (ap Err s))))
