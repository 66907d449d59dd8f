use Rattle.std.specs.Prelude.{Ok, Err, IfOk}
use Rattle.std.specs.List.{All}
use Rattle.std.proofs.Common.{◌≡◌, ◌++◌, length, ap, sym, ◌∙◌, subst, arith}
use Rattle.std.proofs.lemmas.List.{take_all}
use Rattle.std.proofs.lemmas.List.Elements.{All-more}
use Rattle.nest_array.proofs.FixedSizeBinaries.{concat-more}
use Rattle.nest_array.proofs.fixed_size_binary.rows.joined.Goals as goal

pub loop-row-preserved : goal.loop-row-preserved
loop-row-preserved g c =
    record {
      bytes = c.in_ok-extend_from_slice.ensures.items
          ∙ (λ i. c.loop-row.invariant.bytes i ++ c.bytes_of.ensures.bytes i)
          ∙ concat-more c.args.rows.now c.loop-row.row-index c.row-item.result c.loop-row-test.true c.row-item.is;
      each = All-more (λ row. length row ≡ g.row.N) c.args.rows.now c.loop-row.row-index c.row-item.result c.loop-row-test.true c.loop-row.invariant.each
          (ap length (sym c.row-item.is) ∙ ap length (sym c.bytes_of.ensures.bytes) ∙ c.bytes_of.ensures.count);
    }

pub returns-clause-each : goal.returns-clause-each
returns-clause-each g c =
    let whole = take_all c.loop-row.row-index c.args.rows.now (omega (arith, c.loop-row-test.false)) in
    let each = subst (All (λ row. length row ≡ g.row.N)) whole c.loop-row.invariant.each in
    elim c.from_vec.result as (λ r. IfOk r (λ _. All (λ row. length row ≡ g.row.N) c.args.rows.now)) [ Ok b ↦ each | Err e ↦ tt ]
