use Rattle.std.proofs.Common.{arith, ◌≡◌, true, false, length, sym, ap, ◌∙◌}
use Rattle.std.proofs.lemmas.Grind.{common_steps}
use Rattle.nest_any.specs.Trees.{tree_of}
use Rattle.nest_any.proofs.Types.{types-count, fields-count}
use Rattle.nest_any.proofs.children.are_ready.Goals as goal

pub returns-then-fields-children : goal.returns-then-fields-children
returns-then-fields-children c =
    record {
      types = λ f. let u : false ≡ true = f in cc;
      rows = λ f. let u : false ≡ true = f in cc;
      ready = λ e h. absurd (c.if-fields-children.true (sym (fields-count c.args.fields.now) ∙ sym (ap length e) ∙ types-count tree_of c.args.children.now));
      room = λ f p. let u : false ≡ true = f in cc;
    }

pub loop-i-preserved : goal.loop-i-preserved
loop-i-preserved c =
    record {
      types = grind (arith, common_steps);
      rest = grind (arith, common_steps);
      room = grind (arith, common_steps);
    }
