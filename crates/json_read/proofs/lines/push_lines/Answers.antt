use Rattle.std.proofs.Common.{◌≡◌, ◌∙◌, ◌+◌, ◌-◌, subst, sym, drop, take, length, arith}
use Rattle.std.proofs.lemmas.List.{length-drop, take_all}
use Rattle.nest_any.specs.Trees.{tree_of}
use Rattle.nest_any.specs.Words.{builder_type, own_slots}
use Rattle.json_read.specs.LineSplit.{lines_of}
use Rattle.json_read.specs.JsonLines.{IsLineError, IsJsonReadError, LineAdded, line_row}
use Rattle.json_read.proofs.LineLaws.{row-taken, with_row-text}
use Rattle.json_read.proofs.RowLaws.{IsLine, Read, read-more, read-stop}
use Rattle.json_read.proofs.lines.push_lines.Goals as goal

pub returns-in-Err-clause-error : goal.returns-in-Err-clause-error
returns-in-Err-clause-error c =
    let t = builder_type (tree_of c.args.builder.now) in
    let inv = c.lines.invariant in
    let text = c.args.text.now in
    let rest = take (length text - c.lines.used) (drop c.lines.used text) in
    let ends = c.line_ends-end in
    let line = take ends.result.0 rest in
    let complete : rest ≡ drop c.lines.used text = take_all (length text - c.lines.used) (drop c.lines.used text) (omega (arith, length-drop c.lines.used text)) in
    let old = tree_of c.lines.builder in
    let is : IsLine (drop c.lines.used text) line ends.result.1 = subst (λ r. IsLine r line ends.result.1) complete (record { one = ends.ensures.line; ends = ends.ensures.ends; within = ends.ensures.within.1 }) in
    let error : IsLineError c.in-Err.error (line_row t line) = subst (λ u. IsLineError c.in-Err.error (line_row u line)) inv.same_type c.in-Err.ensures.error in
    subst (λ e. IsJsonReadError e t (take c.args.limit (lines_of text))) (sym c.json_read_error.ensures)
    (with_row-text t (take c.args.limit (lines_of text)) line c.lines.lines c.in-Err.error error
    (λ r bad. read-stop (line_row t) text line c.args.limit c.lines.used c.lines.lines ends.result.1 (own_slots old) inv.read (omega arith) is (length-drop c.lines.used text) r (omega arith) bad))

pub lines-preserved : goal.lines-preserved
lines-preserved c =
    let t = builder_type (tree_of c.args.builder.now) in
    let inv = c.lines.invariant in
    let text = c.args.text.now in
    let rest = take (length text - c.lines.used) (drop c.lines.used text) in
    let ends = c.line_ends-end in
    let line = take ends.result.0 rest in
    let complete : rest ≡ drop c.lines.used text = take_all (length text - c.lines.used) (drop c.lines.used text) (omega (arith, length-drop c.lines.used text)) in
    let old = tree_of c.lines.builder in
    let new = tree_of c.push_line.new.builder in
    let is : IsLine (drop c.lines.used text) line ends.result.1 = subst (λ r. IsLine r line ends.result.1) complete (record { one = ends.ensures.line; ends = ends.ensures.ends; within = ends.ensures.within.1 }) in
    let added = row-taken (line_row t line) old new (subst (λ u. LineAdded (line_row u line) old new) inv.same_type c.in-Ok.ensures.added) in
    record {
      read = subst (Read (line_row t) text c.args.limit (c.lines.used + ends.result.1) (c.lines.lines + 1)) (sym added.1.1.last)
          (read-more (line_row t) text line c.args.limit c.lines.used c.lines.lines ends.result.1 (own_slots old) inv.read (omega arith) is (length-drop c.lines.used text) added.0 (omega arith) added.1.0);
      complete = added.1.1.complete;
      same_type = added.1.1.same_type ∙ inv.same_type;
    }
