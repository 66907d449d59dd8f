use Rattle.nest_any.specs.Lent.{with_children}
use Rattle.nest_any.specs.Trees.{trees_of}
use Rattle.bench_any.proofs.Wholes.{stays, whole_over}
use Rattle.bench_any.proofs.records.push_typed.Goals as goal

pub returns-in_err-push_cells : goal.returns-in_err-push_cells
returns-in_err-push_cells c = whole_over c.args.records.now (trees_of c.push_cells.new.children) c.requires c.in_err-push_cells.ensures

pub push-requires : goal.push-requires
push-requires c = whole_over c.args.records.now (trees_of c.push_cells.new.children) c.requires c.in_ok-push_cells.ensures

pub returns : goal.returns
returns c =
    let before = whole_over c.args.records.now (trees_of c.push_cells.new.children) c.requires c.in_ok-push_cells.ensures in
    stays c.push.result (with_children c.args.records.now (trees_of c.push_cells.new.children)) c.push.new.self before c.push.ensures.ok c.push.ensures.err
