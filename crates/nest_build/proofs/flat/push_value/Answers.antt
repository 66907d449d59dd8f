use Rattle.nest_build.proofs.FlatTrees.{on_ok_both, null-took, value-took, value-refused, on_err_so}
use Rattle.nest_build.proofs.flat.push_value.Goals as goal

pub returns-in-None-clause-ok : goal.returns-in-None-clause-ok
returns-in-None-clause-ok g c =
    let a = g.B.FlatBuilder.parts c.args.builder.now in
    let b = g.B.FlatBuilder.parts c.push_plain.new.self in
    on_ok_both c.push_plain.result (null-took g.A.AsPlain.value c.args.item a b c.in-None.is) c.push_plain.ensures.accepted c.push_plain.ensures.unrefused

pub returns-in-Some-clause-ok : goal.returns-in-Some-clause-ok
returns-in-Some-clause-ok g c =
    let a = g.B.FlatBuilder.parts c.args.builder.now in
    let b = g.B.FlatBuilder.parts c.push_plain-in-Some.new.self in
    on_ok_both c.push_plain-in-Some.result (value-took g.A.AsPlain.value c.args.item c.in-Some.value _ a b c.in-Some.is c.as_plain.ensures) c.push_plain-in-Some.ensures.accepted c.push_plain-in-Some.ensures.unrefused

pub returns-in-Some-clause-cause : goal.returns-in-Some-clause-cause
returns-in-Some-clause-cause g c =
    let a = g.B.FlatBuilder.parts c.args.builder.now in
    on_err_so c.push_plain-in-Some.result (value-refused g.A.AsPlain.value c.args.item c.in-Some.value _ a c.in-Some.is c.as_plain.ensures) c.push_plain-in-Some.ensures.cause
