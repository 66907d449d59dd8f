use Rattle.std.proofs.Common.{◌≡◌, ◌-◌, ◌<◌, true, false, [], ◌++◌, length, get_or, take, drop, refl, rules, arith}
use Rattle.std.proofs.lemmas.Grind.{common_steps}
use Rattle.std.proofs.lemmas.Str.{IsCharBoundary-start, IsCharBoundary-after_ascii, IsCharBoundary-before_ascii}
use Rattle.std.proofs.Output.{has_written_append, has_written_of_eq, writes_in_calls_nil}
use Rattle.json.specs.Print.{escape_byte}
use Rattle.json_write.specs.JsonText.{must_escape}
use Rattle.json_write.proofs.Escapes.{escapes-ascii, keep-byte, end-run, last-run}
use Rattle.json_write.proofs.quoting.write_escaped.Goals as goal
use Rattle.json_write.proofs.quoting.write_escaped.Goals.{then-needs_escape+in_ok-write_str+in_ok-write_escape, else-needs_escape}

pub range-requires-clause-end_boundary : goal.range-requires-clause-end_boundary
range-requires-clause-end_boundary g c =
    let needed : must_escape (get_or c.args.text.now c.bytes.at 0) ≡ true = grind (arith, common_steps) in
    IsCharBoundary-before_ascii c.args.text.now c.bytes.at (omega (arith, c.as_bytes-bytes.ensures.len)) (escapes-ascii _ needed)

pub bytes-init : goal.bytes-init
bytes-init g c = (omega arith, IsCharBoundary-start c.args.text.now c.utf8.text, [], refl, λ plain. record { wrote = writes_in_calls_nil _ _; plain = plain })

pub bytes-preserved : goal.bytes-preserved
bytes-preserved g c =
    let l = c.bytes in
    let s = c.args.text.now in
    let (low, bound, done, whole, wrote) = l.invariant in
    let within : l.at < length s = omega (arith, c.as_bytes-bytes.ensures.len) in
    elim c.if-needs_escape.branch [
      | then-needs_escape+in_ok-write_str+in_ok-write_escape w ↦
          let needed : must_escape (get_or s l.at 0) ≡ true = grind (arith, common_steps) in
          let run = take (l.at - l.start) (drop l.start s) in
          rw (w.start-is, w.f-is) (
            omega arith,
            IsCharBoundary-after_ascii s l.at c.utf8.text within (escapes-ascii _ needed),
            (done ++ run) ++ escape_byte (get_or s l.at 0),
            end-run s done _ l.start l.at within whole,
            λ plain.
                let sofar = wrote plain in
                let one = w.write_str.ensures.writes sofar.plain (search rules) in
                let two = w.write_escape.ensures one.plain (search rules) in
                has_written_of_eq _ _ _ _ _ (grind (arith, common_steps)) (has_written_append _ _ _ _ _ _ (has_written_append _ _ _ _ _ _ sofar one) two),
          )
      | else-needs_escape w ↦
          let plain : must_escape (get_or s l.at 0) ≡ false = grind (arith, common_steps) in
          rw (w.start-is, w.f-is) (omega arith, bound, done, keep-byte s done _ l.start l.at low within plain whole, wrote)
    ]

pub returns : goal.returns
returns g c plain ok =
    let l = c.bytes in
    let s = c.args.text.now in
    let (low, bound, done, whole, wrote) = l.invariant in
    let at_end : l.at ≡ length s = omega (arith, c.as_bytes-bytes.ensures.len) in
    has_written_of_eq _ _ _ _ _ (last-run s done _ l.start l.at low at_end whole) (has_written_append _ _ _ _ _ _ (wrote plain) (search rules))
