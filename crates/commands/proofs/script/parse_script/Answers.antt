use Rattle.commands.proofs.Words.{arith, length, ◌<◌, nat_tests}
use Rattle.commands.proofs.ScriptsLemmas.{is_read_none, is_read_parsed, is_read_unparsed}
use Rattle.commands.proofs.script.parse_script.Goals as goal

pub loop-line-init : goal.loop-line-init
loop-line-init g c = is_read_none g.L.Line.by_definition c.args.script.now c.new-lines.result.items c.new-rest.result c.new-lines.ensures.items c.new-rest.ensures

pub loop-line-preserved-in-Ok : goal.loop-line-preserved-in-Ok
loop-line-preserved-in-Ok g c =
    let some : 0 < length c.in-Some.line.now = grind (arith, nat_tests) in
    is_read_parsed c.loop-line.invariant c.in-Some.line.now c.take.new.self c.in-Some.ensures.0 c.in-Some.ensures.1
    c.parse.new.lines some c.in-Ok.line c.try_push.new.lines.items c.try_push.result c.in-Ok.ensures c.try_push.ensures

pub loop-line-preserved : goal.loop-line-preserved
loop-line-preserved g c =
    let some : 0 < length c.in-Some.line.now = grind (arith, nat_tests) in
    is_read_unparsed c.loop-line.invariant c.in-Some.line.now c.take.new.self c.in-Some.ensures.0 c.in-Some.ensures.1
    c.parse.new.lines some c.in-Err-Memory.field-0 c.in-Err-Memory.ensures c.in-Err-Memory.field-0-is
