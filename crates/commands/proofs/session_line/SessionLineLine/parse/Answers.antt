use Rattle.commands.proofs.Words.{◌≡◌, true, false, codes, bytes_eq, serve_line_of}
use Rattle.commands.proofs.LineLemmas.{session_help, session_parsed, session_fault}
use Rattle.commands.proofs.session_line.SessionLineLine.parse.Goals as goal

pub returns-then-eq : goal.returns-then-eq
returns-then-eq c =
    let is : bytes_eq c.args.line.now (codes "help") ≡ true = cc in
    session_help (bytes_eq c.args.line.now (codes "help")) is (serve_line_of c.args.line.now c.args.lines.now.lines) c.args.lines.now

pub returns-in_err-line : goal.returns-in_err-line
returns-in_err-line c =
    let other : bytes_eq c.args.line.now (codes "help") ≡ false = cc in
    session_fault (bytes_eq c.args.line.now (codes "help")) other (serve_line_of c.args.line.now c.args.lines.now.lines) c.args.lines.now c.parse.new.lines
    c.in_err-line.field-0.0 c.from_residual.result c.in_err-line.ensures c.from_residual.ensures.1

pub returns : goal.returns
returns c =
    let other : bytes_eq c.args.line.now (codes "help") ≡ false = cc in
    session_parsed (bytes_eq c.args.line.now (codes "help")) other (serve_line_of c.args.line.now c.args.lines.now.lines) c.args.lines.now c.parse.new.lines
    c.in_ok-line.line c.in_ok-line.ensures
