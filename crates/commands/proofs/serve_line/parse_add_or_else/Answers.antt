use Rattle.commands.specs.declared.serve_line.ServeLine.TheVariants.{Add}
use Rattle.commands.specs.ServeLines.{add_form, charter_line_or_else, serve_without_text}
use Rattle.commands.proofs.LineLemmas.{without_text_parsed, parsed_fault, parsed_other}
use Rattle.commands.proofs.serve_line.parse_add_or_else.Goals as goal

pub returns-in_err-offered-in-Some : goal.returns-in_err-offered-in-Some
returns-in_err-offered-in-Some c =
    parsed_fault (λ o. Add o) (serve_without_text c.args.lines.now.lines c.args.verb.now c.args.words) c.args.words c.args.lines.now c.parse_text_offer.new.lines
    (add_form c.args.verb.now) c.in-Some.form c.in_err-offered-in-Some.field-0.0 c.from_residual.result
    c.in-Some.ensures c.in_err-offered-in-Some.ensures c.from_residual.ensures.1

pub returns-in-None : goal.returns-in-None
returns-in-None c =
    parsed_other (λ o. Add o) (serve_without_text c.args.lines.now.lines c.args.verb.now c.args.words) c.args.words c.args.lines.now c.args.lines.now
    (add_form c.args.verb.now) c.parse_charter_or_else.result c.in-None.ensures
    (without_text_parsed (charter_line_or_else c.args.verb.now c.args.words) c.args.lines.now c.parse_charter_or_else.result c.parse_charter_or_else.ensures)
