use Rattle.commands.proofs.Words.{◌≡◌, ◌∷◌, rules, split_at, Offer, add_line_or_else, serve_line_by, submit_form}
use Rattle.commands.specs.declared.serve_line.ServeLine.TheVariants.{Common}
use Rattle.commands.proofs.LineLemmas.{parsed_by, parsed_other, parsed_fault}
use Rattle.commands.proofs.serve_line.ServeLineLine.parse.Goals as goal

pub returns-in_err-offered-in-Some : goal.returns-in_err-offered-in-Some
returns-in_err-offered-in-Some c =
    let words : split_at 32 c.args.line.now ≡ c.in_ok-verb.verb.now ∷ c.take.new.self = search rules in
    parsed_by (serve_line_by c.args.lines.now.lines) c.args.lines.now c.parse_text_offer.new.lines c.args.line.now c.in_ok-verb.verb.now c.take.new.self
    c.from_residual-in_err-offered-in-Some.result words
    (parsed_fault (λ o. Common (Offer o)) (add_line_or_else c.args.lines.now.lines c.in_ok-verb.verb.now c.take.new.self) c.take.new.self c.args.lines.now c.parse_text_offer.new.lines
    (submit_form c.in_ok-verb.verb.now) c.in-Some.form c.in_err-offered-in-Some.field-0.0 c.from_residual-in_err-offered-in-Some.result
    c.in-Some.ensures c.in_err-offered-in-Some.ensures c.from_residual-in_err-offered-in-Some.ensures.1)

pub returns-in-None : goal.returns-in-None
returns-in-None c =
    let words : split_at 32 c.args.line.now ≡ c.in_ok-verb.verb.now ∷ c.take.new.self = search rules in
    parsed_by (serve_line_by c.args.lines.now.lines) c.args.lines.now c.parse_add_or_else.new.lines c.args.line.now c.in_ok-verb.verb.now c.take.new.self c.parse_add_or_else.result words
    (parsed_other (λ o. Common (Offer o)) (add_line_or_else c.args.lines.now.lines c.in_ok-verb.verb.now c.take.new.self) c.take.new.self c.args.lines.now c.parse_add_or_else.new.lines
    (submit_form c.in_ok-verb.verb.now) c.parse_add_or_else.result c.in-None.ensures c.parse_add_or_else.ensures)
