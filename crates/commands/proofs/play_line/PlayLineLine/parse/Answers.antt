use Rattle.commands.proofs.Words.{◌≡◌, ◌∷◌, rules, split_at, Offer, Common, line_or_common_line, play_without_text, play_line_by, play_text_form, play_only_line}
use Rattle.commands.proofs.LineLemmas.{without_text_parsed, parsed_by, parsed_other, parsed_fault}
use Rattle.commands.proofs.play_line.PlayLineLine.parse.Goals as goal

pub returns-in_err-offered-in-Some : goal.returns-in_err-offered-in-Some
returns-in_err-offered-in-Some c =
    let words : split_at 32 c.args.line.now ≡ c.in_ok-verb.verb.now ∷ c.take.new.self = search rules in
    parsed_by (play_line_by c.args.lines.now.lines) c.args.lines.now c.parse_text_offer.new.lines c.args.line.now c.in_ok-verb.verb.now c.take.new.self
    c.from_residual-in_err-offered-in-Some.result words
    (parsed_fault (λ o. Common (Offer o)) (play_without_text c.args.lines.now.lines c.in_ok-verb.verb.now c.take.new.self) c.take.new.self c.args.lines.now c.parse_text_offer.new.lines
    (play_text_form c.in_ok-verb.verb.now) c.in-Some.form c.in_err-offered-in-Some.field-0.0 c.from_residual-in_err-offered-in-Some.result
    c.in-Some.ensures c.in_err-offered-in-Some.ensures c.from_residual-in_err-offered-in-Some.ensures.1)

pub returns-in-None : goal.returns-in-None
returns-in-None c =
    let words : split_at 32 c.args.line.now ≡ c.in_ok-verb.verb.now ∷ c.take.new.self = search rules in
    parsed_by (play_line_by c.args.lines.now.lines) c.args.lines.now c.args.lines.now c.args.line.now c.in_ok-verb.verb.now c.take.new.self c.parse_without_text.result words
    (parsed_other (λ o. Common (Offer o)) (play_without_text c.args.lines.now.lines c.in_ok-verb.verb.now c.take.new.self) c.take.new.self c.args.lines.now c.args.lines.now
    (play_text_form c.in_ok-verb.verb.now) c.parse_without_text.result c.in-None.ensures
    (without_text_parsed (line_or_common_line (play_only_line c.in_ok-verb.verb.now c.take.new.self) c.in_ok-verb.verb.now c.take.new.self) c.args.lines.now c.parse_without_text.result c.parse_without_text.ensures))
