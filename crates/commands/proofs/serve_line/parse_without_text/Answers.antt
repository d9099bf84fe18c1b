use Rattle.commands.proofs.Words.{◌≡◌, false≢true, Option, Some, None, option_map, Err, Result, IsErrAnd, ap, sym, subst, ◌∙◌, LineFault, ServeLine, Parses}
use Rattle.commands.specs.CommonLines.{common_line}
use Rattle.commands.specs.ServeLines.{line_or_common_line, serve_only_line}
use Rattle.commands.specs.declared.common_line.CommonLine.{CommonLine}
use Rattle.commands.specs.declared.script.LineFault.TheVariants.{Bad, Memory as NoMemory}
use Rattle.commands.specs.declared.serve_line.ServeLine.TheVariants.{Common}
use Rattle.commands.proofs.LineLemmas.{handed_on}
use Rattle.commands.proofs.serve_line.parse_without_text.Goals as goal

-- a line that both commands have is not parsed, and so none of `serve` is
unparsed : (line : Option CommonLine) (fault : LineFault) → Parses line (Err fault) → Parses (option_map (λ l. Common l) line) (Err fault)
unparsed line Bad h = ap (option_map (λ l. Common l)) h
unparsed (Some l) NoMemory h = h
unparsed None NoMemory h = absurd (false≢true h)

pub returns-in_err-parse_common_line : goal.returns-in_err-parse_common_line
returns-in_err-parse_common_line c =
    let verb = c.args.verb.now in let ws = c.args.words in
    let other : serve_only_line verb ws ≡ None = sym (c.parse_serve_only.ensures ∙ ap (serve_only_line verb) c.copy.ensures) ∙ c.in_default.is in
    subst (λ r. Parses (line_or_common_line (serve_only_line verb ws) verb ws) r) (handed_on c.from_residual.result c.in_err-parse_common_line.field-0.0 c.from_residual.ensures.1)
    (subst (λ line. Parses (line_or_common_line line verb ws) (Err c.in_err-parse_common_line.field-0.0)) (sym other) (unparsed (common_line verb ws) c.in_err-parse_common_line.field-0.0 c.in_err-parse_common_line.ensures))
