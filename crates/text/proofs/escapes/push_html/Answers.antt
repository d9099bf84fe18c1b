use Rattle.text.proofs.EscapeLemmas.{reads-back}
use Rattle.text.proofs.escapes.push_html.Goals as goal

pub returns-in_err-push_html_byte-clause-reads : goal.returns-in_err-push_html_byte-clause-reads
returns-in_err-push_html_byte-clause-reads c = reads-back c.args.bytes.now

pub returns-clause-reads : goal.returns-clause-reads
returns-clause-reads c = reads-back c.args.bytes.now
